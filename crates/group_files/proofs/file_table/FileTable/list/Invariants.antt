use Rattle.std.proofs.Common.{◌≡◌, take}
use Rattle.group_files.proofs.file_table.FileTable.list.Given as goal

abbrev pub invariant-loop-file : goal.invariant-loop-file
invariant-loop-file l = l.list ≡ take l.file-index l.file-items
