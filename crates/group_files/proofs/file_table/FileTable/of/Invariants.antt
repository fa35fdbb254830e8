use Rattle.std.proofs.Common.{◌≡◌, take}
use Rattle.group_files.proofs.file_table.FileTable.of.Given as goal

abbrev pub invariant-loop-file : goal.invariant-loop-file
invariant-loop-file l = l.files.items ≡ take l.file-index l.list
