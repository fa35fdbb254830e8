use Rattle.group_files.proofs.Changed.{files_none}
use Rattle.group_files.proofs.file_table.FileTable.new.Goals as goal

pub invariant_of-result : goal.invariant_of-result
invariant_of-result c = rw c.new.ensures.items files_none
