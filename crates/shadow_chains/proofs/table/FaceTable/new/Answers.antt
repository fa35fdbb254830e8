use Rattle.tables.proofs.Numbers.{rise_none}
use Rattle.shadow_chains.specs.Entries.{number_of}
use Rattle.shadow_chains.proofs.table.FaceTable.new.Goals as goal

pub invariant_of-result : goal.invariant_of-result
invariant_of-result c = rw c.new.ensures.items (rise_none number_of)
