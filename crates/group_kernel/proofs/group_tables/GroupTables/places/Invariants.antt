use Rattle.std.proofs.Common.{◌≡◌, length}
use Rattle.group_kernel.proofs.group_tables.GroupTables.places.Given as goal

abbrev pub invariant-loop-object : goal.invariant-loop-object
invariant-loop-object l = length l.frozen.items ≡ l.object-index
