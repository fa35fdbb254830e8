use Rattle.std.proofs.Common.{◌≡◌}
use Rattle.group_kernel.specs.Ending.{without_parent}
use Rattle.group_kernel.proofs.RowsLeft.{changed_to}
use Rattle.group_kernel.proofs.ending.part_from.Given as goal

abbrev pub invariant-loop-place : goal.invariant-loop-place
invariant-loop-place l = record { rows : l.rows ≡ changed_to (without_parent l.pid) l.initial.rows l.place }
