use Rattle.std.proofs.Common.{◌≡◌, map, take}
use Rattle.group_kernel.specs.Held.{with_part_here}
use Rattle.group_kernel.proofs.frames.copy_rows.Given as goal

abbrev pub invariant-loop-row : goal.invariant-loop-row
invariant-loop-row l = l.procs ≡ map with_part_here (take l.row-index l.rows)
