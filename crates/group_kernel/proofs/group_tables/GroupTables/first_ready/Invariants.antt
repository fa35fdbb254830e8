use Rattle.std.proofs.Common.{◌≡◌, None, drop}
use Rattle.group_kernel.specs.Held.{seen}
use Rattle.group_kernel.specs.Readiness.{is_ready_row, next_in}
use Rattle.group_kernel.proofs.group_tables.GroupTables.first_ready.Given as goal

abbrev pub invariant-loop-place : goal.invariant-loop-place
invariant-loop-place l = next_in (is_ready_row (seen l.self)) l.taken (drop l.place l.self.rows.items) l.place l.least ≡ next_in (is_ready_row (seen l.self)) l.taken l.self.rows.items 0 None
