use Rattle.std.proofs.Common.{◌≡◌, ◌≤◌, ◌-◌, length}
use Rattle.group_kernel.specs.Ending.{filtered_from, remains}
use Rattle.group_kernel.proofs.ending.drop_rows.Given as goal

abbrev pub invariant-loop-place : goal.invariant-loop-place
invariant-loop-place l = record {
  rest : filtered_from (remains l.pid) l.place l.rows.items ≡ filtered_from (remains l.pid) 0 l.initial.rows.items;
  within : l.place ≤ length l.rows.items;
}

abbrev pub decreases-loop-place : goal.decreases-loop-place
decreases-loop-place l = length l.rows.items - l.place
