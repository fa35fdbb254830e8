use Rattle.std.proofs.Common.{◌≡◌, ◌≤◌, ◌-◌, length}
use Rattle.group_kernel.specs.Ending.{filtered_from, stays_by}
use Rattle.group_kernel.proofs.ending.drop_objects.Given as goal

abbrev pub invariant-loop-place : goal.invariant-loop-place
invariant-loop-place l = record {
  rest : filtered_from (λ o. stays_by l.faces.entries l.shared l.rows o.number) l.place l.objects.items ≡ filtered_from (λ o. stays_by l.faces.entries l.shared l.rows o.number) 0 l.initial.objects.items;
  within : l.place ≤ length l.objects.items;
}

abbrev pub decreases-loop-place : goal.decreases-loop-place
decreases-loop-place l = length l.objects.items - l.place
