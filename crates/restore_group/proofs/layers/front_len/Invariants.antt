use Rattle.std.proofs.Common.{length, ◌-◌, ◌≡◌, ◌≤◌, take}
use Rattle.std.specs.List.{AllByRecursion}
use Rattle.restore_group.proofs.layers.front_len.Given as goal

abbrev pub invariant-loop-n : goal.invariant-loop-n
invariant-loop-n l = record {
  in_range : l.n ≤ length l.pages;
  same : AllByRecursion (λ p. p.object ≡ l.object) (take l.n l.pages);
}

abbrev pub decreases-loop-n : goal.decreases-loop-n
decreases-loop-n l = length l.pages - l.n
