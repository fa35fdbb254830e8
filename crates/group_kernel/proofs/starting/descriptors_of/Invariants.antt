use Rattle.std.proofs.Common.{◌≡◌, ℕ, List, [], ◌∷◌, take}
use Rattle.descriptors.specs.Opens.{descriptions}
use Rattle.descriptors.specs.Owners.{OwnersAre}
use Rattle.group_kernel.proofs.starting.descriptors_of.Given as goal

abbrev pub invariant-loop-entry : goal.invariant-loop-entry
invariant-loop-entry l = record {
  fds : l.fds.entries ≡ take l.entry-index l.list;
  same : descriptions l.opens.entries ≡ descriptions l.initial.opens.entries;
  exact : (others : List (List (ℕ × ℕ))) → OwnersAre others [] l.initial.opens.entries → OwnersAre (take l.entry-index l.list ∷ others) [] l.opens.entries;
}
