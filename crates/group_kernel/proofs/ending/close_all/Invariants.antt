use Rattle.std.proofs.Common.{List, [], ◌∷◌, ℕ}
use Rattle.descriptors.specs.Owners.{OwnersAre}
use Rattle.group_kernel.specs.Ending.{LeavesOwned}
use Rattle.group_kernel.proofs.ClosedFds.{AllFrom}
use Rattle.group_kernel.proofs.ending.close_all.Given as goal

abbrev pub invariant-loop-fd : goal.invariant-loop-fd
invariant-loop-fd l = record {
  from : AllFrom l.fd l.fds.entries;
  left : LeavesOwned l.initial.opens.entries l.opens.entries;
  exact : (others : List (List (ℕ × ℕ))) → OwnersAre (l.initial.fds.entries ∷ others) [] l.initial.opens.entries → OwnersAre (l.fds.entries ∷ others) [] l.opens.entries;
}
