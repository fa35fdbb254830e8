use Rattle.address_maps.proofs.Free.{Passed}
use Rattle.address_maps.proofs.gaps.lowest_free.Given as goal

abbrev pub invariant-loop-m : goal.invariant-loop-m
invariant-loop-m l = Passed l.items l.size l.low l.m-index
