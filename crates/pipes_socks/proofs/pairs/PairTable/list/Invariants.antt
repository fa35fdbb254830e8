use Rattle.std.proofs.Common.{◌≡◌, take}
use Rattle.pipes_socks.proofs.pairs.PairTable.list.Given as goal

abbrev pub invariant-loop-pair : goal.invariant-loop-pair
invariant-loop-pair l = l.list ≡ take l.pair-index l.pair-items
