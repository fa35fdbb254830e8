use Rattle.pipes_socks.proofs.Held.{pairs_none}
use Rattle.pipes_socks.proofs.pairs.PairTable.new.Goals as goal

pub invariant_of-result : goal.invariant_of-result
invariant_of-result c = rw c.new.ensures.items pairs_none
