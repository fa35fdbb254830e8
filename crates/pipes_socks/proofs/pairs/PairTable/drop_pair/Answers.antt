use Rattle.pipes_socks.proofs.Held.{pairs_removed}
use Rattle.pipes_socks.proofs.pairs.PairTable.drop_pair.Goals as goal

pub invariant_of-self : goal.invariant_of-self
invariant_of-self c = rw c.remove_in.ensures.items (pairs_removed c.self.inside.pairs.items c.args.number c.self.invariant)
