use Rattle.std.proofs.Common.{ap, []}
use Rattle.pipes_socks.proofs.Queued.{queue_none}
use Rattle.pipes_socks.proofs.Held.{messages_become, pairs_kept}
use Rattle.pipes_socks.proofs.pairs.PairTable.empty.Goals as goal

pub invariant_of-self : goal.invariant_of-self
invariant_of-self c =
    pairs_kept c.deref.result.now c.self.inside.pairs.items c.args.self.now.entries c.deref.ensures.value (ap (λ r. r.entries) c.self.view_is) c.self.invariant c.args.number c.place_of-place.result c.place_of-place.ensures c.index_mut.result.now c.index_mut.ensures.value (c.args.end)
    [] c.empty.new.self c.empty.ensures.pair (λ _. queue_none)

pub returns-clause-pairs : goal.returns-clause-pairs
returns-clause-pairs c =
    messages_become c.deref.result.now c.self.inside.pairs.items c.args.self.now.entries c.deref.ensures.value (ap (λ r. r.entries) c.self.view_is) c.self.invariant c.args.number c.place_of-place.result c.place_of-place.ensures c.index_mut.result.now c.index_mut.ensures.value (c.args.end)
    (λ waiting. []) c.empty.new.self c.empty.ensures.pair
