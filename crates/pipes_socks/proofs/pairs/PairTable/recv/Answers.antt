use Rattle.std.proofs.Common.{rules, ap, List, length, drop, ◌∙◌}
use Rattle.pipes_socks.specs.declared.streams.Message.{Message}
use Rattle.pipes_socks.specs.Pairs.{messages_to, waiting_at, with_waiting}
use Rattle.pipes_socks.proofs.Same.{same_messages, nothing_received}
use Rattle.pipes_socks.proofs.Queued.{queue_left}
use Rattle.pipes_socks.proofs.Held.{messages_become, pairs_kept}
use Rattle.pipes_socks.proofs.pairs.PairTable.recv.Goals as goal

pub invariant_of-self : goal.invariant_of-self
invariant_of-self c =
    pairs_kept c.deref.result.now c.self.inside.pairs.items c.args.self.now.entries c.deref.ensures.value (ap (λ r. r.entries) c.self.view_is) c.self.invariant c.args.number c.place_of-place.result c.place_of-place.ensures c.index_mut.result.now c.index_mut.ensures.value (c.args.end)
    (drop 1 (messages_to c.index_mut.result.now c.args.end)) c.recv.new.self c.recv.ensures.pair (queue_left (messages_to c.index_mut.result.now c.args.end))

pub returns-clause-pairs : goal.returns-clause-pairs
returns-clause-pairs c =
    messages_become c.deref.result.now c.self.inside.pairs.items c.args.self.now.entries c.deref.ensures.value (ap (λ r. r.entries) c.self.view_is) c.self.invariant c.args.number c.place_of-place.result c.place_of-place.ensures c.index_mut.result.now c.index_mut.ensures.value (c.args.end)
    (λ waiting. drop 1 waiting) c.recv.new.self c.recv.ensures.pair

pub returns-clause-same : goal.returns-clause-same
returns-clause-same c none =
    returns-clause-pairs c
    ∙ ap (λ (m : List Message). with_waiting c.args.self.now.entries c.args.number c.args.end m) (nothing_received (waiting_at c.args.self.now.entries c.args.number c.args.end) (length c.args.into.now) c.args.peer (search rules))
    ∙ same_messages c.args.self.now.entries c.args.number c.args.end
