use Rattle.std.proofs.Common.{ap, List, ℕ, ◌-◌, ◌∙◌}
use Rattle.pipes_socks.specs.declared.streams.Message.{Message}
use Rattle.pipes_socks.specs.Pairs.{sent_messages, messages_to, waiting_at, with_waiting}
use Rattle.pipes_socks.proofs.Same.{same_messages, nothing_sent}
use Rattle.pipes_socks.proofs.Queued.{queue_sent}
use Rattle.pipes_socks.proofs.Held.{messages_become, pairs_kept}
use Rattle.pipes_socks.proofs.pairs.PairTable.send.Goals as goal

abbrev message : List ℕ → List ℕ → Message
message bytes opens = record { bytes = bytes; opens = opens }

pub invariant_of-self : goal.invariant_of-self
invariant_of-self c =
    pairs_kept c.deref.result.now c.self.inside.pairs.items c.args.self.now.entries c.deref.ensures.value (ap (λ r. r.entries) c.self.view_is) c.self.invariant c.args.number c.place_of-place.result c.place_of-place.ensures c.index_mut.result.now c.index_mut.ensures.value (1 - c.args.from)
    (sent_messages c.send.result (messages_to c.index_mut.result.now (1 - c.args.from)) (message c.args.bytes.now c.args.opens.now)) c.send.new.self c.send.ensures.pair
    (queue_sent c.send.result (messages_to c.index_mut.result.now (1 - c.args.from)) (message c.args.bytes.now c.args.opens.now) c.args.peer c.requires.some c.requires.few c.send.ensures.answer)

pub returns-clause-pairs : goal.returns-clause-pairs
returns-clause-pairs c =
    messages_become c.deref.result.now c.self.inside.pairs.items c.args.self.now.entries c.deref.ensures.value (ap (λ r. r.entries) c.self.view_is) c.self.invariant c.args.number c.place_of-place.result c.place_of-place.ensures c.index_mut.result.now c.index_mut.ensures.value (1 - c.args.from)
    (λ waiting. sent_messages c.send.result waiting (message c.args.bytes.now c.args.opens.now)) c.send.new.self c.send.ensures.pair

pub returns-clause-same : goal.returns-clause-same
returns-clause-same c other =
    returns-clause-pairs c
    ∙ ap (λ (m : List Message). with_waiting c.args.self.now.entries c.args.number (1 - c.args.from) m) (nothing_sent c.send.result (waiting_at c.args.self.now.entries c.args.number (1 - c.args.from)) (message c.args.bytes.now c.args.opens.now) other)
    ∙ same_messages c.args.self.now.entries c.args.number (1 - c.args.from)
