use Rattle.std.proofs.Common.{◌∙◌, ap, sym, get_or}
use Rattle.dev_traits.specs.declared.mem.record.Call.TheVariants.{Read}
use Rattle.dev_traits.specs.Record.{after_event, reading_of, event_of}
use Rattle.dev_traits.proofs.RecordLemmas.{onto_take}
use Rattle.dev_traits.proofs.mem.record.replay.Goals as goal

pub loop-call-preserved : goal.loop-call-preserved
loop-call-preserved c =
    c.replay_one.ensures
    ∙ ap (after_event (event_of c.args.written.now (get_or c.args.calls.now c.loop-call.call-index Read))) c.loop-call.invariant
    ∙ sym (ap (reading_of c.args.image.now) (onto_take c.args.written.now c.args.calls.now c.loop-call.call-index Read c.loop-call-test.true))
