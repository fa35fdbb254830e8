use Rattle.std.proofs.Common.{◌∙◌, ap, sym, get_or}
use Rattle.dev_traits.specs.declared.mem.record.Call.TheVariants.{Read}
use Rattle.dev_traits.specs.Record.{fill_event, filled, event_of}
use Rattle.dev_traits.proofs.RecordLemmas.{onto_take}
use Rattle.dev_traits.proofs.mem.record.lay_pending.Goals as goal

pub loop-call-preserved : goal.loop-call-preserved
loop-call-preserved c =
    c.lay_one.ensures
    ∙ ap (fill_event c.args.fill (event_of c.args.written.now (get_or c.args.calls.now c.loop-call.call-index Read))) c.loop-call.invariant
    ∙ sym (ap (filled c.args.fill c.args.image.now) (onto_take c.args.written.now c.args.calls.now c.loop-call.call-index Read c.loop-call-test.true))
