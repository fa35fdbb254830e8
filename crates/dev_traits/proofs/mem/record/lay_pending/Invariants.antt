use Rattle.std.proofs.Common.{◌≡◌, take, []}
use Rattle.dev_traits.specs.Record.{filled, events_onto}
use Rattle.dev_traits.proofs.mem.record.lay_pending.Given as goal

abbrev pub invariant-loop-call : goal.invariant-loop-call
invariant-loop-call l = l.image ≡ filled l.fill l.initial.image (events_onto l.written [] (take l.call-index l.calls))
