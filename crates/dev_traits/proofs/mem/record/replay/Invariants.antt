use Rattle.std.proofs.Common.{◌≡◌, take, []}
use Rattle.dev_traits.specs.Record.{reading_of, events_onto}
use Rattle.dev_traits.proofs.mem.record.replay.Given as goal

abbrev pub invariant-loop-call : goal.invariant-loop-call
invariant-loop-call l = l.image ≡ reading_of l.initial.image (events_onto l.written [] (take l.call-index l.calls))
