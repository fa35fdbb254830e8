use Rattle.std.proofs.Common.{◌≤◌, ◌-◌, length, take}
use Rattle.dev_traits.specs.Outside.{Takes}
use Rattle.dev_traits.proofs.sink.put_all.Given as goal

abbrev pub invariant-loop-done : goal.invariant-loop-done
invariant-loop-done g l = record {
  within : l.done ≤ length l.bytes;
  taken : Takes (take l.done l.bytes) (g.S.Sink.view l.initial.sink) (g.S.Sink.view l.sink);
  faults : (g.S.Sink.view l.initial.sink).faults ≤ (g.S.Sink.view l.sink).faults;
}

abbrev pub decreases-loop-done : goal.decreases-loop-done
decreases-loop-done g l = length l.bytes - l.done
