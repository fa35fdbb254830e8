use Rattle.std.proofs.Common.{◌≡◌}
use Rattle.flat_kernel.specs.Engine.{group_in, IsRunnable}
use Rattle.solo_engine.specs.Interval.{HasTurned}
use Rattle.solo_engine.proofs.interval.turns_to_barrier.Given as goal

abbrev pub invariant-loop-since : goal.invariant-loop-since
invariant-loop-since l = record {
  turned : HasTurned l.limits l.initial.trace.items l.trace.items (group_in l.initial.g) (group_in l.g) l.made l.since;
  runnable : IsRunnable (group_in l.g);
  fixed : l.g.fixed ≡ l.initial.g.fixed;
  first : l.since ≡ 0 → group_in l.g ≡ group_in l.initial.g;
}
