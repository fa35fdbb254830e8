use Rattle.std.proofs.Common.{◌-◌}
use Rattle.flat_kernel.specs.Engine.{group_in}
use Rattle.solo_engine.proofs.Intervals.{IsRunAtRest, here}
use Rattle.solo_engine.proofs.solo.run_to_end.Given as goal

abbrev pub invariant-loop-alloc : goal.invariant-loop-alloc
invariant-loop-alloc g l =
    IsRunAtRest (here l.limits (group_in l.fn.engine.group) l.fn.engine.kept.epoch l.log.trace.items l.log.acks.items (g.D.Disk.view l.fn.disk) (g.D.Disk.view l.disk) (g.O.Sink.view l.fn.out) (g.O.Sink.view l.out))
    (group_in l.engine.group) l.engine.kept l.engine.made

abbrev pub decreases-loop-alloc : goal.decreases-loop-alloc
decreases-loop-alloc g l = l.limits.turns - l.engine.made
