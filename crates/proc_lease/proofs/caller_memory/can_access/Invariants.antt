use Rattle.std.proofs.Common.{◌≡◌}
use Rattle.proc_lease.specs.Sight.{is_able}
use Rattle.proc_lease.proofs.caller_memory.can_access.Given as goal

abbrev pub invariant-loop-left : goal.invariant-loop-left
invariant-loop-left l = is_able l.map.entries l.right l.from l.n ≡ is_able l.map.entries l.right l.address l.left

abbrev pub decreases-loop-left : goal.decreases-loop-left
decreases-loop-left l = l.left
