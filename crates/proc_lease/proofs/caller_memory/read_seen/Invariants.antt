use Rattle.std.proofs.Common.{◌≡◌, ◌≤◌, ◌-◌, Some, length, take}
use Rattle.proc_lease.specs.Sight.{cells_between}
use Rattle.rv64_isa.specs.Memory.{bytes_with}
use Rattle.proc_lease.proofs.caller_memory.read_seen.Given as goal

abbrev pub invariant-loop-done : goal.invariant-loop-done
invariant-loop-done l = record {
  within : l.done ≤ length l.initial.into;
  size : length l.into ≡ length l.initial.into;
  read : bytes_with l.right (cells_between l.process l.shared) l.from l.done ≡ Some (take l.done l.into);
}

abbrev pub decreases-loop-done : goal.decreases-loop-done
decreases-loop-done l = length l.initial.into - l.done
