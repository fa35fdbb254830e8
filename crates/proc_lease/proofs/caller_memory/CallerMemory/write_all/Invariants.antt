use Rattle.std.proofs.Common.{◌≡◌, ◌≤◌, ◌-◌, ℕ, length, take}
use Rattle.proc_lease.specs.Sight.{CanStoreAt, seen_by, with_stored_in}
use Rattle.proc_lease.proofs.caller_memory.CallerMemory.write_all.Given as goal

abbrev pub invariant-loop-done : goal.invariant-loop-done
invariant-loop-done l = record {
  within : l.done ≤ length l.bytes;
  stored : seen_by l.self.process l.self.shared ≡ with_stored_in (seen_by l.initial.self.process l.initial.self.shared) l.to (take l.done l.bytes);
  kept : (at : ℕ) → CanStoreAt l.initial.self.process l.initial.self.shared at → CanStoreAt l.self.process l.self.shared at;
}

abbrev pub decreases-loop-done : goal.decreases-loop-done
decreases-loop-done l = length l.bytes - l.done
