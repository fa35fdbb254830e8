use Rattle.std.proofs.Common.{◌≡◌, ◌≤◌, ◌-◌, ℕ}
use Rattle.group_defs.specs.Reserved.{EachFrom}
use Rattle.proc_lease.specs.Sight.{CanStoreAt, seen_by}
use Rattle.proc_lease.proofs.caller_memory.CallerMemory.reserve_all.Given as goal

abbrev pub invariant-loop-done : goal.invariant-loop-done
invariant-loop-done l = record {
  within : l.done ≤ l.n;
  same : seen_by l.self.process l.self.shared ≡ seen_by l.initial.self.process l.initial.self.shared;
  kept : (at : ℕ) → CanStoreAt l.initial.self.process l.initial.self.shared at → CanStoreAt l.self.process l.self.shared at;
  ready : EachFrom (CanStoreAt l.self.process l.self.shared) l.to l.done;
}

abbrev pub decreases-loop-done : goal.decreases-loop-done
decreases-loop-done l = l.n - l.done
