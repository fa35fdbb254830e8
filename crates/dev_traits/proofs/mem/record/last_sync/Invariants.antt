use Rattle.std.proofs.Common.{◌≡◌, ◌≤◌, ℕ, List, take, drop, []}
use Rattle.dev_traits.specs.Record.{reading_of, settled_of, pending_of, events_onto}
use Rattle.dev_traits.proofs.mem.record.last_sync.Given as goal

abbrev pub invariant-loop-i : goal.invariant-loop-i
invariant-loop-i l = record {
  bound : l.synced ≤ l.i;
  settled : (written start : List ℕ) → settled_of start (events_onto written [] (take l.i l.calls)) ≡ reading_of start (events_onto written [] (take l.synced l.calls));
  pending : (written : List ℕ) → pending_of (events_onto written [] (take l.i l.calls)) ≡ events_onto written [] (drop l.synced (take l.i l.calls));
}
