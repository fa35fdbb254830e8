use Rattle.std.proofs.Common.{◌≡◌, ◌+◌, ◌<◌, ◌≤◌, ℕ, true, false, List, [], take, drop, length, get_or, sym, ◌∙◌, subst, arith}
use Rattle.dev_traits.specs.declared.mem.record.Call.{Call}
use Rattle.dev_traits.specs.declared.mem.record.Call.TheVariants.{Read}
use Rattle.dev_traits.specs.Record.{is_settling, event_of, reading_of, settled_of, pending_of, events_onto}
use Rattle.dev_traits.proofs.RecordLemmas.{settled_here, nothing_pending, settled_before, one_pending}
use Rattle.dev_traits.proofs.mem.record.last_sync.Goals as goal
use Rattle.dev_traits.proofs.mem.record.last_sync.Goals.{then-settles, else-settles}

record Upto (calls : List Call) (i synced : ℕ) : Type 0 where
  bound : synced ≤ i
  settled : (written start : List ℕ) → settled_of start (events_onto written [] (take i calls)) ≡ reading_of start (events_onto written [] (take synced calls))
  pending : (written : List ℕ) → pending_of (events_onto written [] (take i calls)) ≡ events_onto written [] (drop synced (take i calls))

goes_on : (calls : List Call) (i synced : ℕ) → i < length calls → ((written : List ℕ) → false ≡ is_settling (event_of written (get_or calls i Read))) → Upto calls i synced → Upto calls (i + 1) synced
goes_on calls i synced lt not so_far = record {
  bound = omega (arith, so_far.bound);
  settled = λ written start. settled_before written calls i Read lt start synced (sym (not written)) (so_far.settled written start);
  pending = λ written. one_pending written calls i Read lt synced so_far.bound (sym (not written)) (so_far.pending written);
}

ends : (calls : List Call) (i : ℕ) → i < length calls → ((written : List ℕ) → true ≡ is_settling (event_of written (get_or calls i Read))) → Upto calls (i + 1) (i + 1)
ends calls i lt is = record {
  bound = omega arith;
  settled = λ written start. settled_here written calls i Read lt start (sym (is written));
  pending = λ written. nothing_pending written calls i Read lt (sym (is written));
}

pub loop-i-preserved : goal.loop-i-preserved
loop-i-preserved c =
    let calls = c.args.calls.now in
    let so_far : Upto calls c.loop-i.i c.loop-i.synced = record { bound = c.loop-i.invariant.bound; settled = c.loop-i.invariant.settled; pending = c.loop-i.invariant.pending } in
    let next : Upto calls (c.loop-i.i + 1) c.if-settles.synced = elim c.if-settles.branch [
      | then-settles w ↦ subst (Upto calls (c.loop-i.i + 1)) (sym w.synced-is) (ends calls c.loop-i.i c.loop-i-test.true (λ written. sym w.if-settles.true ∙ c.settles.ensures written))
      | else-settles w ↦ subst (Upto calls (c.loop-i.i + 1)) (sym w.synced-is) (goes_on calls c.loop-i.i c.loop-i.synced c.loop-i-test.true (λ written. sym w.if-settles.false ∙ c.settles.ensures written) so_far)
    ] in
    record { bound = next.bound; settled = next.settled; pending = next.pending }
