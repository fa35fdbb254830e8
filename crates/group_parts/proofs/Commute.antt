-- A lease stays one while others' marks are logged: none of them is a Turn of its process, and none a Barrier.
use Rattle.std.proofs.Common.{Bool, List, Some, [], ap, false, refl, subst, sym, true, ℕ, ◌==◌, ◌||◌, ◌∙◌, ◌∷◌, ◌≡◌}
use Rattle.std.proofs.lemmas.Bool.{eq-eqb, eqb-true, false≢true, or_parts}
use Rattle.std.proofs.lemmas.List.Folds.{list_any-append}
use Rattle.std.specs.List.{list_any}
use Rattle.std.specs.Prelude.{IsTrue}
use Rattle.address_maps.specs.declared.maps.Mapping.{Mapping}
use Rattle.group_defs.specs.Fork.{maps_privately}
use Rattle.group_defs.specs.Group.{Group}
use Rattle.group_defs.specs.Valid.{GroupIsValid}
use Rattle.group_parts.proofs.LeaseLists.{one_worker, still_out}
use Rattle.group_parts.proofs.LeasesKept.{mark_stands}
use Rattle.group_parts.proofs.LocalSteps.{maps_stay}
use Rattle.group_parts.proofs.MarksParts.{mark_leaves_parts}
use Rattle.group_parts.proofs.OthersPages.{turn_leaves_page}
use Rattle.group_parts.specs.Leases.{IsLeaseOf, LeasesStand, LeavesLease}
use Rattle.group_parts.specs.Marks.{AreAllowed, is_turn_by}
use Rattle.group_parts.specs.Parts.{PrivatePart, part_of}
use Rattle.run_defs.specs.Legal.{Allowed}
use Rattle.run_defs.specs.Progress.{EachMark, Progress, after_mark, is_lease, progress_after}
use Rattle.run_defs.specs.Turns.{does_something}
use Rattle.run_defs.specs.declared.run.Limits.{Limits}
use Rattle.run_defs.specs.declared.run.Mark.{Mark}
use Rattle.run_defs.specs.declared.run.Mark.TheVariants.{Take, Turn, Barrier, Fetch, Ack}

same_lease : (g h : Group) (pid done : ℕ) (part : PrivatePart) (lease : IsLeaseOf g pid done part) → part_of h pid ≡ Some lease.taken → IsLeaseOf h pid done part
same_lease g h pid done part lease is = record { taken = lease.taken; taken_is = is; all_local = lease.all_local; part_is = lease.part_is }

module _ (limits : Limits) (r : Progress) (worker pid done : ℕ) (part : PrivatePart) (stand : LeasesStand r) (out : IsTrue (list_any (is_lease worker pid) r.leases)) (lease : IsLeaseOf r.state.group pid done part) where
  -- what is mapped privately is so at the Take
  maps_same : (object : ℕ) → maps_privately part.maps object ≡ true → maps_privately lease.taken.maps object ≡ true
  maps_same object own = ap (λ (l : List Mapping). maps_privately l object) (sym (ap (λ (t : PrivatePart). t.maps) lease.part_is ∙ maps_stay lease.taken done)) ∙ own

  -- another worker's Turn is of another process
  other_process : (other p n : ℕ) → Allowed limits r (Turn other p n) → (other == worker) ≡ false → (b : Bool) → (p == pid) ≡ b → b ≡ false
  other_process other p n allowed differ false e = refl
  other_process other p n allowed differ true e =
      let its : list_any (is_lease other pid) r.leases ≡ true = subst (λ k. list_any (is_lease other k) r.leases ≡ true) (eqb-true p pid e) allowed.leased in
      absurd (false≢true (sym differ ∙ eq-eqb other worker (one_worker r.leases other worker pid stand.once its out)))

  pub mark_leaves_lease : (m : Mark) → GroupIsValid r.state.group → Allowed limits r m → is_turn_by worker m ≡ false → LeavesLease r (after_mark limits.quantum r m) worker pid done part
  mark_leaves_lease (Take other p) valid allowed none = record {
    stays = refl;
    lease = lease;
    out = list_any-append (is_lease worker pid) r.leases (record { worker = other; pid = p; moved = false } ∷ []) ∙ ap (λ (b : Bool). b || list_any (is_lease worker pid) (record { worker = other; pid = p; moved = false } ∷ [])) out;
    touched = λ object page own. refl;
    checkpoints = refl;
  }
  mark_leaves_lease (Turn other p n) valid allowed none =
      let differ : (p == pid) ≡ false = other_process other p n allowed none (p == pid) refl in
      let there : part_of (after_mark limits.quantum r (Turn other p n)).state.group pid ≡ Some lease.taken = mark_leaves_parts limits r (Turn other p n) pid lease.taken valid allowed differ lease.taken_is in
      record {
        stays = there ∙ sym lease.taken_is;
        lease = same_lease r.state.group (after_mark limits.quantum r (Turn other p n)).state.group pid done part lease there;
        out = still_out r.leases worker pid other p (does_something r.state p n) none out;
        touched = λ object page own. turn_leaves_page r.state p pid lease.taken object page valid differ lease.taken_is (maps_same object own) r.touched limits.quantum n allowed.turn.all_local;
        checkpoints = refl;
      }
  mark_leaves_lease (Barrier epoch) valid allowed none = absurd (false≢true (ap (list_any (is_lease worker pid)) (sym allowed.rests.no_lease) ∙ out))
  mark_leaves_lease (Fetch epoch) valid allowed none = record { stays = refl; lease = lease; out = out; touched = λ object page own. refl; checkpoints = refl }
  mark_leaves_lease (Ack epoch) valid allowed none = record { stays = refl; lease = lease; out = out; touched = λ object page own. refl; checkpoints = refl }

-- A LEASE COMMUTES WITH WHAT OTHERS DO.
pub marks_leave_lease : (limits : Limits) (r : Progress) (marks : List Mark) (worker pid done : ℕ) (part : PrivatePart) → AreAllowed limits r marks → LeasesStand r → IsTrue (list_any (is_lease worker pid) r.leases) → list_any (is_turn_by worker) marks ≡ false
    → IsLeaseOf r.state.group pid done part → LeavesLease r (progress_after limits.quantum r marks) worker pid done part
unfolding EachMark
marks_leave_lease limits r [] worker pid done part allowed stand out none lease = record { stays = refl; lease = lease; out = out; touched = λ object page own. refl; checkpoints = refl }
marks_leave_lease limits r (m ∷ ms) worker pid done part allowed stand out none lease =
    let neither = or_parts (is_turn_by worker m) (list_any (is_turn_by worker) ms) none in
    let one = mark_leaves_lease limits r worker pid done part stand out lease m allowed.0.0 allowed.0.1 neither.0 in
    let rest = marks_leave_lease limits (after_mark limits.quantum r m) ms worker pid done part allowed.1 (mark_stands limits r stand allowed.0.0 m allowed.0.1) one.out neither.1 one.lease in
    record {
      stays = rest.stays ∙ one.stays;
      lease = rest.lease;
      out = rest.out;
      touched = λ object page own. rest.touched object page own ∙ one.touched object page own;
      checkpoints = rest.checkpoints ∙ one.checkpoints;
    }
