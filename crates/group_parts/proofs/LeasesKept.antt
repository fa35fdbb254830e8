-- What stands of the leases that are out: so it is at the start, and after each mark that is allowed.
use Rattle.std.proofs.Common.{Bool, List, None, Option, Some, [], ap, arith, false, refl, sym, true, ℕ, ◌<◌, ◌==◌, ◌∙◌, ◌∷◌, ◌≡◌}
use Rattle.std.proofs.lemmas.Bool.{eq-eqb, eqb-true, false≢true, or_parts}
use Rattle.std.proofs.lemmas.List.Elements.{All-cons, All-filter, All-map, All-nil, All-push, All-weaker}
use Rattle.std.proofs.lemmas.List.Folds.{list_any_none}
use Rattle.std.specs.List.{list_any}
use Rattle.std.specs.Option.{option_map}
use Rattle.std.specs.Prelude.{All, IsTrue, is_some, not}
use Rattle.group_defs.specs.Group.{Group, is_runner, runner}
use Rattle.group_defs.specs.Valid.{GroupIsValid}
use Rattle.group_defs.specs.declared.frame.Proc.{Proc}
use Rattle.group_laws.proofs.Lists.{all_and, found_all}
use Rattle.group_laws.proofs.ReplyLaws.{found_pid}
use Rattle.group_parts.proofs.Callers.{next_runs}
use Rattle.group_parts.proofs.LeaseLists.{alike, left, mark_may_end, mark_once, not_true, still_unleased, with_did}
use Rattle.group_parts.proofs.MarksParts.{mark_leaves_parts}
use Rattle.group_parts.proofs.OthersParts.{behind}
use Rattle.group_parts.proofs.Runners.{some_found}
use Rattle.group_parts.proofs.Unleased.{its_left}
use Rattle.group_parts.specs.Leases.{LeasesStand, MayEnd}
use Rattle.group_parts.specs.Marks.{AreAllowed}
use Rattle.group_parts.specs.Parts.{PrivatePart, part_in, part_of}
use Rattle.run_defs.specs.Legal.{Allowed, is_unleased}
use Rattle.run_defs.specs.Progress.{EachMark, Lease, Progress, after_mark, is_lease, leases_after_turn, progress_after, progress_at}
use Rattle.run_defs.specs.Turns.{does_something}
use Rattle.run_defs.specs.declared.run.Limits.{Limits}
use Rattle.run_defs.specs.declared.run.Mark.{Mark}
use Rattle.run_defs.specs.declared.run.Mark.TheVariants.{Take, Turn, Barrier, Fetch, Ack}

abbrev Runs : Group → Lease → Type 0
Runs g l = IsTrue (is_some (part_of g l.pid))

-- none of these leases is of this process
unleased_all : (leases : List Lease) (q : ℕ) → is_unleased leases q ≡ true → All (λ l. (l.pid == q) ≡ false) leases
unleased_all [] q free = All-nil (λ l. (l.pid == q) ≡ false)
unleased_all (l ∷ ls) q free =
    let parts = or_parts (l.pid == q) (list_any (λ x. x.pid == q) ls) (not_true _ free) in
    All-cons (λ x. (x.pid == q) ≡ false) l ls parts.0 (unleased_all ls q (ap not parts.1))

module _ (limits : Limits) (r : Progress) (stand : LeasesStand r) (valid : GroupIsValid r.state.group) where
  taken_runs : (worker pid : ℕ) → Allowed limits r (Take worker pid) → IsTrue (is_some (part_of r.state.group pid))
  unfolding part_of runner
  taken_runs worker pid allowed =
      let (p, found) = some_found (is_runner pid) r.state.group.frame.procs (next_runs limits r worker pid allowed) in
      ap (λ (o : Option Proc). is_some (option_map (part_in r.state.group) o)) found

  turn_runs : (worker pid n : ℕ) → Allowed limits r (Turn worker pid n) → All (Runs (after_mark limits.quantum r (Turn worker pid n)).state.group) (left worker pid r.leases)
  turn_runs worker pid n allowed =
      All-weaker (λ l. ((l.pid == pid) ≡ false) × Runs r.state.group l) (Runs (after_mark limits.quantum r (Turn worker pid n)).state.group) one (left worker pid r.leases)
      (all_and (λ l. (l.pid == pid) ≡ false) (Runs r.state.group) (left worker pid r.leases) (unleased_all (left worker pid r.leases) pid (its_left r.leases worker pid stand.once allowed.leased)) (All-filter (λ l. not (is_lease worker pid l)) (Runs r.state.group) r.leases stand.run))
    where
      differs : (q : ℕ) → (q == pid) ≡ false → (b : Bool) → (pid == q) ≡ b → b ≡ false
      differs q other false e = refl
      differs q other true e = absurd (false≢true (sym other ∙ eq-eqb q pid (sym (eqb-true pid q e))))

      one : (l : Lease) → ((l.pid == pid) ≡ false) × Runs r.state.group l → Runs (after_mark limits.quantum r (Turn worker pid n)).state.group l
      one l both = by_part (part_of r.state.group l.pid) refl both.1
        where
          by_part : (o : Option PrivatePart) → part_of r.state.group l.pid ≡ o → is_some o ≡ true → is_some (part_of (after_mark limits.quantum r (Turn worker pid n)).state.group l.pid) ≡ true
          by_part None e some = absurd (false≢true some)
          by_part (Some part) e some = ap is_some (mark_leaves_parts limits r (Turn worker pid n) l.pid part valid allowed (differs l.pid both.0 (pid == l.pid) refl) e)

  mark_run : (m : Mark) → Allowed limits r m → All (Runs (after_mark limits.quantum r m).state.group) (after_mark limits.quantum r m).leases
  unfolding part_of runner
  mark_run (Take worker pid) allowed = All-push (Runs r.state.group) r.leases (record { worker = worker; pid = pid; moved = false }) stand.run (taken_runs worker pid allowed)
  mark_run (Turn worker pid n) allowed = All-map (Runs (after_mark limits.quantum r (Turn worker pid n)).state.group) (with_did (does_something r.state pid n)) (left worker pid r.leases) (turn_runs worker pid n allowed)
  mark_run (Barrier epoch) allowed = stand.run
  mark_run (Fetch epoch) allowed = stand.run
  mark_run (Ack epoch) allowed = stand.run

  pub mark_stands : (m : Mark) → Allowed limits r m → LeasesStand (after_mark limits.quantum r m)
  mark_stands m allowed = record { once = mark_once limits r stand.once stand.may_end m allowed; may_end = mark_may_end limits r stand.once stand.may_end m allowed; run = mark_run m allowed }

pub start_stands : (origin : ℕ) (g : Group) → LeasesStand (progress_at origin g)
start_stands origin g = record { once = tt; may_end = All-nil (MayEnd (progress_at origin g)); run = All-nil (λ l. IsTrue (is_some (part_of g l.pid))) }

pub marks_stand : (limits : Limits) (r : Progress) (marks : List Mark) → AreAllowed limits r marks → LeasesStand r → LeasesStand (progress_after limits.quantum r marks)
unfolding EachMark
marks_stand limits r [] allowed stand = stand
marks_stand limits r (m ∷ ms) allowed stand = marks_stand limits (after_mark limits.quantum r m) ms allowed.1 (mark_stands limits r stand allowed.0.0 m allowed.0.1)

-- In a valid group the next pid is none of a running process, so nobody has a lease of it.
pub next_unleased : (r : Progress) → LeasesStand r → GroupIsValid r.state.group → is_unleased r.leases r.state.group.frame.next.pid ≡ true
unfolding runner
next_unleased r stand valid = ap not (list_any_none (λ l. l.pid == r.state.group.frame.next.pid) r.leases (All-weaker (Runs r.state.group) (λ l. (l.pid == r.state.group.frame.next.pid) ≡ false) other r.leases stand.run))
  where
    by_part : (q : ℕ) (o : Option PrivatePart) → part_of r.state.group q ≡ o → is_some o ≡ true → q < r.state.group.frame.next.pid
    by_part q None e some = absurd (false≢true some)
    by_part q (Some part) e some =
        let (p, found, same) = behind r.state.group q part e in
        let less : p.pid < r.state.group.frame.next.pid = found_all (is_runner q) (λ x. x.pid < r.state.group.frame.next.pid) r.state.group.frame.procs p found valid.sound.frame.procs.below in
        let its : p.pid ≡ q = found_pid r.state.group.frame.procs q p found in
        omega (arith, less, its)

    other : (l : Lease) → Runs r.state.group l → (l.pid == r.state.group.frame.next.pid) ≡ false
    other l runs = by_test (l.pid == r.state.group.frame.next.pid) refl
      where
        by_test : (b : Bool) → (l.pid == r.state.group.frame.next.pid) ≡ b → b ≡ false
        by_test false e = refl
        by_test true e = let less = by_part l.pid (part_of r.state.group l.pid) refl runs in let same = eqb-true l.pid r.state.group.frame.next.pid e in absurd (omega (arith, less, same))

-- and who has none has none once a lease is given back
pub unleased_back : (leases : List Lease) (worker pid : ℕ) (did : Bool) (q : ℕ) → is_unleased leases q ≡ true → is_unleased (leases_after_turn worker pid did leases) q ≡ true
unleased_back leases worker pid did q free = ap not (alike (λ l. l.pid == q) did (left worker pid leases) (λ l. refl)) ∙ still_unleased leases worker pid q free
