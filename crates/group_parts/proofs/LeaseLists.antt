-- The leases that are out: no process has two, and a lease that hasn't moved is of a process that doesn't wait.
use Rattle.std.proofs.Common.{Bool, List, None, Option, Some, [], ap, arith, false, inl, inr, map, not, refl, subst, sym, true, zero, suc, ℕ, ◌++◌, ◌&&◌, ◌==◌, ◌||◌, ◌∙◌, ◌∷◌, ◌≡◌, ◌⊎◌}
use Rattle.std.proofs.Math.Bool.{or-true}
use Rattle.std.proofs.lemmas.Bool.{and_parts, cases_Bool, eq-eqb, eqb-true, false≢true, or_parts}
use Rattle.std.proofs.lemmas.List.Elements.{All-filter, All-head, All-map, All-nil, All-push, All-weaker, filter_passes}
use Rattle.std.proofs.lemmas.List.Folds.{list_any-append}
use Rattle.std.specs.List.{list_any}
use Rattle.std.specs.Prelude.{All, filter, find, if◌then◌else◌, nat_lt, is_none, slice_get}
use Rattle.group_defs.specs.Group.{is_running, runner}
use Rattle.group_defs.specs.Standing.{State, acknowledged, is_durable}
use Rattle.group_defs.specs.Step.{do_step, group_step, is_waiting, step_to}
use Rattle.group_defs.specs.declared.frame.Proc.{Proc}
use Rattle.group_laws.proofs.Inside.{found_has}
use Rattle.group_laws.proofs.ServedLaws.{waits_unread}
use Rattle.group_parts.specs.Leases.{LeasedOnce, MayEnd}
use Rattle.run_defs.specs.Legal.{Allowed, is_unleased, next_pid, ready}
use Rattle.run_defs.specs.Progress.{Lease, Progress, after_mark, is_lease, leases_after_turn}
use Rattle.run_defs.specs.Turns.{does_something, steps_of, turned}
use Rattle.run_defs.specs.declared.run.Limits.{Limits}
use Rattle.run_defs.specs.declared.run.Mark.{Mark}
use Rattle.run_defs.specs.declared.run.Mark.TheVariants.{Take, Turn, Barrier, Fetch, Ack}

pub not_true : (b : Bool) → not b ≡ true → b ≡ false
not_true true e = absurd (false≢true e)
not_true false e = refl

-- the leases after a Turn: those that are left, with what it did
abbrev pub with_did : Bool → Lease → Lease
with_did did l = record l { moved = did || l.moved }

abbrev pub left : ℕ → ℕ → List Lease → List Lease
left worker pid leases = filter (λ l. not (is_lease worker pid l)) leases

pub alike : (t : Lease → Bool) (did : Bool) (leases : List Lease) → ((l : Lease) → t (with_did did l) ≡ t l) → list_any t (map (with_did did) leases) ≡ list_any t leases
alike t did [] same = refl
alike t did (l ∷ ls) same = ap (λ (b : Bool). b || list_any t (map (with_did did) ls)) (same l) ∙ ap (λ (b : Bool). t l || b) (alike t did ls same)

-- one that has none has none after another's Turn
pub still_unleased : (leases : List Lease) (worker pid q : ℕ) → is_unleased leases q ≡ true → is_unleased (left worker pid leases) q ≡ true
still_unleased [] worker pid q free = refl
still_unleased (l ∷ ls) worker pid q free =
    let parts = or_parts (l.pid == q) (list_any (λ x. x.pid == q) ls) (not_true _ free) in
    by_lease (is_lease worker pid l) parts.0 (still_unleased ls worker pid q (ap not parts.1))
  where
    by_lease : (t : Bool) → (l.pid == q) ≡ false → is_unleased (left worker pid ls) q ≡ true → is_unleased (if not t then l ∷ left worker pid ls else left worker pid ls) q ≡ true
    by_lease true miss ih = ih
    by_lease false miss ih = ap (λ (b : Bool). not (b || list_any (λ x. x.pid == q) (left worker pid ls))) miss ∙ ih

once_taken : (leases : List Lease) (lease : Lease) → LeasedOnce leases → is_unleased leases lease.pid ≡ true → LeasedOnce (leases ++ lease ∷ [])
once_taken [] lease once free = (refl, tt)
once_taken (l ∷ ls) lease once free =
    let parts = or_parts (l.pid == lease.pid) (list_any (λ x. x.pid == lease.pid) ls) (not_true _ free) in
    let differ : (lease.pid == l.pid) ≡ false = other (lease.pid == l.pid) refl parts.0 in
    let none : list_any (λ x. x.pid == l.pid) (ls ++ lease ∷ []) ≡ false = list_any-append (λ x. x.pid == l.pid) ls (lease ∷ []) ∙ ap (λ (b : Bool). b || ((lease.pid == l.pid) || false)) (not_true _ once.0) ∙ ap (λ (b : Bool). b || false) differ in
    (ap not none, once_taken ls lease once.1 (ap not parts.1))
  where
    other : (b : Bool) → (lease.pid == l.pid) ≡ b → (l.pid == lease.pid) ≡ false → b ≡ false
    other false e miss = refl
    other true e miss = absurd (false≢true (sym miss ∙ eq-eqb l.pid lease.pid (sym (eqb-true lease.pid l.pid e))))

once_left : (leases : List Lease) (worker pid : ℕ) → LeasedOnce leases → LeasedOnce (left worker pid leases)
once_left [] worker pid once = tt
once_left (l ∷ ls) worker pid once = by_lease (is_lease worker pid l) (once_left ls worker pid once.1)
  where
    by_lease : (t : Bool) → LeasedOnce (left worker pid ls) → LeasedOnce (if not t then l ∷ left worker pid ls else left worker pid ls)
    by_lease true rest = rest
    by_lease false rest = (still_unleased ls worker pid l.pid once.0, rest)

once_did : (leases : List Lease) (did : Bool) → LeasedOnce leases → LeasedOnce (map (with_did did) leases)
once_did [] did once = tt
once_did (l ∷ ls) did once = (ap not (alike (λ x. x.pid == l.pid) did ls (λ x. refl)) ∙ once.0, once_did ls did once.1)

-- a process has one lease
pub has_pid : (leases : List Lease) (worker pid : ℕ) → list_any (is_lease worker pid) leases ≡ true → list_any (λ x. x.pid == pid) leases ≡ true
has_pid [] worker pid e = e
has_pid (l ∷ ls) worker pid e = by_test (l.worker == worker) (l.pid == pid) e (has_pid ls worker pid)
  where
    by_test : (a b : Bool) → ((a && b) || list_any (is_lease worker pid) ls) ≡ true → (list_any (is_lease worker pid) ls ≡ true → list_any (λ x. x.pid == pid) ls ≡ true) → (b || list_any (λ x. x.pid == pid) ls) ≡ true
    by_test true true e rest = refl
    by_test true false e rest = rest e
    by_test false b e rest = ap (λ (t : Bool). b || t) (rest e) ∙ or-true b

pub one_worker : (leases : List Lease) (one other pid : ℕ) → LeasedOnce leases → list_any (is_lease one pid) leases ≡ true → list_any (is_lease other pid) leases ≡ true → one ≡ other
one_worker [] one other pid once e f = absurd (false≢true e)
one_worker (l ∷ ls) one other pid once e f = by_tests (cases_Bool (is_lease one pid l)) (cases_Bool (is_lease other pid l)) (one_worker ls one other pid once.1)
  where
    later : (worker : ℕ) → (l.pid == pid) ≡ true → list_any (is_lease worker pid) ls ≡ true → ⊥
    later worker its there =
        let none : is_unleased ls pid ≡ true = subst (λ n. is_unleased ls n ≡ true) (eqb-true l.pid pid its) once.0 in
        false≢true (sym (not_true _ none) ∙ has_pid ls worker pid there)

    here : (worker : ℕ) → is_lease worker pid l ≡ true → (l.worker ≡ worker) × ((l.pid == pid) ≡ true)
    here worker hit = let parts = and_parts (l.worker == worker) (l.pid == pid) hit in (eqb-true l.worker worker parts.0, parts.1)

    behind : (worker : ℕ) → is_lease worker pid l ≡ false → (is_lease worker pid l || list_any (is_lease worker pid) ls) ≡ true → list_any (is_lease worker pid) ls ≡ true
    behind worker miss any = ap (λ (b : Bool). b || list_any (is_lease worker pid) ls) (sym miss) ∙ any

    by_tests : (is_lease one pid l ≡ true) ⊎ (is_lease one pid l ≡ false) → (is_lease other pid l ≡ true) ⊎ (is_lease other pid l ≡ false) → (list_any (is_lease one pid) ls ≡ true → list_any (is_lease other pid) ls ≡ true → one ≡ other) → one ≡ other
    by_tests (inl h) (inl k) rest = sym (here one h).0 ∙ (here other k).0
    by_tests (inl h) (inr k) rest = absurd (later other (here one h).1 (behind other k f))
    by_tests (inr h) (inl k) rest = absurd (later one (here other k).1 (behind one h e))
    by_tests (inr h) (inr k) rest = rest (behind one h e) (behind other k f)

-- another worker's Turn leaves the lease
left_out : (leases : List Lease) (worker pid other p : ℕ) → (other == worker) ≡ false → list_any (is_lease worker pid) leases ≡ true → list_any (is_lease worker pid) (left other p leases) ≡ true
left_out [] worker pid other p differ e = e
left_out (l ∷ ls) worker pid other p differ e = by_tests (cases_Bool (is_lease worker pid l)) (cases_Bool (is_lease other p l)) (left_out ls worker pid other p differ)
  where
    both : is_lease worker pid l ≡ true → is_lease other p l ≡ true → ⊥
    both h k =
        let mine = eqb-true l.worker worker (and_parts (l.worker == worker) (l.pid == pid) h).0 in
        let its = eqb-true l.worker other (and_parts (l.worker == other) (l.pid == p) k).0 in
        false≢true (sym differ ∙ eq-eqb other worker (sym its ∙ mine))

    by_tests : (is_lease worker pid l ≡ true) ⊎ (is_lease worker pid l ≡ false) → (is_lease other p l ≡ true) ⊎ (is_lease other p l ≡ false) → (list_any (is_lease worker pid) ls ≡ true → list_any (is_lease worker pid) (left other p ls) ≡ true)
        → list_any (is_lease worker pid) (left other p (l ∷ ls)) ≡ true
    by_tests (inl h) (inl k) rest = absurd (both h k)
    by_tests (inl h) (inr k) rest = rw k (rw h refl)
    by_tests (inr h) (inl k) rest = rw k (rest (ap (λ (b : Bool). b || list_any (is_lease worker pid) ls) (sym h) ∙ e))
    by_tests (inr h) (inr k) rest = rw k (rw h (rest (ap (λ (b : Bool). b || list_any (is_lease worker pid) ls) (sym h) ∙ e)))

pub still_out : (leases : List Lease) (worker pid other p : ℕ) (did : Bool) → (other == worker) ≡ false → list_any (is_lease worker pid) leases ≡ true → list_any (is_lease worker pid) (leases_after_turn other p did leases) ≡ true
still_out leases worker pid other p did differ out = alike (is_lease worker pid) did (left other p leases) (λ l. refl) ∙ left_out leases worker pid other p differ out

-- whose turn is next has what each of those has
pub next_has : (P : ℕ → Type 0) (last : ℕ) (pids : List ℕ) (pid : ℕ) → All P pids → next_pid last pids ≡ Some pid → P pid
next_has P last pids pid all e = by_found (find (nat_lt last) pids) refl e
  where
    first : (pids : List ℕ) → All P pids → slice_get pids 0 ≡ Some pid → P pid
    first [] all e = absurd (cc)
    first (n ∷ ns) all e = let same : n ≡ pid = cc in subst P same (All-head P n ns all)

    by_found : (o : Option ℕ) → find (nat_lt last) pids ≡ o → (elim o [ Some n ↦ Some n | None ↦ slice_get pids 0 ]) ≡ Some pid → P pid
    by_found (Some n) is e = (found_has P (nat_lt last) pids pid all (is ∙ e)).0
    by_found None is e = first pids all e

-- it has no lease, and doesn't wait
module _ (limits : Limits) (r : Progress) (worker pid : ℕ) (allowed : Allowed limits r (Take worker pid)) where
  pub taken_unleased : is_unleased r.leases pid ≡ true
  taken_unleased = next_has (λ n. is_unleased r.leases n ≡ true) r.taken (filter (is_unleased r.leases) (ready r.state)) pid (filter_passes (is_unleased r.leases) (ready r.state)) allowed.next

  pub taken_acts : is_waiting r.state pid ≡ false
  unfolding ready
  taken_acts =
      let test : Proc → Bool = λ p. is_running p && not (is_waiting r.state p.pid) in
      let passed : All (λ (p : Proc). (is_running p && not (is_waiting r.state p.pid)) ≡ true) (filter test r.state.group.frame.procs) = filter_passes test r.state.group.frame.procs in
      let act : All (λ (p : Proc). is_waiting r.state p.pid ≡ false) (filter test r.state.group.frame.procs) = All-weaker _ (λ (p : Proc). is_waiting r.state p.pid ≡ false) (λ p e. not_true _ (and_parts (is_running p) (not (is_waiting r.state p.pid)) e).1) (filter test r.state.group.frame.procs) passed in
      next_has (λ n. is_waiting r.state n ≡ false) r.taken (filter (is_unleased r.leases) (ready r.state)) pid
      (All-filter (is_unleased r.leases) (λ n. is_waiting r.state n ≡ false) (ready r.state) (All-map (λ (n : ℕ). is_waiting r.state n ≡ false) (λ (p : Proc). p.pid) (filter test r.state.group.frame.procs) act)) allowed.next

-- A Turn that does nothing leaves all as it was.
stands : (s : State) (pid : ℕ) → is_waiting s pid ≡ true → do_step s pid ≡ s
unfolding do_step
stands s pid waits = ap (λ (b : Bool). if b then s else step_to s pid (group_step (is_durable s.standing pid) s.group pid)) (ap (λ (b : Bool). is_none (runner s.group pid) || b) waits ∙ or-true (is_none (runner s.group pid)))

idle_same : (quantum : ℕ) (s : State) (pid n : ℕ) → does_something s pid n ≡ false → turned quantum s pid n ≡ s
unfolding steps_of
idle_same quantum s pid zero idle = by_end (0 == quantum)
  where
    waits : (b : Bool) → not b ≡ false → b ≡ true
    waits true e = refl
    waits false e = absurd (false≢true (sym e))

    by_end : (b : Bool) → steps_of s pid (if b then 0 else suc 0) ≡ s
    by_end true = refl
    by_end false = stands s pid (waits (is_waiting s pid) idle)
idle_same quantum s pid (suc n) idle =
    let some : (suc n == 0) ≡ false = grind arith in
    absurd (false≢true (sym idle ∙ ap (λ (b : Bool). not (b && is_waiting s pid)) some))

-- As long as no call that is served reads the standing, an acknowledgement lets no process wait or go on.
acknowledged_waits : (s : State) (epoch pid : ℕ) → is_waiting (acknowledged s epoch) pid ≡ is_waiting s pid
unfolding is_waiting
acknowledged_waits s epoch pid = waits_unread (is_durable (acknowledged s epoch).standing pid) (is_durable s.standing pid) s.group pid

-- Each mark keeps what stands of them.
module _ (limits : Limits) (r : Progress) (once : LeasedOnce r.leases) (may_end : All (MayEnd r) r.leases) where
  by_did : (worker pid n : ℕ) (did : Bool) → does_something r.state pid n ≡ did → All (λ l. (l.moved ≡ true) ⊎ (is_waiting (turned limits.quantum r.state pid n) l.pid ≡ false)) (map (with_did did) (left worker pid r.leases))
  by_did worker pid n true did = All-map (λ (l : Lease). (l.moved ≡ true) ⊎ (is_waiting (turned limits.quantum r.state pid n) l.pid ≡ false)) (with_did true) (left worker pid r.leases) (λ k d lt. inl refl)
  by_did worker pid n false did =
      let same = idle_same limits.quantum r.state pid n did in
      subst (λ s. All (λ (l : Lease). (l.moved ≡ true) ⊎ (is_waiting s l.pid ≡ false)) (map (with_did false) (left worker pid r.leases))) (sym same)
      (All-map (λ (l : Lease). (l.moved ≡ true) ⊎ (is_waiting r.state l.pid ≡ false)) (with_did false) (left worker pid r.leases) (All-filter (λ l. not (is_lease worker pid l)) (MayEnd r) r.leases may_end))

  pub mark_once : (m : Mark) → Allowed limits r m → LeasedOnce (after_mark limits.quantum r m).leases
  mark_once (Take worker pid) allowed = once_taken r.leases (record { worker = worker; pid = pid; moved = false }) once (taken_unleased limits r worker pid allowed)
  mark_once (Turn worker pid n) allowed = once_did (left worker pid r.leases) (does_something r.state pid n) (once_left r.leases worker pid once)
  mark_once (Barrier epoch) allowed = once
  mark_once (Fetch epoch) allowed = once
  mark_once (Ack epoch) allowed = once

  pub mark_may_end : (m : Mark) → Allowed limits r m → All (MayEnd (after_mark limits.quantum r m)) (after_mark limits.quantum r m).leases
  mark_may_end (Take worker pid) allowed = All-push (MayEnd r) r.leases (record { worker = worker; pid = pid; moved = false }) may_end (inr (taken_acts limits r worker pid allowed))
  mark_may_end (Turn worker pid n) allowed = by_did worker pid n (does_something r.state pid n) refl
  mark_may_end (Barrier epoch) allowed = subst (All (MayEnd (after_mark limits.quantum r (Barrier epoch)))) (sym allowed.rests.no_lease) (All-nil (MayEnd (after_mark limits.quantum r (Barrier epoch))))
  mark_may_end (Fetch epoch) allowed = may_end
  mark_may_end (Ack epoch) allowed = All-weaker (MayEnd r) (MayEnd (after_mark limits.quantum r (Ack epoch))) (λ l may. by_case l may) r.leases may_end
    where
      by_case : (l : Lease) → MayEnd r l → MayEnd (after_mark limits.quantum r (Ack epoch)) l
      by_case l (inl moved) = inl moved
      by_case l (inr acts) = inr (acknowledged_waits r.state epoch l.pid ∙ acts)
