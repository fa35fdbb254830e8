-- The leases of a legal trace: no worker and no process has two, and each process that has one runs.
use Rattle.std.proofs.Common.{◌≡◌, ℕ, zero, suc, ◌*◌, ◌<◌, ◌≤◌, ◌==◌, ◌&&◌, ◌||◌, not, Bool, true, false, List, [], ◌∷◌, ◌++◌, length, map, Option, Some, None, refl, ap, sym, ◌∙◌, subst, arith}
use Rattle.std.specs.Prelude.{All, AllPairs, if◌then◌else◌}
use Rattle.std.specs.List.{AllByRecursion, filter, find, list_any}
use Rattle.std.proofs.lemmas.Bool.{eqb-true, eqb-false}
use Rattle.std.proofs.lemmas.List.Elements.{All-cons, All-filter, All-map, All-nil, All-push, All-tail, All-weaker}
use Rattle.std.proofs.lemmas.List.Kept.{AllPairs-cons, AllPairs-filter}
use Rattle.std.proofs.lemmas.List.Quantifiers.{all_pairs_push}
use Rattle.group_defs.specs.Group.{Group, is_runner, is_running, runner}
use Rattle.group_defs.specs.Numbers.{HasUnwornNumbers}
use Rattle.group_defs.specs.Standing.{State, is_durable}
use Rattle.group_defs.specs.Step.{do_step, group_step, is_waiting, step_to}
use Rattle.group_defs.specs.Valid.{GroupIsValid}
use Rattle.group_defs.specs.declared.frame.Proc.{Proc}
use Rattle.group_laws.proofs.OthersStay.{others_stay}
use Rattle.run_defs.specs.Legal.{Allowed, Legal, TakeAllowed, is_idle, is_unleased, next_pid, ready}
use Rattle.run_defs.specs.Limits.{LimitsFit}
use Rattle.run_defs.specs.Progress.{Lease, Progress, after_mark, is_lease, leases_after_turn, progress_after, progress_at}
use Rattle.run_defs.specs.Turns.{does_something, steps_in, steps_of, turned}
use Rattle.run_defs.specs.declared.run.Limits.{Limits}
use Rattle.run_defs.specs.declared.run.Mark.{Mark}
use Rattle.run_defs.specs.declared.run.Mark.TheVariants.{Take, Turn, Barrier, Fetch, Ack}
use Rattle.run_laws.proofs.MachineLaws.{each_keeps}
use Rattle.run_laws.proofs.ReadyLaws.{each_next}
use Rattle.run_laws.proofs.LegalLaws.{begins_in_order}
use Rattle.run_laws.proofs.RunLaws.{IsGood, few_turns, good_kept, origin_after, steps_after, steps_few}
use Rattle.run_laws.proofs.TurnLaws.{step_cases}
use Rattle.run_laws.specs.Leases.{AreDistinct, AreOfRunning}

-- ---- lists of leases

map_pairs : (R : Lease → Lease → Type 0) (f : Lease → Lease) → ((a b : Lease) → R a b → R (f a) (f b)) → (xs : List Lease) → AllPairs R xs → AllPairs R (map f xs)
map_pairs R f keeps [] h = λ i j d lt within. absurd (omega (arith, within))
map_pairs R f keeps (x ∷ xs) h =
    AllPairs-cons R (f x) (map f xs)
    (All-map (R (f x)) f xs (λ k d lt. keeps x _ (h 0 (suc k) d (omega arith) (omega (arith, lt)))))
    (map_pairs R f keeps xs (λ i j d lt within. h (suc i) (suc j) d (omega (arith, lt)) (omega (arith, within))))

-- a test that no element passes
none_passes : (t : Lease → Bool) (P : Lease → Type 0) → ((l : Lease) → t l ≡ false → P l) → (xs : List Lease) → list_any t xs ≡ false → All P xs
none_passes t P f [] e = All-nil P
none_passes t P f (x ∷ xs) e = by_test (t x) refl (none_passes t P f xs) e
  where
    by_test : (b : Bool) → t x ≡ b → (list_any t xs ≡ false → All P xs) → (b || list_any t xs) ≡ false → All P (x ∷ xs)
    by_test true is rest e = absurd (cc)
    by_test false is rest e = All-cons P x xs (f x is) (rest e)

one_passes : (t : Lease → Bool) (P : Lease → Type 0) (xs : List Lease) → list_any t xs ≡ true → All P xs → (l : Lease) × (t l ≡ true) × P l
one_passes t P [] e all = absurd (cc)
one_passes t P (x ∷ xs) e all = by_test (t x) refl (λ more. one_passes t P xs more (All-tail P x xs all)) e
  where
    by_test : (b : Bool) → t x ≡ b → (list_any t xs ≡ true → (l : Lease) × (t l ≡ true) × P l) → (b || list_any t xs) ≡ true → (l : Lease) × (t l ≡ true) × P l
    by_test true is rest e = (x, is, all 0 x (omega arith))
    by_test false is rest e = rest e

not_true : (b : Bool) → not b ≡ true → b ≡ false
not_true true e = absurd (cc)
not_true false e = refl

OtherPid : ℕ → Lease → Type 0
OtherPid pid l = l.pid ≡ pid → ⊥

leased_pid : (worker pid : ℕ) (l : Lease) → is_lease worker pid l ≡ true → l.pid ≡ pid
leased_pid worker pid l e = eqb-true l.pid pid (and_right (l.worker == worker) (l.pid == pid) e)
  where
    and_right : (a b : Bool) → (a && b) ≡ true → b ≡ true
    and_right true b e = e
    and_right false b e = absurd (cc)

-- without a lease of a process the others are of other ones
others_differ : (worker pid : ℕ) (xs : List Lease) → AllPairs (λ a b. a.pid ≡ b.pid → ⊥) xs → list_any (is_lease worker pid) xs ≡ true → All (OtherPid pid) (filter (λ l. not (is_lease worker pid l)) xs)
unfolding OtherPid
others_differ worker pid [] h e = All-nil (OtherPid pid)
others_differ worker pid (x ∷ xs) h e = by_test (is_lease worker pid x) refl (others_differ worker pid xs (λ i j d lt within. h (suc i) (suc j) d (omega (arith, lt)) (omega (arith, within)))) e
  where
    head : All (λ b. x.pid ≡ b.pid → ⊥) xs
    head = λ k d lt. h 0 (suc k) d (omega arith) (omega (arith, lt))

    by_test : (b : Bool) → is_lease worker pid x ≡ b → (list_any (is_lease worker pid) xs ≡ true → All (OtherPid pid) (filter (λ l. not (is_lease worker pid l)) xs)) → (b || list_any (is_lease worker pid) xs) ≡ true → All (OtherPid pid) (if not b then x ∷ filter (λ l. not (is_lease worker pid l)) xs else filter (λ l. not (is_lease worker pid l)) xs)
    by_test true is rest e =
        let here = leased_pid worker pid x is in
        All-filter (λ l. not (is_lease worker pid l)) (OtherPid pid) xs (All-weaker (λ b. x.pid ≡ b.pid → ⊥) (OtherPid pid) (λ b apart same. apart (here ∙ sym same)) xs head)
    by_test false is rest e =
        let there = one_passes (is_lease worker pid) (λ b. x.pid ≡ b.pid → ⊥) xs e head in
        let differs : x.pid ≡ pid → ⊥ = λ same. there.2 (same ∙ sym (leased_pid worker pid there.0 there.1)) in
        All-cons (OtherPid pid) x (filter (λ l. not (is_lease worker pid l)) xs) differs (rest e)

-- ---- apart

no_lease_apart : AreDistinct []
no_lease_apart = record { workers = λ i j d lt within. absurd (omega (arith, within)); pids = λ i j d lt within. absurd (omega (arith, within)) }

push_apart : (leases : List Lease) (worker pid : ℕ) → is_idle leases worker ≡ true → is_unleased leases pid ≡ true → AreDistinct leases → AreDistinct (leases ++ record { worker = worker; pid = pid; moved = false } ∷ [])
push_apart leases worker pid idle unleased h = record {
  workers = all_pairs_push (λ a b. a.worker ≡ b.worker → ⊥) leases _ h.workers (none_passes (λ l. l.worker == worker) (λ l. l.worker ≡ worker → ⊥) (λ l e same. absurd (eqb-false l.worker worker e same)) leases (not_true _ idle));
  pids = all_pairs_push (λ a b. a.pid ≡ b.pid → ⊥) leases _ h.pids (none_passes (λ l. l.pid == pid) (λ l. l.pid ≡ pid → ⊥) (λ l e same. absurd (eqb-false l.pid pid e same)) leases (not_true _ unleased));
}

turn_apart : (leases : List Lease) (worker pid : ℕ) (did : Bool) → AreDistinct leases → AreDistinct (leases_after_turn worker pid did leases)
turn_apart leases worker pid did h =
    let f : Lease → Lease = λ l. record l { moved = did || l.moved } in
    let t : Lease → Bool = λ l. not (is_lease worker pid l) in
    record {
      workers = map_pairs (λ a b. a.worker ≡ b.worker → ⊥) f (λ a b r. r) (filter t leases) (AllPairs-filter (λ a b. a.worker ≡ b.worker → ⊥) t leases h.workers);
      pids = map_pairs (λ a b. a.pid ≡ b.pid → ⊥) f (λ a b r. r) (filter t leases) (AllPairs-filter (λ a b. a.pid ≡ b.pid → ⊥) t leases h.pids);
    }

-- what is asked of the next process holds of it
unleased_ready : (leases : List Lease) (P : ℕ → Type 0) (xs : List ℕ) → AllByRecursion P xs → AllByRecursion (λ x. (is_unleased leases x ≡ true) × P x) (filter (is_unleased leases) xs)
unleased_ready leases P [] h = tt
unleased_ready leases P (x ∷ xs) h = by_test (is_unleased leases x) refl (unleased_ready leases P xs h.1)
  where
    by_test : (b : Bool) → is_unleased leases x ≡ b → AllByRecursion (λ y. (is_unleased leases y ≡ true) × P y) (filter (is_unleased leases) xs) → AllByRecursion (λ y. (is_unleased leases y ≡ true) × P y) (if b then x ∷ filter (is_unleased leases) xs else filter (is_unleased leases) xs)
    by_test true e rest = ((e, h.0), rest)
    by_test false e rest = rest

Runs : Group → ℕ → Type 0
Runs g pid = (p : Proc) × (runner g pid ≡ Some p)

any_found : (t : Proc → Bool) (ps : List Proc) → list_any t ps ≡ true → (p : Proc) × (find t ps ≡ Some p)
any_found t [] e = absurd (cc)
any_found t (p ∷ ps) e = by_test (t p) (any_found t ps) e
  where
    by_test : (b : Bool) → (list_any t ps ≡ true → (q : Proc) × (find t ps ≡ Some q)) → (b || list_any t ps) ≡ true → (q : Proc) × ((if b then Some p else find t ps) ≡ Some q)
    by_test true rest e = (p, refl)
    by_test false rest e = rest e

ready_run : (s : State) (ps : List Proc) → ((pid : ℕ) → list_any (is_runner pid) ps ≡ true → list_any (is_runner pid) s.group.frame.procs ≡ true)
    → AllByRecursion (Runs s.group) (map (λ (p : Proc). p.pid) (filter (λ p. is_running p && not (is_waiting s p.pid)) ps))
unfolding Runs runner
ready_run s [] within = tt
ready_run s (p ∷ ps) within = by_test (is_running p) refl (is_waiting s p.pid) (ready_run s ps (λ pid e. within pid (or_right (is_runner pid p) (list_any (is_runner pid) ps) e)))
  where
    or_right : (a b : Bool) → b ≡ true → (a || b) ≡ true
    or_right true b e = refl
    or_right false b e = e

    by_test : (b : Bool) → is_running p ≡ b → (w : Bool) → AllByRecursion (Runs s.group) (map (λ (q : Proc). q.pid) (filter (λ q. is_running q && not (is_waiting s q.pid)) ps))
        → AllByRecursion (Runs s.group) (map (λ (q : Proc). q.pid) (if b && not w then p ∷ filter (λ q. is_running q && not (is_waiting s q.pid)) ps else filter (λ q. is_running q && not (is_waiting s q.pid)) ps))
    by_test true is true rest = rest
    by_test true is false rest =
        let same : (p.pid == p.pid) ≡ true = grind arith in
        let mine : is_runner p.pid p ≡ true = rw (is, same) refl in
        (any_found (is_runner p.pid) s.group.frame.procs (within p.pid (ap (λ b. b || list_any (is_runner p.pid) ps) mine)), rest)
    by_test false is w rest = rest

next_is : (leases : List Lease) (s : State) (last pid : ℕ) → next_pid last (filter (is_unleased leases) (ready s)) ≡ Some pid → (is_unleased leases pid ≡ true) × Runs s.group pid
unfolding ready
next_is leases s last pid next = each_next (λ x. (is_unleased leases x ≡ true) × Runs s.group x) last _ pid (unleased_ready leases (Runs s.group) _ (ready_run s s.group.frame.procs (λ p e. e))) next

pub apart_kept : (limits : Limits) (r : Progress) (m : Mark) → Allowed limits r m → AreDistinct r.leases → AreDistinct (after_mark limits.quantum r m).leases
apart_kept limits r (Take worker pid) a h = push_apart r.leases worker pid a.idle (next_is r.leases r.state r.taken pid a.next).0 h
apart_kept limits r (Turn worker pid n) a h = turn_apart r.leases worker pid (does_something r.state pid n) h
apart_kept limits r (Barrier epoch) a h = h
apart_kept limits r (Fetch epoch) a h = h
apart_kept limits r (Ack epoch) a h = h

pub leases_apart : (start : Group) (origin : ℕ) (limits : Limits) (marks : List Mark) → Legal start origin limits marks → AreDistinct (progress_after limits.quantum (progress_at origin start) marks).leases
leases_apart start origin limits marks legal = each_keeps (Allowed limits) limits.quantum (λ r. AreDistinct r.leases) (apart_kept limits) (progress_at origin start) marks legal no_lease_apart

-- ---- running

other_step : (s : State) (pid other : ℕ) → GroupIsValid s.group → (other ≡ pid → ⊥) → Runs s.group other → Runs (do_step s pid).group other
unfolding Runs
other_step s pid other valid differ runs =
    step_cases (λ t. Runs t.group other) s pid runs
    (let kept = others_stay (is_durable s.standing pid) s.group pid other runs.0 valid.sound.frame.procs.rise (apart_by pid other (λ e. differ (sym e))) runs.1 in (kept.0, kept.1))
  where
    apart_by : (a b : ℕ) → (a ≡ b → ⊥) → (a == b) ≡ false
    apart_by a b differ = by_test (a == b) refl
      where
        by_test : (t : Bool) → (a == b) ≡ t → t ≡ false
        by_test true e = absurd (differ (eqb-true a b e))
        by_test false e = refl

other_steps : (s : State) (pid n other : ℕ) → ((k : ℕ) → k < n → GroupIsValid (steps_of s pid k).group) → (other ≡ pid → ⊥) → Runs s.group other → Runs (steps_of s pid n).group other
unfolding steps_of
other_steps s pid zero other valid differ runs = runs
other_steps s pid (suc n) other valid differ runs = other_step (steps_of s pid n) pid other (valid n (omega arith)) differ (other_steps s pid n other (λ k lt. valid k (omega (arith, lt))) differ runs)

-- A turn leaves the others' processes running, and its own lease ends.
turn_runs : (quantum : ℕ) (r : Progress) (worker pid n : ℕ) → ((k : ℕ) → k < steps_in quantum n → GroupIsValid (steps_of r.state pid k).group)
    → list_any (is_lease worker pid) r.leases ≡ true → AreDistinct r.leases → AreOfRunning r.state.group r.leases
    → AreOfRunning (turned quantum r.state pid n).group (leases_after_turn worker pid (does_something r.state pid n) r.leases)
unfolding OtherPid Runs
turn_runs quantum r worker pid n valid leased apart run =
    let t : Lease → Bool = λ l. not (is_lease worker pid l) in
    let others = others_differ worker pid r.leases apart.pids leased in
    let before = All-filter t (λ l. Runs r.state.group l.pid) r.leases run in
    All-map {X = Lease} (λ l. Runs (turned quantum r.state pid n).group l.pid) (λ l. record l { moved = does_something r.state pid n || l.moved }) (filter t r.leases)
    (λ k d lt. other_steps r.state pid (steps_in quantum n) _ valid (others k d lt) (before k d lt))

module _ (limits : Limits) (origin : ℕ) (small : LimitsFit limits) where
  StandsApart : Progress → Type 0
  StandsApart r = IsGood limits origin small r × AreDistinct r.leases × AreOfRunning r.state.group r.leases

  kept_by : (r : Progress) (m : Mark) → Allowed limits r m → StandsApart r → StandsApart (after_mark limits.quantum r m)
  unfolding StandsApart Runs
  kept_by r m a (good, apart, run) = (good_kept limits origin small r m a good, apart_kept limits r m a apart, by_mark m a)
    where
      by_mark : (x : Mark) → Allowed limits r x → AreOfRunning (after_mark limits.quantum r x).state.group (after_mark limits.quantum r x).leases
      by_mark (Take worker pid) b = All-push (λ l. (p : Proc) × (runner r.state.group l.pid ≡ Some p)) r.leases _ run (next_is r.leases r.state r.taken pid b.next).1
      by_mark (Turn worker pid n) b =
          let few = few_turns limits origin small r good.0 in let quantum = small.quantum.1 in let less = steps_few limits.quantum n b.turn.within in
          turn_runs limits.quantum r worker pid n (λ k lt. (steps_after (100000 * r.turns) r.state pid k (omega (arith, few, less, quantum, lt)) good.1).valid) b.leased apart run
      by_mark (Barrier epoch) b = subst (λ (l : List Lease). All (λ x. (p : Proc) × (runner (after_mark limits.quantum r (Barrier epoch)).state.group x.pid ≡ Some p)) l) (sym b.rests.no_lease) (All-nil _)
      by_mark (Fetch epoch) b = run
      by_mark (Ack epoch) b = run

  pub leased_run : (start : Group) (marks : List Mark) → GroupIsValid start → HasUnwornNumbers start.frame → Legal start origin limits marks
      → let r = progress_after limits.quantum (progress_at origin start) marks in AreOfRunning r.state.group r.leases
  unfolding StandsApart
  leased_run start marks v unworn legal =
      (each_keeps (Allowed limits) limits.quantum StandsApart kept_by (progress_at origin start) marks legal
      ((begins_in_order limits origin start, origin_after start v unworn), no_lease_apart, All-nil (λ l. (p : Proc) × (runner start l.pid ≡ Some p)))).2
