-- A run on one thread: which mark is next, that there is one trace, and that it comes from one rest to the next.
use Rattle.std.proofs.Common.{◌≡◌, ◌⊎◌, inl, inr, ℕ, ◌+◌, ◌<◌, ◌≤◌, ◌==◌, ◌&&◌, ◌||◌, not, Bool, true, false, List, [], ◌∷◌, ◌++◌, length, map, Some, refl, ap, sym, ◌∙◌, subst, arith, rules}
use Rattle.std.specs.Prelude.{if◌then◌else◌, filter}
use Rattle.std.specs.List.{list_any}
use Rattle.group_defs.specs.Group.{Group}
use Rattle.group_defs.specs.Step.{is_waiting}
use Rattle.run_laws.proofs.LegalLaws.{begins_in_order, order_kept}
use Rattle.run_laws.proofs.MachineLaws.{each_keeps, each_split}
use Rattle.run_laws.proofs.ReadyLaws.{all_free, done_ready, next_acts}
use Rattle.run_laws.proofs.TurnLaws.{one_length, turn_epochs}
use Rattle.run_laws.specs.Rests.{IsNextTurn}
use Rattle.run_defs.specs.Ends.{HasEnded}
use Rattle.run_defs.specs.Legal.{IsAtRest, HasBarrierCause, TakeAllowed, has_moved, is_idle, is_unleased, next_pid, ready}
use Rattle.run_defs.specs.Progress.{EachMark, Lease, Progress, after_mark, is_lease, leases_after_turn, progress_after, progress_at}
use Rattle.run_defs.specs.Solo.{IsSoloMark, IsSoloSoFar, IsSoloTrace}
use Rattle.run_defs.specs.Turns.{IsTurn, does_something}
use Rattle.run_laws.specs.Order.{IsInOrder, Follows}
use Rattle.run_defs.specs.declared.run.Limits.{Limits}
use Rattle.run_defs.specs.declared.run.Mark.{Mark}
use Rattle.run_defs.specs.declared.run.Mark.TheVariants.{Take, Turn, Barrier, Fetch, Ack}

abbrev pub lease_at : ℕ → ℕ → Lease
lease_at worker pid = record { worker = worker; pid = pid; moved = false }

abbrev pub lease_of : ℕ → Lease
lease_of pid = lease_at 0 pid

-- at rest, in a turn, or in a commit
pub data Phase (r : Progress) : Type 0 where
  resting : IsAtRest r → Phase r
  turning : (pid : ℕ) → r.leases ≡ lease_of pid ∷ [] → r.state.standing.acked ≡ r.state.standing.last → is_waiting r.state pid ≡ false → Phase r
  committing : r.leases ≡ [] → r.state.standing.last ≡ r.state.standing.acked + 1 → Phase r

pub no_room : (leases : List Lease) (t : Lease → Bool) → leases ≡ [] → list_any t leases ≡ true → ⊥
no_room leases t none h = let over : list_any t [] ≡ true = sym (ap (list_any t) none) ∙ h in cc

module _ (limits : Limits) (origin : ℕ) (r : Progress) (o : IsInOrder limits origin r) where
  -- which mark is next
  abbrev pub Expects : Phase r → Mark → Type 0
  Expects (resting at) m = ((pid : ℕ) × (m ≡ Take 0 pid) × (next_pid r.taken (ready r.state) ≡ Some pid) × (HasBarrierCause limits r → ⊥)) ⊎ ((m ≡ Barrier (r.state.standing.last + 1)) × HasBarrierCause limits r)
  Expects (turning pid is acked acts) m = (n : ℕ) × (m ≡ Turn 0 pid n) × IsTurn limits.quantum r.state pid n
  Expects (committing none one) m = ((m ≡ Fetch r.state.standing.last) × (r.fetched < r.state.standing.last)) ⊎ ((m ≡ Ack r.state.standing.last) × (r.state.standing.last ≤ r.fetched))

  pub no_fetch : (e : ℕ) → r.state.standing.acked ≡ r.state.standing.last → e ≤ r.state.standing.last → r.fetched < e → ⊥
  no_fetch e acked made first = let fetched = o.fetched in omega (arith, acked, made, first, fetched)

  pub no_ack : (e : ℕ) → r.state.standing.acked ≡ r.state.standing.last → e ≤ r.fetched → r.state.standing.acked < e → ⊥
  no_ack e acked fetched first = let made = o.made in omega (arith, acked, fetched, first, made)

  not_acked : r.state.standing.last ≡ r.state.standing.acked + 1 → r.state.standing.acked ≡ r.state.standing.last → ⊥
  not_acked one acked = omega (arith, one, acked)

  free_next : (pid : ℕ) → r.leases ≡ [] → next_pid r.taken (filter (is_unleased r.leases) (ready r.state)) ≡ next_pid r.taken (ready r.state)
  free_next pid none = ap (λ (l : List Lease). next_pid r.taken (filter (is_unleased l) (ready r.state))) none ∙ ap (next_pid r.taken) (all_free (ready r.state))

  pub its_lease : (worker pid q : ℕ) → r.leases ≡ lease_of q ∷ [] → list_any (is_lease worker pid) r.leases ≡ true → (worker ≡ 0) × (pid ≡ q)
  its_lease worker pid q is leased =
      let hit : (((0 == worker) && (q == pid)) || false) ≡ true = sym (ap (list_any (is_lease worker pid)) is) ∙ leased in
      (grind (arith, hit), grind (arith, hit))

  pub next_mark : (p : Phase r) (m : Mark) → IsSoloMark limits r m → Expects p m
  next_mark (resting at) (Take w p) (a, s) =
      inl (p, ap (λ (n : ℕ). Take n p) s.worker_is, sym (free_next p at.no_lease) ∙ a.next, λ due. s.no_barrier (r.state.standing.last + 1) (record { rises = refl; rests = at; cause = due }))
  next_mark (resting at) (Turn w p n) (a, s) = absurd (no_room r.leases (is_lease w p) at.no_lease a.leased)
  next_mark (resting at) (Barrier e) (a, s) = inr (ap Barrier a.rises, a.cause)
  next_mark (resting at) (Fetch e) (a, s) = absurd (no_fetch e at.acked a.made a.first)
  next_mark (resting at) (Ack e) (a, s) = absurd (no_ack e at.acked a.fetched a.first)
  next_mark (turning q is acked acts) (Take w p) (a, s) = absurd (let over : [] ≡ lease_of q ∷ [] = sym s.rests.no_lease ∙ is in cc)
  next_mark (turning q is acked acts) (Turn w p n) (a, s) =
      let same = its_lease w p q is a.leased in let P : ℕ → Type 0 = λ x. IsTurn limits.quantum r.state x n in
      (n, ap (λ (x : ℕ). Turn x p n) same.0 ∙ ap (λ (x : ℕ). Turn 0 x n) same.1, subst P same.1 a.turn)
  next_mark (turning q is acked acts) (Barrier e) (a, s) = absurd (let over : [] ≡ lease_of q ∷ [] = sym a.rests.no_lease ∙ is in cc)
  next_mark (turning q is acked acts) (Fetch e) (a, s) = absurd (no_fetch e acked a.made a.first)
  next_mark (turning q is acked acts) (Ack e) (a, s) = absurd (no_ack e acked a.fetched a.first)
  next_mark (committing none one) (Take w p) (a, s) = absurd (not_acked one s.rests.acked)
  next_mark (committing none one) (Turn w p n) (a, s) = absurd (no_room r.leases (is_lease w p) none a.leased)
  next_mark (committing none one) (Barrier e) (a, s) = absurd (not_acked one a.rests.acked)
  next_mark (committing none one) (Fetch e) (a, s) =
      let made = a.made in let first = a.first in let fetched = o.fetched in
      let same : e ≡ r.state.standing.last = omega (arith, one, made, first, fetched) in
      inl (ap Fetch same, omega (arith, same, first))
  next_mark (committing none one) (Ack e) (a, s) =
      let fetched = a.fetched in let first = a.first in let made = o.made in
      let same : e ≡ r.state.standing.last = omega (arith, one, made, first, fetched) in
      inr (ap Ack same, omega (arith, same, fetched))

  same_next : (p : Phase r) (m m' : Mark) → Expects p m → Expects p m' → m ≡ m'
  same_next (resting at) m m' (inl (q, is, next, not_due)) (inl (q', is', next', not_due')) = let same : q ≡ q' = cc in is ∙ ap (Take 0) same ∙ sym is'
  same_next (resting at) m m' (inl (q, is, next, not_due)) (inr (is', due)) = absurd (not_due due)
  same_next (resting at) m m' (inr (is, due)) (inl (q', is', next', not_due')) = absurd (not_due' due)
  same_next (resting at) m m' (inr (is, due)) (inr (is', due')) = is ∙ sym is'
  same_next (turning q leased acked acts) m m' (n, is, turn) (n', is', turn') = is ∙ ap (Turn 0 q) (one_length limits.quantum r.state q n n' turn turn') ∙ sym is'
  same_next (committing none one) m m' (inl (is, first)) (inl (is', first')) = is ∙ sym is'
  same_next (committing none one) m m' (inl (is, first)) (inr (is', fetched)) = absurd (omega (arith, first, fetched))
  same_next (committing none one) m m' (inr (is, fetched)) (inl (is', first)) = absurd (omega (arith, first, fetched))
  same_next (committing none one) m m' (inr (is, fetched)) (inr (is', fetched')) = is ∙ sym is'

  pub same_mark : Phase r → (m m' : Mark) → IsSoloMark limits r m → IsSoloMark limits r m' → m ≡ m'
  same_mark p m m' a a' = same_next p m m' (next_mark p m a) (next_mark p m' a')

  -- no mark stands after an ended run
  pub no_more_marks : (m : Mark) → HasEnded limits r → IsSoloMark limits r m → ⊥
  no_more_marks (Take w p) end (a, s) = s.goes_on end
  no_more_marks (Turn w p n) end (a, s) = no_room r.leases (is_lease w p) end.0.rests.no_lease a.leased
  no_more_marks (Barrier e) end (a, s) = let none = end.0.no_turn in let some = a.cause.turn in omega (arith, none, some)
  no_more_marks (Fetch e) end (a, s) = no_fetch e end.0.rests.acked a.made a.first
  no_more_marks (Ack e) end (a, s) = no_ack e end.0.rests.acked a.fetched a.first

  -- ---- the phase after it

  given_back : (worker pid q : ℕ) (did : Bool) → r.leases ≡ lease_of q ∷ [] → list_any (is_lease worker pid) r.leases ≡ true → leases_after_turn worker pid did r.leases ≡ []
  given_back worker pid q did is leased = ap (leases_after_turn worker pid did) is ∙ gone (is_lease worker pid (lease_of q)) (sym (ap (list_any (is_lease worker pid)) is) ∙ leased)
    where
      gone : (b : Bool) → (b || false) ≡ true → map {A = Lease} (λ l. record l { moved = did || l.moved }) (if not b then lease_of q ∷ [] else []) ≡ []
      gone true e = refl
      gone false e = absurd (cc)

  pub turn_rests : (worker pid n q : ℕ) → r.leases ≡ lease_of q ∷ [] → r.state.standing.acked ≡ r.state.standing.last → list_any (is_lease worker pid) r.leases ≡ true → IsAtRest (after_mark limits.quantum r (Turn worker pid n))
  turn_rests worker pid n q is acked leased = record {
    no_lease = given_back worker pid q (does_something r.state pid n) is leased;
    acked = let same = turn_epochs limits.quantum r.state pid n in same.1 ∙ acked ∙ sym same.0;
  }

  pub phase_kept : (m : Mark) → IsSoloMark limits r m → Phase r → Phase (after_mark limits.quantum r m)
  phase_kept (Take w p) (a, s) _ =
      let none = s.rests.no_lease in
      let lease : ℕ → Lease = λ x. record { worker = x; pid = p; moved = false } in
      turning p (ap (λ (l : List Lease). l ++ lease w ∷ []) none ∙ ap (λ (x : ℕ). lease x ∷ []) s.worker_is) s.rests.acked (next_acts r.state r.taken p (sym (free_next p none) ∙ a.next))
  phase_kept (Turn w p n) (a, s) (resting at) = absurd (no_room r.leases (is_lease w p) at.no_lease a.leased)
  phase_kept (Turn w p n) (a, s) (turning q is acked acts) = resting (turn_rests w p n q is acked a.leased)
  phase_kept (Turn w p n) (a, s) (committing none one) = absurd (no_room r.leases (is_lease w p) none a.leased)
  phase_kept (Barrier e) (a, s) _ = let rises = a.rises in let acked = a.rests.acked in committing a.rests.no_lease (omega (arith, rises, acked))
  phase_kept (Fetch e) (a, s) (resting at) = absurd (no_fetch e at.acked a.made a.first)
  phase_kept (Fetch e) (a, s) (turning q is acked acts) = absurd (no_fetch e acked a.made a.first)
  phase_kept (Fetch e) (a, s) (committing none one) = committing none one
  phase_kept (Ack e) (a, s) (resting at) = absurd (no_ack e at.acked a.fetched a.first)
  phase_kept (Ack e) (a, s) (turning q is acked acts) = absurd (no_ack e acked a.fetched a.first)
  phase_kept (Ack e) (a, s) (committing none one) = let fetched = a.fetched in let first = a.first in let made = o.made in resting (record { no_lease = none; acked = omega (arith, one, fetched, first, made) })

  -- ---- marks that are in order

  itself : (n : ℕ) → (n == n) ≡ true
  itself n = search rules

  pub take_next : IsAtRest r → (pid : ℕ) → IsNextTurn limits r pid → IsSoloMark limits r (Take 0 pid)
  take_next at pid next = (allowed, record { worker_is = refl; rests = at; no_barrier = λ e b. not_due b.cause.cause; goes_on = not_over })
    where
      allowed : TakeAllowed limits r 0 pid
      allowed = record {
        worker_is = omega arith;
        idle = ap (λ (l : List Lease). is_idle l 0) at.no_lease;
        next = free_next pid at.no_lease ∙ next.next;
        interval = omega (arith, ap length at.no_lease, next.interval);
        turns = omega (arith, ap length at.no_lease, next.turns);
      }

      not_none : ready r.state ≡ [] → ⊥
      not_none none = let over : next_pid r.taken [] ≡ Some pid = sym (ap (next_pid r.taken) none) ∙ next.next in cc

      not_due : (r.turns_since ≡ limits.every) ⊎ ((r.turns ≡ limits.turns) ⊎ (ready r.state ≡ [])) → ⊥
      not_due (inl every) = omega (arith, next.interval, every)
      not_due (inr (inl all)) = omega (arith, next.turns, all)
      not_due (inr (inr none)) = not_none none

      not_over : HasEnded limits r → ⊥
      not_over (settled, inl done) = not_none (done_ready r.state done)
      not_over (settled, inr (inl stuck)) = not_none stuck.all_wait
      not_over (settled, inr (inr spent)) = omega (arith, next.turns, spent.turns)

  pub turn_next : (pid n : ℕ) → r.leases ≡ lease_of pid ∷ [] → is_waiting r.state pid ≡ false → IsTurn limits.quantum r.state pid n → IsSoloMark limits r (Turn 0 pid n)
  turn_next pid n is acts turn = (record { leased = its; turn = turn; moves = moves }, tt)
    where
      its : list_any (is_lease 0 pid) r.leases ≡ true
      its = ap (list_any (is_lease 0 pid)) is ∙ ap (λ (t : Bool). t || false) (itself pid)

      not_both : (b more : Bool) → (not (b && false) || more) ≡ true
      not_both true more = refl
      not_both false more = refl

      moves : (does_something r.state pid n || has_moved r.leases 0 pid) ≡ true
      moves = ap (λ (t : Bool). not ((n == 0) && t) || has_moved r.leases 0 pid) acts ∙ not_both (n == 0) _

  pub barrier_next : IsAtRest r → HasBarrierCause limits r → (e : ℕ) → e ≡ r.state.standing.last + 1 → IsSoloMark limits r (Barrier e)
  barrier_next at due e is = (record { rises = is; rests = at; cause = due }, tt)

-- two whole traces from one place are one
abbrev Whole : Limits → Progress → List Mark → Type 0
Whole limits r ms = EachMark (IsSoloMark limits) limits.quantum r ms × HasEnded limits (progress_after limits.quantum r ms)

one_after : (limits : Limits) (origin : ℕ) (r : Progress) (ms ms' : List Mark) → IsInOrder limits origin r → Phase r → Whole limits r ms → Whole limits r ms' → ms ≡ ms'
unfolding EachMark
one_after limits origin r [] [] o p w w' = refl
one_after limits origin r [] (m' ∷ ms') o p w w' = absurd (no_more_marks limits origin r o m' w.1 w'.0.0)
one_after limits origin r (m ∷ ms) [] o p w w' = absurd (no_more_marks limits origin r o m w'.1 w.0.0)
one_after limits origin r (m ∷ ms) (m' ∷ ms') o p w w' =
    let same : m' ≡ m = same_mark limits origin r o p m' m w'.0.0 w.0.0 in
    let There : Mark → Type 0 = λ x. Whole limits (after_mark limits.quantum r x) ms' in
    let rest : ms ≡ ms' = one_after limits origin (after_mark limits.quantum r m) ms ms' (order_kept limits origin r m w.0.0.0 o) (phase_kept limits origin r o m w.0.0 p) (w.0.1, w.1) (subst There same (w'.0.1, w'.1)) in
    cc

begins_resting : (origin : ℕ) (start : Group) → IsAtRest (progress_at origin start)
begins_resting origin start = record { no_lease = refl; acked = refl }

pub one_trace : (start : Group) (origin : ℕ) (limits : Limits) (ms ms' : List Mark) → IsSoloTrace start origin limits ms → IsSoloTrace start origin limits ms' → ms ≡ ms'
one_trace start origin limits ms ms' a b =
    one_after limits origin (progress_at origin start) ms ms' (begins_in_order limits origin start) (resting (begins_resting origin start)) (a.so_far, a.ended) (b.so_far, b.ended)

-- a Take is followed by its Turn, a Barrier by its Fetch, a Fetch by its Ack
module _ (limits : Limits) (origin : ℕ) (r : Progress) (o : IsInOrder limits origin r) (p : Phase r) where
  after_next : (x : Mark) (a : IsSoloMark limits r x) → Phase (after_mark limits.quantum r x) → (y : Mark) → IsSoloMark limits (after_mark limits.quantum r x) y → Follows x y
  after_next (Take w q) a (resting at) y b = absurd (no_room _ (is_lease w q) at.no_lease (taken_there r.leases w q))
    where
      or_true : (t : Bool) → (t || true) ≡ true
      or_true true = refl
      or_true false = refl

      taken_there : (ls : List Lease) (w q : ℕ) → list_any (is_lease w q) (ls ++ record { worker = w; pid = q; moved = false } ∷ []) ≡ true
      taken_there [] w q = search rules
      taken_there (l ∷ ls) w q = ap (λ (t : Bool). is_lease w q l || t) (taken_there ls w q) ∙ or_true (is_lease w q l)
  after_next (Take w q) a (turning q' is acked acts) y b =
      let next = next_mark limits origin (after_mark limits.quantum r (Take w q)) (order_kept limits origin r (Take w q) a.0 o) (turning q' is acked acts) y b in
      let one : lease_at w q ∷ [] ≡ lease_of q' ∷ [] = ap (λ (l : List Lease). l ++ lease_at w q ∷ []) (sym a.1.rests.no_lease) ∙ is in
      let head : lease_at w q ≡ lease_of q' = ap (λ (l : List Lease). elim l [ [] ↦ lease_of q' | x ∷ xs ↦ x ]) one in
      (next.0, next.1 ∙ ap (λ (x : ℕ). Turn x q' next.0) (sym (ap (λ (l : Lease). l.worker) head)) ∙ ap (λ (x : ℕ). Turn w x next.0) (sym (ap (λ (l : Lease). l.pid) head)))
  after_next (Take w q) a (committing none one) y b = absurd (omega (arith, one, a.1.rests.acked))
  after_next (Turn w q n) a p' y b = tt
  after_next (Barrier e) a (resting at) y b = absurd (omega (arith, at.acked, a.0.rises, o.fetched, o.made))
  after_next (Barrier e) a (turning q is acked acts) y b = absurd (omega (arith, acked, a.0.rises, o.fetched, o.made))
  after_next (Barrier e) a (committing none one) y b = by_next (next_mark limits origin (after_mark limits.quantum r (Barrier e)) (order_kept limits origin r (Barrier e) a.0 o) (committing none one) y b)
    where
      by_next : ((y ≡ Fetch e) × (r.fetched < e)) ⊎ ((y ≡ Ack e) × (e ≤ r.fetched)) → y ≡ Fetch e
      by_next (inl (is, first)) = is
      by_next (inr (is, fetched)) = absurd (omega (arith, fetched, a.0.rises, o.made))
  after_next (Fetch e) a (resting at) y b = absurd (omega (arith, at.acked, a.0.made, a.0.first, o.fetched))
  after_next (Fetch e) a (turning q is acked acts) y b = absurd (omega (arith, acked, a.0.made, a.0.first, o.fetched))
  after_next (Fetch e) a (committing none one) y b = by_next (next_mark limits origin (after_mark limits.quantum r (Fetch e)) (order_kept limits origin r (Fetch e) a.0 o) (committing none one) y b)
    where
      same : e ≡ r.state.standing.last
      same = omega (arith, one, a.0.made, a.0.first, o.fetched)

      by_next : ((y ≡ Fetch r.state.standing.last) × (e < r.state.standing.last)) ⊎ ((y ≡ Ack r.state.standing.last) × (r.state.standing.last ≤ e)) → y ≡ Ack e
      by_next (inl (is, first)) = absurd (omega (arith, same, first))
      by_next (inr (is, fetched)) = is ∙ ap Ack (sym same)
  after_next (Ack e) a p' y b = tt

  pub follows_mark : (x y : Mark) (a : IsSoloMark limits r x) → IsSoloMark limits (after_mark limits.quantum r x) y → Follows x y
  follows_mark x y a b = after_next x a (phase_kept limits origin r o x a p) y b

pub solo_good : (start : Group) (origin : ℕ) (limits : Limits) (marks : List Mark) → IsSoloSoFar start origin limits marks → let r = progress_after limits.quantum (progress_at origin start) marks in IsInOrder limits origin r × Phase r
solo_good start origin limits marks s =
    each_keeps (IsSoloMark limits) limits.quantum (λ r. IsInOrder limits origin r × Phase r) (λ r m a both. (order_kept limits origin r m a.0 both.0, phase_kept limits origin r both.0 m a both.1)) (progress_at origin start) marks s
    (begins_in_order limits origin start, resting (begins_resting origin start))

pub follows : (start : Group) (origin : ℕ) (limits : Limits) (a : List Mark) (x y : Mark) (b : List Mark) → IsSoloSoFar start origin limits (a ++ x ∷ y ∷ b) → Follows x y
unfolding EachMark
follows start origin limits a x y b s =
    let parts = each_split (IsSoloMark limits) limits.quantum (progress_at origin start) a (x ∷ y ∷ b) s in
    let good = solo_good start origin limits a parts.0 in
    follows_mark limits origin (progress_after limits.quantum (progress_at origin start) a) good.0 good.1 x y parts.1.0 parts.1.1.0
