-- What stands after a trace is what its marks say by counting and searching.
use Rattle.std.proofs.Common.{◌≡◌, ◌⊎◌, inl, inr, ℕ, ◌+◌, ◌<◌, ◌≤◌, ◌==◌, ◌&&◌, ◌||◌, not, Bool, true, false, List, [], ◌∷◌, ◌++◌, map, refl, ap, sym, ◌∙◌, subst, arith}
use Rattle.std.specs.Prelude.{◌↔◌, if◌then◌else◌, filter, nat_le, nat_lt}
use Rattle.std.specs.List.{fold, list_all, list_any}
use Rattle.std.proofs.lemmas.Bool.{and_from, and_parts, cases_lt, eq-eqb, eqb-true, le-leb, leb-true, lt-ltb, ltb-true}
use Rattle.std.proofs.lemmas.List.{map-append}
use Rattle.std.proofs.lemmas.List.Sums.{sum_by-append, sum_by-cons}
use Rattle.group_defs.specs.Group.{Group}
use Rattle.run_laws.proofs.LegalLaws.{begins_in_order, in_order, order_kept}
use Rattle.run_laws.proofs.TurnLaws.{turn_epochs}
use Rattle.run_defs.specs.Marks.{all_acked, barriers_in, is_ack_of, is_acked, is_barrier_of, is_fetch_of, is_turn, since_barrier, turns_in, is_barrier}
use Rattle.run_laws.specs.Counts.{IsCounted, is_between, last_taken, leases_after, leases_in, taken_after}
use Rattle.run_defs.specs.Legal.{AckAllowed, Allowed, FetchAllowed, Legal}
use Rattle.run_defs.specs.Progress.{EachMark, Lease, Progress, after_mark, is_lease, leases_after_turn, progress_after, progress_at}
use Rattle.run_defs.specs.Turns.{does_something}
use Rattle.run_laws.specs.Order.{IsInOrder}
use Rattle.run_defs.specs.declared.run.Limits.{Limits}
use Rattle.run_defs.specs.declared.run.Mark.{Mark}
use Rattle.run_defs.specs.declared.run.Mark.TheVariants.{Take, Turn, Barrier, Fetch, Ack}

-- ---- after any marks

abbrev one_turn : Mark → ℕ
one_turn m = if is_turn m then 1 else 0

turns_one : (quantum : ℕ) (r : Progress) (m : Mark) → (after_mark quantum r m).turns ≡ r.turns + one_turn m
turns_one quantum r (Take worker pid) = omega arith
turns_one quantum r (Turn worker pid n) = omega arith
turns_one quantum r (Barrier epoch) = omega arith
turns_one quantum r (Fetch epoch) = omega arith
turns_one quantum r (Ack epoch) = omega arith

turns_from : (quantum : ℕ) (r : Progress) (marks : List Mark) → (progress_after quantum r marks).turns ≡ r.turns + turns_in marks
turns_from quantum r [] = omega arith
turns_from quantum r (m ∷ ms) = let sum = sum_by-cons one_turn m ms in let one = turns_one quantum r m in turns_from quantum (after_mark quantum r m) ms ∙ omega (arith, sum, one)

abbrev since_after : List Mark → Mark → List Mark
since_after so_far m = if is_barrier m then [] else so_far ++ m ∷ []

since_one : (quantum : ℕ) (r : Progress) (so_far : List Mark) (m : Mark) → r.turns_since ≡ turns_in so_far → (after_mark quantum r m).turns_since ≡ turns_in (since_after so_far m)
since_one quantum r so_far (Take worker pid) is = omega (arith, is, sum_by-append one_turn so_far (Take worker pid ∷ []))
since_one quantum r so_far (Turn worker pid n) is = omega (arith, is, sum_by-append one_turn so_far (Turn worker pid n ∷ []))
since_one quantum r so_far (Barrier epoch) is = refl
since_one quantum r so_far (Fetch epoch) is = omega (arith, is, sum_by-append one_turn so_far (Fetch epoch ∷ []))
since_one quantum r so_far (Ack epoch) is = omega (arith, is, sum_by-append one_turn so_far (Ack epoch ∷ []))

since_from : (quantum : ℕ) (r : Progress) (so_far marks : List Mark) → r.turns_since ≡ turns_in so_far → (progress_after quantum r marks).turns_since ≡ turns_in (fold since_after so_far marks)
since_from quantum r so_far [] is = is
since_from quantum r so_far (m ∷ ms) is = since_from quantum (after_mark quantum r m) (since_after so_far m) ms (since_one quantum r so_far m is)

abbrev pub pair_of : Lease → ℕ × ℕ
pair_of l = (l.worker, l.pid)

given_back : (worker pid : ℕ) (did : Bool) (ls : List Lease) → map pair_of (leases_after_turn worker pid did ls) ≡ filter (λ l. not ((l.0 == worker) && (l.1 == pid))) (map pair_of ls)
given_back worker pid did [] = refl
given_back worker pid did (l ∷ ls) = by_test (is_lease worker pid l) (given_back worker pid did ls)
  where
    rest : List (ℕ × ℕ)
    rest = filter (λ l. not ((l.0 == worker) && (l.1 == pid))) (map pair_of ls)

    by_test : (t : Bool) → map pair_of (leases_after_turn worker pid did ls) ≡ rest
        → map pair_of (map {A = Lease} (λ x. record x { moved = did || x.moved }) (if not t then l ∷ filter (λ x. not (is_lease worker pid x)) ls else filter (λ x. not (is_lease worker pid x)) ls)) ≡ (if not t then pair_of l ∷ rest else rest)
    by_test true e = e
    by_test false e = ap (λ (xs : List (ℕ × ℕ)). pair_of l ∷ xs) e

leases_one : (quantum : ℕ) (r : Progress) (m : Mark) → map pair_of (after_mark quantum r m).leases ≡ leases_after (map pair_of r.leases) m
leases_one quantum r (Take worker pid) = map-append pair_of r.leases _
leases_one quantum r (Turn worker pid n) = given_back worker pid (does_something r.state pid n) r.leases
leases_one quantum r (Barrier epoch) = refl
leases_one quantum r (Fetch epoch) = refl
leases_one quantum r (Ack epoch) = refl

leases_from : (quantum : ℕ) (r : Progress) (marks : List Mark) → map pair_of (progress_after quantum r marks).leases ≡ fold leases_after (map pair_of r.leases) marks
leases_from quantum r [] = refl
leases_from quantum r (m ∷ ms) = leases_from quantum (after_mark quantum r m) ms ∙ ap (λ (ls : List (ℕ × ℕ)). fold leases_after ls ms) (leases_one quantum r m)

taken_from : (quantum : ℕ) (r : Progress) (marks : List Mark) → (progress_after quantum r marks).taken ≡ fold taken_after r.taken marks
taken_from quantum r [] = refl
taken_from quantum r (Take worker pid ∷ ms) = taken_from quantum (after_mark quantum r (Take worker pid)) ms
taken_from quantum r (Turn worker pid n ∷ ms) = taken_from quantum (after_mark quantum r (Turn worker pid n)) ms
taken_from quantum r (Barrier epoch ∷ ms) = taken_from quantum (after_mark quantum r (Barrier epoch)) ms
taken_from quantum r (Fetch epoch ∷ ms) = taken_from quantum (after_mark quantum r (Fetch epoch)) ms
taken_from quantum r (Ack epoch ∷ ms) = taken_from quantum (after_mark quantum r (Ack epoch)) ms

module _ (quantum origin : ℕ) (start : Group) (marks : List Mark) where
  abbrev here : Progress
  here = progress_after quantum (progress_at origin start) marks

  pub turns_counted : here.turns ≡ turns_in marks
  turns_counted = turns_from quantum (progress_at origin start) marks ∙ omega arith

  pub since_counted : here.turns_since ≡ turns_in (since_barrier marks)
  since_counted = since_from quantum (progress_at origin start) [] marks refl

  pub leases_found : map pair_of here.leases ≡ leases_in marks
  leases_found = leases_from quantum (progress_at origin start) marks

  pub taken_found : here.taken ≡ last_taken marks
  taken_found = taken_from quantum (progress_at origin start) marks

-- ---- after legal marks

-- A count of epochs rises by one with each mark of its kind, which names the new count.
abbrev RisesWith : (Progress → ℕ) → (ℕ → Mark → Bool) → Progress → Progress → Mark → Type 0
RisesWith count is_of r r' m = ((count r' ≡ count r) × ((e : ℕ) → is_of e m ≡ false)) ⊎ ((count r' ≡ count r + 1) × ((e : ℕ) → is_of e m ≡ (count r + 1 == e)))

-- the epochs that have such a mark: those past the count before and up to the count after
abbrev pub IsPassed : ℕ → ℕ → ℕ → Type 0
IsPassed from to e = (from < e) × (e ≤ to)

pub same_test : (a b : Bool) → (a ≡ true → b ≡ true) → (b ≡ true → a ≡ true) → a ≡ b
same_test true b to from = sym (to refl)
same_test false true to from = from refl
same_test false false to from = refl

pub between : (first last e : ℕ) → IsPassed first last e → is_between first last e ≡ true
between first last e (above, within) = and_from (nat_lt first e) (nat_le e last) (lt-ltb first e above) (le-leb e last within)

pub is_passed : (first last e : ℕ) → is_between first last e ≡ true → IsPassed first last e
is_passed first last e h = let parts = and_parts (nat_lt first e) (nat_le e last) h in (ltb-true first e parts.0, leb-true e last parts.1)

missed : (first last e : ℕ) → last < e → is_between first last e ≡ false
missed first last e lt = by_test (is_between first last e) refl
  where
    by_test : (b : Bool) → is_between first last e ≡ b → b ≡ false
    by_test true is = absurd (let there = is_passed first last e is in let le = there.1 in omega (arith, lt, le))
    by_test false is = refl

beyond : (first last e : ℕ) → first < e → is_between first last e ≡ false → last < e
beyond first last e above none = by_place (cases_lt last e)
  where
    by_place : (last < e) ⊎ (e ≤ last) → last < e
    by_place (inl lt) = lt
    by_place (inr le) = let there = between first last e (above, le) in absurd (cc)

module _ (limits : Limits) (origin : ℕ) (count : Progress → ℕ) (is_of : ℕ → Mark → Bool) (rises : (r : Progress) (m : Mark) → Allowed limits r m → IsInOrder limits origin r → RisesWith count is_of r (after_mark limits.quantum r m) m) where
  up : (r : Progress) (marks : List Mark) → EachMark (Allowed limits) limits.quantum r marks → IsInOrder limits origin r → count r ≤ count (progress_after limits.quantum r marks)
  unfolding EachMark
  up r [] l o = omega arith
  up r (m ∷ ms) l o = by_mark (rises r m l.0 o) (up (after_mark limits.quantum r m) ms l.1 (order_kept limits origin r m l.0 o))
    where
      by_mark : RisesWith count is_of r (after_mark limits.quantum r m) m → count (after_mark limits.quantum r m) ≤ count (progress_after limits.quantum r (m ∷ ms)) → count r ≤ count (progress_after limits.quantum r (m ∷ ms))
      by_mark (inl (same, none)) le = omega (arith, same, le)
      by_mark (inr (more, one)) le = omega (arith, more, le)

  -- a mark of this kind and epoch stands just where the epoch is passed
  passed : (r : Progress) (marks : List Mark) (e : ℕ) → EachMark (Allowed limits) limits.quantum r marks → IsInOrder limits origin r → list_any (is_of e) marks ≡ true → IsPassed (count r) (count (progress_after limits.quantum r marks)) e
  unfolding EachMark
  passed r [] e l o h = absurd (cc)
  passed r (m ∷ ms) e l o h = by_mark (rises r m l.0 o) (up r' ms l.1 o') (passed r' ms e l.1 o')
    where
      r' : Progress
      r' = after_mark limits.quantum r m

      o' : IsInOrder limits origin r'
      o' = order_kept limits origin r m l.0 o

      last : ℕ
      last = count (progress_after limits.quantum r (m ∷ ms))

      by_mark : RisesWith count is_of r r' m → count r' ≤ last → (list_any (is_of e) ms ≡ true → IsPassed (count r') last e) → IsPassed (count r) last e
      by_mark (inl (same, none)) le rest = let later = rest (sym (ap (λ t. t || list_any (is_of e) ms) (none e)) ∙ h) in (omega (arith, same, later.0), later.1)
      by_mark (inr (more, one)) le rest = by_test (count r + 1 == e) refl
        where
          by_test : (t : Bool) → (count r + 1 == e) ≡ t → IsPassed (count r) last e
          by_test true hit = let is = eqb-true (count r + 1) e hit in (omega (arith, is), omega (arith, is, more, le))
          by_test false miss = let later = rest (sym (ap (λ t. t || list_any (is_of e) ms) (one e ∙ miss)) ∙ h) in (omega (arith, more, later.0), later.1)

  found : (r : Progress) (marks : List Mark) (e : ℕ) → EachMark (Allowed limits) limits.quantum r marks → IsInOrder limits origin r → IsPassed (count r) (count (progress_after limits.quantum r marks)) e → list_any (is_of e) marks ≡ true
  unfolding EachMark
  found r [] e l o (above, within) = absurd (omega (arith, above, within))
  found r (m ∷ ms) e l o (above, within) = by_mark (rises r m l.0 o) (found r' ms e l.1 (order_kept limits origin r m l.0 o))
    where
      r' : Progress
      r' = after_mark limits.quantum r m

      or_true : (b : Bool) → (b || true) ≡ true
      or_true true = refl
      or_true false = refl

      by_mark : RisesWith count is_of r r' m → (IsPassed (count r') (count (progress_after limits.quantum r (m ∷ ms))) e → list_any (is_of e) ms ≡ true) → (is_of e m || list_any (is_of e) ms) ≡ true
      by_mark (inl (same, none)) rest = ap (λ t. is_of e m || t) (rest (omega (arith, same, above), within)) ∙ or_true (is_of e m)
      by_mark (inr (more, one)) rest = by_test (count r + 1 == e) refl
        where
          by_test : (t : Bool) → (count r + 1 == e) ≡ t → (is_of e m || list_any (is_of e) ms) ≡ true
          by_test true hit = ap (λ t. t || list_any (is_of e) ms) (one e ∙ hit)
          by_test false miss =
              let other : count r + 1 ≡ e → ⊥ = λ same. grind (arith, miss, same) in
              ap (λ t. is_of e m || t) (rest (omega (arith, more, above, other), within)) ∙ or_true (is_of e m)

  counts_epochs : (r : Progress) (marks : List Mark) (e : ℕ) → EachMark (Allowed limits) limits.quantum r marks → IsInOrder limits origin r → list_any (is_of e) marks ≡ is_between (count r) (count (progress_after limits.quantum r marks)) e
  counts_epochs r marks e l o =
      let last = count (progress_after limits.quantum r marks) in
      same_test (list_any (is_of e) marks) (is_between (count r) last e) (λ h. between (count r) last e (passed r marks e l o h)) (λ h. found r marks e l o (is_passed (count r) last e h))

barrier_rises : (limits : Limits) (origin : ℕ) (r : Progress) (m : Mark) → Allowed limits r m → IsInOrder limits origin r → RisesWith (λ x. x.state.standing.last) is_barrier_of r (after_mark limits.quantum r m) m
barrier_rises limits origin r (Take worker pid) a o = inl (refl, λ e. refl)
barrier_rises limits origin r (Turn worker pid n) a o = inl ((turn_epochs limits.quantum r.state pid n).0, λ e. refl)
barrier_rises limits origin r (Barrier epoch) a o = inr (a.rises, λ e. ap (λ (n : ℕ). n == e) a.rises)
barrier_rises limits origin r (Fetch epoch) a o = inl (refl, λ e. refl)
barrier_rises limits origin r (Ack epoch) a o = inl (refl, λ e. refl)

fetch_rises : (limits : Limits) (origin : ℕ) (r : Progress) (m : Mark) → Allowed limits r m → IsInOrder limits origin r → RisesWith (λ x. x.fetched) is_fetch_of r (after_mark limits.quantum r m) m
fetch_rises limits origin r (Take worker pid) a o = inl (refl, λ e. refl)
fetch_rises limits origin r (Turn worker pid n) a o = inl (refl, λ e. refl)
fetch_rises limits origin r (Barrier epoch) a o = inl (refl, λ e. refl)
fetch_rises limits origin r (Fetch epoch) a o = let is : epoch ≡ r.fetched + 1 = omega (arith, a.made, a.first, o.fetched, o.one_open) in inr (is, λ e. ap (λ (n : ℕ). n == e) is)
fetch_rises limits origin r (Ack epoch) a o = inl (refl, λ e. refl)

ack_rises : (limits : Limits) (origin : ℕ) (r : Progress) (m : Mark) → Allowed limits r m → IsInOrder limits origin r → RisesWith (λ x. x.state.standing.acked) is_ack_of r (after_mark limits.quantum r m) m
ack_rises limits origin r (Take worker pid) a o = inl (refl, λ e. refl)
ack_rises limits origin r (Turn worker pid n) a o = inl ((turn_epochs limits.quantum r.state pid n).1, λ e. refl)
ack_rises limits origin r (Barrier epoch) a o = inl (refl, λ e. refl)
ack_rises limits origin r (Fetch epoch) a o = inl (refl, λ e. refl)
ack_rises limits origin r (Ack epoch) a o = let is : epoch ≡ r.state.standing.acked + 1 = omega (arith, a.fetched, a.first, o.made, o.one_open) in inr (is, λ e. ap (λ (n : ℕ). n == e) is)

abbrev one_barrier : Mark → ℕ
one_barrier m = if is_barrier m then 1 else 0

barriers_one : (limits : Limits) (r : Progress) (m : Mark) → Allowed limits r m → (after_mark limits.quantum r m).state.standing.last ≡ r.state.standing.last + one_barrier m
barriers_one limits r (Take worker pid) a = omega arith
barriers_one limits r (Turn worker pid n) a = let same = (turn_epochs limits.quantum r.state pid n).0 in omega (arith, same)
barriers_one limits r (Barrier epoch) a = a.rises
barriers_one limits r (Fetch epoch) a = omega arith
barriers_one limits r (Ack epoch) a = omega arith

barriers_from : (limits : Limits) (r : Progress) (marks : List Mark) → EachMark (Allowed limits) limits.quantum r marks → (progress_after limits.quantum r marks).state.standing.last ≡ r.state.standing.last + barriers_in marks
unfolding EachMark
barriers_from limits r [] l = omega arith
barriers_from limits r (m ∷ ms) l = let sum = sum_by-cons one_barrier m ms in let one = barriers_one limits r m l.0 in barriers_from limits (after_mark limits.quantum r m) ms l.1 ∙ omega (arith, sum, one)

-- each Barrier has its Ack where all have, and back
acked_in : (all : List Mark) (epoch : ℕ) (ms : List Mark) → list_all (is_acked all) ms ≡ true → list_any (is_barrier_of epoch) ms ≡ true → list_any (is_ack_of epoch) all ≡ true
acked_in all epoch [] l h = absurd (cc)
acked_in all epoch (Take worker pid ∷ ms) l h = acked_in all epoch ms l h
acked_in all epoch (Turn worker pid n ∷ ms) l h = acked_in all epoch ms l h
acked_in all epoch (Barrier e ∷ ms) l h = by_test (e == epoch) refl h (acked_in all epoch ms)
  where
    its : (list_any (is_ack_of e) all ≡ true) × (list_all (is_acked all) ms ≡ true)
    its = and_parts (list_any (is_ack_of e) all) (list_all (is_acked all) ms) l

    by_test : (t : Bool) → (e == epoch) ≡ t → (t || list_any (is_barrier_of epoch) ms) ≡ true → (list_all (is_acked all) ms ≡ true → list_any (is_barrier_of epoch) ms ≡ true → list_any (is_ack_of epoch) all ≡ true) → list_any (is_ack_of epoch) all ≡ true
    by_test true is h rest = let P : ℕ → Type 0 = λ n. list_any (is_ack_of n) all ≡ true in subst P (eqb-true e epoch is) its.0
    by_test false is h rest = rest its.1 h
acked_in all epoch (Fetch e ∷ ms) l h = acked_in all epoch ms l h
acked_in all epoch (Ack e ∷ ms) l h = acked_in all epoch ms l h

all_from : (all ms : List Mark) → ((epoch : ℕ) → list_any (is_barrier_of epoch) ms ≡ true → list_any (is_ack_of epoch) all ≡ true) → list_all (is_acked all) ms ≡ true
all_from all [] each = refl
all_from all (Take worker pid ∷ ms) each = all_from all ms each
all_from all (Turn worker pid n ∷ ms) each = all_from all ms each
all_from all (Barrier e ∷ ms) each =
    and_from (list_any (is_ack_of e) all) (list_all (is_acked all) ms) (each e (ap (λ t. t || list_any (is_barrier_of e) ms) (eq-eqb e e refl))) (all_from all ms (λ epoch h. each epoch (ap (λ t. (e == epoch) || t) h ∙ or_true (e == epoch))))
  where
    or_true : (b : Bool) → (b || true) ≡ true
    or_true true = refl
    or_true false = refl
all_from all (Fetch e ∷ ms) each = all_from all ms each
all_from all (Ack e ∷ ms) each = all_from all ms each

module _ (start : Group) (origin : ℕ) (limits : Limits) (marks : List Mark) (legal : Legal start origin limits marks) where
  abbrev now : Progress
  now = progress_after limits.quantum (progress_at origin start) marks

  made : (e : ℕ) → list_any (is_barrier_of e) marks ≡ is_between origin now.state.standing.last e
  made e = counts_epochs limits origin (λ x. x.state.standing.last) is_barrier_of (barrier_rises limits origin) (progress_at origin start) marks e legal (begins_in_order limits origin start)

  fetched : (e : ℕ) → list_any (is_fetch_of e) marks ≡ is_between origin now.fetched e
  fetched e = counts_epochs limits origin (λ x. x.fetched) is_fetch_of (fetch_rises limits origin) (progress_at origin start) marks e legal (begins_in_order limits origin start)

  acked : (e : ℕ) → list_any (is_ack_of e) marks ≡ is_between origin now.state.standing.acked e
  acked e = counts_epochs limits origin (λ x. x.state.standing.acked) is_ack_of (ack_rises limits origin) (progress_at origin start) marks e legal (begins_in_order limits origin start)

  every_acked : all_acked marks ≡ (now.state.standing.acked == now.state.standing.last)
  every_acked = same_test (all_acked marks) (now.state.standing.acked == now.state.standing.last) to from
    where
      o : IsInOrder limits origin now
      o = in_order start origin limits marks legal

      last : ℕ
      last = now.state.standing.last

      from : (now.state.standing.acked == now.state.standing.last) ≡ true → all_acked marks ≡ true
      from h =
          let is = eqb-true now.state.standing.acked now.state.standing.last h in
          all_from marks marks (λ e hit. acked e ∙ ap (λ (n : ℕ). is_between origin n e) is ∙ sym (made e) ∙ hit)

      to : all_acked marks ≡ true → (now.state.standing.acked == now.state.standing.last) ≡ true
      to h = eq-eqb now.state.standing.acked now.state.standing.last (by_place (cases_lt origin now.state.standing.last))
        where
          by_place : (origin < now.state.standing.last) ⊎ (now.state.standing.last ≤ origin) → now.state.standing.acked ≡ now.state.standing.last
          by_place (inl lt) =
              let hit = acked_in marks now.state.standing.last marks h (made now.state.standing.last ∙ between origin now.state.standing.last now.state.standing.last (lt, omega arith)) in
              let reached = is_passed origin now.state.standing.acked now.state.standing.last (sym (acked now.state.standing.last) ∙ hit) in
              omega (arith, reached.1, o.fetched, o.made)
          by_place (inr le) = omega (arith, le, o.begins, o.fetched, o.made)

  pub is_counted : IsCounted origin marks now
  is_counted = record {
    turns = turns_counted limits.quantum origin start marks;
    turns_since = since_counted limits.quantum origin start marks;
    leases = leases_found limits.quantum origin start marks;
    taken = taken_found limits.quantum origin start marks;
    barriers = barriers_from limits (progress_at origin start) marks legal;
    made = made;
    fetched = fetched;
    acked = acked;
    all_acked = every_acked;
  }

  -- ---- the rules for a Fetch and an Ack, and the Barrier without an Ack

  abbrev order : IsInOrder limits origin now
  order = in_order start origin limits marks legal

  pub fetch_told : (e : ℕ) → FetchAllowed now e ↔ ((list_any (is_barrier_of e) marks ≡ true) × (list_any (is_fetch_of e) marks ≡ false))
  fetch_told e = (to, from)
    where
      to : FetchAllowed now e → (list_any (is_barrier_of e) marks ≡ true) × (list_any (is_fetch_of e) marks ≡ false)
      to a =
          let first = a.first in
          (made e ∙ between origin now.state.standing.last e (omega (arith, first, order.begins, order.fetched), a.made), fetched e ∙ missed origin now.fetched e first)

      from : (list_any (is_barrier_of e) marks ≡ true) × (list_any (is_fetch_of e) marks ≡ false) → FetchAllowed now e
      from (b, f) =
          let there = is_passed origin now.state.standing.last e (sym (made e) ∙ b) in
          record { made = there.1; first = beyond origin now.fetched e there.0 (sym (fetched e) ∙ f) }

  pub ack_told : (e : ℕ) → AckAllowed now e ↔ ((list_any (is_fetch_of e) marks ≡ true) × (list_any (is_ack_of e) marks ≡ false))
  ack_told e = (to, from)
    where
      to : AckAllowed now e → (list_any (is_fetch_of e) marks ≡ true) × (list_any (is_ack_of e) marks ≡ false)
      to a =
          let first = a.first in
          (fetched e ∙ between origin now.fetched e (omega (arith, first, order.begins), a.fetched), acked e ∙ missed origin now.state.standing.acked e first)

      from : (list_any (is_fetch_of e) marks ≡ true) × (list_any (is_ack_of e) marks ≡ false) → AckAllowed now e
      from (f, a) =
          let there = is_passed origin now.fetched e (sym (fetched e) ∙ f) in
          record { fetched = there.1; first = beyond origin now.state.standing.acked e there.0 (sym (acked e) ∙ a) }

  pub one_unacked : (e : ℕ) → list_any (is_barrier_of e) marks ≡ true → (list_any (is_ack_of e) marks ≡ true) ⊎ (e ≡ origin + barriers_in marks)
  one_unacked e hit = by_place (cases_lt now.state.standing.acked e)
    where
      there : IsPassed origin now.state.standing.last e
      there = is_passed origin now.state.standing.last e (sym (made e) ∙ hit)

      by_place : (now.state.standing.acked < e) ⊎ (e ≤ now.state.standing.acked) → (list_any (is_ack_of e) marks ≡ true) ⊎ (e ≡ origin + barriers_in marks)
      by_place (inl lt) =
          let le = there.1 in let one = order.one_open in let count = is_counted.barriers in
          inr (omega (arith, lt, le, one, count))
      by_place (inr le) = inl (acked e ∙ between origin now.state.standing.acked e (there.0, le))
