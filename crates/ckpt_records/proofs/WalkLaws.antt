-- One walk over objects and runs finds each run's object, where both rise.
use Rattle.std.proofs.Common.{◌≡◌, ◌⊎◌, inl, inr, ℕ, zero, suc, ◌+◌, ◌-◌, ◌<◌, ◌≤◌, Bool, true, false, List, [], ◌∷◌, length, drop, drop-cons, add-one, refl, sym, ap, subst, ◌∙◌, arith}
use Rattle.std.proofs.lemmas.List.{drop_all}
use Rattle.std.specs.Prelude.{◌&&◌, ◌==◌, nat_le, nat_lt, get_or}
use Rattle.std.specs.List.{AllByRecursion, AllPairs, Any}
use Rattle.tables.specs.Rising.{Rise}
use Rattle.std.proofs.lemmas.Bool.{false≢true, eqb-true, le-ltb, lt-ltb, ltb-true, ltb-false, cases_lt}
use Rattle.std.proofs.lemmas.Bool.Decides.{nat_tests}
use Rattle.group_defs.specs.declared.frame.ObjectRec.{ObjectRec}
use Rattle.ckpt_records.specs.declared.meta.PageRun.{PageRun}
use Rattle.ckpt_records.specs.Listed.{IsRunPlace, IsRunBefore, AreApart, RunsValid, objects_from, is_first_placed, are_placed}
use Rattle.tables.proofs.Ordered.{IsOrdered, each_weaker, each_both, ordered_of_pairs}

abbrev pub IsBelow : ObjectRec → ObjectRec → Type 0
IsBelow o p = o.number < p.number

abbrev IsOwn : PageRun → ObjectRec → Type 0
IsOwn r o = (o.number ≡ r.object) × (r.first + r.count ≤ o.pages)

-- one of the objects has the run's pages
abbrev HasRun : List ObjectRec → PageRun → Type 0
HasRun [] r = ⊥
HasRun (o ∷ objects) r = IsOwn r o ⊎ HasRun objects r

any_of : (objects : List ObjectRec) (r : PageRun) → HasRun objects r → Any (IsOwn r) objects
any_of [] r h = absurd h
any_of (o ∷ objects) r (inl own) = (0, o, omega arith, refl, own)
any_of (o ∷ objects) r (inr h) = let (k, x, lt, is, own) = any_of objects r h in (suc k, x, omega (arith, lt), is, own)

has_at : (objects : List ObjectRec) (r : PageRun) (k : ℕ) (x : ObjectRec) → k < length objects → get_or objects k x ≡ x → IsOwn r x → HasRun objects r
has_at [] r k x lt is own = absurd (omega (arith, lt))
has_at (o ∷ objects) r zero x lt is own = inl (subst (IsOwn r) (sym is) own)
has_at (o ∷ objects) r (suc k) x lt is own = inr (has_at objects r k x (omega (arith, lt)) is own)

has_of : (objects : List ObjectRec) (r : PageRun) → Any (IsOwn r) objects → HasRun objects r
has_of objects r (k, x, lt, is, own) = has_at objects r k x lt is own

-- ---- the objects from a number on

from_keeps : (n : ℕ) (objects : List ObjectRec) (r : PageRun) → n ≤ r.object → HasRun objects r → HasRun (objects_from n objects) r
unfolding objects_from
from_keeps n [] r le h = absurd h
from_keeps n (o ∷ objects) r le h = elim (cases_lt o.number n) [
  | inl lt ↦ rw (lt-ltb o.number n lt) (elim h [ inl own ↦ absurd (omega (arith, own.0, lt, le)) | inr rest ↦ from_keeps n objects r le rest ])
  | inr ge ↦ rw (le-ltb o.number n ge) h
]

from_adds_none : (n : ℕ) (objects : List ObjectRec) (r : PageRun) → HasRun (objects_from n objects) r → HasRun objects r
unfolding objects_from
from_adds_none n [] r h = h
from_adds_none n (o ∷ objects) r h = elim (cases_lt o.number n) [
  | inl lt ↦ inr (from_adds_none n objects r (rw (lt-ltb o.number n lt) at h))
  | inr ge ↦ rw (le-ltb o.number n ge) at h
]

from_rises : (n : ℕ) (objects : List ObjectRec) → IsOrdered IsBelow objects → IsOrdered IsBelow (objects_from n objects)
unfolding objects_from
from_rises n [] rise = tt
from_rises n (o ∷ objects) rise = elim (cases_lt o.number n) [
  | inl lt ↦ rw (lt-ltb o.number n lt) (from_rises n objects rise.1)
  | inr ge ↦ rw (le-ltb o.number n ge) rise
]

-- the first of them isn't below
abbrev StartsAt : ℕ → List ObjectRec → Type 0
StartsAt n [] = Unit {0}
StartsAt n (o ∷ objects) = n ≤ o.number

from_starts : (n : ℕ) (objects : List ObjectRec) → StartsAt n (objects_from n objects)
unfolding objects_from
from_starts n [] = tt
from_starts n (o ∷ objects) = elim (cases_lt o.number n) [
  | inl lt ↦ rw (lt-ltb o.number n lt) (from_starts n objects)
  | inr ge ↦ rw (le-ltb o.number n ge) ge
]

-- ---- the first object

later : (o : ObjectRec) (objects : List ObjectRec) (r : PageRun) → AllByRecursion (IsBelow o) objects → r.object ≤ o.number → HasRun objects r → ⊥
later o [] r above le h = h
later o (p ∷ objects) r above le (inl own) = omega (arith, above.0, le, own.0)
later o (p ∷ objects) r above le (inr h) = later o objects r above.1 le h

and_both : (a b : Bool) → (a && b) ≡ true → (a ≡ true) × (b ≡ true)
and_both true b both = (refl, both)
and_both false b both = absurd (false≢true both)

numbers_hold : (count block last blocks number object end pages : ℕ) → (nat_le 1 count && nat_le 2 block && nat_le last blocks && (number == object) && nat_le end pages) ≡ true
    → (1 ≤ count) × (2 ≤ block) × (last ≤ blocks) × (number ≡ object) × (end ≤ pages)
numbers_hold count block last blocks number object end pages said = grind (arith, nat_tests)

numbers_pass : (count block last blocks number object end pages : ℕ) → 1 ≤ count → 2 ≤ block → last ≤ blocks → number ≡ object → end ≤ pages
    → (nat_le 1 count && nat_le 2 block && nat_le last blocks && (number == object) && nat_le end pages) ≡ true
numbers_pass count block last blocks number object end pages a b c d e = grind (arith, nat_tests)

first_says : (blocks : ℕ) (r : PageRun) (objects : List ObjectRec) → IsOrdered IsBelow objects → StartsAt r.object objects
    → (is_first_placed blocks r objects ≡ true → IsRunPlace objects blocks r) × (IsRunPlace objects blocks r → is_first_placed blocks r objects ≡ true)
unfolding is_first_placed
first_says blocks r [] rise starts = (λ no. absurd (false≢true no), λ h. absurd (has_of [] r h.3))
first_says blocks r (o ∷ objects) rise starts = (
  λ said. let t = numbers_hold r.count r.block (r.block + r.count) blocks o.number r.object (r.first + r.count) o.pages said in (t.0, t.1, t.2, (0, o, omega arith, refl, (t.3, t.4))),
  λ h. elim (has_of (o ∷ objects) r h.3) [
    | inl own ↦ numbers_pass r.count r.block (r.block + r.count) blocks o.number r.object (r.first + r.count) o.pages h.0 h.1 h.2 own.0 own.1
    | inr rest ↦ absurd (later o objects r rise.0 starts rest)
  ],
)

-- ---- the walk

placed_from : (blocks n : ℕ) (objects : List ObjectRec) (r : PageRun) → n ≤ r.object → IsRunPlace objects blocks r → IsRunPlace (objects_from n objects) blocks r
placed_from blocks n objects r le h = (h.0, h.1, h.2, any_of (objects_from n objects) r (from_keeps n objects r le (has_of objects r h.3)))

from_placed : (blocks n : ℕ) (objects : List ObjectRec) (r : PageRun) → IsRunPlace (objects_from n objects) blocks r → IsRunPlace objects blocks r
from_placed blocks n objects r h = (h.0, h.1, h.2, any_of objects r (from_adds_none n objects r (has_of (objects_from n objects) r h.3)))

not_before : (r q : PageRun) → IsRunBefore r q → r.object ≤ q.object
unfolding IsRunBefore
not_before r q (inl object) = omega (arith, object)
not_before r q (inr same) = omega (arith, same.0)

pub walk_says : (blocks : ℕ) (runs : List PageRun) (objects : List ObjectRec) → IsOrdered IsBelow objects → IsOrdered IsRunBefore runs
    → (are_placed blocks runs objects ≡ true → AllByRecursion (IsRunPlace objects blocks) runs) × (AllByRecursion (IsRunPlace objects blocks) runs → are_placed blocks runs objects ≡ true)
unfolding are_placed
walk_says blocks [] objects rise ordered = (λ _. tt, λ _. refl)
walk_says blocks (r ∷ runs) objects rise ordered =
    let left : List ObjectRec = objects_from r.object objects in
    let one = first_says blocks r left (from_rises r.object objects rise) (from_starts r.object objects) in
    let rest = walk_says blocks runs left (from_rises r.object objects rise) ordered.1 in (
      λ said. let both = and_both (is_first_placed blocks r left) (are_placed blocks runs left) said in
          (from_placed blocks r.object objects r (one.0 both.0), each_weaker (IsRunPlace left blocks) (IsRunPlace objects blocks) runs (from_placed blocks r.object objects) (rest.0 both.1)),
      λ each. rw (one.1 (placed_from blocks r.object objects r (omega arith) each.0))
          (rest.1 (each_both (IsRunBefore r) (IsRunPlace objects blocks) (IsRunPlace left blocks) runs (λ q before placed. placed_from blocks r.object objects q (not_before r q before) placed) ordered.0 each.1)),
    )

-- ---- its steps

pub passes : (n : ℕ) (objects : List ObjectRec) (i : ℕ) (d : ObjectRec) → i < length objects → (get_or objects i d).number < n → objects_from n (drop i objects) ≡ objects_from n (drop (i + 1) objects)
unfolding objects_from
passes n objects i d lt below = rw (add-one, drop-cons objects i d lt, lt-ltb (get_or objects i d).number n below) refl

pub stops : (n : ℕ) (objects : List ObjectRec) (i : ℕ) (d : ObjectRec) → i < length objects → n ≤ (get_or objects i d).number → objects_from n (drop i objects) ≡ drop i objects
unfolding objects_from
stops n objects i d lt above = rw (drop-cons objects i d lt, le-ltb (get_or objects i d).number n above) refl

pub none_left : (n : ℕ) (objects : List ObjectRec) (i : ℕ) → length objects ≤ i → objects_from n (drop i objects) ≡ []
unfolding objects_from
none_left n objects i le = ap (objects_from n) (drop_all i objects le)

pub placed_step : (blocks : ℕ) (runs : List PageRun) (i : ℕ) (d : PageRun) (left next : List ObjectRec) → i < length runs → next ≡ objects_from (get_or runs i d).object left
    → are_placed blocks (drop i runs) left ≡ (is_first_placed blocks (get_or runs i d) next && are_placed blocks (drop (i + 1) runs) next)
unfolding are_placed
placed_step blocks runs i d left next lt is = rw (add-one, drop-cons runs i d lt, is) refl

pub placed_end : (blocks : ℕ) (runs : List PageRun) (i : ℕ) (left : List ObjectRec) → length runs ≤ i → are_placed blocks (drop i runs) left ≡ true
unfolding are_placed
placed_end blocks runs i left le = ap (λ (rs : List PageRun). are_placed blocks rs left) (drop_all i runs le)

-- ---- the whole test

abbrev Placed : ℕ → List ObjectRec → List PageRun → Type 0
Placed blocks objects runs = AllByRecursion (IsRunPlace objects blocks) runs

told : (blocks : ℕ) (objects : List ObjectRec) (runs : List PageRun) → Rise (λ o. o.number) objects → AllPairs IsRunBefore runs → (are_placed blocks runs objects ≡ true → Placed blocks objects runs) × (Placed blocks objects runs → are_placed blocks runs objects ≡ true)
unfolding Rise
told blocks objects runs rise rising = walk_says blocks runs objects (ordered_of_pairs IsBelow objects rise) (ordered_of_pairs IsRunBefore runs rising)

pub misplaced : (format blocks : ℕ) (objects : List ObjectRec) (runs : List PageRun) → Rise (λ o. o.number) objects → are_placed blocks runs objects ≡ false → RunsValid format blocks objects runs → ⊥
misplaced format blocks objects runs rise denied listed = false≢true (sym denied ∙ (told blocks objects runs rise listed.rising).1 listed.placed)

pub listed_where : (format blocks : ℕ) (objects : List ObjectRec) (runs : List PageRun) → Rise (λ o. o.number) objects → AllPairs IsRunBefore runs → are_placed blocks runs objects ≡ true → (format ≡ 2 → AreApart runs) → RunsValid format blocks objects runs
listed_where format blocks objects runs rise rising said apart = record { rising = rising; placed = (told blocks objects runs rise rising).0 said; apart = apart }
