-- The pages of a placement, shared out over the objects: none is lost, and each object has its own.
use Rattle.std.proofs.Common.{◌≡◌, ◌⊎◌, inl, inr, ℕ, zero, suc, ◌<◌, ◌≤◌, ◌==◌, Bool, true, false, List, [], ◌∷◌, ◌++◌, if◌then◌else◌, refl, sym, ap, ◌∙◌, subst, arith}
use Rattle.std.specs.Prelude.{Any}
use Rattle.std.specs.List.{flat_map, AllZip, AllByRecursion}
use Rattle.std.proofs.lemmas.Bool.Decides.{nat_tests}
use Rattle.std.proofs.lemmas.List.Elements.{recursion_from_All}
use Rattle.tables.specs.Rising.{Rise}
use Rattle.group_defs.specs.declared.frame.Frame.{Frame}
use Rattle.group_defs.specs.declared.frame.ObjectRec.{ObjectRec}
use Rattle.ckpt_records.specs.declared.meta.PagePlace.{PagePlace}
use Rattle.ckpt_records.specs.Spells.{IsPageBefore, IsOrderly, IsPagePlace, IsPageOf, PagesRise}
use Rattle.restore_group.specs.Layers.{front, behind, shared_out}
use Rattle.tables.proofs.Ordered.{IsOrdered, each_weaker, each_both, ordered_of_pairs}

-- ---- the pages at the front, and those behind them

same_number : (m n : ℕ) → (m == n) ≡ true → m ≡ n
same_number m n said = grind (arith, nat_tests)

other_number : (m n : ℕ) → (m == n) ≡ false → n ≤ m → n < m
other_number m n said le = grind (arith, nat_tests)

joined : (test : Bool) (p : PagePlace) (pages ahead later : List PagePlace) → ahead ++ later ≡ pages → (if test then p ∷ ahead else []) ++ (if test then later else p ∷ pages) ≡ p ∷ pages
joined true p pages ahead later same = ap (λ ps. p ∷ ps) same
joined false p pages ahead later same = refl

front_behind : (object : ℕ) (pages : List PagePlace) → front object pages ++ behind object pages ≡ pages
unfolding front behind
front_behind object [] = refl
front_behind object (p ∷ pages) = joined (p.object == object) p pages (front object pages) (behind object pages) (front_behind object pages)

each_if : (P : PagePlace → Type 0) (test : Bool) (p : PagePlace) (rest : List PagePlace) → (test ≡ true → P p) → AllByRecursion P rest → AllByRecursion P (if test then p ∷ rest else [])
each_if P true p rest one more = (one refl, more)
each_if P false p rest one more = tt

each_front : (P : PagePlace → Type 0) (object : ℕ) (pages : List PagePlace) → AllByRecursion P pages → AllByRecursion P (front object pages)
unfolding front
each_front P object [] each = tt
each_front P object (p ∷ pages) each = each_if P (p.object == object) p (front object pages) (λ said. each.0) (each_front P object pages each.1)

own_front : (object : ℕ) (pages : List PagePlace) → AllByRecursion (λ p. p.object ≡ object) (front object pages)
unfolding front
own_front object [] = tt
own_front object (p ∷ pages) = each_if (λ p. p.object ≡ object) (p.object == object) p (front object pages) (same_number p.object object) (own_front object pages)

ordered_if : (R : PagePlace → PagePlace → Type 0) (test : Bool) (p : PagePlace) (rest : List PagePlace) → AllByRecursion (R p) rest → IsOrdered R rest → IsOrdered R (if test then p ∷ rest else [])
ordered_if R true p rest one more = (one, more)
ordered_if R false p rest one more = tt

ordered_front : (R : PagePlace → PagePlace → Type 0) (object : ℕ) (pages : List PagePlace) → IsOrdered R pages → IsOrdered R (front object pages)
unfolding front
ordered_front R object [] ordered = tt
ordered_front R object (p ∷ pages) ordered = ordered_if R (p.object == object) p (front object pages) (each_front (R p) object pages ordered.0) (ordered_front R object pages ordered.1)

either : (P : List PagePlace → Type 0) (test : Bool) (more all : List PagePlace) → (test ≡ true → P more) → (test ≡ false → P all) → P (if test then more else all)
either P true more all one two = one refl
either P false more all one two = two refl

each_behind : (P : PagePlace → Type 0) (object : ℕ) (pages : List PagePlace) → AllByRecursion P pages → AllByRecursion P (behind object pages)
unfolding behind
each_behind P object [] each = tt
each_behind P object (p ∷ pages) each = either (AllByRecursion P) (p.object == object) (behind object pages) (p ∷ pages) (λ said. each_behind P object pages each.1) (λ said. each)

ordered_behind : (R : PagePlace → PagePlace → Type 0) (object : ℕ) (pages : List PagePlace) → IsOrdered R pages → IsOrdered R (behind object pages)
unfolding behind
ordered_behind R object [] ordered = tt
ordered_behind R object (p ∷ pages) ordered = either (IsOrdered R) (p.object == object) (behind object pages) (p ∷ pages) (λ said. ordered_behind R object pages ordered.1) (λ said. ordered)

object_rises : (p q : PagePlace) → IsPageBefore p q → p.object ≤ q.object
unfolding IsPageBefore
object_rises p q (inl lt) = omega (arith, lt)
object_rises p q (inr same) = omega (arith, same.0)

page_rises : (p q : PagePlace) → p.object ≡ q.object → IsPageBefore p q → p.page < q.page
unfolding IsPageBefore
page_rises p q same (inl lt) = absurd (omega (arith, lt, same))
page_rises p q same (inr both) = both.1

higher_behind : (object : ℕ) (pages : List PagePlace) → IsOrdered IsPageBefore pages → AllByRecursion (λ p. object ≤ p.object) pages → AllByRecursion (λ p. object < p.object) (behind object pages)
unfolding behind
higher_behind object [] ordered least = tt
higher_behind object (p ∷ pages) ordered least =
    either (AllByRecursion (λ p. object < p.object)) (p.object == object) (behind object pages) (p ∷ pages) (λ said. higher_behind object pages ordered.1 least.1)
    (λ said.
    let above : object < p.object = other_number p.object object said least.0 in
    (above, each_weaker (IsPageBefore p) (λ q. object < q.object) pages (λ q before. omega (arith, above, object_rises p q before)) ordered.0))

-- ---- pages of objects that rise

abbrev pub IsLower : ObjectRec → ObjectRec → Type 0
IsLower a b = a.number < b.number

abbrev IsIn : ObjectRec → PagePlace → Type 0
IsIn o p = (o.number ≡ p.object) × (p.page < o.pages)

abbrev IsAmong : List ObjectRec → PagePlace → Type 0
IsAmong [] p = ⊥
IsAmong (o ∷ objects) p = IsIn o p ⊎ IsAmong objects p

among_of_any : (objects : List ObjectRec) (p : PagePlace) → Any (λ o. IsIn o p) objects → IsAmong objects p
among_of_any [] p (k, o, lt, at, holds) = absurd (omega (arith, lt))
among_of_any (x ∷ objects) p (zero, o, lt, at, holds) = inl (subst (λ o. IsIn o p) (sym at) holds)
among_of_any (x ∷ objects) p (suc k, o, lt, at, holds) = inr (among_of_any objects p (k, o, omega (arith, lt), at, holds))

among_higher : (n : ℕ) (objects : List ObjectRec) (p : PagePlace) → AllByRecursion (λ b. n < b.number) objects → IsAmong objects p → n < p.object
among_higher n [] p higher among = absurd among
among_higher n (o ∷ objects) p higher (inl own) = omega (arith, higher.0, own.0)
among_higher n (o ∷ objects) p higher (inr later) = among_higher n objects p higher.1 later

module _ (o : ObjectRec) (objects : List ObjectRec) (higher : AllByRecursion (IsLower o) objects) (p : PagePlace) where
  least_of : IsAmong (o ∷ objects) p → o.number ≤ p.object
  least_of (inl own) = omega (arith, own.0)
  least_of (inr later) = omega (arith, among_higher o.number objects p higher later)

  within_own : IsAmong (o ∷ objects) p → p.object ≡ o.number → p.page < o.pages
  within_own (inl own) same = own.1
  within_own (inr later) same = absurd (omega (arith, among_higher o.number objects p higher later, same))

  among_later : IsAmong (o ∷ objects) p → o.number < p.object → IsAmong objects p
  among_later (inl own) above = absurd (omega (arith, own.0, above))
  among_later (inr later) above = later

-- pages in order, each of one of the objects
record AreOf (objects : List ObjectRec) (pages : List PagePlace) : Type 0 where
  ordered : IsOrdered IsPageBefore pages
  among : AllByRecursion (IsAmong objects) pages

later_of : (o : ObjectRec) (objects : List ObjectRec) (pages : List PagePlace) → AllByRecursion (IsLower o) objects → AreOf (o ∷ objects) pages → AreOf objects (behind o.number pages)
later_of o objects pages higher are = record {
  ordered = ordered_behind IsPageBefore o.number pages are.ordered;
  among = each_both (IsAmong (o ∷ objects)) (λ p. o.number < p.object) (IsAmong objects) (behind o.number pages) (λ p among above. among_later o objects higher p among above)
      (each_behind (IsAmong (o ∷ objects)) o.number pages are.among)
      (higher_behind o.number pages are.ordered (each_weaker (IsAmong (o ∷ objects)) (λ p. o.number ≤ p.object) pages (λ p among. least_of o objects higher p among) are.among));
}

-- the pages of one object, rising and inside it
pub record AreOwn (o : ObjectRec) (shared : ℕ × List PagePlace) : Type 0 where
  pub number : shared.0 ≡ o.number
  pub object : AllByRecursion (λ p. p.object ≡ o.number) shared.1
  pub rising : IsOrdered (λ p q. p.page < q.page) shared.1
  pub within : AllByRecursion (λ p. p.page < o.pages) shared.1

own_rising : (object : ℕ) (pages : List PagePlace) → AllByRecursion (λ p. p.object ≡ object) pages → IsOrdered IsPageBefore pages → IsOrdered (λ p q. p.page < q.page) pages
own_rising object [] own ordered = tt
own_rising object (p ∷ pages) own ordered =
    (each_both (λ q. q.object ≡ object) (IsPageBefore p) (λ q. p.page < q.page) pages (λ q same before. page_rises p q (own.0 ∙ sym same) before) own.1 ordered.0, own_rising object pages own.1 ordered.1)

all_own : (objects : List ObjectRec) (pages : List PagePlace) → IsOrdered IsLower objects → AreOf objects pages → AllZip AreOwn objects (shared_out objects pages)
unfolding shared_out
all_own [] pages rising are = tt
all_own (o ∷ objects) pages rising are = (
  record {
    number = refl;
    object = own_front o.number pages;
    rising = own_rising o.number (front o.number pages) (own_front o.number pages) (ordered_front IsPageBefore o.number pages are.ordered);
    within = each_both (λ p. p.object ≡ o.number) (IsAmong (o ∷ objects)) (λ p. p.page < o.pages) (front o.number pages) (λ p same among. within_own o objects rising.0 p among same) (own_front o.number pages)
        (each_front (IsAmong (o ∷ objects)) o.number pages are.among);
  },
  all_own objects (behind o.number pages) rising.1 (later_of o objects pages rising.0 are),
)

none_lost : (objects : List ObjectRec) (pages : List PagePlace) → IsOrdered IsLower objects → AreOf objects pages → flat_map (λ s. s.1) (shared_out objects pages) ≡ pages
unfolding shared_out
none_lost [] [] rising are = refl
none_lost [] (p ∷ pages) rising are = absurd are.among.0
none_lost (o ∷ objects) pages rising are =
    ap (λ ps. front o.number pages ++ ps) (none_lost objects (behind o.number pages) rising.1 (later_of o objects pages rising.0 are)) ∙ front_behind o.number pages

module _ (f : Frame) (pages : List PagePlace) (count : ℕ) (orderly : IsOrderly count f pages) where
  pub objects_rise : IsOrdered IsLower f.objects
  unfolding Rise
  objects_rise = ordered_of_pairs IsLower f.objects orderly.lists.objects

  are_of : AreOf f.objects pages
  unfolding PagesRise IsPagePlace IsPageOf
  are_of = record {
    ordered = ordered_of_pairs IsPageBefore pages orderly.rising;
    among = each_weaker (IsPagePlace f count) (IsAmong f.objects) pages (λ p placed. among_of_any f.objects p placed.0) (recursion_from_All (IsPagePlace f count) pages orderly.placed);
  }

  -- each object has just its own pages
  pub shared_own : AllZip AreOwn f.objects (shared_out f.objects pages)
  shared_own = all_own f.objects pages objects_rise are_of

  -- no page is lost
  pub shared_all : flat_map (λ s. s.1) (shared_out f.objects pages) ≡ pages
  shared_all = none_lost f.objects pages objects_rise are_of
