-- The pages of a checkpointed group that a record lists are in order, and pages of its objects.
use Rattle.std.proofs.Common.{◌≡◌, ℕ, ◌+◌, ◌-◌, ◌<◌, ◌≤◌, List, [], ◌∷◌, length, sym, subst, arith, Any, ◌⊎◌, inl, inr, suc, Bool, map, refl}
use Rattle.std.specs.List.{AllByRecursion, flat_map, range_with_len}
use Rattle.tables.specs.Rising.{Rise}
use Rattle.group_defs.specs.Valid.{GroupIsValid}
use Rattle.group_defs.specs.declared.frame.ObjectRec.{ObjectRec}
use Rattle.ckpt_records.specs.Spells.{IsPageOf, PagesRise, IsPageBefore}
use Rattle.ckpt_records.specs.declared.meta.PagePlace.{PagePlace}
use Rattle.tables.proofs.Ordered.{IsOrdered, each_weaker, each_both, ordered_of_pairs, each_always, each_append, each_map, each_of_map, each_flat, each_filter, each_in_range, ordered_weaker, ordered_append, ordered_map, ordered_of_map, ordered_filter, ordered_range, pairs_of_ordered}
use Rattle.std.specs.Prelude.{not}
use Rattle.group_defs.specs.Group.{Group}
use Rattle.group_defs.specs.Pages.{all_pages, nonzero_pages, is_zero_page, pages_of as all_pages_of}
use Rattle.ckpt_records.specs.Holds.{listed_page}

-- ---- lists

-- so many at most have rising numbers between two bounds
pub few_between : {X : Type 0} (number : X → ℕ) (low high : ℕ) (xs : List X) → IsOrdered (λ x y. number x < number y) xs → AllByRecursion (λ x. (low ≤ number x) × (number x < high)) xs → length xs ≤ high - low
few_between number low high [] rising within = omega arith
few_between number low high (x ∷ xs) rising within =
    let later : AllByRecursion (λ y. (low + 1 ≤ number y) × (number y < high)) xs =
    each_both (λ y. number x < number y) (λ y. (low ≤ number y) × (number y < high)) (λ y. (low + 1 ≤ number y) × (number y < high)) xs (λ y above h. (omega (arith, above, within.0.0), h.1)) rising.0 within.1 in
    omega (arith, within.0.0, within.0.1, few_between number (low + 1) high xs rising.1 later)

abbrev IsLower : ObjectRec → ObjectRec → Type 0
IsLower a b = a.number < b.number

abbrev is_listed : List (ℕ × List ℕ) → ℕ × ℕ → Bool
is_listed memory page = not (is_zero_page memory page)

-- ---- the order of a frame's pages, and their objects

abbrev IsEarlier : ℕ × ℕ → ℕ × ℕ → Type 0
IsEarlier s t = (s.0 < t.0) ⊎ ((s.0 ≡ t.0) × (s.1 < t.1))

-- a page of one of these objects
abbrev IsPage : List ObjectRec → ℕ × ℕ → Type 0
IsPage objects t = Any (λ (o : ObjectRec). (o.number ≡ t.0) × (t.1 < o.pages)) objects

any_later : {X : Type 0} (P : X → Type 0) (x : X) (xs : List X) → Any P xs → Any P (x ∷ xs)
any_later P x xs (k, y, lt, at, holds) = (suc k, y, omega (arith, lt), at, holds)

all_ordered : (objects : List ObjectRec) → IsOrdered IsLower objects → IsOrdered IsEarlier (flat_map all_pages_of objects)
all_ordered [] rising = tt
all_ordered (o ∷ objects) rising =
    let pages = range_with_len 0 o.pages in
    let own : IsOrdered IsEarlier (all_pages_of o) = ordered_map IsEarlier (λ (page : ℕ). (o.number, page)) pages
    (ordered_weaker (λ (j k : ℕ). j < k) (λ (j k : ℕ). IsEarlier (o.number, j) (o.number, k)) pages (λ j k lt. inr (refl, lt)) (ordered_range 0 o.pages)) in
    let across : (page : ℕ) → AllByRecursion (IsEarlier (o.number, page)) (flat_map all_pages_of objects) = λ page. each_flat (IsEarlier (o.number, page)) all_pages_of objects
    (each_weaker (IsLower o) (λ (b : ObjectRec). AllByRecursion (IsEarlier (o.number, page)) (all_pages_of b)) objects
    (λ b lt. each_map (IsEarlier (o.number, page)) (λ (k : ℕ). (b.number, k)) (range_with_len 0 b.pages) (each_always (λ (k : ℕ). IsEarlier (o.number, page) (b.number, k)) (range_with_len 0 b.pages) (λ k. inl lt))) rising.0) in
    ordered_append IsEarlier (all_pages_of o) (flat_map all_pages_of objects) own (all_ordered objects rising.1)
    (each_map (λ (s : ℕ × ℕ). AllByRecursion (IsEarlier s) (flat_map all_pages_of objects)) (λ (page : ℕ). (o.number, page)) pages (each_always (λ (page : ℕ). AllByRecursion (IsEarlier (o.number, page)) (flat_map all_pages_of objects)) pages across))

all_are_pages : (objects : List ObjectRec) → AllByRecursion (IsPage objects) (flat_map all_pages_of objects)
all_are_pages [] = tt
all_are_pages (o ∷ objects) =
    each_append (IsPage (o ∷ objects)) (all_pages_of o) (flat_map all_pages_of objects)
    (each_map (IsPage (o ∷ objects)) (λ (page : ℕ). (o.number, page)) (range_with_len 0 o.pages)
    (each_weaker (λ (page : ℕ). (0 ≤ page) × (page < 0 + o.pages)) (λ (page : ℕ). IsPage (o ∷ objects) (o.number, page)) (range_with_len 0 o.pages)
    (λ page within. (0, o, omega arith, refl, (refl, omega (arith, within.1)))) (each_in_range 0 o.pages)))
    (each_weaker (IsPage objects) (IsPage (o ∷ objects)) (flat_map all_pages_of objects) (λ t any. any_later (λ (o : ObjectRec). (o.number ≡ t.0) × (t.1 < o.pages)) o objects any) (all_are_pages objects))

-- ---- a list of just the pages that aren't all zero

module _ (g : Group) (valid : GroupIsValid g) (pages : List PagePlace) (which : map listed_page pages ≡ nonzero_pages g) where
  objects_rise : IsOrdered IsLower g.frame.objects
  unfolding Rise
  objects_rise = ordered_of_pairs IsLower g.frame.objects valid.sound.frame.objects.rise

  pub pages_rise : PagesRise pages
  unfolding PagesRise IsPageBefore nonzero_pages all_pages
  pages_rise =
      let all : IsOrdered IsEarlier (nonzero_pages g) = ordered_filter IsEarlier (is_listed g.memory) (all_pages g.frame) (all_ordered g.frame.objects objects_rise) in
      pairs_of_ordered IsPageBefore pages (ordered_of_map IsEarlier listed_page pages (subst (IsOrdered IsEarlier) (sym which) all))

  pub pages_are_of : AllByRecursion (IsPageOf g.frame) pages
  unfolding IsPageOf nonzero_pages all_pages
  pages_are_of =
      let all : AllByRecursion (IsPage g.frame.objects) (nonzero_pages g) = each_filter (IsPage g.frame.objects) (is_listed g.memory) (all_pages g.frame) (all_are_pages g.frame.objects) in
      each_of_map (IsPage g.frame.objects) listed_page pages (subst (AllByRecursion (IsPage g.frame.objects)) (sym which) all)
