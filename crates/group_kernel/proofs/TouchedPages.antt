-- The pages of a checkpoint: those of its group's objects that the interval touched.
use Rattle.std.proofs.Common.{◌≡◌, ◌∙◌, ℕ, zero, suc, ◌+◌, ◌<◌, ◌≤◌, ◌==◌, ◌&&◌, ◌||◌, ◌++◌, Bool, true, false, List, [], ◌∷◌, map, refl, sym, ap, arith, append_assoc, subst}
use Rattle.std.proofs.lemmas.Bool.{and_parts, eq-eqb, eqb-true}
use Rattle.std.proofs.lemmas.List.Folds.{list_any-append}
use Rattle.std.specs.Prelude.{if◌then◌else◌}
use Rattle.std.proofs.lemmas.Bool.Decides.{nat_tests}
use Rattle.std.specs.List.{AllByRecursion, AllZip, filter, flat_map, range_with_len}
use Rattle.group_defs.specs.Pages.{all_pages, is_among, pages_of}
use Rattle.group_defs.specs.declared.frame.Frame.{Frame}
use Rattle.group_defs.specs.declared.frame.ObjectRec.{ObjectRec}
use Rattle.group_kernel.specs.Deltas.{HasJust}
use Rattle.shadow_chains.specs.declared.face.Frozen.{Frozen}

abbrev is_page : ℕ × ℕ → ℕ × ℕ → Bool
is_page page p = (p.0 == page.0) && (p.1 == page.1)

same_page : (p page : ℕ × ℕ) → is_page page p ≡ true → p ≡ page
same_page (a, b) (c, d) e = let both = and_parts (a == c) (b == d) e in ap (λ (n : ℕ). (n, b)) (eqb-true a c both.0) ∙ ap (λ (n : ℕ). (c, n)) (eqb-true b d both.1)

not_among : (t : ℕ × ℕ → Bool) (xs : List (ℕ × ℕ)) (page : ℕ × ℕ) → t page ≡ false → is_among (filter t xs) page ≡ false
not_among t [] page e = refl
not_among t (x ∷ xs) page e = by_test (t x) (is_page page x) refl refl (not_among t xs page e)
  where
    by_test : (b u : Bool) → t x ≡ b → is_page page x ≡ u → is_among (filter t xs) page ≡ false → is_among (if b then x ∷ filter t xs else filter t xs) page ≡ false
    by_test true true f h rest = let its : t page ≡ true = sym (ap t (same_page x page h)) ∙ f in absurd (cc)
    by_test true false f h rest = ap (λ (v : Bool). v || is_among (filter t xs) page) h ∙ rest
    by_test false u f h rest = rest

-- among those of a list that pass a test, where it is in the list
pub among_passing : (t : ℕ × ℕ → Bool) (xs : List (ℕ × ℕ)) (page : ℕ × ℕ) → is_among xs page ≡ true → is_among (filter t xs) page ≡ t page
among_passing t [] page e = absurd (cc)
among_passing t (x ∷ xs) page e = by_test (t x) (is_page page x) refl refl (among_passing t xs page) e (not_among t xs page)
  where
    by_test : (b u : Bool) → t x ≡ b → is_page page x ≡ u → (is_among xs page ≡ true → is_among (filter t xs) page ≡ t page) → (u || is_among xs page) ≡ true → (t page ≡ false → is_among (filter t xs) page ≡ false)
        → is_among (if b then x ∷ filter t xs else filter t xs) page ≡ t page
    by_test true true f h rest e none = ap (λ (v : Bool). v || is_among (filter t xs) page) h ∙ sym f ∙ ap t (same_page x page h)
    by_test true false f h rest e none = ap (λ (v : Bool). v || is_among (filter t xs) page) h ∙ rest e
    by_test false true f h rest e none = let its : t page ≡ false = sym (ap t (same_page x page h)) ∙ f in none its ∙ sym its
    by_test false false f h rest e none = rest e

-- each page of an object is among all pages
itself : (n : ℕ) → (n == n) ≡ true
itself n = eq-eqb n n refl

or_true : (b : Bool) → (b || true) ≡ true
or_true true = refl
or_true false = refl

in_range : (number first count page : ℕ) → first ≤ page → page < first + count → is_among (map (λ (k : ℕ). (number, k)) (range_with_len first count)) (number, page) ≡ true
in_range number first zero page above below = absurd (omega (arith, above, below))
in_range number first (suc count) page above below = by_test (first == page) refl (λ e. in_range number (first + 1) count page (grind (arith, nat_tests, above, e)) (omega (arith, below)))
  where
    by_test : (b : Bool) → (first == page) ≡ b → ((first == page) ≡ false → is_among (map (λ (k : ℕ). (number, k)) (range_with_len (first + 1) count)) (number, page) ≡ true) → (((number == number) && (first == page)) || is_among (map (λ (k : ℕ). (number, k)) (range_with_len (first + 1) count)) (number, page)) ≡ true
    by_test true e rest = rw (itself number, e) refl
    by_test false e rest = rw (itself number, e) (rest e)

abbrev pub AreAmong : List (ℕ × ℕ) → ObjectRec → Type 0
AreAmong pages o = (page : ℕ) → page < o.pages → is_among pages (o.number, page) ≡ true

among_each : (a b c : List (ℕ × ℕ)) (page : ℕ × ℕ) → is_among b page ≡ true → is_among (a ++ (b ++ c)) page ≡ true
among_each a b c page e =
    list_any-append (is_page page) a (b ++ c) ∙ ap (λ (v : Bool). is_among a page || v) (list_any-append (is_page page) b c ∙ ap (λ (v : Bool). v || is_among c page) e) ∙ or_true (is_among a page)

pub each_among : (before : List (ℕ × ℕ)) (objects : List ObjectRec) → AllByRecursion (AreAmong (before ++ flat_map pages_of objects)) objects
each_among before [] = tt
each_among before (o ∷ os) = (
  λ page lt. among_each before (pages_of o) (flat_map pages_of os) (o.number, page) (in_range o.number 0 o.pages page (omega arith) (omega (arith, lt))),
  subst (λ (l : List (ℕ × ℕ)). AllByRecursion (AreAmong l) os) (append_assoc before (pages_of o) (flat_map pages_of os)) (each_among (before ++ pages_of o) os),
)

-- so the pages that the interval touched are those of all pages that it touched
just_passing : (touched pages : List (ℕ × ℕ)) (objects : List ObjectRec) (frozen : List Frozen) → AllZip (HasJust touched) objects frozen → AllByRecursion (AreAmong pages) objects
    → AllZip (HasJust (filter (is_among touched) pages)) objects frozen
just_passing touched pages [] [] just among = just
just_passing touched pages [] (f ∷ fs) just among = just
just_passing touched pages (o ∷ os) [] just among = just
just_passing touched pages (o ∷ os) (f ∷ fs) just among =
    (λ page lt. just.0 page lt ∙ sym (among_passing (is_among touched) pages (o.number, page) (among.0 page lt)), just_passing touched pages os fs just.1 among.1)

pub just_touched : (touched : List (ℕ × ℕ)) (f : Frame) (frozen : List Frozen) → AllZip (HasJust touched) f.objects frozen → AllZip (HasJust (filter (is_among touched) (all_pages f))) f.objects frozen
unfolding all_pages
just_touched touched f frozen just = just_passing touched (flat_map pages_of f.objects) f.objects frozen just (each_among [] f.objects)
