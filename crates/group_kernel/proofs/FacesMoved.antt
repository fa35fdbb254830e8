-- A face that is moved from what is left of a table to what was taken out of it.
use Rattle.std.proofs.Common.{◌≡◌, ℕ, zero, suc, ◌+◌, ◌<◌, ◌==◌, ◌&&◌, ◌||◌, Bool, true, false, not, List, [], ◌∷◌, length, get_or, take, Option, Some, None, refl, sym, ap, ◌∙◌, arith}
use Rattle.std.proofs.lemmas.Bool.Decides.{nat_tests}
use Rattle.std.specs.Prelude.{if◌then◌else◌, is_some}
use Rattle.std.specs.List.{list_any}
use Rattle.std.specs.Option.{option_map}
use Rattle.address_maps.specs.declared.maps.Mapping.{Mapping}
use Rattle.group_defs.specs.Fork.{maps_privately}
use Rattle.tables.specs.Rising.{Rise, added, entry_of, removed}
use Rattle.tables.proofs.Only.{find_filter_none, find_filter_other}
use Rattle.tables.proofs.Ordered.{ordered_of_pairs}
use Rattle.shadow_chains.specs.declared.entry.Entry.{Entry}
use Rattle.shadow_chains.specs.Entries.{entry_with, face_of, number_of, with_face}
use Rattle.shadow_chains.specs.Faces.{FaceView}
use Rattle.group_kernel.specs.Starting.{faces_but, faces_that}
use Rattle.group_kernel.proofs.FacesTaken.{added_to, but_alike, but_removed, none_found, or_is, that_alike, that_same}

abbrev pub put_if : List Entry → ℕ → Option FaceView → List Entry
put_if here n None = here
put_if here n (Some face) = with_face here n face

found_number : (n : ℕ) (y : Entry) (xs : List Entry) → entry_of number_of xs n ≡ Some y → y.number ≡ n
found_number n y [] found = absurd (let f = found in cc)
found_number n y (x ∷ xs) found = by_test (x.number == n) refl found (found_number n y xs)
  where
    by_test : (b : Bool) → (x.number == n) ≡ b → (if b then Some x else entry_of number_of xs n) ≡ Some y → (entry_of number_of xs n ≡ Some y → y.number ≡ n) → y.number ≡ n
    by_test true e found rest = let same : x ≡ y = cc in let at : x.number ≡ n = grind (arith, nat_tests, e) in ap number_of (sym same) ∙ at
    by_test false e found rest = rest found

same_entry : (n : ℕ) (y : Entry) → y.number ≡ n → entry_with n y.face ≡ y
same_entry n y at = ap (λ (k : ℕ). entry_with k y.face) (sym at)

not_there : (takes : ℕ → Bool) (n : ℕ) (xs : List Entry) → takes n ≡ false → face_of (faces_that takes xs) n ≡ None
not_there takes n xs miss = ap (option_map (λ (e : Entry). e.face)) (find_filter_none (λ (e : Entry). e.number == n) (λ e. takes e.number) (λ e hit. let at : e.number ≡ n = grind (arith, nat_tests, hit) in ap takes at ∙ miss) xs)

pub moved : (takes : ℕ → Bool) (n : ℕ) (all : List Entry) → Rise number_of all → put_if (faces_that takes all) n (face_of (faces_but takes all) n) ≡ faces_that (or_is takes n) all
unfolding Rise
moved takes n all rise = by_test (takes n) refl
  where
    by_entry : takes n ≡ false → (o : Option Entry) → entry_of number_of all n ≡ o → put_if (faces_that takes all) n (option_map (λ (e : Entry). e.face) o) ≡ faces_that (or_is takes n) all
    by_entry miss None none = sym (that_same number_of takes n all (none_found number_of n all none))
    by_entry miss (Some y) found =
        let at = found_number n y all found in
        let none : is_some (face_of (faces_that takes all) n) ≡ false = ap is_some (not_there takes n all miss) in
        rw none (ap (added number_of (faces_that takes all)) (same_entry n y at) ∙ added_to number_of takes n y all at (ordered_of_pairs (λ x y. number_of x < number_of y) all rise) found miss)

    by_test : (b : Bool) → takes n ≡ b → put_if (faces_that takes all) n (face_of (faces_but takes all) n) ≡ faces_that (or_is takes n) all
    by_test true e =
        let gone : face_of (faces_but takes all) n ≡ None = ap (option_map (λ (e : Entry). e.face)) (find_filter_none (λ (e : Entry). e.number == n) (λ e. not (takes e.number)) (λ x hit. let at : x.number ≡ n = grind (arith, nat_tests, hit) in ap (λ (k : ℕ). not (takes k)) at ∙ ap not e) all) in
        ap (put_if (faces_that takes all) n) gone ∙ that_alike number_of takes (or_is takes n) (λ k. by_number k (k == n) refl) all
      where
        by_number : (k : ℕ) (b : Bool) → (k == n) ≡ b → takes k ≡ (takes k || (k == n))
        by_number k true f = let at : k ≡ n = grind (arith, nat_tests, f) in rw at (rw e refl)
        by_number k false f = rw f (plain (takes k))
          where
            plain : (b : Bool) → b ≡ (b || false)
            plain true = refl
            plain false = refl
    by_test false e =
        let there : face_of (faces_but takes all) n ≡ face_of all n = ap (option_map (λ (e : Entry). e.face)) (find_filter_other (λ (e : Entry). e.number == n) (λ e. not (takes e.number)) (λ x hit. let at : x.number ≡ n = grind (arith, nat_tests, hit) in ap (λ (k : ℕ). not (takes k)) at ∙ ap not e) all) in
        ap (put_if (faces_that takes all) n) there ∙ by_entry e (entry_of number_of all n) refl

-- ---- mapping by mapping
pub any_more : {X : Type 0} (test : X → Bool) (maps : List X) (k : ℕ) (d : X) → k < length maps → list_any test (take (k + 1) maps) ≡ (list_any test (take k maps) || test (get_or maps k d))
any_more test [] k d lt = absurd (omega (arith, lt))
any_more test (m ∷ ms) zero d lt = plain (test m)
  where
    plain : (b : Bool) → (b || false) ≡ (false || b)
    plain true = refl
    plain false = refl
any_more test (m ∷ ms) (suc k) d lt =
    let e : suc k + 1 ≡ suc (k + 1) = omega arith in
    ap (λ (n : ℕ). list_any test (take n (m ∷ ms))) e ∙ by_test (test m) (any_more test ms k d (omega (arith, lt)))
  where
    by_test : (b : Bool) → list_any test (take (k + 1) ms) ≡ (list_any test (take k ms) || test (get_or ms k d))
        → (b || list_any test (take (k + 1) ms)) ≡ ((b || list_any test (take k ms)) || test (get_or ms k d))
    by_test true rest = refl
    by_test false rest = rest

abbrev private_at : ℕ → Mapping → Bool
private_at number m = (m.object == number) && not m.shared

-- the mappings up to a private one take its object too; a shared one takes none
pub next_private : (maps : List Mapping) (k : ℕ) (d : Mapping) → k < length maps → (get_or maps k d).shared ≡ false
    → (n : ℕ) → or_is (maps_privately (take k maps)) (get_or maps k d).object n ≡ maps_privately (take (k + 1) maps) n
next_private maps k d lt private n = sym (any_more (private_at n) maps k d lt ∙ rw private (ap (λ (b : Bool). maps_privately (take k maps) n || b) (turned ((get_or maps k d).object == n) refl)))
  where
    turned : (b : Bool) → ((get_or maps k d).object == n) ≡ b → (b && true) ≡ (n == (get_or maps k d).object)
    turned true e = grind (arith, nat_tests, e)
    turned false e = grind (arith, nat_tests, e)

pub next_shared : (maps : List Mapping) (k : ℕ) (d : Mapping) → k < length maps → (get_or maps k d).shared ≡ true
    → (n : ℕ) → maps_privately (take k maps) n ≡ maps_privately (take (k + 1) maps) n
next_shared maps k d lt shared n = sym (any_more (private_at n) maps k d lt ∙ rw shared (plain (maps_privately (take k maps) n) ((get_or maps k d).object == n)))
  where
    plain : (a b : Bool) → (a || (b && false)) ≡ a
    plain true b = refl
    plain false true = refl
    plain false false = refl

-- the tables after a mapping's face was moved
pub moved_next : (maps : List Mapping) (k : ℕ) (d : Mapping) (all here left new : List Entry) → Rise number_of all → k < length maps → (get_or maps k d).shared ≡ false
    → here ≡ faces_that (maps_privately (take k maps)) all → left ≡ faces_but (maps_privately (take k maps)) all → new ≡ put_if here (get_or maps k d).object (face_of left (get_or maps k d).object)
    → new ≡ faces_that (maps_privately (take (k + 1) maps)) all
moved_next maps k d all here left new rise lt private taken rest is =
    is ∙ rw (taken, rest) (moved (maps_privately (take k maps)) (get_or maps k d).object all rise) ∙ that_alike number_of _ _ (next_private maps k d lt private) all

pub left_next : (maps : List Mapping) (k : ℕ) (d : Mapping) (all left new : List Entry) → k < length maps → (get_or maps k d).shared ≡ false
    → left ≡ faces_but (maps_privately (take k maps)) all → new ≡ removed number_of left (get_or maps k d).object
    → new ≡ faces_but (maps_privately (take (k + 1) maps)) all
left_next maps k d all left new lt private rest is =
    is ∙ rw rest (but_removed number_of (maps_privately (take k maps)) (get_or maps k d).object all) ∙ but_alike number_of _ _ (next_private maps k d lt private) all

pub taken_shared : (maps : List Mapping) (k : ℕ) (d : Mapping) (all : List Entry) → k < length maps → (get_or maps k d).shared ≡ true
    → (faces_that (maps_privately (take k maps)) all ≡ faces_that (maps_privately (take (k + 1) maps)) all) × (faces_but (maps_privately (take k maps)) all ≡ faces_but (maps_privately (take (k + 1) maps)) all)
taken_shared maps k d all lt shared = (that_alike number_of _ _ (next_shared maps k d lt shared) all, but_alike number_of _ _ (next_shared maps k d lt shared) all)
