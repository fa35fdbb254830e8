-- Descriptors installed one by one, and shared mappings copied one by one.
use Rattle.std.proofs.Common.{◌≡◌, ℕ, zero, suc, ◌+◌, ◌<◌, ◌==◌, Bool, true, false, List, [], ◌∷◌, ◌++◌, length, get_or, take, Some, None, refl, sym, ap, ◌∙◌, arith, cond}
use Rattle.std.proofs.lemmas.Bool.Decides.{nat_tests}
use Rattle.std.proofs.lemmas.List.Elements.{filter-append}
use Rattle.std.specs.Prelude.{All, IsSome, if◌then◌else◌}
use Rattle.std.specs.Option.{option_map}
use Rattle.address_maps.specs.declared.maps.Mapping.{Mapping}
use Rattle.descriptors.specs.Descriptors.{AreDescriptors, AreSmall, number_at, with_fd}
use Rattle.descriptors.specs.Opens.{descriptions, one_more_owner, open_of}
use Rattle.descriptors.specs.Owners.{OwnersAre, descriptors_at, holds_on}
use Rattle.descriptors.specs.declared.counted.Counted.{Counted}
use Rattle.descriptors.specs.declared.opens.Open.{Open}
use Rattle.group_defs.specs.Descriptions.{IsOpen}
use Rattle.group_parts.specs.Parts.{shared_mappings}
use Rattle.tables.specs.Lists.{on_first}
use Rattle.group_kernel.proofs.AddedLast.{added_last, below_next, none_below, take_next}

abbrev fd_of : ℕ × ℕ → ℕ
fd_of d = d.0

pub small_next : (list : List (ℕ × ℕ)) (k : ℕ) (d : ℕ × ℕ) → k < length list → AreDescriptors list → (get_or list k d).0 < 64
unfolding AreSmall
small_next list k d lt fits = fits.small k d lt

pub free_next : (list : List (ℕ × ℕ)) (k : ℕ) (d : ℕ × ℕ) → k < length list → AreDescriptors list → number_at (take k list) (get_or list k d).0 ≡ None
free_next list k d lt fits = ap (option_map (λ (e : ℕ × ℕ). e.1)) (none_below fd_of (get_or list k d).0 (take k list) (below_next fd_of list k d lt fits.rise))

pub installed_next : (list : List (ℕ × ℕ)) (k : ℕ) (d : ℕ × ℕ) → k < length list → AreDescriptors list → with_fd (take k list) (get_or list k d).0 (get_or list k d).1 ≡ take (k + 1) list
installed_next list k d lt fits =
    rw (free_next list k d lt fits, with_fd) (added_last fd_of (get_or list k d) (get_or list k d).0 refl (take k list) (below_next fd_of list k d lt fits.rise))
    ∙ sym (take_next list k d lt)

pub same_descriptions : (opens : List Counted) (n : ℕ) → descriptions (one_more_owner opens n) ≡ descriptions opens
unfolding on_first
same_descriptions [] n = refl
same_descriptions (c ∷ cs) n = by_test (c.description.number == n) refl (same_descriptions cs n)
  where
    by_test : (b : Bool) → (c.description.number == n) ≡ b → descriptions (one_more_owner cs n) ≡ descriptions cs → descriptions (one_more_owner (c ∷ cs) n) ≡ descriptions (c ∷ cs)
    by_test true e rest = rw e refl
    by_test false e rest = rw e (ap (λ (l : List Open). c.description ∷ l) rest)

is_open : (opens : List Counted) (n : ℕ) (k : ℕ) (d : Open) → k < length (descriptions opens) → (get_or (descriptions opens) k d).number ≡ n → IsSome (open_of opens n)
is_open [] n k d lt at = absurd (omega (arith, lt))
is_open (c ∷ cs) n zero d lt at = let hit : (c.description.number == n) ≡ true = grind (arith, nat_tests, at) in rw hit refl
is_open (c ∷ cs) n (suc k) d lt at = by_test (c.description.number == n) (is_open cs n k d (omega (arith, lt)) at)
  where
    by_test : (b : Bool) → IsSome (open_of cs n) → IsSome (if b then Some c else open_of cs n)
    by_test true rest = refl
    by_test false rest = rest

pub open_there : (opens : List Counted) (n : ℕ) → IsOpen (descriptions opens) n → IsSome (open_of opens n)
unfolding IsOpen
open_there opens n (k, d, lt, is, at) = is_open opens n k d lt (ap (λ (o : Open). o.number) is ∙ at)

-- a table without descriptors owns nothing
pub owners_none : (others : List (List (ℕ × ℕ))) (holds : List ℕ) (opens : List Counted) → OwnersAre others holds opens → OwnersAre ([] ∷ others) holds opens
unfolding OwnersAre
owners_none others holds opens are number =
    are number ∙ (let e : descriptors_at others number + holds_on holds number ≡ (0 + descriptors_at others number) + holds_on holds number = omega arith in e)

pub shared_next : (maps : List Mapping) (k : ℕ) (d : Mapping) → k < length maps → (get_or maps k d).shared ≡ true → shared_mappings (take (k + 1) maps) ≡ shared_mappings (take k maps) ++ get_or maps k d ∷ []
shared_next maps k d lt is =
    ap shared_mappings (take_next maps k d lt) ∙ filter-append (λ (m : Mapping). m.shared) (take k maps) (get_or maps k d ∷ [])
    ∙ ap (λ (b : Bool). shared_mappings (take k maps) ++ cond b (get_or maps k d ∷ []) []) is

pub private_next : (maps : List Mapping) (k : ℕ) (d : Mapping) → k < length maps → (get_or maps k d).shared ≡ false → shared_mappings (take (k + 1) maps) ≡ shared_mappings (take k maps)
private_next maps k d lt is =
    ap shared_mappings (take_next maps k d lt) ∙ filter-append (λ (m : Mapping). m.shared) (take k maps) (get_or maps k d ∷ [])
    ∙ ap (λ (b : Bool). shared_mappings (take k maps) ++ cond b (get_or maps k d ∷ []) []) is ∙ none_behind (shared_mappings (take k maps))
  where
    none_behind : (l : List Mapping) → l ++ [] ≡ l
    none_behind [] = refl
    none_behind (x ∷ xs) = ap (λ (l : List Mapping). x ∷ l) (none_behind xs)

-- the description at the next descriptor is still there
pub open_next : (list : List (ℕ × ℕ)) (k : ℕ) (d : ℕ × ℕ) (first opens : List Counted) → k < length list → descriptions opens ≡ descriptions first
    → All (λ d. IsOpen (descriptions first) d.1) list → IsSome (open_of opens (get_or list k d).1)
open_next list k d first opens lt same there = open_there opens (get_or list k d).1 (rw same (there k d lt))

-- the list with the next descriptor in it
pub list_next : (list before : List (ℕ × ℕ)) (k : ℕ) (d : ℕ × ℕ) → k < length list → AreDescriptors list → before ≡ take k list
    → with_fd before (get_or list k d).0 (get_or list k d).1 ≡ take (k + 1) list
list_next list before k d lt fits is = ap (λ (l : List (ℕ × ℕ)). with_fd l (get_or list k d).0 (get_or list k d).1) is ∙ installed_next list k d lt fits
