-- Objects in two lists, looked up by number.
use Rattle.std.proofs.Common.{◌≡◌, ℕ, ◌+◌, ◌<◌, ◌==◌, ◌||◌, Bool, true, false, List, [], ◌∷◌, ◌++◌, length, map, Some, None, refl, sym, ap, ◌∙◌, arith}
use Rattle.std.specs.Prelude.{if◌then◌else◌}
use Rattle.std.specs.List.{list_any}
use Rattle.address_maps.specs.declared.maps.Mapping.{Mapping}
use Rattle.address_maps.specs.Mappings.{mapping_at}
use Rattle.group_defs.specs.Cells.{bytes_in}
use Rattle.rv64_isa.specs.Numbers.{wrapped}
use Rattle.tables.specs.Lists.{on_first}
use Rattle.shadow_chains.specs.declared.entry.Entry.{Entry}
use Rattle.shadow_chains.specs.Entries.{face_of}
use Rattle.proc_lease.specs.Sight.{has_object}
use Rattle.proc_lease.specs.Private.{ObjectView, byte_into_at, memory_of, stored_into, views_of}
use Rattle.proc_lease.proofs.GroupObjects.{bases_kept}

abbrev one_of : Bool → List ℕ → List ℕ → List ℕ
one_of t x y = if t then x else y

-- the first of two lists that has it
pub bytes_joined : (xs ys : List ObjectView) (number : ℕ) → bytes_in (memory_of (xs ++ ys)) number ≡ (if has_object xs number then bytes_in (memory_of xs) number else bytes_in (memory_of ys) number)
bytes_joined [] ys number = refl
bytes_joined (x ∷ xs) ys number = by_test (x.number == number) refl (bytes_joined xs ys number)
  where
    by_test : (t : Bool) → (x.number == number) ≡ t → bytes_in (memory_of (xs ++ ys)) number ≡ (if has_object xs number then bytes_in (memory_of xs) number else bytes_in (memory_of ys) number)
        → bytes_in (memory_of ((x ∷ xs) ++ ys)) number ≡ (if t || has_object xs number then bytes_in (memory_of (x ∷ xs)) number else bytes_in (memory_of ys) number)
    by_test true is rest = rw (bytes_in, is) refl
    by_test false is rest = rw (bytes_in, is) rest

pub bytes_first : (xs ys : List ObjectView) (number : ℕ) → has_object xs number ≡ true → bytes_in (memory_of (xs ++ ys)) number ≡ bytes_in (memory_of xs) number
bytes_first xs ys number is = bytes_joined xs ys number ∙ ap (λ t. one_of t (bytes_in (memory_of xs) number) (bytes_in (memory_of ys) number)) is

pub bytes_second : (xs ys : List ObjectView) (number : ℕ) → has_object xs number ≡ false → bytes_in (memory_of (xs ++ ys)) number ≡ bytes_in (memory_of ys) number
bytes_second xs ys number is = bytes_joined xs ys number ∙ ap (λ t. one_of t (bytes_in (memory_of xs) number) (bytes_in (memory_of ys) number)) is

pub no_bytes : (xs : List ObjectView) (number : ℕ) → has_object xs number ≡ false → bytes_in (memory_of xs) number ≡ []
no_bytes [] number none = refl
no_bytes (x ∷ xs) number none = by_test (no_bytes xs number) (x.number == number) refl none
  where
    by_test : (has_object xs number ≡ false → bytes_in (memory_of xs) number ≡ []) → (t : Bool) → (x.number == number) ≡ t → (t || has_object xs number) ≡ false → bytes_in (memory_of (x ∷ xs)) number ≡ []
    by_test rest true is e = absurd cc
    by_test rest false is e = rw (bytes_in, is) (rest e)

-- what isn't there isn't changed
pub none_changed : (f : ObjectView → ObjectView) (xs : List ObjectView) (number : ℕ) → has_object xs number ≡ false → on_first (λ o. o.number == number) f xs ≡ xs
unfolding on_first
none_changed f [] number none = refl
none_changed f (x ∷ xs) number none = by_test (none_changed f xs number) (x.number == number) refl none
  where
    by_test : (has_object xs number ≡ false → on_first (λ o. o.number == number) f xs ≡ xs) → (t : Bool) → (x.number == number) ≡ t → (t || has_object xs number) ≡ false → (if t then f x ∷ xs else x ∷ on_first (λ o. o.number == number) f xs) ≡ x ∷ xs
    by_test rest true is e = absurd cc
    by_test rest false is e = ap (λ (l : List ObjectView). x ∷ l) (rest e)

-- Objects stay under their numbers.
abbrev among : List ℕ → ℕ → Bool
among numbers number = list_any (λ n. n == number) numbers

numbers_are : (xs : List ObjectView) (number : ℕ) → has_object xs number ≡ among (map (λ o. o.number) xs) number
numbers_are [] number = refl
numbers_are (x ∷ xs) number = ap (λ t. (x.number == number) || t) (numbers_are xs number)

pub same_numbers : (xs ys : List ObjectView) (number : ℕ) → map (λ o. o.number) xs ≡ map (λ o. o.number) ys → has_object xs number ≡ has_object ys number
same_numbers xs ys number same = numbers_are xs number ∙ ap (λ l. among l number) same ∙ sym (numbers_are ys number)

pub stored_there : (objects : List ObjectView) (maps : List Mapping) (a : ℕ) (bytes : List ℕ) (number : ℕ) → has_object (stored_into objects maps a bytes) number ≡ has_object objects number
stored_there objects maps a bytes number = same_numbers (stored_into objects maps a bytes) objects number (bases_kept objects maps a bytes).numbers

-- what is stored at addresses of a mapping whose object isn't there
pub none_stored_to : (objects : List ObjectView) (maps : List Mapping) (a : ℕ) (bytes : List ℕ) (m : Mapping) → ((k : ℕ) → k < length bytes → mapping_at maps (wrapped (a + k)) ≡ Some m) → has_object objects m.object ≡ false → stored_into objects maps a bytes ≡ objects
unfolding stored_into
none_stored_to objects maps a [] m each none = refl
none_stored_to objects maps a (b ∷ bs) m each none =
    let here : a + 0 ≡ a = omega arith in
    let found : mapping_at maps (wrapped a) ≡ Some m = ap (λ (i : ℕ). mapping_at maps (wrapped i)) (sym here) ∙ each 0 (omega arith) in
    let first : byte_into_at objects (mapping_at maps (wrapped a)) (wrapped a) b ≡ objects = ap (λ o. byte_into_at objects o (wrapped a) b) found ∙ none_changed _ objects m.object none in
    ap (λ (l : List ObjectView). stored_into l maps (a + 1) bs) first
    ∙ none_stored_to objects maps (a + 1) bs m (λ k lt. let next : a + 1 + k ≡ a + (k + 1) = omega arith in ap (λ (i : ℕ). mapping_at maps (wrapped i)) next ∙ each (k + 1) (omega (arith, lt))) none

-- no face
pub no_face : (entries : List Entry) (number : ℕ) → has_object (views_of entries) number ≡ false → face_of entries number ≡ None
no_face [] number none = refl
no_face (e ∷ es) number none = by_test (no_face es number) (e.number == number) refl none
  where
    by_test : (has_object (views_of es) number ≡ false → face_of es number ≡ None) → (t : Bool) → (e.number == number) ≡ t → (t || has_object (views_of es) number) ≡ false → face_of (e ∷ es) number ≡ None
    by_test rest true is h = absurd cc
    by_test rest false is h = rw is (rest h)
