-- Objects by number in the flat tables that views of faces make.
use Rattle.std.proofs.Common.{◌≡◌, ℕ, zero, suc, ◌<◌, ◌≤◌, ◌==◌, ◌||◌, Bool, true, false, List, [], ◌∷◌, ◌++◌, length, get_or, All, Option, Some, None, refl, sym, ap, ◌∙◌, arith}
use Rattle.std.proofs.Math.Path.{fun_ext}
use Rattle.std.specs.Prelude.{if◌then◌else◌, slice_index}
use Rattle.std.specs.List.{cons_option, filter_map, find, list_any}
use Rattle.std.specs.Option.{option_map}
use Rattle.address_maps.specs.declared.maps.Mapping.{Mapping}
use Rattle.address_maps.specs.Mappings.{AreApart, IsMapping, end_of, has, mapping_at}
use Rattle.group_defs.specs.Cells.{bytes_in, cell_in, cells_of, object_place}
use Rattle.group_defs.specs.declared.frame.ObjectRec.{ObjectRec}
use Rattle.rv64_isa.specs.Memory.{Cell}
use Rattle.group_kernel.specs.Held.{view_in}
use Rattle.proc_lease.specs.Sight.{has_object}
use Rattle.proc_lease.specs.Private.{ObjectView, memory_of}

abbrev pub Memory : Type 0
Memory = List (ℕ × List ℕ)

abbrev pub memory_in : List ObjectRec → List ObjectView → Memory
memory_in objects views = filter_map (λ o. option_map (λ (v : ObjectView). (o.number, v.bytes)) (view_in views o.number)) objects

abbrev pub has_number : List ObjectRec → ℕ → Bool
has_number objects number = list_any (λ o. o.number == number) objects

-- ---- one list of views

pub no_entry : (objects : List ObjectView) (number : ℕ) → find (λ o. o.0 == number) (memory_of objects) ≡ None → has_object objects number ≡ false
no_entry [] number none = refl
no_entry (x ∷ xs) number none = by_test (no_entry xs number) (x.number == number) none
  where
    by_test : (find (λ o. o.0 == number) (memory_of xs) ≡ None → has_object xs number ≡ false) → (t : Bool) → (if t then Some (x.number, x.bytes) else find (λ o. o.0 == number) (memory_of xs)) ≡ None → (t || has_object xs number) ≡ false
    by_test rest true e = absurd cc
    by_test rest false e = rest e

no_view : (xs : List ObjectView) (number : ℕ) → view_in xs number ≡ None → has_object xs number ≡ false
no_view [] number none = refl
no_view (x ∷ xs) number none = by_test (no_view xs number) (x.number == number) none
  where
    by_test : (view_in xs number ≡ None → has_object xs number ≡ false) → (t : Bool) → (if t then Some x else view_in xs number) ≡ None → (t || has_object xs number) ≡ false
    by_test rest true e = absurd cc
    by_test rest false e = rest e

pub has_both : (xs ys : List ObjectView) (number : ℕ) → has_object (xs ++ ys) number ≡ (has_object xs number || has_object ys number)
has_both [] ys number = refl
has_both (x ∷ xs) ys number = by_test (x.number == number) (has_both xs ys number)
  where
    by_test : (t : Bool) → has_object (xs ++ ys) number ≡ (has_object xs number || has_object ys number) → (t || has_object (xs ++ ys) number) ≡ ((t || has_object xs number) || has_object ys number)
    by_test true rest = refl
    by_test false rest = rest

view_bytes : (xs : List ObjectView) (number : ℕ) (v : ObjectView) → view_in xs number ≡ Some v → bytes_in (memory_of xs) number ≡ v.bytes
view_bytes [] number v found = absurd cc
view_bytes (x ∷ xs) number v found = by_test (view_bytes xs number v) (x.number == number) refl found
  where
    by_test : (view_in xs number ≡ Some v → bytes_in (memory_of xs) number ≡ v.bytes) → (t : Bool) → (x.number == number) ≡ t → (if t then Some x else view_in xs number) ≡ Some v → bytes_in (memory_of (x ∷ xs)) number ≡ v.bytes
    by_test rest true is e = let same : x ≡ v = cc in rw (bytes_in, is) (ap (λ (o : ObjectView). o.bytes) same)
    by_test rest false is e = rw (bytes_in, is) (rest e)

-- ---- in the order of objects

-- an object with bytes there has its view's
pub bytes_of_view : (objects : List ObjectRec) (views : List ObjectView) (number : ℕ) → 0 < length (bytes_in (memory_in objects views) number) → bytes_in (memory_in objects views) number ≡ bytes_in (memory_of views) number
bytes_of_view [] views number some = absurd (omega (arith, some))
bytes_of_view (o ∷ os) views number some = by_view (view_in views o.number) refl (bytes_of_view os views number) some
  where
    with : Option ObjectView → Memory
    with view = cons_option (option_map (λ (v : ObjectView). (o.number, v.bytes)) view) (memory_in os views)

    by_test : (v : ObjectView) → view_in views o.number ≡ Some v → (0 < length (bytes_in (memory_in os views) number) → bytes_in (memory_in os views) number ≡ bytes_in (memory_of views) number) → (t : Bool) → (o.number == number) ≡ t
        → 0 < length (bytes_in ((o.number, v.bytes) ∷ memory_in os views) number) → bytes_in ((o.number, v.bytes) ∷ memory_in os views) number ≡ bytes_in (memory_of views) number
    by_test v is rest true hit e =
        let same : o.number ≡ number = grind (arith, hit) in
        rw (bytes_in, hit) (sym (view_bytes views o.number v is) ∙ ap (bytes_in (memory_of views)) same)
    by_test v is rest false miss e =
        let later : 0 < length (bytes_in (memory_in os views) number) = rw (bytes_in, miss) at e in
        rw (bytes_in, miss) (rest later)

    by_view : (view : Option ObjectView) → view_in views o.number ≡ view → (0 < length (bytes_in (memory_in os views) number) → bytes_in (memory_in os views) number ≡ bytes_in (memory_of views) number) → 0 < length (bytes_in (with (view_in views o.number)) number)
        → bytes_in (with (view_in views o.number)) number ≡ bytes_in (memory_of views) number
    by_view None is rest e =
        let skip : with (view_in views o.number) ≡ memory_in os views = ap with is in
        let later : 0 < length (bytes_in (memory_in os views) number) = omega (arith, e, ap (λ (m : Memory). length (bytes_in m number)) skip) in
        ap (λ (m : Memory). bytes_in m number) skip ∙ rest later
    by_view (Some v) is rest e =
        let here : with (view_in views o.number) ≡ (o.number, v.bytes) ∷ memory_in os views = ap with is in
        let some' : 0 < length (bytes_in ((o.number, v.bytes) ∷ memory_in os views) number) = omega (arith, e, ap (λ (m : Memory). length (bytes_in m number)) here) in
        ap (λ (m : Memory). bytes_in m number) here ∙ by_test v is rest (o.number == number) refl some'

-- an object that has no entry has no view
pub no_view_there : (objects : List ObjectRec) (views : List ObjectView) (number : ℕ) → has_number objects number ≡ true → find (λ e. e.0 == number) (memory_in objects views) ≡ None → has_object views number ≡ false
no_view_there [] views number there none = absurd cc
no_view_there (o ∷ os) views number there none = by_test (no_view_there os views number) (o.number == number) refl there
  where
    entry_of : Option ObjectView → Option (ℕ × List ℕ)
    entry_of view = find (λ e. e.0 == number) (cons_option (option_map (λ (v : ObjectView). (o.number, v.bytes)) view) (memory_in os views))

    none_here : (view : Option ObjectView) → (o.number == number) ≡ true → entry_of view ≡ None → view ≡ None
    none_here None hit e = refl
    none_here (Some v) hit e = absurd (let never : Some (o.number, v.bytes) ≡ None = rw hit at e in cc)

    none_later : (view : Option ObjectView) → (o.number == number) ≡ false → entry_of view ≡ None → find (λ e. e.0 == number) (memory_in os views) ≡ None
    none_later None miss e = e
    none_later (Some v) miss e = rw miss at e

    by_test : (has_number os number ≡ true → find (λ e. e.0 == number) (memory_in os views) ≡ None → has_object views number ≡ false) → (t : Bool) → (o.number == number) ≡ t → (t || has_number os number) ≡ true → has_object views number ≡ false
    by_test rest true is e =
        let same : o.number ≡ number = grind (arith, is) in
        ap (has_object views) (sym same) ∙ no_view views o.number (none_here (view_in views o.number) is none)
    by_test rest false is e = rest e (none_later (view_in views o.number) is none)

-- ---- mappings

-- each mapping has its first address
pub found_start : (maps : List Mapping) (k : ℕ) (d : Mapping) → All IsMapping maps → AreApart maps → k < length maps → mapping_at maps (get_or maps k d).start ≡ Some (get_or maps k d)
unfolding IsMapping AreApart
found_start [] k d each apart lt = absurd (omega (arith, lt))
found_start (m ∷ ms) zero d each apart lt =
    let some : 1 ≤ m.pages = (each 0 d lt).1 in
    let hit : has m.start m ≡ true = grind (arith, some) in
    rw hit refl
found_start (m ∷ ms) (suc k) d each apart lt =
    let past : end_of m ≤ (get_or ms k d).start = apart 0 (suc k) d (omega arith) lt in
    let miss : has (get_or ms k d).start m ≡ false = grind (arith, past) in
    rw miss (found_start ms k d (λ i e less. each (suc i) e (omega (arith, less))) (λ i j e less end. apart (suc i) (suc j) e (omega (arith, less)) (omega (arith, end))) (omega (arith, lt)))

abbrev seen : Memory → ℕ → Option Mapping → Option Cell
seen memory a None = None
seen memory a (Some m) = Some (cell_in memory a m)

-- tables with the same bytes for what is mapped are seen alike
pub same_cells : (one two : Memory) (maps : List Mapping) → ((a : ℕ) (m : Mapping) → mapping_at maps a ≡ Some m → bytes_in one m.object ≡ bytes_in two m.object) → cells_of one maps ≡ cells_of two maps
unfolding cells_of
same_cells one two maps same = fun_ext (λ a. at a (mapping_at maps a) refl)
  where
    at : (a : ℕ) (o : Option Mapping) → mapping_at maps a ≡ o → seen one a o ≡ seen two a o
    at a None found = refl
    at a (Some m) found = ap (λ (bytes : List ℕ). Some (record { byte = slice_index bytes (object_place m a); rights = m.prot; shared = m.shared; object = m.object; place = object_place m a })) (same a m found)
