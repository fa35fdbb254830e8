-- What is stored into the private and the public objects is stored into what is seen.
use Rattle.std.proofs.Common.{◌≡◌, ℕ, ◌+◌, ◌*◌, ◌<◌, ◌≤◌, ◌==◌, Bool, true, false, List, [], ◌∷◌, ◌++◌, length, get_or, All, Option, Some, None, refl, sym, ap, ◌∙◌, arith}
use Rattle.std.specs.Prelude.{◌||◌, if◌then◌else◌}
use Rattle.address_maps.specs.declared.maps.Mapping.{Mapping}
use Rattle.address_maps.specs.Mappings.{end_of, has, mapping_at}
use Rattle.group_defs.specs.Cells.{bytes_in, cells_of, object_place}
use Rattle.rv64_isa.specs.Memory.{Cells, poked, stored}
use Rattle.rv64_isa.specs.Numbers.{wrapped}
use Rattle.tables.specs.Lists.{on_first}
use Rattle.proc_lease.specs.Sight.{SeenFits, SeenObjects, cells_seen, has_object, with_stored_in}
use Rattle.proc_lease.proofs.ObjectLists.{none_changed, stored_there}
use Rattle.proc_lease.specs.Private.{ObjectView, byte_into_at, memory_of, stored_into}
use Rattle.proc_lease.proofs.Mapped.{found_has}
use Rattle.proc_lease.proofs.Stores.{memory_byte_at, poked_one, size_after}

-- ---- both lists as one

abbrev Once : List ObjectView → List ObjectView → Type 0
Once xs ys = (number : ℕ) → has_object xs number ≡ true → has_object ys number ≡ false

changed_first : (f : ObjectView → ObjectView) (xs ys : List ObjectView) (number : ℕ) → has_object xs number ≡ true → on_first (λ o. o.number == number) f (xs ++ ys) ≡ on_first (λ o. o.number == number) f xs ++ ys
unfolding on_first
changed_first f [] ys number there = absurd cc
changed_first f (x ∷ xs) ys number there = by_test (changed_first f xs ys number) (x.number == number) there
  where
    by_test : (has_object xs number ≡ true → on_first (λ o. o.number == number) f (xs ++ ys) ≡ on_first (λ o. o.number == number) f xs ++ ys) → (t : Bool) → (t || has_object xs number) ≡ true
        → (if t then f x ∷ (xs ++ ys) else x ∷ on_first (λ o. o.number == number) f (xs ++ ys)) ≡ (if t then f x ∷ xs else x ∷ on_first (λ o. o.number == number) f xs) ++ ys
    by_test rest true e = refl
    by_test rest false e = ap (λ (l : List ObjectView). x ∷ l) (rest e)

changed_second : (f : ObjectView → ObjectView) (xs ys : List ObjectView) (number : ℕ) → has_object xs number ≡ false → on_first (λ o. o.number == number) f (xs ++ ys) ≡ xs ++ on_first (λ o. o.number == number) f ys
unfolding on_first
changed_second f [] ys number none = refl
changed_second f (x ∷ xs) ys number none = by_test (changed_second f xs ys number) (x.number == number) none
  where
    by_test : (has_object xs number ≡ false → on_first (λ o. o.number == number) f (xs ++ ys) ≡ xs ++ on_first (λ o. o.number == number) f ys) → (t : Bool) → (t || has_object xs number) ≡ false
        → (if t then f x ∷ (xs ++ ys) else x ∷ on_first (λ o. o.number == number) f (xs ++ ys)) ≡ x ∷ (xs ++ on_first (λ o. o.number == number) f ys)
    by_test rest true e = absurd cc
    by_test rest false e = ap (λ (l : List ObjectView). x ∷ l) (rest e)

changed_both : (f : ObjectView → ObjectView) (xs ys : List ObjectView) (number : ℕ) → Once xs ys → on_first (λ o. o.number == number) f (xs ++ ys) ≡ on_first (λ o. o.number == number) f xs ++ on_first (λ o. o.number == number) f ys
changed_both f xs ys number once = by_side (has_object xs number) refl
  where
    by_side : (t : Bool) → has_object xs number ≡ t → on_first (λ o. o.number == number) f (xs ++ ys) ≡ on_first (λ o. o.number == number) f xs ++ on_first (λ o. o.number == number) f ys
    by_side true is = changed_first f xs ys number is ∙ ap (λ (l : List ObjectView). on_first (λ o. o.number == number) f xs ++ l) (sym (none_changed f ys number (once number is)))
    by_side false is = changed_second f xs ys number is ∙ ap (λ (l : List ObjectView). l ++ on_first (λ o. o.number == number) f ys) (sym (none_changed f xs number is))

byte_both : (xs ys : List ObjectView) (o : Option Mapping) (a b : ℕ) → Once xs ys → byte_into_at (xs ++ ys) o a b ≡ byte_into_at xs o a b ++ byte_into_at ys o a b
byte_both xs ys None a b once = refl
byte_both xs ys (Some m) a b once = changed_both _ xs ys m.object once

once_after : (xs ys : List ObjectView) (maps : List Mapping) (a b : ℕ) → Once xs ys → Once (stored_into xs maps a (b ∷ [])) (stored_into ys maps a (b ∷ []))
once_after xs ys maps a b once number there = stored_there ys maps a (b ∷ []) number ∙ once number (sym (stored_there xs maps a (b ∷ []) number) ∙ there)

stored_both : (xs ys : List ObjectView) (maps : List Mapping) (a : ℕ) (bytes : List ℕ) → Once xs ys → stored_into (xs ++ ys) maps a bytes ≡ stored_into xs maps a bytes ++ stored_into ys maps a bytes
unfolding stored_into
stored_both xs ys maps a [] once = refl
stored_both xs ys maps a (b ∷ bs) once =
    let at = wrapped a in
    ap (λ (l : List ObjectView). stored_into l maps (a + 1) bs) (byte_both xs ys (mapping_at maps at) at b once)
    ∙ stored_both (byte_into_at xs (mapping_at maps at) at b) (byte_into_at ys (mapping_at maps at) at b) maps (a + 1) bs (once_after xs ys maps a b once)

-- ---- what is seen

abbrev Inside : List ObjectView → List Mapping → Type 0
Inside objects maps = All (λ m. 4096 * (m.first + m.pages) ≤ length (bytes_in (memory_of objects) m.object)) maps

place_within : (objects : List ObjectView) (maps : List Mapping) (a : ℕ) (m : Mapping) → Inside objects maps → mapping_at maps a ≡ Some m → object_place m a < length (bytes_in (memory_of objects) m.object)
place_within objects maps a m inside found =
    let here = found_has (λ n. 4096 * (n.first + n.pages) ≤ length (bytes_in (memory_of objects) n.object)) (has a) maps m inside found in
    let low : m.start ≤ a = grind (arith, here.1) in
    let high : a < end_of m = grind (arith, here.1) in
    omega (arith, here.0, low, high)

stored_cells : (objects : List ObjectView) (maps : List Mapping) (a : ℕ) (bytes : List ℕ) → Inside objects maps → cells_of (memory_of (stored_into objects maps a bytes)) maps ≡ stored (cells_of (memory_of objects) maps) a bytes
unfolding stored_into stored
stored_cells objects maps a [] inside = refl
stored_cells objects maps a (b ∷ bs) inside =
    let at = wrapped a in
    let next = byte_into_at objects (mapping_at maps at) at b in
    let one : cells_of (memory_of next) maps ≡ poked (cells_of (memory_of objects) maps) at b =
    ap (λ (l : List (ℕ × List ℕ)). cells_of l maps) (memory_byte_at objects (mapping_at maps at) at b) ∙ poked_one (memory_of objects) maps at b (λ m found. place_within objects maps at m inside found) in
    stored_cells next maps (a + 1) bs (λ k d lt. omega (arith, inside k d lt, size_after objects at b (get_or maps k d).object (mapping_at maps at)))
    ∙ ap (λ (c : Cells). stored c (a + 1) bs) one

pub seen_stored : (t : SeenObjects) (a : ℕ) (bytes : List ℕ) → SeenFits t → cells_seen (with_stored_in t a bytes) ≡ stored (cells_seen t) a bytes
seen_stored t a bytes fits =
    ap (λ (l : List ObjectView). cells_of (memory_of l) t.maps) (sym (stored_both t.private t.public t.maps a bytes fits.once))
    ∙ stored_cells (t.private ++ t.public) t.maps a bytes fits.inside
