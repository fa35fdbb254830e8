-- What a private mapping shows.
use Rattle.std.proofs.Common.{◌≡◌, ℕ, zero, suc, ◌+◌, ◌-◌, ◌*◌, ◌/◌, ◌%◌, ◌^◌, ◌<◌, ◌≤◌, Bool, true, false, List, [], ◌∷◌, length, take, drop, drop-cons, Option, Some, None, refl, sym, ap, ◌∙◌, subst, arith}
use Rattle.std.specs.Prelude.{if◌then◌else◌, slice_index, not, ◌&&◌, is_some, All}
use Rattle.std.specs.Option.{option_map}
use Rattle.std.specs.List.{find}
use Rattle.rv64_isa.specs.Memory.{Cell, Cells, private_of, both, byte_of, byte_with, bytes_with, can_write}
use Rattle.rv64_isa.specs.Numbers.{has_bit, wrapped}
use Rattle.address_maps.specs.declared.maps.Mapping.{Mapping}
use Rattle.address_maps.specs.declared.maps.Place.{Place}
use Rattle.address_maps.specs.Mappings.{has, mapping_at, place_at, place_shown, AreApart, IsMapping, end_of}
use Rattle.group_defs.specs.Cells.{bytes_in, cell_in, cells_of, object_place}
use Rattle.proc_lease.specs.Private.{ObjectView, memory_of, private_in, PrivateFits, IsPrivatePlace}

-- ---- lists

-- what is found has what each element has, and passes the test
pub found_has : {X : Type 0} (P : X → Type 0) (t : X → Bool) (xs : List X) (y : X) → All P xs → find t xs ≡ Some y → P y × (t y ≡ true)
found_has P t [] y all e = absurd (cc)
found_has P t (x ∷ xs) y all e = by_test (t x) refl (found_has P t xs y (λ k d lt. all (suc k) d (omega (arith, lt)))) e
  where
    by_test : (b : Bool) → t x ≡ b → (find t xs ≡ Some y → P y × (t y ≡ true)) → (if b then Some x else find t xs) ≡ Some y → P y × (t y ≡ true)
    by_test true is rest e = let same : x ≡ y = cc in (subst P same (all 0 x (omega arith)), ap t (sym same) ∙ is)
    by_test false is rest e = rest e

-- a mapping has the addresses up to its end
pub along : (maps : List Mapping) (a k : ℕ) (m : Mapping) → AreApart maps → mapping_at maps a ≡ Some m → a + k < end_of m → mapping_at maps (a + k) ≡ Some m
unfolding AreApart
along [] a k m apart found within = absurd (cc)
along (x ∷ xs) a k m apart found within =
    by_test (along xs a k m (λ i j d less end. apart (suc i) (suc j) d (omega (arith, less)) (omega (arith, end)))) (has a x) refl found
  where
    later : (find (has a) xs ≡ Some m → a + k < end_of m → mapping_at xs (a + k) ≡ Some m) → find (has a) xs ≡ Some m → mapping_at (x ∷ xs) (a + k) ≡ Some m
    later rest found =
        let here = found_has (λ y. end_of x ≤ y.start) (has a) xs m (λ i d lt. apart 0 (suc i) d (omega arith) (omega (arith, lt))) found in
        let low : m.start ≤ a = grind (arith, here.1) in
        let past : end_of x ≤ m.start = here.0 in
        let miss : has (a + k) x ≡ false = grind (arith, low, past) in
        rw miss (rest found within)

    by_test : (find (has a) xs ≡ Some m → a + k < end_of m → mapping_at xs (a + k) ≡ Some m) → (t : Bool) → has a x ≡ t → (if t then Some x else find (has a) xs) ≡ Some m → mapping_at (x ∷ xs) (a + k) ≡ Some m
    by_test rest true is found =
        let same : x ≡ m = cc in
        let low : x.start ≤ a = grind (arith, is) in
        let high : a + k < end_of x = subst (λ (y : Mapping). a + k < end_of y) (sym same) within in
        let hit : has (a + k) x ≡ true = grind (arith, low, high) in
        rw hit found
    by_test rest false is found = later rest found

-- ---- cells

seen : List (ℕ × List ℕ) → ℕ → Option Mapping → Option Cell
seen memory a None = None
seen memory a (Some m) = Some (cell_in memory a m)

cells_are : (memory : List (ℕ × List ℕ)) (maps : List Mapping) (a : ℕ) → cells_of memory maps a ≡ seen memory a (mapping_at maps a)
unfolding cells_of seen
cells_are memory maps a = by_mapping (mapping_at maps a)
  where
    by_mapping : (o : Option Mapping) → elim o [ None ↦ None | Some m ↦ Some (cell_in memory a m) ] ≡ seen memory a o
    by_mapping None = refl
    by_mapping (Some m) = refl

private_by : (c : Cell) (t : Bool) → c.shared ≡ t → private_of (Some c) ≡ (if t then None else Some c)
private_by c t is = ap (λ s. if s then None else Some c) is

-- the cell of a mapping
pub mapped_cell : (objects : List ObjectView) (maps : List Mapping) (a : ℕ) (m : Mapping) (t : Bool) → mapping_at maps a ≡ Some m → m.shared ≡ t → private_in objects maps a ≡ (if t then None else Some (cell_in (memory_of objects) a m))
unfolding seen
mapped_cell objects maps a m t found is =
    ap private_of (cells_are (memory_of objects) maps a ∙ ap (seen (memory_of objects) a) found) ∙ private_by (cell_in (memory_of objects) a m) t is

-- an address that no mapping has
pub no_cell : (objects : List ObjectView) (maps : List Mapping) (a : ℕ) → mapping_at maps a ≡ None → private_in objects maps a ≡ None
unfolding seen
no_cell objects maps a none = ap private_of (cells_are (memory_of objects) maps a ∙ ap (seen (memory_of objects) a) none)

-- the byte of a private mapping
pub mapped_byte : (objects : List ObjectView) (maps : List Mapping) (a right : ℕ) (m : Mapping) (t : Bool) → mapping_at maps a ≡ Some m → m.shared ≡ false → has_bit m.prot right ≡ t
    → byte_with right (private_in objects maps) a ≡ (if t then Some (slice_index (bytes_in (memory_of objects) m.object) (object_place m a)) else None)
mapped_byte objects maps a right m t found own is =
    ap (byte_of right) (mapped_cell objects maps a m false found own)
    ∙ ap (λ able. if able then Some (slice_index (bytes_in (memory_of objects) m.object) (object_place m a)) else None) is

pub unmapped_byte : (objects : List ObjectView) (maps : List Mapping) (a right : ℕ) → mapping_at maps a ≡ None → byte_with right (private_in objects maps) a ≡ None
unmapped_byte objects maps a right none = ap (byte_of right) (no_cell objects maps a none)

pub shared_byte : (objects : List ObjectView) (maps : List Mapping) (a right : ℕ) (m : Mapping) → mapping_at maps a ≡ Some m → m.shared ≡ true → byte_with right (private_in objects maps) a ≡ None
shared_byte objects maps a right m found is = ap (byte_of right) (mapped_cell objects maps a m true found is)

-- what an address shows
found_at : (maps : List Mapping) (a : ℕ) (p : Place) → Some p ≡ place_at maps a → (m : Mapping) × ((mapping_at maps a ≡ Some m) × (p ≡ place_shown a m))
found_at maps a p shown = by_mapping (mapping_at maps a) shown
  where
    by_mapping : (o : Option Mapping) → Some p ≡ option_map (place_shown a) o → (m : Mapping) × ((o ≡ Some m) × (p ≡ place_shown a m))
    by_mapping None is = absurd cc
    by_mapping (Some m) is = (m, (refl, cc))

pub private_here : (maps : List Mapping) (right a : ℕ) (p : Place) → Some p ≡ place_at maps a → (not p.shared && has_bit p.prot right) ≡ true → IsPrivatePlace maps right a p
private_here maps right a p shown passes =
    let here = found_at maps a p shown in
    let m : Mapping = here.0 in
    let own : p.shared ≡ m.shared = ap (λ (q : Place). q.shared) here.1.1 in
    let rights : p.prot ≡ m.prot = ap (λ (q : Place). q.prot) here.1.1 in
    let both = both_true p.shared (has_bit p.prot right) passes in
    record { mapping = m; is = here.1.0; own = sym own ∙ both.0; able = ap (λ (r : ℕ). has_bit r right) (sym rights) ∙ both.1; shows = here.1.1 }
  where
    both_true : (s t : Bool) → (not s && t) ≡ true → (s ≡ false) × (t ≡ true)
    both_true true t is = absurd cc
    both_true false t is = (refl, is)

pub not_private : (maps : List Mapping) (right a : ℕ) (p : Place) → Some p ≡ place_at maps a → (not p.shared && has_bit p.prot right) ≡ false → (objects : List ObjectView) → byte_with right (private_in objects maps) a ≡ None
not_private maps right a p shown fails objects =
    let here = found_at maps a p shown in
    let m : Mapping = here.0 in
    let own : p.shared ≡ m.shared = ap (λ (q : Place). q.shared) here.1.1 in
    let rights : p.prot ≡ m.prot = ap (λ (q : Place). q.prot) here.1.1 in
    let test : (not m.shared && has_bit m.prot right) ≡ false = ap (λ (s : Bool). not s && has_bit m.prot right) (sym own) ∙ ap (λ (r : ℕ). not p.shared && has_bit r right) (sym rights) ∙ fails in
    by_test m here.1.0 m.shared (has_bit m.prot right) refl refl test
  where
    by_test : (m : Mapping) → mapping_at maps a ≡ Some m → (s t : Bool) → m.shared ≡ s → has_bit m.prot right ≡ t → (not s && t) ≡ false → byte_with right (private_in objects maps) a ≡ None
    by_test m found true t own able is = shared_byte objects maps a right m found own
    by_test m found false true own able is = absurd cc
    by_test m found false false own able is = mapped_byte objects maps a right m false found own able

pub nothing_here : (maps : List Mapping) (right a : ℕ) → None ≡ place_at maps a → (objects : List ObjectView) → byte_with right (private_in objects maps) a ≡ None
nothing_here maps right a shown objects = by_mapping (mapping_at maps a) refl shown
  where
    by_mapping : (o : Option Mapping) → mapping_at maps a ≡ o → None ≡ option_map (place_shown a) o → byte_with right (private_in objects maps) a ≡ None
    by_mapping None found is = unmapped_byte objects maps a right found
    by_mapping (Some m) found is = absurd cc

-- ---- bytes in a row

-- each byte has the right
pub all_with : (right : ℕ) (cells : Cells) (bytes : List ℕ) (a p n : ℕ) → ((k : ℕ) → k < n → byte_with right cells (a + k) ≡ Some (slice_index bytes (p + k))) → a + n ≤ 2 ^ 64 → p + n ≤ length bytes → bytes_with right cells a n ≡ Some (take n (drop p bytes))
unfolding bytes_with
all_with right cells bytes a p zero each small within = refl
all_with right cells bytes a p (suc n) each small within =
    let here : wrapped a ≡ a + 0 = omega arith in
    let first : p + 0 ≡ p = omega arith in
    let byte : byte_of right (cells (wrapped a)) ≡ Some (slice_index bytes p) = ap (λ (at : ℕ). byte_of right (cells at)) here ∙ each 0 (omega arith) ∙ ap (λ (i : ℕ). Some (slice_index bytes i)) first in
    let later : (k : ℕ) → k < n → byte_with right cells (a + 1 + k) ≡ Some (slice_index bytes (suc p + k)) = λ k lt.
    let at : a + 1 + k ≡ a + suc k = omega arith in
    let place : p + suc k ≡ suc p + k = omega arith in
    ap (λ (i : ℕ). byte_of right (cells i)) at ∙ each (suc k) (omega (arith, lt)) ∙ ap (λ (i : ℕ). Some (slice_index bytes i)) place in
    let rest : bytes_with right cells (a + 1) n ≡ Some (take n (drop (suc p) bytes)) = all_with right cells bytes (a + 1) (suc p) n later (omega arith) (omega arith) in
    ap (λ o. both o (bytes_with right cells (a + 1) n)) byte ∙ ap (both (Some (slice_index bytes p))) rest
    ∙ ap (λ (l : List ℕ). Some (take (suc n) l)) (sym (drop-cons bytes p 0 (omega arith)))

-- a first byte without the right
pub none_first : (right : ℕ) (cells : Cells) (a n : ℕ) → a < 2 ^ 64 → 1 ≤ n → byte_with right cells a ≡ None → bytes_with right cells a n ≡ None
unfolding bytes_with
none_first right cells a zero small some none = absurd (omega arith)
none_first right cells a (suc n) small some none =
    let here : wrapped a ≡ a = omega arith in
    ap (λ (at : ℕ). both (byte_of right (cells at)) (bytes_with right cells (a + 1) n)) here ∙ ap (λ o. both o (bytes_with right cells (a + 1) n)) none

-- ---- a place

module _ (objects : List ObjectView) (maps : List Mapping) (right a : ℕ) (p : Place) (is : IsPrivatePlace maps right a p) (fits : PrivateFits objects maps) where
  placed : IsMapping is.mapping × (has a is.mapping ≡ true)
  placed = found_has IsMapping (has a) maps is.mapping fits.each is.is

  holds : (is.mapping.shared ≡ false → 4096 * (is.mapping.first + is.mapping.pages) ≤ length (bytes_in (memory_of objects) is.mapping.object)) × (has a is.mapping ≡ true)
  holds = found_has (λ m. m.shared ≡ false → 4096 * (m.first + m.pages) ≤ length (bytes_in (memory_of objects) m.object)) (has a) maps is.mapping fits.inside is.is

  start : is.mapping.start ≤ a
  start = grind (arith, placed.1)

  pub starts_by : is.mapping.start ≤ a
  starts_by = start

  past : a < end_of is.mapping
  past = grind (arith, placed.1)

  aligned : is.mapping.start % 4096 ≡ 0
  unfolding IsMapping
  aligned = placed.0.0

  user_end : end_of is.mapping ≤ 2 ^ 38
  unfolding IsMapping
  user_end = placed.0.3

  few : is.mapping.first + is.mapping.pages ≤ 16384
  unfolding IsMapping
  few = placed.0.4

  page_is : p.page ≡ is.mapping.first + (a - is.mapping.start) / 4096
  page_is = ap (λ (q : Place). q.page) is.shows

  offset_is : p.offset ≡ (a - is.mapping.start) % 4096
  offset_is = ap (λ (q : Place). q.offset) is.shows

  pub object_is : p.object ≡ is.mapping.object
  object_is = ap (λ (q : Place). q.object) is.shows

  pub place_is : 4096 * p.page + p.offset ≡ object_place is.mapping a
  place_is = omega (arith, page_is, offset_is)

  pub place_small : 4096 * p.page + p.offset < 4096 * 16384
  place_small = omega (arith, place_is, few, start, past)

  pub page_small : p.page < 16384
  page_small = omega (arith, page_is, few, start, past)

  module _ (n : ℕ) (one : a % 4096 + n ≤ 4096) where
    room : a + n ≤ end_of is.mapping
    room = omega (arith, aligned, past, start)

    pub place_inside : 4096 * p.page + p.offset + n ≤ length (bytes_in (memory_of objects) p.object)
    place_inside =
        let size : length (bytes_in (memory_of objects) p.object) ≡ length (bytes_in (memory_of objects) is.mapping.object) = ap (λ (k : ℕ). length (bytes_in (memory_of objects) k)) object_is in
        omega (arith, size, holds.0 is.own, place_is, room, start)

    pub address_end : a + n ≤ 2 ^ 38
    address_end = omega (arith, room, user_end)

    -- each of the addresses lies in the mapping
    pub each_mapped : (k : ℕ) → k < n → mapping_at maps (a + k) ≡ Some is.mapping
    each_mapped k less = along maps a k is.mapping fits.apart is.is (omega (arith, room, less))

    pub bytes_are : bytes_with right (private_in objects maps) a n ≡ Some (take n (drop (4096 * p.page + p.offset) (bytes_in (memory_of objects) p.object)))
    bytes_are = all_with right (private_in objects maps) (bytes_in (memory_of objects) p.object) a (4096 * p.page + p.offset) n each (omega (arith, address_end)) place_inside
      where
        each : (k : ℕ) → k < n → byte_with right (private_in objects maps) (a + k) ≡ Some (slice_index (bytes_in (memory_of objects) p.object) (4096 * p.page + p.offset + k))
        each k less =
            let place : object_place is.mapping (a + k) ≡ 4096 * p.page + p.offset + k = omega (arith, place_is, start) in
            mapped_byte objects maps (a + k) right is.mapping true (each_mapped k less) is.own is.able
            ∙ ap (λ (i : ℕ). Some (slice_index (bytes_in (memory_of objects) is.mapping.object) i)) place
            ∙ ap (λ (o : ℕ). Some (slice_index (bytes_in (memory_of objects) o) (4096 * p.page + p.offset + k))) (sym object_is)

    -- they can be stored or not as one
    pub can_be_written : right ≡ 2 → can_write (private_in objects maps) a n ≡ true
    can_be_written two = ap (λ (r : ℕ). is_some (bytes_with r (private_in objects maps) a n)) (sym two) ∙ ap is_some bytes_are
