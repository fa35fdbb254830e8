-- Bytes that a process sees in a row.
use Rattle.std.proofs.Common.{◌≡◌, ℕ, zero, suc, ◌+◌, ◌-◌, ◌^◌, ◌<◌, ◌≤◌, ◌==◌, Bool, true, false, List, [], ◌∷◌, ◌++◌, length, get_or, take, drop, drop-cons, Option, Some, None, refl, sym, ap, ◌∙◌, subst, arith}
use Rattle.std.specs.Prelude.{if◌then◌else◌, is_some, slice_get, slice_index, All}
use Rattle.std.specs.List.{find}
use Rattle.std.specs.Option.{option_map}
use Rattle.rv64_isa.specs.Memory.{Cell, Cells, both, byte_of, byte_with, bytes_with}
use Rattle.rv64_isa.specs.Numbers.{has_bit, wrapped}
use Rattle.address_maps.specs.declared.maps.Mapping.{Mapping}
use Rattle.group_defs.specs.Cells.{bytes_in, cell_in, cells_of, object_place}
use Rattle.address_maps.specs.Mappings.{has, mapping_at, AreApart, end_of}
use Rattle.group_defs.specs.Mappings.{IsUserMapping}
use Rattle.tables.specs.Rising.{Rise}
use Rattle.flat_kernel.specs.declared.mapped_byte.MappedByte.{MappedByte}
use Rattle.flat_kernel.specs.Memory.{IsMappedByte, TableFits}

-- ---- lists

-- what is found has what each element has, and passes the test
pub found_has : {X : Type 0} (P : X → Type 0) (t : X → Bool) (xs : List X) (y : X) → All P xs → find t xs ≡ Some y → P y × (t y ≡ true)
found_has P t [] y all e = absurd (cc)
found_has P t (x ∷ xs) y all e = by_test (t x) refl (found_has P t xs y (λ k d lt. all (suc k) d (omega (arith, lt)))) e
  where
    by_test : (b : Bool) → t x ≡ b → (find t xs ≡ Some y → P y × (t y ≡ true)) → (if b then Some x else find t xs) ≡ Some y → P y × (t y ≡ true)
    by_test true is rest e = let same : x ≡ y = cc in (subst P same (all 0 x (omega arith)), ap t (sym same) ∙ is)
    by_test false is rest e = rest e

-- an entry is found by its number
pub entry_at : {V : Type 0} (xs : List (ℕ × V)) (k n : ℕ) (d : ℕ × V) → Rise (λ x. x.0) xs → k < length xs → (get_or xs k d).0 ≡ n → find (λ x. x.0 == n) xs ≡ Some (get_or xs k d)
unfolding Rise
entry_at [] k n d rise lt is = absurd (omega (arith, lt))
entry_at (x ∷ xs) zero n d rise lt is = let hit : (x.0 == n) ≡ true = grind (arith, is) in rw hit refl
entry_at (x ∷ xs) (suc k) n d rise lt is =
    let below : x.0 < (get_or xs k d).0 = rise 0 (suc k) d (omega arith) lt in
    let other : (x.0 == n) ≡ false = grind (arith, below, is) in
    rw other (entry_at xs k n d (λ i j e less end. rise (suc i) (suc j) e (omega (arith, less)) (omega (arith, end))) (omega (arith, lt)) is)

abbrev bytes_of_entry : Option (ℕ × List ℕ) → List ℕ
bytes_of_entry None = []
bytes_of_entry (Some o) = o.1

bytes_in_is : (memory : List (ℕ × List ℕ)) (n : ℕ) → bytes_in memory n ≡ bytes_of_entry (find (λ o. o.0 == n) memory)
bytes_in_is memory n = by_entry (find (λ o. o.0 == n) memory)
  where
    by_entry : (o : Option (ℕ × List ℕ)) → elim o [ None ↦ [] | Some e ↦ e.1 ] ≡ bytes_of_entry o
    by_entry None = refl
    by_entry (Some e) = refl

-- the bytes under a number are those of the object at its place
pub bytes_at : (memory : List (ℕ × List ℕ)) (k n : ℕ) (d : ℕ × List ℕ) → Rise (λ o. o.0) memory → k < length memory → (get_or memory k d).0 ≡ n → bytes_in memory n ≡ (get_or memory k d).1
bytes_at memory k n d rise lt is = bytes_in_is memory n ∙ ap bytes_of_entry (entry_at memory k n d rise lt is)

-- ---- bytes in a row

-- a first byte without the right
pub none_first : (right : ℕ) (cells : Cells) (a n : ℕ) → a < 2 ^ 64 → 1 ≤ n → byte_with right cells a ≡ None → bytes_with right cells a n ≡ None
unfolding bytes_with
none_first right cells a zero small some none = absurd (omega arith)
none_first right cells a (suc n) small some none =
    let here : wrapped a ≡ a = omega arith in
    ap (λ (at : ℕ). both (byte_of right (cells at)) (bytes_with right cells (a + 1) n)) here ∙ ap (λ o. both o (bytes_with right cells (a + 1) n)) none

-- each byte has the right
pub all_with : (right : ℕ) (cells : Cells) (bytes : List ℕ) (a p n : ℕ) → ((k : ℕ) → k < n → byte_with right cells (a + k) ≡ Some (slice_index bytes (p + k))) → a + n ≤ 2 ^ 64 → p + n ≤ length bytes → bytes_with right cells a n ≡ Some (take n (drop p bytes))
unfolding bytes_with
all_with right cells bytes a p zero each small within = refl
all_with right cells bytes a p (suc n) each small within =
    let here : wrapped a ≡ a + 0 = omega arith in
    let first : p + 0 ≡ p = omega arith in
    let byte : byte_of right (cells (wrapped a)) ≡ Some (slice_index bytes p) = ap (λ (at : ℕ). byte_of right (cells at)) here ∙ each 0 (omega arith) ∙ ap (λ (i : ℕ). Some (slice_index bytes i)) first in
    let later : (k : ℕ) → k < n → byte_with right cells (a + 1 + k) ≡ Some (slice_index bytes (suc p + k)) = λ k lt.
    let at : a + 1 + k ≡ a + suc k = omega arith in
    let place : p + suc k ≡ suc p + k = omega arith in
    ap (λ (i : ℕ). byte_of right (cells i)) at ∙ each (suc k) (omega (arith, lt)) ∙ ap (λ (i : ℕ). Some (slice_index bytes i)) place in
    let rest : bytes_with right cells (a + 1) n ≡ Some (take n (drop (suc p) bytes)) = all_with right cells bytes (a + 1) (suc p) n later (omega arith) (omega arith) in
    ap (λ o. both o (bytes_with right cells (a + 1) n)) byte ∙ ap (both (Some (slice_index bytes p))) rest
    ∙ ap (λ (l : List ℕ). Some (take (suc n) l)) (sym (drop-cons bytes p 0 (omega arith)))

-- one run of bytes and then another
abbrev pub joined : Option (List ℕ) → Option (List ℕ) → Option (List ℕ)
joined None rest = None
joined (Some front) rest = option_map (λ back. front ++ back) rest

whole : (rest : Option (List ℕ)) → rest ≡ option_map (λ back. [] ++ back) rest
whole None = refl
whole (Some back) = refl

both_joined : (b : Option ℕ) (front rest : Option (List ℕ)) → both b (joined front rest) ≡ joined (both b front) rest
both_joined None front rest = refl
both_joined (Some b) None rest = refl
both_joined (Some b) (Some front) None = refl
both_joined (Some b) (Some front) (Some back) = refl

pub split : (right : ℕ) (cells : Cells) (a k n : ℕ) → bytes_with right cells a (k + n) ≡ joined (bytes_with right cells a k) (bytes_with right cells (a + k) n)
unfolding bytes_with
split right cells a zero n =
    let none : 0 + n ≡ n = omega arith in
    let here : a ≡ a + 0 = omega arith in
    ap (bytes_with right cells a) none ∙ ap (λ (at : ℕ). bytes_with right cells at n) here ∙ whole (bytes_with right cells (a + 0) n)
split right cells a (suc k) n =
    let more : suc k + n ≡ suc (k + n) = omega arith in
    let at : a + 1 + k ≡ a + suc k = omega arith in
    ap (bytes_with right cells a) more
    ∙ ap (both (byte_with right cells (wrapped a))) (split right cells (a + 1) k n)
    ∙ both_joined (byte_with right cells (wrapped a)) (bytes_with right cells (a + 1) k) (bytes_with right cells (a + 1 + k) n)
    ∙ ap (λ (i : ℕ). joined (both (byte_with right cells (wrapped a)) (bytes_with right cells (a + 1) k)) (bytes_with right cells i n)) at

pub some_back : (f : List ℕ → List ℕ) (o : Option (List ℕ)) → is_some (option_map f o) ≡ is_some o
some_back f None = refl
some_back f (Some bytes) = refl

-- a first run of bytes, and what is behind it
pub run_on : (right : ℕ) (cells : Cells) (a n : ℕ) (bytes : List ℕ) → length bytes ≤ n → bytes_with right cells a (length bytes) ≡ Some bytes → bytes_with right cells a n ≡ option_map (λ back. bytes ++ back) (bytes_with right cells (a + length bytes) (n - length bytes))
run_on right cells a n bytes le run =
    let whole : n ≡ length bytes + (n - length bytes) = omega arith in
    ap (bytes_with right cells a) whole ∙ split right cells a (length bytes) (n - length bytes) ∙ ap (λ o. joined o (bytes_with right cells (a + length bytes) (n - length bytes))) run

only_byte : (o : Option ℕ) (b low : ℕ) → both o (Some []) ≡ Some (b ∷ []) → Some low ≡ Some b → o ≡ Some low
only_byte None b low is same = absurd (cc)
only_byte (Some x) b low is same = cc

-- a run of one byte
pub single : (right : ℕ) (cells : Cells) (a low : ℕ) (bytes : List ℕ) → a < 2 ^ 64 → 1 ≤ length bytes → length bytes ≤ 1 → bytes_with right cells a (length bytes) ≡ Some bytes → Some low ≡ slice_get bytes 0 → byte_of right (cells a) ≡ Some low
unfolding bytes_with
single right cells a low [] small some few run first = absurd (omega (arith, some))
single right cells a low (b ∷ []) small some few run first =
    let here : a ≡ wrapped a = omega arith in
    ap (λ (at : ℕ). byte_of right (cells at)) here ∙ only_byte (byte_of right (cells (wrapped a))) b low run first
single right cells a low (b ∷ c ∷ bs) small some few run first = absurd (omega (arith, few))

-- ---- one mapping

-- a mapping has the addresses up to its end
pub along : (maps : List Mapping) (a k : ℕ) (m : Mapping) → AreApart maps → mapping_at maps a ≡ Some m → a + k < end_of m → mapping_at maps (a + k) ≡ Some m
unfolding AreApart
along [] a k m apart found within = absurd (cc)
along (x ∷ xs) a k m apart found within =
    by_test (along xs a k m (λ i j d less end. apart (suc i) (suc j) d (omega (arith, less)) (omega (arith, end)))) (has a x) refl found
  where
    later : (find (has a) xs ≡ Some m → a + k < end_of m → mapping_at xs (a + k) ≡ Some m) → find (has a) xs ≡ Some m → mapping_at (x ∷ xs) (a + k) ≡ Some m
    later rest found =
        let here = found_has (λ y. end_of x ≤ y.start) (has a) xs m (λ i d lt. apart 0 (suc i) d (omega arith) (omega (arith, lt))) found in
        let low : m.start ≤ a = grind (arith, here.1) in
        let past : end_of x ≤ m.start = here.0 in
        let miss : has (a + k) x ≡ false = grind (arith, low, past) in
        rw miss (rest found within)

    by_test : (find (has a) xs ≡ Some m → a + k < end_of m → mapping_at xs (a + k) ≡ Some m) → (t : Bool) → has a x ≡ t → (if t then Some x else find (has a) xs) ≡ Some m → mapping_at (x ∷ xs) (a + k) ≡ Some m
    by_test rest true is found =
        let same : x ≡ m = cc in
        let low : x.start ≤ a = grind (arith, is) in
        let high : a + k < end_of x = subst (λ (y : Mapping). a + k < end_of y) (sym same) within in
        let hit : has (a + k) x ≡ true = grind (arith, low, high) in
        rw hit found
    by_test rest false is found = later rest found

seen : List (ℕ × List ℕ) → ℕ → Option Mapping → Option Cell
seen memory a None = None
seen memory a (Some m) = Some (cell_in memory a m)

cells_are : (memory : List (ℕ × List ℕ)) (maps : List Mapping) (a : ℕ) → cells_of memory maps a ≡ seen memory a (mapping_at maps a)
unfolding cells_of seen
cells_are memory maps a = by_mapping (mapping_at maps a)
  where
    by_mapping : (o : Option Mapping) → elim o [ None ↦ None | Some m ↦ Some (cell_in memory a m) ] ≡ seen memory a o
    by_mapping None = refl
    by_mapping (Some m) = refl

cell_at : (memory : List (ℕ × List ℕ)) (maps : List Mapping) (a right : ℕ) (m : Mapping) (t : Bool) → mapping_at maps a ≡ Some m → has_bit m.prot right ≡ t → byte_with right (cells_of memory maps) a ≡ (if t then Some (slice_index (bytes_in memory m.object) (object_place m a)) else None)
unfolding seen
cell_at memory maps a right m t found is =
    ap (byte_of right) (cells_are memory maps a ∙ ap (seen memory a) found)
    ∙ ap (λ able. if able then Some (slice_index (bytes_in memory m.object) (object_place m a)) else None) is

-- an address that no mapping has
pub none_mapped : (memory : List (ℕ × List ℕ)) (maps : List Mapping) (a right : ℕ) → mapping_at maps a ≡ None → byte_with right (cells_of memory maps) a ≡ None
unfolding seen
none_mapped memory maps a right none = ap (byte_of right) (cells_are memory maps a ∙ ap (seen memory a) none)

module _ (memory : List (ℕ × List ℕ)) (maps : List Mapping) (a : ℕ) (mapped : MappedByte) (is : IsMappedByte memory maps a mapped) (fits : TableFits memory maps) where
  placed : IsUserMapping is.mapping × (has a is.mapping ≡ true)
  placed = found_has IsUserMapping (has a) maps is.mapping fits.placed is.is

  pub mapped_end : a + mapped.room ≤ 2 ^ 38
  unfolding IsUserMapping
  mapped_end = let end : end_of is.mapping ≤ 2 ^ 38 = placed.0.3 in omega (arith, is.room, end)

  start : is.mapping.start ≤ a
  start = grind (arith, placed.1)

  pub some_room : 1 ≤ mapped.room
  some_room = let past : a < end_of is.mapping = grind (arith, placed.1) in omega (arith, is.room, past)

  byte_is : (right k : ℕ) (o : ℕ × List ℕ) (t : Bool) → k < mapped.room → has_bit mapped.rights right ≡ t → byte_with right (cells_of memory maps) (a + k) ≡ (if t then Some (slice_index (get_or memory mapped.object o).1 (mapped.place + k)) else None)
  byte_is right k o t less bit =
      let m = is.mapping in
      let found : mapping_at maps (a + k) ≡ Some m = along maps a k m fits.apart is.is (omega (arith, is.room, less)) in
      let bit' : has_bit m.prot right ≡ t = ap (λ (r : ℕ). has_bit r right) (sym is.rights) ∙ bit in
      let place : object_place m (a + k) ≡ mapped.place + k = omega (arith, is.place, start) in
      let bytes : bytes_in memory m.object ≡ (get_or memory mapped.object o).1 = bytes_at memory mapped.object m.object o fits.rise is.within (is.number o) in
      cell_at memory maps (a + k) right m t found bit' ∙ ap (λ (l : List ℕ). if t then Some (slice_index l (object_place m (a + k))) else None) bytes ∙ ap (λ (p : ℕ). if t then Some (slice_index (get_or memory mapped.object o).1 p) else None) place

  -- the bytes from there on, up to the mapping's end
  pub part_is : (right n : ℕ) (o : ℕ × List ℕ) → n ≤ mapped.room → has_bit mapped.rights right ≡ true → bytes_with right (cells_of memory maps) a n ≡ Some (take n (drop mapped.place (get_or memory mapped.object o).1))
  part_is right n o le bit = all_with right (cells_of memory maps) (get_or memory mapped.object o).1 a mapped.place n (λ k less. byte_is right k o true (omega (arith, less, le)) bit) (omega (arith, mapped_end, le)) (omega (arith, is.inside o, le))

  -- a mapping without the right
  pub part_none : (right : ℕ) → has_bit mapped.rights right ≡ false → byte_with right (cells_of memory maps) a ≡ None
  part_none right bit =
      let bit' : has_bit is.mapping.prot right ≡ false = ap (λ (r : ℕ). has_bit r right) (sym is.rights) ∙ bit in
      cell_at memory maps a right is.mapping false is.is bit'
