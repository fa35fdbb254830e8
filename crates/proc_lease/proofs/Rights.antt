-- Rights of bytes in a row, whatever the bytes are.
use Rattle.std.proofs.Common.{◌≡◌, ℕ, zero, suc, ◌+◌, ◌-◌, ◌*◌, ◌^◌, ◌<◌, ◌≤◌, ◌&&◌, Bool, true, false, List, [], ◌++◌, Option, Some, None, refl, sym, ap, ◌∙◌, arith, is_some, All}
use Rattle.std.specs.Prelude.{if◌then◌else◌, slice_index}
use Rattle.std.specs.Option.{option_map}
use Rattle.address_maps.specs.declared.maps.Mapping.{Mapping}
use Rattle.address_maps.specs.declared.maps.Place.{Place}
use Rattle.address_maps.specs.Mappings.{IsMapping, end_of, has, mapping_at, place_at, place_shown}
use Rattle.group_defs.specs.Cells.{bytes_in, cell_in, cells_of, object_place}
use Rattle.rv64_isa.specs.Memory.{Cell, Cells, both, byte_of, byte_with, bytes_with}
use Rattle.rv64_isa.specs.Numbers.{has_bit, wrapped}
use Rattle.rv64_isa.specs.PlaceLaws.{bytes_with-wrapped}
use Rattle.proc_lease.specs.Sight.{IsSpot, is_able}
use Rattle.proc_lease.proofs.Mapped.{found_has}

-- ---- one run of bytes and then another

abbrev pub joined : Option (List ℕ) → Option (List ℕ) → Option (List ℕ)
joined None rest = None
joined (Some front) rest = option_map (λ back. front ++ back) rest

whole : (rest : Option (List ℕ)) → rest ≡ option_map (λ back. [] ++ back) rest
whole None = refl
whole (Some back) = refl

both_joined : (b : Option ℕ) (front rest : Option (List ℕ)) → both b (joined front rest) ≡ joined (both b front) rest
both_joined None front rest = refl
both_joined (Some b) None rest = refl
both_joined (Some b) (Some front) None = refl
both_joined (Some b) (Some front) (Some back) = refl

pub split : (right : ℕ) (cells : Cells) (a k n : ℕ) → bytes_with right cells a (k + n) ≡ joined (bytes_with right cells a k) (bytes_with right cells (a + k) n)
unfolding bytes_with
split right cells a zero n =
    let none : 0 + n ≡ n = omega arith in
    let at : a ≡ a + 0 = omega arith in
    ap (bytes_with right cells a) none ∙ ap (λ (i : ℕ). bytes_with right cells i n) at ∙ whole (bytes_with right cells (a + 0) n)
split right cells a (suc k) n =
    let more : suc k + n ≡ suc (k + n) = omega arith in
    let at : a + 1 + k ≡ a + suc k = omega arith in
    ap (bytes_with right cells a) more
    ∙ ap (both (byte_with right cells (wrapped a))) (split right cells (a + 1) k n)
    ∙ both_joined (byte_with right cells (wrapped a)) (bytes_with right cells (a + 1) k) (bytes_with right cells (a + 1 + k) n)
    ∙ ap (λ (i : ℕ). joined (both (byte_with right cells (wrapped a)) (bytes_with right cells (a + 1) k)) (bytes_with right cells i n)) at

some_joined : (o r : Option (List ℕ)) → is_some (joined o r) ≡ (is_some o && is_some r)
some_joined None r = refl
some_joined (Some xs) None = refl
some_joined (Some xs) (Some ys) = refl

some_both : (x : Option ℕ) (r : Option (List ℕ)) → is_some (both x r) ≡ (is_some x && is_some r)
some_both None r = refl
some_both (Some b) None = refl
some_both (Some b) (Some bs) = refl

-- ---- cells

seen : List (ℕ × List ℕ) → ℕ → Option Mapping → Option Cell
seen memory a None = None
seen memory a (Some m) = Some (cell_in memory a m)

cells_are : (memory : List (ℕ × List ℕ)) (maps : List Mapping) (a : ℕ) → cells_of memory maps a ≡ seen memory a (mapping_at maps a)
unfolding cells_of seen
cells_are memory maps a = by_mapping (mapping_at maps a)
  where
    by_mapping : (o : Option Mapping) → elim o [ None ↦ None | Some m ↦ Some (cell_in memory a m) ] ≡ seen memory a o
    by_mapping None = refl
    by_mapping (Some m) = refl

pub cell_at : (memory : List (ℕ × List ℕ)) (maps : List Mapping) (a right : ℕ) (m : Mapping) (t : Bool) → mapping_at maps a ≡ Some m → has_bit m.prot right ≡ t → byte_with right (cells_of memory maps) a ≡ (if t then Some (slice_index (bytes_in memory m.object) (object_place m a)) else None)
unfolding seen
cell_at memory maps a right m t found is =
    ap (byte_of right) (cells_are memory maps a ∙ ap (seen memory a) found)
    ∙ ap (λ able. if able then Some (slice_index (bytes_in memory m.object) (object_place m a)) else None) is

pub none_mapped : (memory : List (ℕ × List ℕ)) (maps : List Mapping) (a right : ℕ) → mapping_at maps a ≡ None → byte_with right (cells_of memory maps) a ≡ None
unfolding seen
none_mapped memory maps a right none = ap (byte_of right) (cells_are memory maps a ∙ ap (seen memory a) none)

-- ---- rights

able_byte : (memory : List (ℕ × List ℕ)) (maps : List Mapping) (right a : ℕ) → is_some (byte_with right (cells_of memory maps) a) ≡ is_some (byte_with right (cells_of [] maps) a)
able_byte memory maps right a = by_mapping (mapping_at maps a) refl
  where
    some_if : (t : Bool) (x y : ℕ) → is_some (if t then Some x else None) ≡ is_some (if t then Some y else None)
    some_if true x y = refl
    some_if false x y = refl

    by_mapping : (o : Option Mapping) → mapping_at maps a ≡ o → is_some (byte_with right (cells_of memory maps) a) ≡ is_some (byte_with right (cells_of [] maps) a)
    by_mapping None is = ap is_some (none_mapped memory maps a right is) ∙ sym (ap is_some (none_mapped [] maps a right is))
    by_mapping (Some m) is =
        ap is_some (cell_at memory maps a right m (has_bit m.prot right) is refl)
        ∙ some_if (has_bit m.prot right) (slice_index (bytes_in memory m.object) (object_place m a)) (slice_index (bytes_in [] m.object) (object_place m a))
        ∙ sym (ap is_some (cell_at [] maps a right m (has_bit m.prot right) is refl))

-- whether bytes have a right doesn't hang on what they are
pub able_any : (memory : List (ℕ × List ℕ)) (maps : List Mapping) (right a n : ℕ) → is_some (bytes_with right (cells_of memory maps) a n) ≡ is_able maps right a n
unfolding bytes_with
able_any memory maps right a zero = refl
able_any memory maps right a (suc n) =
    some_both (byte_with right (cells_of memory maps) (wrapped a)) (bytes_with right (cells_of memory maps) (a + 1) n)
    ∙ ap (λ t. t && is_some (bytes_with right (cells_of memory maps) (a + 1) n)) (able_byte memory maps right (wrapped a))
    ∙ ap (λ t. is_some (byte_with right (cells_of [] maps) (wrapped a)) && t) (able_any memory maps right (a + 1) n)
    ∙ sym (some_both (byte_with right (cells_of [] maps) (wrapped a)) (bytes_with right (cells_of [] maps) (a + 1) n))

pub able_none : (maps : List Mapping) (right a n : ℕ) → n ≡ 0 → is_able maps right a n ≡ true
unfolding bytes_with
able_none maps right a n none = ap (is_able maps right a) none

pub able_split : (maps : List Mapping) (right a k n whole : ℕ) → whole ≡ k + n → is_able maps right a whole ≡ (is_able maps right a k && is_able maps right (wrapped (a + k)) n)
able_split maps right a k n whole is =
    ap (is_able maps right a) is
    ∙ ap is_some (split right (cells_of [] maps) a k n)
    ∙ some_joined (bytes_with right (cells_of [] maps) a k) (bytes_with right (cells_of [] maps) (a + k) n)
    ∙ ap (λ (o : Option (List ℕ)). is_able maps right a k && is_some o) (sym (bytes_with-wrapped right (cells_of [] maps) (a + k) n))

and_first : (x y : Bool) → (x && y) ≡ true → x ≡ true
and_first true y is = refl
and_first false y is = absurd cc

and_second : (x y : Bool) → (x && y) ≡ true → y ≡ true
and_second true y is = is
and_second false y is = absurd cc

-- a part of bytes with a right has it
pub able_part : (maps : List Mapping) (right a n k size : ℕ) → is_able maps right a n ≡ true → k + size ≤ n → is_able maps right (wrapped (a + k)) size ≡ true
able_part maps right a n k size able le =
    let back = and_second (is_able maps right a k) (is_able maps right (wrapped (a + k)) (n - k)) (sym (able_split maps right a k (n - k) n (omega (arith, le))) ∙ able) in
    and_first (is_able maps right (wrapped (a + k)) size) (is_able maps right (wrapped (wrapped (a + k) + size)) (n - k - size)) (sym (able_split maps right (wrapped (a + k)) size (n - k - size) (n - k) (omega (arith, le))) ∙ back)

-- the first byte lacks it
pub unable_first : (maps : List Mapping) (right a n : ℕ) → 1 ≤ n → is_able maps right a 1 ≡ false → is_able maps right a n ≡ false
unable_first maps right a n some unable =
    able_split maps right a 1 (n - 1) n (omega (arith, some)) ∙ ap (λ t. t && is_able maps right (wrapped (a + 1)) (n - 1)) unable

able_one : (maps : List Mapping) (right a : ℕ) → a < 2 ^ 64 → is_able maps right a 1 ≡ is_some (byte_with right (cells_of [] maps) a)
unfolding bytes_with
able_one maps right a small =
    let here : wrapped a ≡ a = omega (arith, small) in
    ap (λ (at : ℕ). is_some (both (byte_with right (cells_of [] maps) at) (Some []))) here ∙ one (byte_with right (cells_of [] maps) a)
  where
    one : (o : Option ℕ) → is_some (both o (Some [])) ≡ is_some o
    one None = refl
    one (Some b) = refl

pub unmapped_unable : (maps : List Mapping) (right a : ℕ) → a < 2 ^ 64 → None ≡ place_at maps a → is_able maps right a 1 ≡ false
unmapped_unable maps right a small shown = able_one maps right a small ∙ by_mapping (mapping_at maps a) refl shown
  where
    by_mapping : (o : Option Mapping) → mapping_at maps a ≡ o → None ≡ option_map (place_shown a) o → is_some (byte_with right (cells_of [] maps) a) ≡ false
    by_mapping None is e = ap is_some (none_mapped [] maps a right is)
    by_mapping (Some m) is e = absurd cc

-- what an address shows
pub found_at : (maps : List Mapping) (a : ℕ) (p : Place) → Some p ≡ place_at maps a → (m : Mapping) × ((mapping_at maps a ≡ Some m) × (p ≡ place_shown a m))
found_at maps a p shown = by_mapping (mapping_at maps a) shown
  where
    by_mapping : (o : Option Mapping) → Some p ≡ option_map (place_shown a) o → (m : Mapping) × ((o ≡ Some m) × (p ≡ place_shown a m))
    by_mapping None is = absurd cc
    by_mapping (Some m) is = (m, (refl, cc))

pub other_unable : (maps : List Mapping) (right a : ℕ) (p : Place) → a < 2 ^ 64 → Some p ≡ place_at maps a → has_bit p.prot right ≡ false → is_able maps right a 1 ≡ false
other_unable maps right a p small shown unable =
    let here = found_at maps a p shown in
    let m : Mapping = here.0 in
    let rights : p.prot ≡ m.prot = ap (λ (q : Place). q.prot) here.1.1 in
    able_one maps right a small ∙ ap is_some (cell_at [] maps a right m false here.1.0 (ap (λ (r : ℕ). has_bit r right) (sym rights) ∙ unable))

-- a first byte with it is mapped
pub able_mapped : (maps : List Mapping) (right a n : ℕ) → a < 2 ^ 64 → 1 ≤ n → is_able maps right a n ≡ true → is_able maps right a 1 ≡ false → ⊥
able_mapped maps right a n small some able unable = let e = sym able ∙ unable_first maps right a n some unable in absurd cc

-- ---- the place of a byte

module _ (maps : List Mapping) (a : ℕ) (p : Place) (shown : Some p ≡ place_at maps a) (each : All IsMapping maps) where
  shown_at : (m : Mapping) × ((mapping_at maps a ≡ Some m) × (p ≡ place_shown a m))
  shown_at = found_at maps a p shown

  abbrev m : Mapping
  m = shown_at.0

  placed : IsMapping m × (has a m ≡ true)
  placed = found_has IsMapping (has a) maps m each shown_at.1.0

  pub place_small : 4096 * p.page + p.offset < 4096 * 16384
  unfolding IsMapping
  place_small =
      let page : p.page ≡ (place_shown a m).page = ap (λ (q : Place). q.page) shown_at.1.1 in
      let offset : p.offset ≡ (place_shown a m).offset = ap (λ (q : Place). q.offset) shown_at.1.1 in
      let few : m.first + m.pages ≤ 16384 = placed.0.4 in
      let low : m.start ≤ a = grind (arith, placed.1) in
      let past : a < end_of m = grind (arith, placed.1) in
      omega (arith, page, offset, few, low, past)

  pub is_spot : (right : ℕ) → has_bit p.prot right ≡ true → IsSpot maps right a p.object (4096 * p.page + p.offset) p.shared
  is_spot right able =
      let page : p.page ≡ (place_shown a m).page = ap (λ (q : Place). q.page) shown_at.1.1 in
      let offset : p.offset ≡ (place_shown a m).offset = ap (λ (q : Place). q.offset) shown_at.1.1 in
      let low : m.start ≤ a = grind (arith, placed.1) in
      let rights : p.prot ≡ m.prot = ap (λ (q : Place). q.prot) shown_at.1.1 in
      record {
        mapping = m;
        is = shown_at.1.0;
        able = ap (λ (r : ℕ). has_bit r right) (sym rights) ∙ able;
        object_is = ap (λ (q : Place). q.object) shown_at.1.1;
        place_is = omega (arith, page, offset, low);
        shared_is = ap (λ (q : Place). q.shared) shown_at.1.1;
      }

pub none_of : (o : Option (List ℕ)) → is_some o ≡ false → o ≡ None
none_of None is = refl
none_of (Some bytes) is = absurd cc
