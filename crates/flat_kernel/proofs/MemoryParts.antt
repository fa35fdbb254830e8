-- Bytes of one object, as the code holds them.
use Rattle.std.proofs.Common.{◌≡◌, ℕ, ◌+◌, ◌-◌, ◌^◌, ◌<◌, ◌≤◌, true, Option, Some, None, IfNone, List, [], ◌++◌, length, get_or, set, take, drop, sym, ap, ◌∙◌, subst, arith, All, append_assoc, length-append, length-drop, drop-drop}
use borrow.Rule.Slice.PartMut.{post_of}
use Rattle.std.specs.Vec.{vec_len, with_items}
use Rattle.std.proofs.lemmas.List.{get_or-map, length-map, length-take-le, map-set, set-get_or, take_at}
use Rattle.std.proofs.lemmas.List.Elements.{All-append, All-take, All-drop, All-set}
use Rattle.rv64_isa.specs.Memory.{bytes_with}
use Rattle.rv64_isa.specs.Numbers.{has_bit}
use Rattle.address_maps.specs.declared.maps.Mapping.{Mapping}
use Rattle.group_defs.specs.Cells.{cells_of, with_stored}
use Rattle.lists.specs.Bytes.{AreBytes}
use Rattle.flat_kernel.specs.declared.mapped_byte.MappedByte.{MappedByte}
use Rattle.flat_kernel.specs.Memory.{ArePlaces, IsMappedByte, TableFits, memory_in, shape}
use Rattle.flat_kernel.proofs.MemoryReads.{part_is}
use Rattle.flat_kernel.proofs.MemoryLaws.{fits_shape, sized}
use Rattle.flat_kernel.proofs.MemoryPlaces.{Entry, flat}
use Rattle.flat_kernel.proofs.MemoryStores.{landed_is}

pub if_none : {X : Type 0} (o : Option X) (P : Type 0) → P → IfNone o P
if_none None P p = p
if_none (Some x) P p = tt

-- ---- read

module _ (objects : List Entry) (maps : List Mapping) (a right size : ℕ) (mapped : MappedByte) (is : IsMappedByte (memory_in objects) maps a mapped) (fits : TableFits (memory_in objects) maps) (entry : Entry) (bytes : List ℕ) (read : entry ≡ get_or objects mapped.object entry) (shown : bytes ≡ entry.1.items) (le : size ≤ mapped.room) where
  lt : mapped.object < length objects
  lt = omega (arith, is.within, length-map objects flat)

  held : (o : ℕ × List ℕ) → (get_or (memory_in objects) mapped.object o).1 ≡ bytes
  held o = ap (λ (x : ℕ × List ℕ). x.1) (get_or-map flat objects mapped.object entry o lt) ∙ ap (λ (x : Entry). x.1.items) (sym read) ∙ sym shown

  pub part_within : mapped.place + size ≤ length bytes
  part_within = let same : length (get_or (memory_in objects) mapped.object (0, [])).1 ≡ length bytes = ap length (held (0, [])) in omega (arith, same, is.inside (0, []), le)

  pub part_fits : mapped.place + size < 2 ^ 64
  part_fits = let same : length (get_or (memory_in objects) mapped.object (0, [])).1 ≡ length bytes = ap length (held (0, [])) in omega (arith, part_within, same, fits.sizes mapped.object (0, []) is.within)

  pub part_size : length (take (mapped.place + size - mapped.place) (drop mapped.place bytes)) ≡ size
  part_size = let back : length (drop mapped.place bytes) ≡ length bytes - mapped.place = length-drop mapped.place bytes in length-take-le (mapped.place + size - mapped.place) (drop mapped.place bytes) (omega (arith, back, part_within)) ∙ omega arith

  pub part_with : has_bit mapped.rights right ≡ true → bytes_with right (cells_of (memory_in objects) maps) a (length (take (mapped.place + size - mapped.place) (drop mapped.place bytes))) ≡ Some (take (mapped.place + size - mapped.place) (drop mapped.place bytes))
  part_with bit =
      let same : size ≡ mapped.place + size - mapped.place = omega arith in
      ap (bytes_with right (cells_of (memory_in objects) maps) a) part_size
      ∙ part_is (memory_in objects) maps a mapped is fits right size (0, []) le bit
      ∙ ap (λ (l : List ℕ). Some (take size (drop mapped.place l))) (held (0, []))
      ∙ ap (λ (n : ℕ). Some (take n (drop mapped.place bytes))) same

-- ---- stored

-- bytes with new ones from a place on
abbrev put : List ℕ → ℕ → List ℕ → List ℕ
put bytes place new = take place bytes ++ (new ++ drop (place + length new) bytes)

put_size : (place : ℕ) (bytes new : List ℕ) → place + length new ≤ length bytes → length (put bytes place new) ≡ length bytes
put_size place bytes new le =
    omega (arith, length-append (take place bytes) (new ++ drop (place + length new) bytes), length-append new (drop (place + length new) bytes), length-drop (place + length new) bytes, length-take-le place bytes (omega (arith, le)), le)

-- an object after a copy into a part of its bytes
abbrev pub refilled : Entry → ℕ → ℕ → List ℕ → List ℕ → Entry
refilled entry place size bytes copied = (entry.0, with_items entry.1 (take place bytes ++ (copied ++ post_of place (place + size - place) bytes)))

put_is : (place : ℕ) (bytes new copied : List ℕ) → copied ≡ new → take place bytes ++ (copied ++ post_of place (place + length new - place) bytes) ≡ put bytes place new
put_is place bytes new copied same =
    let size : place + length new - place ≡ length new = omega arith in
    ap (λ (l : List ℕ). take place bytes ++ (l ++ post_of place (place + length new - place) bytes)) same
    ∙ ap (λ (n : ℕ). take place bytes ++ (new ++ post_of place n bytes)) size
    ∙ ap (λ (l : List ℕ). take place bytes ++ (new ++ l)) (drop-drop (length new) place bytes)

put_items : (entry : Entry) (place : ℕ) (bytes new copied : List ℕ) → copied ≡ new → place + length new ≤ length bytes → length bytes ≡ vec_len entry.1 → (refilled entry place (length new) bytes copied).1.items ≡ put bytes place new
put_items entry place bytes new copied same le size =
    ap (λ (l : List ℕ). (with_items entry.1 l).items) (put_is place bytes new copied same)
    ∙ take_at (put bytes place new) (drop (length (put bytes place new)) entry.1.items) (vec_len entry.1) (put_size place bytes new le ∙ size)

-- places go by numbers
pub places_shape : (a b : List (ℕ × List ℕ)) (maps : List Mapping) (places : List ℕ) → shape b ≡ shape a → ArePlaces a maps places → ArePlaces b maps places
places_shape a b maps places same found = record {
  count = found.count;
  within = λ k lt. omega (arith, sizes, found.within k lt);
  number = λ k m o lt.
      let p = get_or places k 0 in
      let at : p < length a = found.within k lt in
      ap (λ (s : ℕ × ℕ). s.0) (sym (get_or-map sized b p o (0, 0) (omega (arith, at, sizes))) ∙ ap (λ (l : List (ℕ × ℕ)). get_or l p (0, 0)) same ∙ get_or-map sized a p o (0, 0) at) ∙ found.number k m o lt;
}
  where
    sizes : length b ≡ length a
    sizes = sym (length-map b sized) ∙ ap length same ∙ length-map a sized

module _ (objects : List Entry) (mapped : MappedByte) (entry : Entry) (bytes new copied : List ℕ) (within : mapped.object < length (memory_in objects)) (read : entry ≡ get_or objects mapped.object entry) (shown : bytes ≡ entry.1.items) (inside : (o : ℕ × List ℕ) → mapped.place + length new ≤ length (get_or (memory_in objects) mapped.object o).1) where
  end : mapped.object < length objects
  end = omega (arith, within, length-map objects flat)

  old : (o : ℕ × List ℕ) → get_or (memory_in objects) mapped.object o ≡ (entry.0, bytes)
  old o = get_or-map flat objects mapped.object entry o end ∙ ap flat (sym read) ∙ ap (λ (l : List ℕ). (entry.0, l)) (sym shown)

  pub put_within : mapped.place + length new ≤ length bytes
  put_within = let same : length (get_or (memory_in objects) mapped.object (0, [])).1 ≡ length bytes = ap (λ (x : ℕ × List ℕ). length x.1) (old (0, [])) in omega (arith, same, inside (0, []))

  pub put_fits : (maps : List Mapping) → TableFits (memory_in objects) maps → mapped.place + length new < 2 ^ 64
  put_fits maps fits = omega (arith, inside (0, []), fits.sizes mapped.object (0, []) within)

  module _ (same : copied ≡ new) (len : length bytes ≡ vec_len entry.1) where
    after : memory_in (set objects mapped.object (refilled entry mapped.place (length new) bytes copied)) ≡ set (memory_in objects) mapped.object (entry.0, put bytes mapped.place new)
    after =
        map-set flat objects mapped.object (refilled entry mapped.place (length new) bytes copied)
        ∙ ap (λ (l : List ℕ). set (memory_in objects) mapped.object (entry.0, l)) (put_items entry mapped.place bytes new copied same put_within len)

    same_shape : shape (memory_in (set objects mapped.object (refilled entry mapped.place (length new) bytes copied))) ≡ shape (memory_in objects)
    same_shape =
        ap shape after
        ∙ map-set sized (memory_in objects) mapped.object (entry.0, put bytes mapped.place new)
        ∙ ap (λ (n : ℕ). set (shape (memory_in objects)) mapped.object (entry.0, n)) (put_size mapped.place bytes new put_within)
        ∙ ap (λ (s : ℕ × ℕ). set (shape (memory_in objects)) mapped.object s) (ap sized (sym (old (0, []))) ∙ sym (get_or-map sized (memory_in objects) mapped.object (0, []) (0, 0) within))
        ∙ set-get_or (shape (memory_in objects)) mapped.object (0, 0)

    pub put_keeps : (maps : List Mapping) → AreBytes new → TableFits (memory_in objects) maps → TableFits (memory_in (set objects mapped.object (refilled entry mapped.place (length new) bytes copied))) maps
    unfolding AreBytes
    put_keeps maps small fits =
        let mine : AreBytes bytes = subst (λ (x : ℕ × List ℕ). AreBytes x.1) (old (0, [])) (fits.bytes mapped.object (0, []) within) in
        let put_small : AreBytes (put bytes mapped.place new) = All-append (λ b. b < 256) (take mapped.place bytes) (new ++ drop (mapped.place + length new) bytes) (All-take (λ b. b < 256) mapped.place bytes mine) (All-append (λ b. b < 256) new (drop (mapped.place + length new) bytes) small (All-drop (λ b. b < 256) (mapped.place + length new) bytes mine)) in
        fits_shape (memory_in objects) (memory_in (set objects mapped.object (refilled entry mapped.place (length new) bytes copied))) maps same_shape
        (subst (All (λ o. AreBytes o.1)) (sym after) (All-set (λ o. AreBytes o.1) (memory_in objects) mapped.object (entry.0, put bytes mapped.place new) put_small fits.bytes)) fits

    pub put_finds : (maps : List Mapping) (places : List ℕ) → ArePlaces (memory_in objects) maps places → ArePlaces (memory_in (set objects mapped.object (refilled entry mapped.place (length new) bytes copied))) maps places
    put_finds maps places found = places_shape (memory_in objects) (memory_in (set objects mapped.object (refilled entry mapped.place (length new) bytes copied))) maps places same_shape found

    pub put_lands : (maps : List Mapping) (a : ℕ) → TableFits (memory_in objects) maps → IsMappedByte (memory_in objects) maps a mapped → length new ≤ mapped.room → memory_in (set objects mapped.object (refilled entry mapped.place (length new) bytes copied)) ≡ with_stored (memory_in objects) maps a new
    put_lands maps a fits at le =
        after
        ∙ ap (λ (x : ℕ × List ℕ). set (memory_in objects) mapped.object (x.0, put x.1 mapped.place new)) (sym (old (0, [])))
        ∙ ap (λ (l : List ℕ). set (memory_in objects) mapped.object ((get_or (memory_in objects) mapped.object (0, [])).0, l)) (sym (append_assoc (take mapped.place (get_or (memory_in objects) mapped.object (0, [])).1) new (drop (mapped.place + length new) (get_or (memory_in objects) mapped.object (0, [])).1)))
        ∙ sym (landed_is (memory_in objects) maps a mapped new (0, []) at fits le)
