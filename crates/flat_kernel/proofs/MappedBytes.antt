-- The mapping found by binary search, and where its bytes lie.
use Rattle.std.proofs.Common.{◌≡◌, ℕ, ◌+◌, ◌-◌, ◌*◌, ◌^◌, ◌<◌, ◌≤◌, true, List, length, get_or, Option, Some, None, [], refl, sym, ap, ◌∙◌, subst, arith}
use Rattle.std.specs.List.Sorted.{IsPartitionPoint}
use Rattle.std.proofs.lemmas.List.{get_or_default}
use Rattle.std.proofs.lemmas.List.Elements.{All-get_or}
use Rattle.address_maps.specs.declared.maps.Mapping.{Mapping}
use Rattle.group_defs.specs.Cells.{bytes_in}
use Rattle.address_maps.specs.Mappings.{has, mapping_at, end_of}
use Rattle.group_defs.specs.Mappings.{IsUserMapping}
use Rattle.flat_kernel.specs.Memory.{ArePlaces, IsMappedByte, TableFits}
use Rattle.flat_kernel.proofs.MemoryMaps.{none_starts, last_starts, ended_before, only_at}
use Rattle.flat_kernel.proofs.MemoryReads.{bytes_at}

module _ (memory : List (ℕ × List ℕ)) (maps list : List Mapping) (places : List ℕ) (a n : ℕ) (d : Mapping) (same : list ≡ maps) (fits : TableFits memory maps) (found : ArePlaces memory maps places) (point : IsPartitionPoint (λ m. m.start ≤ a) (λ m. a < m.start) list n) where
  fits' : TableFits memory list
  fits' = subst (λ (l : List Mapping). TableFits memory l) (sym same) fits

  found' : ArePlaces memory list places
  found' = subst (λ (l : List Mapping). ArePlaces memory l places) (sym same) found

  to_maps : (o : Option Mapping) → mapping_at list a ≡ o → mapping_at maps a ≡ o
  to_maps o e = subst (λ (l : List Mapping). mapping_at l a ≡ o) same e

  pub none_before : n ≡ 0 → mapping_at maps a ≡ None
  none_before none = to_maps None (none_starts list a n d none point)

  module _ (some : 0 < n) (within : n ≤ length list) where
    pub starts : (get_or list (n - 1) d).start ≤ a
    starts = last_starts list a n d some within point

    placed : IsUserMapping (get_or list (n - 1) d)
    placed = All-get_or IsUserMapping list (n - 1) d (omega arith) fits'.placed

    pub size_fits : 4096 * (get_or list (n - 1) d).pages < 2 ^ 64
    unfolding IsUserMapping
    size_fits = let end : end_of (get_or list (n - 1) d) ≤ 2 ^ 38 = placed.3 in omega (arith, end)

    pub none_after : 4096 * (get_or list (n - 1) d).pages ≤ a - (get_or list (n - 1) d).start → mapping_at maps a ≡ None
    none_after past = to_maps None (ended_before list a n d fits'.apart some within point (omega (arith, past, starts)))

    inside : (o : ℕ × List ℕ) → 4096 * ((get_or list (n - 1) d).first + (get_or list (n - 1) d).pages) ≤ length (get_or memory (get_or places (n - 1) 0) o).1
    inside o =
        let object = (get_or list (n - 1) d).object in
        let size : length (bytes_in memory object) ≡ length (get_or memory (get_or places (n - 1) 0) o).1 = ap length (bytes_at memory (get_or places (n - 1) 0) object o fits'.rise (found'.within (n - 1) (omega arith)) (found'.number (n - 1) d o (omega arith))) in
        omega (arith, size, fits'.inside (n - 1) d (omega arith))

    small : 4096 * ((get_or list (n - 1) d).first + (get_or list (n - 1) d).pages) ≤ 4096 * 16384
    small = omega (arith, inside (0, []), fits'.sizes (get_or places (n - 1) 0) (0, []) (found'.within (n - 1) (omega arith)))

    pub first_fits : 4096 * (get_or list (n - 1) d).first < 2 ^ 64
    first_fits = omega (arith, small)

    module _ (before : a - (get_or list (n - 1) d).start < 4096 * (get_or list (n - 1) d).pages) where
      pub place_fits : 4096 * (get_or list (n - 1) d).first + (a - (get_or list (n - 1) d).start) < 2 ^ 64
      place_fits = omega (arith, small, before)

      hit : has a (get_or list (n - 1) d) ≡ true
      hit = let low : (get_or list (n - 1) d).start ≤ a = starts in let high : a < end_of (get_or list (n - 1) d) = omega (arith, before, low) in grind (arith, low, high)

      pub is_mapped_byte : (place : ℕ) → place ≡ get_or places (n - 1) place → IsMappedByte memory maps a (record { rights = (get_or list (n - 1) d).prot; object = place; place = 4096 * (get_or list (n - 1) d).first + (a - (get_or list (n - 1) d).start); room = 4096 * (get_or list (n - 1) d).pages - (a - (get_or list (n - 1) d).start) })
      is_mapped_byte place read_here = mapped (read_here ∙ get_or_default places (n - 1) place 0 (omega (arith, found'.count)))
        where
          mapped : place ≡ get_or places (n - 1) 0 → IsMappedByte memory maps a (record { rights = (get_or list (n - 1) d).prot; object = place; place = 4096 * (get_or list (n - 1) d).first + (a - (get_or list (n - 1) d).start); room = 4096 * (get_or list (n - 1) d).pages - (a - (get_or list (n - 1) d).start) })
          mapped read = record {
            mapping = get_or list (n - 1) d;
            is = to_maps (Some (get_or list (n - 1) d)) (only_at list (n - 1) d a fits'.apart (omega arith) hit);
            rights = refl;
            within = let lt : get_or places (n - 1) 0 < length memory = found'.within (n - 1) (omega arith) in omega (arith, read, lt);
            number = λ o. ap (λ (k : ℕ). (get_or memory k o).0) read ∙ found'.number (n - 1) d o (omega arith);
            place = refl;
            room = omega (arith, starts, before);
            inside = λ o.
                let size : length (get_or memory place o).1 ≡ length (get_or memory (get_or places (n - 1) 0) o).1 = ap (λ (k : ℕ). length (get_or memory k o).1) read in
                omega (arith, size, inside o, before);
          }
