-- The lowest gap, computed from the places where one can start.
use Rattle.std.proofs.Common.{◌≡◌, ◌≢◌, ◌⊎◌, inl, inr, ℕ, zero, suc, ◌+◌, ◌-◌, ◌*◌, ◌%◌, ◌<◌, ◌≤◌, ◌&&◌, true, false, not, List, ◌∷◌, map, length, get_or, Option, Some, None, refl, ap, sym, subst, ◌∙◌, arith}
use Rattle.std.specs.Prelude.{nat_le, nat_lt, find, All, IfSome, IfNone}
use Rattle.std.specs.List.{list_any}
use Rattle.std.proofs.lemmas.Bool.{cases_eq, cases_Bool, true≢false, false_from_ne_true, le-leb, leb-true, and_parts, not-true}
use Rattle.std.proofs.lemmas.Bool.Decides.{nat_tests}
use Rattle.std.proofs.lemmas.List.{get_or-map, get_or_default, length-map}
use Rattle.std.proofs.lemmas.List.Folds.{list_any_none, Any-from_list_any}
use Rattle.tables.proofs.Only.{find_no, NonePasses}
use Rattle.tables.proofs.First.{find_first}
use Rattle.address_maps.specs.declared.maps.Mapping.{Mapping}
use Rattle.address_maps.specs.Mappings.{end_of, IsMapping, AreApart, has}
use Rattle.address_maps.specs.Cut.{touches}
use Rattle.address_maps.specs.Gaps.{area_start, area_end, IsFree, IsGap, IsFirstGap, is_gap, first_gap}
use Rattle.address_maps.specs.ApartLaws.{no_mapping, none_from_any}
use Rattle.address_maps.specs.CutLaws.{touched, touches_from}
use Rattle.address_maps.proofs.Free.{free_misses}

module _ (maps : List Mapping) (each : All IsMapping maps) where
  -- free bytes touch no mapping
  untouched_from_free : (size from : ℕ) → IsFree maps size from → (j : ℕ) (d : Mapping) → j < length maps → touches from (from + size) (get_or maps j d) ≡ false
  untouched_from_free size from free j d lt = false_from_ne_true (touches from (from + size) (get_or maps j d)) (λ on.
      let t = touched from (from + size) (get_or maps j d) on in
      let ends = free_misses maps size from j d each lt (omega (arith, t.0)) free t.1 in
      omega (arith, ends, t.2))

  free_from_untouched : (size from : ℕ) → NonePasses (touches from (from + size)) maps → IsFree maps size from
  unfolding IsMapping
  free_from_untouched size from off a le less = find_no (has a) maps (λ j d lt. false_from_ne_true (has a (get_or maps j d)) (λ on.
      let one = and_parts (nat_le (get_or maps j d).start a) (nat_lt a (end_of (get_or maps j d))) on in
      let low : (get_or maps j d).start ≤ a = leb-true (get_or maps j d).start a one.0 in
      let high : a < end_of (get_or maps j d) = grind (arith, nat_tests, one.1) in
      true≢false (sym (touches_from from (from + size) (get_or maps j d) (omega (arith, le, less)) (omega (arith, low, less)) (omega (arith, high, le))) ∙ off j d lt)))

  pub gap_test : (pages address : ℕ) → IsGap maps pages address → is_gap maps pages address ≡ true
  gap_test pages address gap =
      let off : list_any (touches address (address + 4096 * pages)) maps ≡ false = list_any_none (touches address (address + 4096 * pages)) maps (untouched_from_free (4096 * pages) address gap.free) in
      rw (le-leb area_start address gap.from_start, le-leb (address + 4096 * pages) area_end gap.to_end, off) refl

  pub gap_from_test : (pages address : ℕ) → address % 4096 ≡ 0 → is_gap maps pages address ≡ true → IsGap maps pages address
  gap_from_test pages address at_page on =
      let one = and_parts (nat_le area_start address) (nat_le (address + 4096 * pages) area_end && not (list_any (touches address (address + 4096 * pages)) maps)) on in
      let two = and_parts (nat_le (address + 4096 * pages) area_end) (not (list_any (touches address (address + 4096 * pages)) maps)) one.1 in
      record {
        at_page = at_page;
        from_start = leb-true area_start address one.0;
        to_end = leb-true (address + 4096 * pages) area_end two.0;
        free = free_from_untouched (4096 * pages) address (none_from_any (touches address (address + 4096 * pages)) maps (not-true (list_any (touches address (address + 4096 * pages)) maps) two.1));
      }

  end_at_page : (j : ℕ) (d : Mapping) → j < length maps → end_of (get_or maps j d) % 4096 ≡ 0
  unfolding IsMapping
  end_at_page j d lt = omega (arith, each j d lt)

  -- where there is no gap
  pub no_first_gap : (pages : ℕ) → ((address : ℕ) → IsGap maps pages address → ⊥) → first_gap maps pages ≡ None
  unfolding first_gap
  no_first_gap pages none = find_no (is_gap maps pages) (area_start ∷ map end_of maps) fails
    where
      fails : NonePasses (is_gap maps pages) (area_start ∷ map end_of maps)
      fails zero d lt = false_from_ne_true (is_gap maps pages area_start) (λ on. none area_start (gap_from_test pages area_start refl on))
      fails (suc j) d lt =
          let within : j < length maps = omega (arith, lt, length-map maps end_of) in
          let is : get_or (map end_of maps) j d ≡ end_of (get_or maps j no_mapping) = get_or-map end_of maps j no_mapping d within in
          rw is (false_from_ne_true (is_gap maps pages (end_of (get_or maps j no_mapping))) (λ on. none (end_of (get_or maps j no_mapping)) (gap_from_test pages (end_of (get_or maps j no_mapping)) (end_at_page j no_mapping within) on)))

  module _ (apart : AreApart maps) (pages low : ℕ) (first : IsFirstGap maps pages low) where
    not_lower : (address : ℕ) → address % 4096 ≡ 0 → address < low → is_gap maps pages address ≡ false
    not_lower address at_page less = false_from_ne_true (is_gap maps pages address) (λ on. omega (arith, less, first.least address (gap_from_test pages address at_page on)))

    -- a gap above the area's start begins where a mapping ends
    ends_there : low ≢ area_start → (k : ℕ) × (k < length maps) × (end_of (get_or maps k no_mapping) ≡ low)
    unfolding IsMapping
    ends_there above =
        let over : area_start + 4096 ≤ low = omega (arith, first.gap.from_start, above, first.gap.at_page) in
        let off : is_gap maps pages (low - 4096) ≡ false = not_lower (low - 4096) (omega (arith, first.gap.at_page, over)) (omega (arith, over)) in
        let some = touched_by (low - 4096) (omega (arith, over)) (omega (arith, first.gap.to_end)) off in
        at_end over (Any-from_list_any (touches (low - 4096) (low - 4096 + 4096 * pages)) maps some)
      where
        touched_by : (a : ℕ) → area_start ≤ a → a + 4096 * pages ≤ area_end → is_gap maps pages a ≡ false → list_any (touches a (a + 4096 * pages)) maps ≡ true
        touched_by a from to off = by_test (cases_Bool (list_any (touches a (a + 4096 * pages)) maps))
          where
            by_test : (list_any (touches a (a + 4096 * pages)) maps ≡ true) ⊎ (list_any (touches a (a + 4096 * pages)) maps ≡ false) → list_any (touches a (a + 4096 * pages)) maps ≡ true
            by_test (inl on) = on
            by_test (inr none) = absurd (true≢false (sym (let gap : is_gap maps pages a ≡ true = rw (le-leb area_start a from, le-leb (a + 4096 * pages) area_end to, none) refl in gap) ∙ off))

        at_end : area_start + 4096 ≤ low → (k : ℕ) × (m : Mapping) × (k < length maps) × (get_or maps k m ≡ m) × (touches (low - 4096) (low - 4096 + 4096 * pages) m ≡ true) → (k : ℕ) × (k < length maps) × (end_of (get_or maps k no_mapping) ≡ low)
        at_end over (k, m, lt, read, on) = (k, lt, here)
          where
            same : get_or maps k no_mapping ≡ m
            same = get_or_default maps k no_mapping m lt ∙ read

            t : (low - 4096 < low - 4096 + 4096 * pages) × (m.start < low - 4096 + 4096 * pages) × (low - 4096 < end_of m)
            t = touched (low - 4096) (low - 4096 + 4096 * pages) m on

            ends : end_of (get_or maps k no_mapping) ≤ low
            ends = free_misses maps (4096 * pages) low k no_mapping each lt (omega (arith, t.0)) first.gap.free (rw same (omega (arith, t.1, over)))

            here : end_of (get_or maps k no_mapping) ≡ low
            here = let good : IsMapping (get_or maps k no_mapping) = each k no_mapping lt in let more : low - 4096 < end_of (get_or maps k no_mapping) = rw same t.2 in omega (arith, ends, more, good, first.gap.at_page, over)

    pub first_gap_is : first_gap maps pages ≡ Some low
    unfolding first_gap AreApart IsMapping
    first_gap_is = by_start (cases_eq low area_start)
      where
        passes : is_gap maps pages low ≡ true
        passes = gap_test pages low first.gap

        at_mapping : (k : ℕ) × (k < length maps) × (end_of (get_or maps k no_mapping) ≡ low) → low ≢ area_start → find (is_gap maps pages) (area_start ∷ map end_of maps) ≡ Some low
        at_mapping (k, lt, is) above =
            let read : get_or (map end_of maps) k 0 ≡ low = get_or-map end_of maps k no_mapping 0 lt ∙ is in
            find_first (is_gap maps pages) (area_start ∷ map end_of maps) (suc k) 0 (omega (arith, lt, length-map maps end_of)) (rw read passes) earlier ∙ ap (λ (a : ℕ). Some a) read
          where
            earlier : (j : ℕ) → j < suc k → is_gap maps pages (get_or (area_start ∷ map end_of maps) j 0) ≡ false
            earlier zero less = not_lower area_start refl (omega (arith, first.gap.from_start, above))
            earlier (suc j) less =
                let within : j < length maps = omega (arith, less, lt) in
                let read : get_or (map end_of maps) j 0 ≡ end_of (get_or maps j no_mapping) = get_or-map end_of maps j no_mapping 0 within in
                let before : end_of (get_or maps j no_mapping) < low = omega (arith, apart j k no_mapping (omega (arith, less)) lt, each k no_mapping lt, is) in
                rw read (not_lower (end_of (get_or maps j no_mapping)) (end_at_page j no_mapping within) before)

        by_start : (low ≡ area_start) ⊎ (low ≡ area_start → ⊥) → find (is_gap maps pages) (area_start ∷ map end_of maps) ≡ Some low
        by_start (inl same) = let hit : is_gap maps pages area_start ≡ true = subst (λ (a : ℕ). is_gap maps pages a ≡ true) same passes in rw hit (ap (λ (a : ℕ). Some a) (sym same))
        by_start (inr above) = at_mapping (ends_there above) above

-- whatever says which gap is the lowest says what is computed
pub computed_gap : (maps : List Mapping) → All IsMapping maps → AreApart maps → (pages : ℕ) (r : Option ℕ) → IfSome r (IsFirstGap maps pages) → IfNone r ((address : ℕ) → IsGap maps pages address → ⊥) → r ≡ first_gap maps pages
computed_gap maps each apart pages None some none = sym (no_first_gap maps each pages none)
computed_gap maps each apart pages (Some low) some none = sym (first_gap_is maps each apart pages low some)
