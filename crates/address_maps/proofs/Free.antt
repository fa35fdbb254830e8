-- Free bytes between mappings.
use Rattle.std.proofs.Common.{◌≡◌, ◌⊎◌, inl, inr, ℕ, ◌+◌, ◌%◌, ◌^◌, ◌<◌, ◌≤◌, true, false, List, length, get_or, sym, ◌∙◌, arith}
use Rattle.std.specs.Prelude.{All, max}
use Rattle.std.proofs.lemmas.Bool.{cases_lt, true≢false}
use Rattle.std.proofs.lemmas.Bool.Decides.{nat_tests}
use Rattle.tables.proofs.Only.{find_no, none_from_find}
use Rattle.address_maps.specs.declared.maps.Mapping.{Mapping}
use Rattle.address_maps.specs.Mappings.{end_of, IsMapping, AreApart, has}
use Rattle.address_maps.specs.Gaps.{area_start, IsFree, IsLowestFree}

-- what is free from an address on touches no mapping
pub free_misses : (maps : List Mapping) (size from i : ℕ) (d : Mapping) → All IsMapping maps → i < length maps → 1 ≤ size → IsFree maps size from → (get_or maps i d).start < from + size → end_of (get_or maps i d) ≤ from
unfolding IsMapping
free_misses maps size from i d each lt some free starts = by_order (cases_lt from (end_of (get_or maps i d)))
  where
    m : Mapping
    m = get_or maps i d

    good : IsMapping (get_or maps i d)
    good = each i d lt

    misses : (a : ℕ) → from ≤ a → a < from + size → has a (get_or maps i d) ≡ false
    misses a le less = none_from_find (has a) maps (free a le less) i d lt

    by_start : from < end_of (get_or maps i d) → ((get_or maps i d).start < from) ⊎ (from ≤ (get_or maps i d).start) → end_of (get_or maps i d) ≤ from
    by_start inside (inl before) =
        let hit : has from (get_or maps i d) ≡ true = grind (arith, nat_tests, before, inside) in
        absurd (true≢false (sym hit ∙ misses from (omega arith) (omega (arith, some))))
    by_start inside (inr after) =
        let hit : has (get_or maps i d).start (get_or maps i d) ≡ true = grind (arith, nat_tests, good) in
        absurd (true≢false (sym hit ∙ misses (get_or maps i d).start after starts))

    by_order : (from < end_of (get_or maps i d)) ⊎ (end_of (get_or maps i d) ≤ from) → end_of (get_or maps i d) ≤ from
    by_order (inr le) = le
    by_order (inl less) = by_start less (cases_lt (get_or maps i d).start from)

-- the mappings before place i end before low, and those from it on start after the bytes
pub free_between : (maps : List Mapping) (size low i : ℕ) → ((j : ℕ) (d : Mapping) → j < i → end_of (get_or maps j d) ≤ low) → ((j : ℕ) (d : Mapping) → i ≤ j → j < length maps → low + size ≤ (get_or maps j d).start) → IsFree maps size low
free_between maps size low i passed later a le less = find_no (has a) maps each_misses
  where
    each_misses : (j : ℕ) (d : Mapping) → j < length maps → has a (get_or maps j d) ≡ false
    each_misses j d lt = by_place (cases_lt j i)
      where
        by_place : (j < i) ⊎ (i ≤ j) → has a (get_or maps j d) ≡ false
        by_place (inl before) = let early = passed j d before in grind (arith, nat_tests, early, le)
        by_place (inr after) = let late = later j d after lt in grind (arith, nat_tests, late, less)

-- from the first that starts after the bytes on, all do
pub later_from : (maps : List Mapping) (bound i : ℕ) → All IsMapping maps → AreApart maps → ((d : Mapping) → bound ≤ (get_or maps i d).start) → (j : ℕ) (d : Mapping) → i ≤ j → j < length maps → bound ≤ (get_or maps j d).start
unfolding AreApart IsMapping
later_from maps bound i each apart first j d le lt = by_order (cases_lt i j)
  where
    by_order : (i < j) ⊎ (j ≤ i) → bound ≤ (get_or maps j d).start
    by_order (inl less) = omega (arith, first d, apart i j d less lt)
    by_order (inr more) = let same : j ≡ i = omega (arith, le, more) in rw same (first d)

-- the next place at which bytes may be free
pub record Passed (maps : List Mapping) (size low i : ℕ) : Type 0 where
  pub at_page : low % 4096 ≡ 0
  pub from_start : area_start ≤ low
  pub within : low ≤ 2 ^ 38
  pub passed : (j : ℕ) (d : Mapping) → j < i → end_of (get_or maps j d) ≤ low
  pub least : (lower : ℕ) → area_start ≤ lower → IsFree maps size lower → low ≤ lower

module _ (maps : List Mapping) (size low i : ℕ) (each : All IsMapping maps) (apart : AreApart maps) (some : 1 ≤ size) (p : Passed maps size low i) where
  pub lowest_here : ((d : Mapping) → low + size ≤ (get_or maps i d).start) → IsLowestFree maps size low
  lowest_here first = record {
    at_page = p.at_page;
    from_start = p.from_start;
    free = free_between maps size low i p.passed (later_from maps (low + size) i each apart first);
    least = p.least;
  }

  pub lowest_after : length maps ≤ i → IsLowestFree maps size low
  lowest_after le = record {
    at_page = p.at_page;
    from_start = p.from_start;
    free = free_between maps size low i p.passed (λ j d after lt. absurd (omega (arith, le, after, lt)));
    least = p.least;
  }

  pub passed_more : (m : Mapping) (next : ℕ) → i < length maps → ((d : Mapping) → get_or maps i d ≡ m) → m.start < low + size → next ≡ max low (end_of m) → Passed maps size next (i + 1)
  unfolding IsMapping
  passed_more m next lt there starts is = record {
    at_page = by_order (cases_lt low (end_of m));
    from_start = omega (arith, p.from_start, is);
    within = omega (arith, p.within, is, good);
    passed = λ j d before. each_passed j d (cases_lt j i) before;
    least = λ lower from free. omega (arith, is, p.least lower from free, ends lower from free);
  }
    where
      good : IsMapping m
      good = rw (← there m) (each i m lt)

      by_order : (low < end_of m) ⊎ (end_of m ≤ low) → next % 4096 ≡ 0
      by_order (inl less) = let e : next ≡ end_of m = omega (arith, is, less) in rw e (omega (arith, good))
      by_order (inr le) = let e : next ≡ low = omega (arith, is, le) in rw e p.at_page

      each_passed : (j : ℕ) (d : Mapping) → (j < i) ⊎ (i ≤ j) → j < i + 1 → end_of (get_or maps j d) ≤ next
      each_passed j d (inl less) before = omega (arith, is, p.passed j d less)
      each_passed j d (inr le) before = let e : j ≡ i = omega (arith, le, before) in rw (e, there d) (omega (arith, is))

      ends : (lower : ℕ) → area_start ≤ lower → IsFree maps size lower → end_of m ≤ lower
      ends lower from free =
          rw (← there m) (free_misses maps size lower i m each lt some free (rw (there m) (omega (arith, starts, p.least lower from free))))
