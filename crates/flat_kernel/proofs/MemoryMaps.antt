-- Which mapping has an address.
use Rattle.std.proofs.Common.{◌≡◌, ◌⊎◌, inl, inr, ℕ, zero, suc, ◌-◌, ◌<◌, ◌≤◌, Bool, true, false, List, [], ◌∷◌, length, get_or, Some, None, refl, sym, ap, subst, arith}
use Rattle.std.specs.Prelude.{nat_le}
use Rattle.std.specs.List.Sorted.{IsPartitionedBy, IsPartitionPoint}
use Rattle.std.proofs.lemmas.Bool.{cases_lt}
use Rattle.address_maps.specs.declared.maps.Mapping.{Mapping}
use Rattle.address_maps.specs.Mappings.{has, mapping_at, AreApart, end_of}

apart_tail : (m : Mapping) (ms : List Mapping) → AreApart (m ∷ ms) → AreApart ms
unfolding AreApart
apart_tail m ms apart i j d less within = apart (suc i) (suc j) d (omega (arith, less)) (omega (arith, within))

apart_first : (m : Mapping) (ms : List Mapping) (k : ℕ) (d : Mapping) → AreApart (m ∷ ms) → k < length ms → end_of m ≤ (get_or ms k d).start
unfolding AreApart
apart_first m ms k d apart within = apart 0 (suc k) d (omega arith) (omega (arith, within))

-- no mapping before another one has its addresses
pub only_at : (maps : List Mapping) (k : ℕ) (d : Mapping) (a : ℕ) → AreApart maps → k < length maps → has a (get_or maps k d) ≡ true → mapping_at maps a ≡ Some (get_or maps k d)
only_at [] k d a apart within hit = absurd (omega (arith, within))
only_at (m ∷ ms) zero d a apart within hit = rw hit refl
only_at (m ∷ ms) (suc k) d a apart within hit =
    let lt : k < length ms = omega (arith, within) in
    let low : (get_or ms k d).start ≤ a = grind (arith, hit) in
    let past : end_of m ≤ (get_or ms k d).start = apart_first m ms k d apart lt in
    let miss : has a m ≡ false = grind (arith, low, past) in
    rw miss (only_at ms k d a (apart_tail m ms apart) lt hit)

pub none_at : (maps : List Mapping) (a : ℕ) (d : Mapping) → ((k : ℕ) → k < length maps → has a (get_or maps k d) ≡ false) → mapping_at maps a ≡ None
none_at [] a d each = refl
none_at (m ∷ ms) a d each = let miss : has a m ≡ false = each 0 (omega arith) in rw miss (none_at ms a d (λ k lt. each (suc k) (omega (arith, lt))))

abbrev pub starts_by : ℕ → Mapping → Bool
starts_by a m = nat_le m.start a

rises : (maps : List Mapping) (i j : ℕ) (d : Mapping) → AreApart maps → i ≤ j → j < length maps → (get_or maps i d).start ≤ (get_or maps j d).start
unfolding AreApart
rises maps i j d apart le within = by_place (cases_lt i j)
  where
    by_place : (i < j) ⊎ (j ≤ i) → (get_or maps i d).start ≤ (get_or maps j d).start
    by_place (inr more) = let e : i ≡ j = omega arith in let same : (get_or maps i d).start ≡ (get_or maps j d).start = ap (λ k. (get_or maps k d).start) e in omega (arith, same)
    by_place (inl less) = let past : end_of (get_or maps i d) ≤ (get_or maps j d).start = apart i j d less within in omega (arith, past)

-- the mappings that start at an address or before it come first
pub starts_first : (maps : List Mapping) (a : ℕ) → AreApart maps → IsPartitionedBy (starts_by a) maps
starts_first maps a apart i j d le within by =
    let le' : (get_or maps i d).start ≤ (get_or maps j d).start = rises maps i j d apart le within in
    grind (arith, le', by)

-- none starts by then
pub none_starts : (maps : List Mapping) (a n : ℕ) (d : Mapping) → n ≡ 0 → IsPartitionPoint (λ m. m.start ≤ a) (λ m. a < m.start) maps n → mapping_at maps a ≡ None
none_starts maps a n d none point =
    none_at maps a d (λ k within. let late : a < (get_or maps k d).start = point.1 k d (omega (arith, none)) within in grind (arith, late))

-- the last that starts by then
pub last_starts : (maps : List Mapping) (a n : ℕ) (d : Mapping) → 0 < n → n ≤ length maps → IsPartitionPoint (λ m. m.start ≤ a) (λ m. a < m.start) maps n → (get_or maps (n - 1) d).start ≤ a
last_starts maps a n d some within point = point.0 (n - 1) d (omega arith) (omega arith)

-- it ends before the address
pub ended_before : (maps : List Mapping) (a n : ℕ) (d : Mapping) → AreApart maps → 0 < n → n ≤ length maps → IsPartitionPoint (λ m. m.start ≤ a) (λ m. a < m.start) maps n → end_of (get_or maps (n - 1) d) ≤ a → mapping_at maps a ≡ None
unfolding AreApart
ended_before maps a n d apart some within point ended = none_at maps a d each
  where
    start : (get_or maps (n - 1) d).start ≤ a
    start = last_starts maps a n d some within point

    early : (k : ℕ) → k < n → (k < n - 1) ⊎ (n - 1 ≤ k) → has a (get_or maps k d) ≡ false
    early k lt (inr le) = let e : k ≡ n - 1 = omega arith in let gone : end_of (get_or maps k d) ≤ a = subst (λ (i : ℕ). end_of (get_or maps i d) ≤ a) (sym e) ended in grind (arith, gone)
    early k lt (inl less) = let past : end_of (get_or maps k d) ≤ (get_or maps (n - 1) d).start = apart k (n - 1) d less (omega arith) in grind (arith, past, start)

    each_by : (k : ℕ) → k < length maps → (k < n) ⊎ (n ≤ k) → has a (get_or maps k d) ≡ false
    each_by k lt (inr le) = let late : a < (get_or maps k d).start = point.1 k d le lt in grind (arith, late)
    each_by k lt (inl less) = early k less (cases_lt k (n - 1))

    each : (k : ℕ) → k < length maps → has a (get_or maps k d) ≡ false
    each k lt = each_by k lt (cases_lt k n)
