-- The place of an object among those that rise by their numbers.
use Rattle.std.proofs.Common.{◌≡◌, ◌⊎◌, inl, inr, ℕ, suc, ◌+◌, ◌-◌, ◌<◌, ◌≤◌, ◌==◌, Bool, true, false, List, [], ◌∷◌, ◌++◌, length, take, get_or, length-append, refl, sym, ap, ◌∙◌, subst, arith}
use Rattle.std.specs.Prelude.{nat_lt}
use Rattle.std.specs.List.Sorted.{IsPartitionedBy, IsPartitionPoint}
use Rattle.std.specs.declared.alloc.Global.{Global}
use Rattle.std.specs.declared.vec.Vec.{Vec}
use Rattle.std.proofs.lemmas.Bool.{cases_lt, cases_order}
use Rattle.std.proofs.lemmas.List.{get_or-map, length-map, length-take-le, get_or-take, get_or_append_left, get_or-append_right, get_or_default}
use Rattle.group_defs.specs.Cells.{bytes_in}
use Rattle.tables.specs.Rising.{Rise}
use Rattle.address_maps.specs.declared.maps.Mapping.{Mapping}
use Rattle.group_defs.specs.Mappings.{IsUserMapping}
use Rattle.flat_kernel.specs.Memory.{ArePlaces, TableFits, memory_in}

-- an object as the code holds it, and as the table does
abbrev pub Entry : Type 0
Entry = ℕ × Vec ℕ Global

abbrev pub flat : Entry → ℕ × List ℕ
flat o = (o.0, o.1.items)

abbrev pub below : ℕ → Entry → Bool
below n o = nat_lt o.0 n

-- objects that rise have the lower numbers first
pub lower_first : (objects : List Entry) (n : ℕ) → Rise (λ o. o.0) (memory_in objects) → IsPartitionedBy (below n) objects
unfolding Rise
lower_first objects n rise i j d le lt hit = by_order (cases_lt i j)
  where
    end : j < length (memory_in objects)
    end = omega (arith, lt, length-map objects flat)

    low : (get_or (memory_in objects) i (0, [])).0 ≡ (get_or objects i d).0
    low = ap (λ (o : ℕ × List ℕ). o.0) (get_or-map flat objects i d (0, []) (omega (arith, le, lt)))

    high : (get_or (memory_in objects) j (0, [])).0 ≡ (get_or objects j d).0
    high = ap (λ (o : ℕ × List ℕ). o.0) (get_or-map flat objects j d (0, []) lt)

    by_order : (i < j) ⊎ (j ≤ i) → below n (get_or objects i d) ≡ true
    by_order (inl less) =
        let rises : (get_or (memory_in objects) i (0, [])).0 < (get_or (memory_in objects) j (0, [])).0 = rise i j (0, []) less end in
        let mine : (get_or objects j d).0 < n = grind (arith, hit) in
        let small : (get_or objects i d).0 < n = omega (arith, rises, low, high, mine) in
        grind (arith, small)
    by_order (inr more) = let same : i ≡ j = omega arith in subst (λ (k : ℕ). below n (get_or objects k d) ≡ true) (sym same) hit

-- an object with bytes is there
record IsThere (memory : List (ℕ × List ℕ)) (n : ℕ) : Type 0 where
  place : ℕ
  within : place < length memory
  number : (d : ℕ × List ℕ) → (get_or memory place d).0 ≡ n

there : (memory : List (ℕ × List ℕ)) (n : ℕ) → 0 < length (bytes_in memory n) → IsThere memory n
there [] n some = absurd (omega (arith, some))
there (o ∷ os) n some = by_test (o.0 == n) refl (there os n)
  where
    by_test : (t : Bool) → (o.0 == n) ≡ t → (0 < length (bytes_in os n) → IsThere os n) → IsThere (o ∷ os) n
    by_test true e rest = record { place = 0; within = omega arith; number = λ d. grind (arith, e) }
    by_test false e rest =
        let more : 0 < length (bytes_in os n) = rw (bytes_in, e) at some in
        let found = rest more in
        record { place = suc found.place; within = omega (arith, found.within); number = λ d. found.number d }

module _ (objects : List Entry) (n i : ℕ) (rise : Rise (λ o. o.0) (memory_in objects)) (point : IsPartitionPoint (λ o. below n o ≡ true) (λ o. below n o ≡ false) objects i) (some : 0 < length (bytes_in (memory_in objects) n)) where
  here : IsThere (memory_in objects) n
  here = there (memory_in objects) n some

  numbered : (k : ℕ) (d : Entry) → k < length objects → (get_or (memory_in objects) k (0, [])).0 ≡ (get_or objects k d).0
  numbered k d lt = ap (λ (o : ℕ × List ℕ). o.0) (get_or-map flat objects k d (0, []) lt)

  by_list : (d : Entry) → here.place < length objects → i ≡ here.place
  unfolding Rise
  by_list d lt = by_order (cases_order i here.place)
    where
      number : (get_or objects here.place d).0 ≡ n
      number = sym (numbered here.place d lt) ∙ here.number (0, [])

      by_order : (i ≡ here.place) ⊎ ((i < here.place) ⊎ (here.place < i)) → i ≡ here.place
      by_order (inl same) = same
      by_order (inr (inl less)) =
          let late : below n (get_or objects i d) ≡ false = point.1 i d (omega arith) (omega (arith, less, lt)) in
          let rises : (get_or (memory_in objects) i (0, [])).0 < (get_or (memory_in objects) here.place (0, [])).0 = rise i here.place (0, []) less here.within in
          let at_least : n ≤ (get_or objects i d).0 = grind (arith, late) in
          absurd (omega (arith, rises, at_least, numbered i d (omega (arith, less, lt)), here.number (0, [])))
      by_order (inr (inr more)) =
          let early : below n (get_or objects here.place d) ≡ true = point.0 here.place d (omega arith) more in
          let less : (get_or objects here.place d).0 < n = grind (arith, early) in
          absurd (omega (arith, less, number))

  place_is : i ≡ here.place
  place_is = by_objects objects refl
    where
      lt : here.place < length objects
      lt = omega (arith, here.within, length-map objects flat)

      by_objects : (l : List Entry) → objects ≡ l → i ≡ here.place
      by_objects [] e = absurd (omega (arith, lt, ap length e))
      by_objects (d ∷ l) e = by_list d lt

  -- the place is that of the object of this number
  pub place_within : i < length (memory_in objects)
  place_within = omega (arith, place_is, here.within)

  pub place_number : (o : ℕ × List ℕ) → (get_or (memory_in objects) i o).0 ≡ n
  place_number o = ap (λ (k : ℕ). (get_or (memory_in objects) k o).0) place_is ∙ here.number o

-- a mapping's object has bytes
pub mapped_some : (memory : List (ℕ × List ℕ)) (maps : List Mapping) (k : ℕ) (d : Mapping) → TableFits memory maps → k < length maps → 0 < length (bytes_in memory (get_or maps k d).object)
unfolding IsUserMapping
mapped_some memory maps k d fits lt = let pages : 1 ≤ (get_or maps k d).pages = (fits.placed k d lt).1 in omega (arith, pages, fits.inside k d lt)

-- one more mapping with its object's place
pub places_more : (memory : List (ℕ × List ℕ)) (maps : List Mapping) (places : List ℕ) (k place : ℕ) (d : Mapping) → k < length maps → ArePlaces memory (take k maps) places → place < length memory → ((o : ℕ × List ℕ) → (get_or memory place o).0 ≡ (get_or maps k d).object) → ArePlaces memory (take (k + 1) maps) (places ++ place ∷ [])
places_more memory maps places k place d lt so_far within number = record {
  count = omega (arith, so_far.count, length-append places (place ∷ []), length-take-le k maps (omega (arith, lt)), length-take-le (k + 1) maps (omega (arith, lt)));
  within = λ i less. by_order_within i less (cases_lt i k);
  number = λ i m o less. by_order_number i m o less (cases_lt i k);
}
  where
    count : length places ≡ k
    count = so_far.count ∙ length-take-le k maps (omega (arith, lt))

    front : length (take k maps) ≡ k
    front = length-take-le k maps (omega (arith, lt))

    whole : length (take (k + 1) maps) ≡ k + 1
    whole = length-take-le (k + 1) maps (omega (arith, lt))

    old : (i : ℕ) → i < k → get_or (places ++ place ∷ []) i 0 ≡ get_or places i 0
    old i less = get_or_append_left places (place ∷ []) 0 i (omega (arith, less, count))

    new : (i : ℕ) → i ≡ k → get_or (places ++ place ∷ []) i 0 ≡ place
    new i same = let none : i - k ≡ 0 = omega arith in get_or-append_right places (place ∷ []) k i 0 count (omega (arith, same)) ∙ ap (λ (j : ℕ). get_or (place ∷ []) j 0) none

    by_order_within : (i : ℕ) → i < length (take (k + 1) maps) → (i < k) ⊎ (k ≤ i) → get_or (places ++ place ∷ []) i 0 < length memory
    by_order_within i less (inl before) = let e : get_or (places ++ place ∷ []) i 0 ≡ get_or places i 0 = old i before in omega (arith, e, so_far.within i (omega (arith, front, before)))
    by_order_within i less (inr at_least) = let e : get_or (places ++ place ∷ []) i 0 ≡ place = new i (omega (arith, less, whole, at_least)) in omega (arith, e, within)

    by_order_number : (i : ℕ) (m : Mapping) (o : ℕ × List ℕ) → i < length (take (k + 1) maps) → (i < k) ⊎ (k ≤ i) → (get_or memory (get_or (places ++ place ∷ []) i 0) o).0 ≡ (get_or (take (k + 1) maps) i m).object
    by_order_number i m o less (inl before) =
        ap (λ (p : ℕ). (get_or memory p o).0) (old i before) ∙ so_far.number i m o (omega (arith, front, before))
        ∙ ap (λ (x : Mapping). x.object) (get_or-take k maps i m before ∙ sym (get_or-take (k + 1) maps i m (omega (arith, before))))
    by_order_number i m o less (inr at_least) =
        let same : i ≡ k = omega (arith, less, whole, at_least) in
        ap (λ (p : ℕ). (get_or memory p o).0) (new i same) ∙ number o
        ∙ ap (λ (x : Mapping). x.object) (get_or_default maps k d m lt ∙ ap (λ (j : ℕ). get_or maps j m) (sym same) ∙ sym (get_or-take (k + 1) maps i m (omega (arith, same))))
