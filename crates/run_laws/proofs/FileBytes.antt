-- Bytes put at a place of a list change no page but those that they come to lie in, and a page past a list's zeros is one of zeros.
use Rattle.std.proofs.Common.{Bool, List, [], ap, arith, drop, drop-drop, false, get_or, inl, inr, length, length-drop, map, min, refl, subst, suc, sym, take, true, zero, ℕ, ◌&&◌, ◌*◌, ◌+◌, ◌-◌, ◌/◌, ◌<◌, ◌==◌, ◌||◌, ◌∙◌, ◌∷◌, ◌≡◌, ◌≤◌, ◌⊎◌}
use Rattle.std.proofs.lemmas.Bool.{cases_lt, ltb-false}
use Rattle.std.proofs.lemmas.List.{ext_get_or, get_or-drop, get_or-take, length-take}
use Rattle.std.proofs.lemmas.List.Elements.{All-drop, All-head, All-tail, All-take}
use Rattle.std.specs.List.{list_all, range_with_len}
use Rattle.std.specs.Prelude.{All, if◌then◌else◌, nat_lt}
use Rattle.group_defs.specs.Changes.{zeros}
use Rattle.group_defs.specs.Pages.{is_among, pages_between}
use Rattle.group_laws.proofs.NewFileLaws.{zeros_are_zero}
use Rattle.lists.specs.Bytes.{length-put, put, put_same}

pub or_both : (a b : Bool) → (a || b) ≡ false → (a ≡ false) × (b ≡ false)
or_both true b e = absurd (cc)
or_both false b e = (refl, e)

-- Bytes put at a place of a list change no page but those that they come to lie in.
pub not_between : (object page from n : ℕ) → is_among (map (λ k. (object, k)) (range_with_len from n)) (object, page) ≡ false → (page < from) ⊎ (from + n ≤ page)
not_between object page from zero e = by_order (cases_lt page from)
  where
    by_order : (page < from) ⊎ (from ≤ page) → (page < from) ⊎ (from + 0 ≤ page)
    by_order (inl lt) = inl lt
    by_order (inr le) = inr (omega (arith, le))
not_between object page from (suc n) e =
    let parts = or_both ((object == object) && (from == page)) (is_among (map (λ k. (object, k)) (range_with_len (from + 1) n)) (object, page)) e in
    by_rest parts.0 (not_between object page (from + 1) n parts.1)
  where
    by_rest : ((object == object) && (from == page)) ≡ false → (page < from + 1) ⊎ (from + 1 + n ≤ page) → (page < from) ⊎ (from + suc n ≤ page)
    by_rest here (inl lt) = let other : from ≡ page → ⊥ = λ same. grind (arith, here, same) in inl (omega (arith, lt, other))
    by_rest here (inr le) = inr (omega (arith, le))

module _ (old : List ℕ) (place : ℕ) (bytes : List ℕ) (fits : place + length bytes ≤ length old) where
  abbrev IsOut : ℕ → Type 0
  IsOut i = (i < place) ⊎ (place + length bytes ≤ i)

  page_same : (page : ℕ) → ((i : ℕ) → i < 4096 → IsOut (4096 * page + i)) → take 4096 (drop (4096 * page) (put old place bytes)) ≡ take 4096 (drop (4096 * page) old)
  page_same page out = ext_get_or 0 (part (put old place bytes)) (part old) size each
    where
      part : List ℕ → List ℕ
      part xs = take 4096 (drop (4096 * page) xs)

      size_of : (xs : List ℕ) → length (part xs) ≡ min 4096 (length xs - 4096 * page)
      size_of xs = length-take 4096 (drop (4096 * page) xs) ∙ ap (min 4096) (length-drop (4096 * page) xs)

      size : length (part (put old place bytes)) ≡ length (part old)
      size = size_of (put old place bytes) ∙ ap (λ (n : ℕ). min 4096 (n - 4096 * page)) (length-put old place bytes fits) ∙ sym (size_of old)

      at : (xs : List ℕ) (i : ℕ) → i < 4096 → get_or (part xs) i 0 ≡ get_or xs (4096 * page + i) 0
      at xs i lt = get_or-take 4096 (drop (4096 * page) xs) i 0 lt ∙ get_or-drop (4096 * page) xs i 0

      each : (i : ℕ) → i < length (part (put old place bytes)) → get_or (part (put old place bytes)) i 0 ≡ get_or (part old) i 0
      each i within =
          let lt : i < 4096 = omega (arith, within, size_of (put old place bytes)) in
          at (put old place bytes) i lt ∙ (put_same old place bytes fits).each (4096 * page + i) (out i lt, tt) ∙ sym (at old i lt)

  pub put_kept : (object page : ℕ) → is_among (pages_between object place (place + length bytes)) (object, page) ≡ false → take 4096 (drop (4096 * page) (put old place bytes)) ≡ take 4096 (drop (4096 * page) old)
  put_kept object page e = page_same page (by_test (nat_lt place (place + length bytes)) refl e)
    where
      first : ℕ
      first = place / 4096

      count : ℕ
      count = (place + length bytes - 1) / 4096 + 1 - place / 4096

      by_side : place < place + length bytes → (page < first) ⊎ (first + count ≤ page) → (i : ℕ) → i < 4096 → IsOut (4096 * page + i)
      by_side some (inl below) i lt = inl (omega (arith, below, lt))
      by_side some (inr above) i lt = inr (omega (arith, above, some))

      by_order : place + length bytes ≤ place → (i : ℕ) → (i < place) ⊎ (place ≤ i) → IsOut i
      by_order none i (inl lt) = inl lt
      by_order none i (inr le) = inr (omega (arith, le, none))

      by_test : (b : Bool) → nat_lt place (place + length bytes) ≡ b → is_among (if b then map (λ k. (object, k)) (range_with_len first count) else []) (object, page) ≡ false → (i : ℕ) → i < 4096 → IsOut (4096 * page + i)
      by_test true some e = by_side (grind (arith, some)) (not_between object page first count e)
      by_test false none e = λ i lt. by_order (ltb-false place (place + length bytes) none) (4096 * page + i) (cases_lt (4096 * page + i) place)

-- Two lists of the same length are alike in each page that lies where both are zero.
pub zero_page_same : (a b : List ℕ) (len page : ℕ) → length a ≡ length b → len ≤ 4096 * page → All (λ (x : ℕ). x ≡ 0) (drop len a) → All (λ (x : ℕ). x ≡ 0) b → take 4096 (drop (4096 * page) b) ≡ take 4096 (drop (4096 * page) a)
zero_page_same a b len page size past zeros_a zeros_b = ext_get_or 0 (take 4096 (drop (4096 * page) b)) (take 4096 (drop (4096 * page) a)) (size_of b ∙ ap (λ (n : ℕ). min 4096 (n - 4096 * page)) (sym size) ∙ sym (size_of a)) each
  where
    size_of : (xs : List ℕ) → length (take 4096 (drop (4096 * page) xs)) ≡ min 4096 (length xs - 4096 * page)
    size_of xs = length-take 4096 (drop (4096 * page) xs) ∙ ap (min 4096) (length-drop (4096 * page) xs)

    part_zeros : (xs : List ℕ) → All (λ (x : ℕ). x ≡ 0) xs → All (λ (x : ℕ). x ≡ 0) (take 4096 xs)
    part_zeros xs all = All-take (λ (x : ℕ). x ≡ 0) 4096 xs all

    back : ℕ
    back = 4096 * page - len

    of_a : All (λ (x : ℕ). x ≡ 0) (take 4096 (drop (4096 * page) a))
    of_a = let split : 4096 * page ≡ len + back = omega (arith, past) in part_zeros (drop (4096 * page) a) (subst (All (λ (x : ℕ). x ≡ 0)) (drop-drop back len a ∙ ap (λ (k : ℕ). drop k a) (sym split)) (All-drop (λ (x : ℕ). x ≡ 0) back (drop len a) zeros_a))

    of_b : All (λ (x : ℕ). x ≡ 0) (take 4096 (drop (4096 * page) b))
    of_b = part_zeros (drop (4096 * page) b) (All-drop (λ (x : ℕ). x ≡ 0) (4096 * page) b zeros_b)

    each : (i : ℕ) → i < length (take 4096 (drop (4096 * page) b)) → get_or (take 4096 (drop (4096 * page) b)) i 0 ≡ get_or (take 4096 (drop (4096 * page) a)) i 0
    each i lt = of_b i 0 lt ∙ sym (of_a i 0 (let same = size_of a in let same' = size_of b in omega (arith, lt, same, same', size)))

-- zeros have pages of zeros
pub all_zero : (xs : List ℕ) → All (λ (b : ℕ). b ≡ 0) xs → list_all (λ b. b == 0) xs ≡ true
all_zero [] all = refl
all_zero (x ∷ xs) all = rw (ap (λ (k : ℕ). k == 0) (All-head (λ (b : ℕ). b ≡ 0) x xs all)) (all_zero xs (All-tail (λ (b : ℕ). b ≡ 0) x xs all))

pub zeros_page : (n page : ℕ) → list_all (λ b. b == 0) (take 4096 (drop (4096 * page) (zeros n))) ≡ true
zeros_page n page = all_zero _ (All-take (λ (b : ℕ). b ≡ 0) 4096 (drop (4096 * page) (zeros n)) (All-drop (λ (b : ℕ). b ≡ 0) (4096 * page) (zeros n) (zeros_are_zero n)))
