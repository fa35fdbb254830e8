-- An entry that is added behind all others, as tables are made from lists that rise.
use Rattle.std.proofs.Common.{◌≡◌, ℕ, zero, suc, ◌+◌, ◌<◌, ◌==◌, true, false, List, [], ◌∷◌, ◌++◌, length, get_or, take, None, refl, ap, ◌∙◌, arith}
use Rattle.std.proofs.lemmas.Bool.Decides.{nat_tests}
use Rattle.std.specs.Prelude.{nat_lt}
use Rattle.std.specs.List.{AllByRecursion, insert, prefix_len}
use Rattle.tables.specs.Rising.{Rise, added, entry_of}
use Rattle.tables.proofs.Ordered.{IsOrdered, ordered_of_pairs}

insert_front : {X : Type 0} (x y : X) (xs : List X) (k : ℕ) → insert (x ∷ xs) (1 + k) y ≡ x ∷ insert xs k y
insert_front x y xs k = let e : 1 + k ≡ suc k = omega arith in ap (λ (n : ℕ). insert (x ∷ xs) n y) e

pub take_next : {X : Type 0} (xs : List X) (k : ℕ) (d : X) → k < length xs → take (k + 1) xs ≡ take k xs ++ get_or xs k d ∷ []
take_next [] k d lt = absurd (omega (arith, lt))
take_next (x ∷ xs) zero d lt = refl
take_next (x ∷ xs) (suc k) d lt =
    let e : suc k + 1 ≡ suc (k + 1) = omega arith in
    ap (λ (n : ℕ). take n (x ∷ xs)) e ∙ ap (λ (l : List _). x ∷ l) (take_next xs k d (omega (arith, lt)))

pub each_at : {X : Type 0} (P : X → Type 0) (xs : List X) (k : ℕ) (d : X) → k < length xs → AllByRecursion P xs → P (get_or xs k d)
each_at P [] k d lt each = absurd (omega (arith, lt))
each_at P (x ∷ xs) zero d lt each = each.0
each_at P (x ∷ xs) (suc k) d lt each = each_at P xs k d (omega (arith, lt)) each.1

pub before_ordered : {X : Type 0} (R : X → X → Type 0) (xs : List X) (k : ℕ) (d : X) → k < length xs → IsOrdered R xs → AllByRecursion (λ x. R x (get_or xs k d)) (take k xs)
before_ordered R [] k d lt ordered = absurd (omega (arith, lt))
before_ordered R (x ∷ xs) zero d lt ordered = tt
before_ordered R (x ∷ xs) (suc k) d lt ordered = (each_at (R x) xs k d (omega (arith, lt)) ordered.0, before_ordered R xs k d (omega (arith, lt)) ordered.1)

module _ {X : Type 0} (number : X → ℕ) where
  -- those before an entry are below it
  pub below_next : (xs : List X) (k : ℕ) (d : X) → k < length xs → Rise number xs → AllByRecursion (λ x. number x < number (get_or xs k d)) (take k xs)
  unfolding Rise
  below_next xs k d lt rise = before_ordered (λ x y. number x < number y) xs k d lt (ordered_of_pairs (λ x y. number x < number y) xs rise)

  pub none_below : (n : ℕ) (xs : List X) → AllByRecursion (λ x. number x < n) xs → entry_of number xs n ≡ None
  none_below n [] below = refl
  none_below n (x ∷ xs) below =
      let lt = below.0 in
      let misses : (number x == n) ≡ false = grind (arith, nat_tests, lt) in
      rw misses (none_below n xs below.1)

  pub added_last : (y : X) (n : ℕ) → number y ≡ n → (xs : List X) → AllByRecursion (λ x. number x < n) xs → added number xs y ≡ xs ++ y ∷ []
  added_last y n at [] below = refl
  added_last y n at (x ∷ xs) below =
      let lt = below.0 in
      let passes : nat_lt (number x) (number y) ≡ true = rw at (grind (arith, nat_tests, lt)) in
      rw passes (insert_front x y xs (prefix_len (λ z. nat_lt (number z) (number y)) xs) ∙ ap (λ (l : List X). x ∷ l) (added_last y n at xs below.1))
