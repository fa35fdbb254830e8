-- Faces taken out of a table one by one, into another: those whose numbers pass a test.
use Rattle.std.proofs.Common.{◌≡◌, ℕ, suc, ◌+◌, ◌<◌, ◌==◌, ◌||◌, Bool, true, false, not, List, [], ◌∷◌, Some, None, refl, sym, ap, ◌∙◌, arith}
use Rattle.std.proofs.lemmas.Bool.{false≢true}
use Rattle.std.proofs.lemmas.Bool.Decides.{nat_tests}
use Rattle.std.specs.Prelude.{if◌then◌else◌, nat_lt}
use Rattle.std.specs.List.{AllByRecursion, filter, insert, prefix_len}
use Rattle.tables.specs.Rising.{added, entry_of, removed}
use Rattle.tables.proofs.Ordered.{IsOrdered}

-- a test, and one number more
abbrev pub or_is : (ℕ → Bool) → ℕ → ℕ → Bool
or_is takes n number = takes number || (number == n)

insert_front : {X : Type 0} (x y : X) (xs : List X) (k : ℕ) → insert (x ∷ xs) (1 + k) y ≡ x ∷ insert xs k y
insert_front x y xs k = let e : 1 + k ≡ suc k = omega arith in ap (λ (n : ℕ). insert (x ∷ xs) n y) e

module _ {X : Type 0} (number : X → ℕ) where
  abbrev pub that : (ℕ → Bool) → List X → List X
  that takes xs = filter (λ x. takes (number x)) xs

  abbrev pub but : (ℕ → Bool) → List X → List X
  but takes xs = filter (λ x. not (takes (number x))) xs

  abbrev IsRising : List X → Type 0
  IsRising xs = IsOrdered (λ x y. number x < number y) xs

  pub but_removed : (takes : ℕ → Bool) (n : ℕ) (xs : List X) → removed number (but takes xs) n ≡ but (or_is takes n) xs
  but_removed takes n [] = refl
  but_removed takes n (x ∷ xs) = by_test (takes (number x)) refl (number x == n) refl (but_removed takes n xs)
    where
      by_test : (a : Bool) → takes (number x) ≡ a → (b : Bool) → (number x == n) ≡ b → removed number (but takes xs) n ≡ but (or_is takes n) xs
          → removed number (but takes (x ∷ xs)) n ≡ but (or_is takes n) (x ∷ xs)
      by_test true e b f rest = rw e rest
      by_test false e true f rest = rw (e, f) rest
      by_test false e false f rest = rw (e, f) (ap (λ (l : List X). x ∷ l) rest)

  -- where no number is this one, the test of one more takes the same
  pub that_same : (takes : ℕ → Bool) (n : ℕ) (xs : List X) → AllByRecursion (λ x. (number x == n) ≡ false) xs → that (or_is takes n) xs ≡ that takes xs
  that_same takes n [] none = refl
  that_same takes n (x ∷ xs) none = by_test (takes (number x)) refl (that_same takes n xs none.1)
    where
      by_test : (a : Bool) → takes (number x) ≡ a → that (or_is takes n) xs ≡ that takes xs → that (or_is takes n) (x ∷ xs) ≡ that takes (x ∷ xs)
      by_test true e rest = rw e (ap (λ (l : List X). x ∷ l) rest)
      by_test false e rest = rw (e, none.0) rest

  none_behind : (n : ℕ) (xs : List X) → AllByRecursion (λ x. n < number x) xs → AllByRecursion (λ x. (number x == n) ≡ false) xs
  none_behind n [] above = tt
  none_behind n (x ∷ xs) above = (let lt = above.0 in grind (arith, nat_tests, lt), none_behind n xs above.1)

  pub none_found : (n : ℕ) (xs : List X) → entry_of number xs n ≡ None → AllByRecursion (λ x. (number x == n) ≡ false) xs
  none_found n [] none = tt
  none_found n (x ∷ xs) none = by_test (number x == n) refl none (none_found n xs)
    where
      by_test : (b : Bool) → (number x == n) ≡ b → (if b then Some x else entry_of number xs n) ≡ None → (entry_of number xs n ≡ None → AllByRecursion (λ x. (number x == n) ≡ false) xs)
          → AllByRecursion (λ x. (number x == n) ≡ false) (x ∷ xs)
      by_test true e none rest = absurd (let f = none in cc)
      by_test false e none rest = (e, rest none)

  -- what a table of those that pass begins with, where all of it is above
  first_place : (takes : ℕ → Bool) (n : ℕ) (xs : List X) → AllByRecursion (λ x. n < number x) xs → prefix_len (λ x. nat_lt (number x) n) (that takes xs) ≡ 0
  first_place takes n [] above = refl
  first_place takes n (x ∷ xs) above = by_test (takes (number x)) refl (first_place takes n xs above.1)
    where
      stops : nat_lt (number x) n ≡ false
      stops = let lt = above.0 in grind (arith, nat_tests, lt)

      by_test : (b : Bool) → takes (number x) ≡ b → prefix_len (λ x. nat_lt (number x) n) (that takes xs) ≡ 0 → prefix_len (λ x. nat_lt (number x) n) (that takes (x ∷ xs)) ≡ 0
      by_test true e rest = rw (e, stops) refl
      by_test false e rest = rw e rest

  above_found : (n m : ℕ) (xs : List X) (y : X) → AllByRecursion (λ x. m < number x) xs → entry_of number xs n ≡ Some y → m < n
  above_found n m [] y above found = absurd (let f = found in cc)
  above_found n m (x ∷ xs) y above found = by_test (number x == n) refl found (above_found n m xs y above.1)
    where
      by_test : (b : Bool) → (number x == n) ≡ b → (if b then Some x else entry_of number xs n) ≡ Some y → (entry_of number xs n ≡ Some y → m < n) → m < n
      by_test true e found rest = let lt = above.0 in grind (arith, nat_tests, lt, e)
      by_test false e found rest = rest found

  -- the entry of a number that doesn't pass, put among those that do
  pub added_to : (takes : ℕ → Bool) (n : ℕ) (y : X) (xs : List X) → number y ≡ n → IsRising xs → entry_of number xs n ≡ Some y → takes n ≡ false
      → added number (that takes xs) y ≡ that (or_is takes n) xs
  added_to takes n y [] is rise found miss = absurd (let f = found in cc)
  added_to takes n y (x ∷ xs) is rise found miss = by_test (number x == n) refl found (λ later. added_to takes n y xs is rise.1 later miss)
    where
      here : (number x == n) ≡ true → x ≡ y → added number (that takes (x ∷ xs)) y ≡ that (or_is takes n) (x ∷ xs)
      here e same =
          let at : number x ≡ n = grind (arith, nat_tests, e) in
          let above : AllByRecursion (λ z. n < number z) xs = rw (sym at) rise.0 in
          let passes : takes (number x) ≡ false = ap takes at ∙ miss in
          let place : prefix_len (λ z. nat_lt (number z) (number y)) (that takes xs) ≡ 0 = rw is (first_place takes n xs above) in
          rw (passes, e, place) (ap (λ (l : List X). y ∷ l) (sym (that_same takes n xs (none_behind n xs above))) ∙ ap (λ (z : X). z ∷ that (or_is takes n) xs) (sym same))

      later : (number x == n) ≡ false → entry_of number xs n ≡ Some y → (b : Bool) → takes (number x) ≡ b → added number (that takes xs) y ≡ that (or_is takes n) xs
          → added number (that takes (x ∷ xs)) y ≡ that (or_is takes n) (x ∷ xs)
      later e found true f rest =
          let below : number x < n = above_found n (number x) xs y rise.0 found in
          let passes : nat_lt (number x) (number y) ≡ true = rw is (grind (arith, nat_tests, below)) in
          rw (f, passes) (insert_front x y (that takes xs) (prefix_len (λ z. nat_lt (number z) (number y)) (that takes xs)) ∙ ap (λ (l : List X). x ∷ l) rest)
      later e found false f rest = rw (f, e) rest

      by_test : (b : Bool) → (number x == n) ≡ b → (if b then Some x else entry_of number xs n) ≡ Some y → (entry_of number xs n ≡ Some y → added number (that takes xs) y ≡ that (or_is takes n) xs)
          → added number (that takes (x ∷ xs)) y ≡ that (or_is takes n) (x ∷ xs)
      by_test true e found rest = here e (let f = found in cc)
      by_test false e found rest = later e found (takes (number x)) refl (rest found)

  pub that_alike : (takes other : ℕ → Bool) → ((n : ℕ) → takes n ≡ other n) → (xs : List X) → that takes xs ≡ that other xs
  that_alike takes other same [] = refl
  that_alike takes other same (x ∷ xs) = rw (same (number x), that_alike takes other same xs) refl

  pub but_alike : (takes other : ℕ → Bool) → ((n : ℕ) → takes n ≡ other n) → (xs : List X) → but takes xs ≡ but other xs
  but_alike takes other same [] = refl
  but_alike takes other same (x ∷ xs) = rw (same (number x), but_alike takes other same xs) refl

  pub that_none : (takes : ℕ → Bool) → ((n : ℕ) → takes n ≡ false) → (xs : List X) → that takes xs ≡ []
  that_none takes none [] = refl
  that_none takes none (x ∷ xs) = rw (none (number x)) (that_none takes none xs)

  pub but_none : (takes : ℕ → Bool) → ((n : ℕ) → takes n ≡ false) → (xs : List X) → but takes xs ≡ xs
  but_none takes none [] = refl
  but_none takes none (x ∷ xs) = rw (none (number x)) (ap (λ (l : List X). x ∷ l) (but_none takes none xs))

  pub but_but : (takes other : ℕ → Bool) (xs : List X) → but other (but takes xs) ≡ but (λ n. takes n || other n) xs
  but_but takes other [] = refl
  but_but takes other (x ∷ xs) = by_test (takes (number x)) refl (other (number x)) refl (but_but takes other xs)
    where
      by_test : (a : Bool) → takes (number x) ≡ a → (b : Bool) → other (number x) ≡ b → but other (but takes xs) ≡ but (λ n. takes n || other n) xs
          → but other (but takes (x ∷ xs)) ≡ but (λ n. takes n || other n) (x ∷ xs)
      by_test true e b f rest = rw e rest
      by_test false e true f rest = rw (e, f) rest
      by_test false e false f rest = rw (e, f) (ap (λ (l : List X). x ∷ l) rest)

  -- those that another test lets go are still there
  pub that_but : (takes other : ℕ → Bool) → ((n : ℕ) → other n ≡ true → takes n ≡ false) → (xs : List X) → that other (but takes xs) ≡ that other xs
  that_but takes other apart [] = refl
  that_but takes other apart (x ∷ xs) = by_test (takes (number x)) refl (other (number x)) refl (that_but takes other apart xs)
    where
      by_test : (a : Bool) → takes (number x) ≡ a → (b : Bool) → other (number x) ≡ b → that other (but takes xs) ≡ that other xs
          → that other (but takes (x ∷ xs)) ≡ that other (x ∷ xs)
      by_test true e true f rest = absurd (false≢true (sym (apart (number x) f) ∙ e))
      by_test true e false f rest = rw (e, f) rest
      by_test false e true f rest = rw (e, f) (ap (λ (l : List X). x ∷ l) rest)
      by_test false e false f rest = rw (e, f) rest
