-- Descriptions that are left when owners go: those that still have one.
use Rattle.std.proofs.Common.{◌≡◌, ◌≢◌, ◌⊎◌, inl, inr, ℕ, ◌-◌, ◌≤◌, ◌==◌, Bool, true, false, not, List, [], ◌∷◌, Option, Some, None, refl, sym, ap, ◌∙◌, arith}
use Rattle.std.proofs.lemmas.Bool.{cases_Bool, eq-eqb, eqb-true, false≢true}
use Rattle.std.proofs.lemmas.Bool.Decides.{nat_tests}
use Rattle.std.proofs.lemmas.List.Elements.{All-head, All-same, All-tail, All-weaker, filter_passes}
use Rattle.std.specs.Prelude.{All, if◌then◌else◌, nat_le, nat_lt}
use Rattle.std.specs.List.{filter}
use Rattle.descriptors.specs.Descriptors.{number_at, released_at}
use Rattle.descriptors.specs.Opens.{counted, descriptions, one_less_owner, owners_of, released, without_open}
use Rattle.descriptors.specs.declared.counted.Counted.{Counted}
use Rattle.descriptors.specs.declared.opens.Open.{Open}
use Rattle.descriptors.proofs.Counts.{no_more_released, owners_released, owners_released_other}
use Rattle.group_kernel.specs.Ending.{AllOwned, LeavesOwned, is_owned}
use Rattle.tables.specs.Lists.{on_first}

module _ {X : Type 0} where
  pub filter_all : (t : X → Bool) (xs : List X) → All (λ x. t x ≡ true) xs → filter t xs ≡ xs
  filter_all t [] all = refl
  filter_all t (x ∷ xs) all =
      ap (λ (b : Bool). if b then x ∷ filter t xs else filter t xs) (All-head (λ y. t y ≡ true) x xs all) ∙ ap (λ (l : List X). x ∷ l) (filter_all t xs (All-tail (λ y. t y ≡ true) x xs all))

  -- a test after a weaker one
  pub filter_twice : (t u : X → Bool) → ((x : X) → t x ≡ true → u x ≡ true) → (xs : List X) → filter t (filter u xs) ≡ filter t xs
  filter_twice t u implies [] = refl
  filter_twice t u implies (x ∷ xs) = by_tests (t x) (u x) refl refl (filter_twice t u implies xs)
    where
      by_tests : (a b : Bool) → t x ≡ a → u x ≡ b → filter t (filter u xs) ≡ filter t xs → filter t (if b then x ∷ filter u xs else filter u xs) ≡ (if a then x ∷ filter t xs else filter t xs)
      by_tests true true e f ih = rw e (ap (λ (l : List X). x ∷ l) ih)
      by_tests false true e f ih = rw e ih
      by_tests true false e f ih = absurd (false≢true (sym f ∙ implies x e))
      by_tests false false e f ih = ih

less : Counted → Counted
less c = counted c.description (c.owners - 1)

positive : (n : ℕ) → nat_lt 0 n ≡ true → 1 ≤ n
positive n e = grind (arith, nat_tests, e)

owns_more : (m n : ℕ) → m ≤ n → nat_lt 0 m ≡ true → nat_lt 0 n ≡ true
owns_more m n le e = grind (arith, nat_tests, e, le)

pub none_leaves : (opens : List Counted) → LeavesOwned opens opens
none_leaves opens = record { fewer = λ number. omega arith; left = λ all. sym (filter_all (λ (o : Open). is_owned opens o.number) (descriptions opens) all) }

pub more_leave : (a b c : List Counted) → LeavesOwned a b → LeavesOwned b c → LeavesOwned a c
more_leave a b c one two = record {
  fewer = λ number. omega (arith, one.fewer number, two.fewer number);
  left = λ all. two.left (owned all) ∙ ap (filter (λ (o : Open). is_owned c o.number)) (one.left all)
      ∙ filter_twice (λ (o : Open). is_owned c o.number) (λ (o : Open). is_owned b o.number) (λ o. owns_more (owners_of c o.number) (owners_of b o.number) (two.fewer o.number)) (descriptions a);
}
  where
    owned : AllOwned a → AllOwned b
    owned all = All-same (λ (o : Open). is_owned b o.number ≡ true) (descriptions b) (filter (λ (o : Open). is_owned b o.number) (descriptions a)) (one.left all) (filter_passes (λ (o : Open). is_owned b o.number) (descriptions a))

-- what is left where one owner goes
module _ (opens : List Counted) (n : ℕ) where
  hit_owned : (m : ℕ) → (m == n) ≡ true → is_owned (released opens n) m ≡ nat_lt 1 (owners_of opens n)
  hit_owned m e =
      let same : m ≡ n = eqb-true m n e in
      let gone : owners_of (released opens n) m ≡ owners_of opens n - 1 = ap (owners_of (released opens n)) same ∙ owners_released opens n in
      grind (arith, nat_tests, gone)

  other_owned : (m : ℕ) → (m == n) ≡ false → is_owned opens m ≡ true → is_owned (released opens n) m ≡ true
  other_owned m e owned =
      let apart : n ≢ m = λ same. false≢true (sym e ∙ eq-eqb m n (sym same)) in
      ap (nat_lt 0) (owners_released_other opens n m apart) ∙ owned

  by_entries : (t : ℕ → Bool) → (last : Bool) → ((m : ℕ) → (m == n) ≡ true → t m ≡ not last) → (xs : List Counted) → All (λ o. (o.number == n) ≡ false → t o.number ≡ true) (descriptions xs)
      → descriptions (if last then without_open xs n else one_less_owner xs n) ≡ filter (λ o. t o.number) (descriptions xs)
  unfolding on_first less
  by_entries t true hit [] all = refl
  by_entries t false hit [] all = refl
  by_entries t true hit (c ∷ cs) all = by_test (c.description.number == n) refl (by_entries t true hit cs (All-tail (λ (o : Open). (o.number == n) ≡ false → t o.number ≡ true) c.description (descriptions cs) all))
    where
      by_test : (b : Bool) → (c.description.number == n) ≡ b → descriptions (without_open cs n) ≡ filter (λ o. t o.number) (descriptions cs)
          → descriptions (if not b then c ∷ without_open cs n else without_open cs n) ≡ filter (λ o. t o.number) (c.description ∷ descriptions cs)
      by_test true e ih = rw (hit c.description.number e) ih
      by_test false e ih = rw (All-head (λ (o : Open). (o.number == n) ≡ false → t o.number ≡ true) c.description (descriptions cs) all e) (ap (λ (l : List Open). c.description ∷ l) ih)
  by_entries t false hit (c ∷ cs) all = by_test (c.description.number == n) refl (by_entries t false hit cs rest)
    where
      rest : All (λ (o : Open). (o.number == n) ≡ false → t o.number ≡ true) (descriptions cs)
      rest = All-tail (λ (o : Open). (o.number == n) ≡ false → t o.number ≡ true) c.description (descriptions cs) all

      either_way : (m : ℕ) → ((m == n) ≡ false → t m ≡ true) → t m ≡ true
      either_way m other = by_number (cases_Bool (m == n))
        where
          by_number : ((m == n) ≡ true) ⊎ ((m == n) ≡ false) → t m ≡ true
          by_number (inl e) = hit m e
          by_number (inr e) = other e

      every : filter (λ o. t o.number) (descriptions cs) ≡ descriptions cs
      every = filter_all (λ (o : Open). t o.number) (descriptions cs) (All-weaker (λ (o : Open). (o.number == n) ≡ false → t o.number ≡ true) (λ (o : Open). t o.number ≡ true) (λ o. either_way o.number) (descriptions cs) rest)

      by_test : (b : Bool) → (c.description.number == n) ≡ b → descriptions (one_less_owner cs n) ≡ filter (λ o. t o.number) (descriptions cs)
          → descriptions (if b then less c ∷ cs else c ∷ one_less_owner cs n) ≡ filter (λ o. t o.number) (c.description ∷ descriptions cs)
      by_test true e ih = rw (hit c.description.number e) (ap (λ (l : List Open). c.description ∷ l) (sym every))
      by_test false e ih = rw (All-head (λ (o : Open). (o.number == n) ≡ false → t o.number ≡ true) c.description (descriptions cs) all e) (ap (λ (l : List Open). c.description ∷ l) ih)

  left : (last : Bool) → nat_le (owners_of opens n) 1 ≡ last → AllOwned opens → descriptions (if last then without_open opens n else one_less_owner opens n) ≡ filter (λ o. is_owned (released opens n) o.number) (descriptions opens)
  left last e all =
      by_entries (is_owned (released opens n)) last (λ m hit. hit_owned m hit ∙ ends last e) opens
      (All-weaker (λ (o : Open). is_owned opens o.number ≡ true) (λ (o : Open). (o.number == n) ≡ false → is_owned (released opens n) o.number ≡ true) (λ o owned apart. other_owned o.number apart owned) (descriptions opens) all)
    where
      ends : (last : Bool) → nat_le (owners_of opens n) 1 ≡ last → nat_lt 1 (owners_of opens n) ≡ not last
      ends true e = grind (arith, nat_tests, e)
      ends false e = grind (arith, nat_tests, e)

  pub release_leaves : LeavesOwned opens (released opens n)
  release_leaves = record { fewer = no_more_released opens n; left = left (nat_le (owners_of opens n) 1) refl }

pub close_leaves : (fds : List (ℕ × ℕ)) (fd : ℕ) (opens : List Counted) → LeavesOwned opens (released_at fds fd opens)
close_leaves fds fd opens = by_number (number_at fds fd)
  where
    by_number : (o : Option ℕ) → LeavesOwned opens (elim o [ None ↦ opens | Some number ↦ released opens number ])
    by_number None = none_leaves opens
    by_number (Some number) = release_leaves opens number
