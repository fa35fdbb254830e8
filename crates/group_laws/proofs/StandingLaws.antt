-- The standing: which barrier covers the steps of a process, after a step.
use Rattle.std.proofs.Common.{◌≡◌, ◌⊎◌, inl, inr, ℕ, ◌+◌, ◌≤◌, Bool, true, false, ◌||◌, ◌==◌, List, [], ◌∷◌, map, get_or, Option, Some, None, refl, ap, ◌∙◌, arith}
use Rattle.std.specs.Prelude.{Any, find, if◌then◌else◌, nat_le}
use Rattle.std.specs.Option.{option_map}
use Rattle.std.proofs.lemmas.Bool.{cases_Bool, eqb-false, eqb-true, lt-leb, ne_eqb}
use Rattle.descriptors.specs.EntryLaws.{found_passes}
use Rattle.group_defs.specs.Standing.{Standing, is_durable, since_after, since_of, stepped}
use Rattle.group_defs.specs.declared.frame.Proc.{Proc}
use Rattle.tables.specs.Rising.{Rise}
use Rattle.tables.proofs.Only.{none_from_find}
use Rattle.group_laws.proofs.Lists.{found_is}
use Rattle.group_laws.proofs.SettledLaws.{equal, or_right, rise_unique}

find_map : {X Y : Type 0} (t : Y → Bool) (f : X → Y) (xs : List X) → find t (map f xs) ≡ option_map f (find (λ x. t (f x)) xs)
find_map t f [] = refl
find_map t f (x ∷ xs) = by_test (cases_Bool (t (f x))) (find_map t f xs)
  where
    by_test : (t (f x) ≡ true) ⊎ (t (f x) ≡ false) → find t (map f xs) ≡ option_map f (find (λ y. t (f y)) xs) → find t (map f (x ∷ xs)) ≡ option_map f (find (λ y. t (f y)) (x ∷ xs))
    by_test (inl hit) more = rw hit refl
    by_test (inr miss) more = rw miss more

-- where numbers rise, an entry is found by its number
entry_there : {X : Type 0} (n : X → ℕ) (xs : List X) (x : X) → Rise n xs → Any (λ y. y ≡ x) xs → find (λ y. n y == n x) xs ≡ Some x
entry_there {X} n xs x rise there = by_found (find (λ y. n y == n x) xs) refl
  where
    by_found : (o : Option X) → find (λ y. n y == n x) xs ≡ o → o ≡ Some x
    by_found None e = absurd (missed there)
      where
        missed : Any (λ y. y ≡ x) xs → ⊥
        missed (k, y, lt, at, is) = eqb-false (n (get_or xs k y)) (n x) (none_from_find (λ z. n z == n x) xs e k y lt) (ap n (at ∙ is))
    by_found (Some y) e = ap Some (rise_unique n xs y x rise (found_there (found_is (λ z. n z == n x) xs y e)) there (eqb-true (n y) (n x) (found_passes (λ z. n z == n x) xs y e)))
      where
        found_there : Any (λ z. (z ≡ y) × ((n z == n x) ≡ true)) xs → Any (λ z. z ≡ y) xs
        found_there (k, z, lt, at, both) = (k, z, lt, at, both.0)

-- After a step of the process pid in a group whose next pid is next.
module _ (s : Standing) (pid next : ℕ) (procs : List Proc) (rise : Rise (λ q. q.pid) procs) (q : Proc) (there : Any (λ x. x ≡ q) procs) where
  since_is : since_of (stepped s pid next procs) q.pid ≡ (since_after s pid next q).1
  unfolding stepped
  since_is = ap (λ (o : Option (ℕ × ℕ)). elim o [ None ↦ 0 | Some e ↦ e.1 ]) (find_map (λ e. e.0 == q.pid) (since_after s pid next) procs ∙ ap (option_map (since_after s pid next)) (entry_there (λ x. x.pid) procs q rise there))

  -- the process itself, and a child that the step made: the next barrier is the first that covers its steps
  pub own_since : q.pid ≡ pid → since_of (stepped s pid next procs) q.pid ≡ s.last + 1
  own_since same = since_is ∙ covered (q.pid == pid) (equal q.pid pid same)
    where
      covered : (b : Bool) → b ≡ true → (if b || (q.pid == next) then s.last + 1 else since_of s q.pid) ≡ s.last + 1
      covered b e = rw e refl

  pub child_since : q.pid ≡ next → since_of (stepped s pid next procs) q.pid ≡ s.last + 1
  child_since same = since_is ∙ covered ((q.pid == pid) || (q.pid == next)) (or_right (q.pid == pid) (q.pid == next) (equal q.pid next same))
    where
      covered : (b : Bool) → b ≡ true → (if b then s.last + 1 else since_of s q.pid) ≡ s.last + 1
      covered b e = rw e refl

  -- each other process keeps its own
  pub other_since : (q.pid ≡ pid → ⊥) → (q.pid ≡ next → ⊥) → since_of (stepped s pid next procs) q.pid ≡ since_of s q.pid
  other_since not_pid not_next = since_is ∙ kept (q.pid == pid) (q.pid == next) (ne_eqb q.pid pid not_pid) (ne_eqb q.pid next not_next)
    where
      kept : (a b : Bool) → a ≡ false → b ≡ false → (if a || b then s.last + 1 else since_of s q.pid) ≡ since_of s q.pid
      kept a b e e' = rw (e, e') refl

  -- so after a step fsync waits, until the next barrier is acknowledged
  pub not_durable : s.acked ≤ s.last → q.pid ≡ pid → is_durable (stepped s pid next procs) q.pid ≡ false
  unfolding is_durable stepped
  not_durable le same = ap (λ n. nat_le n s.acked) (own_since same) ∙ lt-leb (s.last + 1) s.acked (omega (arith, le))
