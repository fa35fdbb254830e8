-- The description that a descriptor is at, in the table with owner counts.
use Rattle.std.proofs.Common.{◌≡◌, ℕ, ◌==◌, Bool, true, false, List, [], ◌∷◌, Option, Some, None, refl}
use Rattle.std.specs.Prelude.{if◌then◌else◌, find}
use Rattle.std.specs.Option.{option_map}
use Rattle.descriptors.specs.Descriptors.{number_at}
use Rattle.descriptors.specs.Opens.{description_of, descriptions}
use Rattle.descriptors.specs.declared.counted.Counted.{Counted}
use Rattle.descriptors.specs.declared.opens.Open.{Open}
use Rattle.group_defs.specs.Changes.{open_at}
use Rattle.tables.specs.Rising.{entry_of}

pub found_description : (opens : List Counted) (n : ℕ) → entry_of (λ (o : Open). o.number) (descriptions opens) n ≡ description_of opens n
found_description [] n = refl
found_description (c ∷ cs) n = by_test (c.description.number == n) (found_description cs n)
  where
    by_test : (t : Bool) → entry_of (λ (o : Open). o.number) (descriptions cs) n ≡ description_of cs n
        → (if t then Some c.description else entry_of (λ (o : Open). o.number) (descriptions cs) n) ≡ option_map (λ (x : Counted). x.description) (if t then Some c else find (λ (x : Counted). x.description.number == n) cs)
    by_test true rest = refl
    by_test false rest = rest

pub open_is : (fds : List (ℕ × ℕ)) (opens : List Counted) (fd : ℕ) (number : Option ℕ) → number_at fds fd ≡ number → open_at fds (descriptions opens) fd ≡ elim number [ None ↦ None | Some n ↦ description_of opens n ]
open_is fds opens fd None is = rw (is, open_at) refl
open_is fds opens fd (Some n) is = rw (is, open_at) (found_description opens n)
