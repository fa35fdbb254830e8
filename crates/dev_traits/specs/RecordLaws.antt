-- Laws of what the calls of a disk in memory leave.
use Rattle.std.specs.Prelude.{◌≡◌, ℕ, ◌*◌, ◌≤◌, List, [], ◌∷◌, ◌++◌, length, Some}
use Rattle.std.proofs.Common.{inl, inr, ⊎_elim, subst, arith}
use Rattle.std.specs.Option.{ForSome}
use Rattle.lists.specs.Bytes.{SameOutside, AreBytes}
use Rattle.dev_traits.specs.Record.{Event, HadLeft, LeftSince, settled_of, pending_of, ranges_of}

pub one_more_range : (x : ℕ × ℕ) (ranges : List (ℕ × ℕ)) (a b : List ℕ) → SameOutside ranges a b → SameOutside (x ∷ ranges) a b
one_more_range x ranges a b same = record { size = same.size; each = λ i out. same.each i out.1 }

pub more_ranges : (more ranges : List (ℕ × ℕ)) (a b : List ℕ) → SameOutside ranges a b → SameOutside (more ++ ranges) a b
more_ranges [] ranges a b same = same
more_ranges (x ∷ more) ranges a b same = one_more_range x (more ++ ranges) a b (more_ranges more ranges a b same)

module _ (blocks : ℕ) (start : List ℕ) where
  fewer_had : (events : List Event) (t u : ℕ) (image : List ℕ) → t ≤ u → HadLeft start events u image → HadLeft start events t image
  fewer_had [] t u image le had = had
  fewer_had (e ∷ older) t u image le had = (omega (arith, had.0, le), ⊎_elim (λ here. inl here) (λ before. inr (fewer_had older t u image le before)) had.1)

  pub fewer_since : (lost : List (ℕ × ℕ)) (events : List Event) (t u : ℕ) (image : List ℕ) → t ≤ u → LeftSince blocks start lost events u image → LeftSince blocks start lost events t image
  fewer_since lost events t u image le (whole, inl here) = (whole, inl here)
  fewer_since lost events t u image le (whole, inr had) = (whole, inr (fewer_had events t u image le had))

  -- the reading is one of the images
  pub reading_law : (bytes : List ℕ) (lost : List (ℕ × ℕ)) (events : List Event) → length bytes ≡ 4096 * blocks → AreBytes bytes → SameOutside (ranges_of (pending_of events)) (settled_of start events) bytes
      → ForSome (Some bytes) (λ r. LeftSince blocks start lost events (length events) r)
  reading_law bytes lost events sized fit same r is =
      let e : bytes ≡ r = cc in
      subst (λ (l : List ℕ). LeftSince blocks start lost events (length events) l) e ((sized, fit), inl (more_ranges lost (ranges_of (pending_of events)) (settled_of start events) bytes same))
