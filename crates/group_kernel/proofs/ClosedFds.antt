-- Descriptors that are closed one after another, from 0 up.
use Rattle.std.proofs.Common.{◌≡◌, ℕ, ◌+◌, ◌≤◌, ◌<◌, ◌==◌, Bool, true, false, not, List, [], ◌∷◌, Some, None, refl, sym, ap, ◌∙◌, arith, subst}
use Rattle.std.proofs.lemmas.Bool.Decides.{nat_tests}
use Rattle.std.proofs.lemmas.List.Elements.{All-cons, All-head, All-nil, All-tail}
use Rattle.std.specs.Prelude.{All, if◌then◌else◌, Result, Ok, Err, OnOk, OnErr, IsErr, ◌↔◌}
use Rattle.descriptors.specs.Descriptors.{AreSmall, number_at, released_at, without_fd}
use Rattle.descriptors.specs.Owners.{OwnersAre}
use Rattle.descriptors.specs.declared.counted.Counted.{Counted}
use Rattle.tables.specs.Rows.{Rows}
use Rattle.group_kernel.specs.Ending.{LeavesOwned}
use Rattle.group_kernel.proofs.OwnedLeft.{close_leaves, more_leave}

-- each is this one or above
abbrev pub AllFrom : ℕ → List (ℕ × ℕ) → Type 0
AllFrom fd fds = All (λ d. fd ≤ d.0) fds

without_from : (fds : List (ℕ × ℕ)) (fd : ℕ) → AllFrom fd fds → AllFrom (fd + 1) (without_fd fds fd)
without_from [] fd all = All-nil (λ (d : ℕ × ℕ). fd + 1 ≤ d.0)
without_from (d ∷ ds) fd all = by_test (d.0 == fd) refl (without_from ds fd (All-tail (λ (x : ℕ × ℕ). fd ≤ x.0) d ds all))
  where
    by_test : (b : Bool) → (d.0 == fd) ≡ b → AllFrom (fd + 1) (without_fd ds fd) → AllFrom (fd + 1) (if not b then d ∷ without_fd ds fd else without_fd ds fd)
    by_test true e ih = ih
    by_test false e ih =
        let from : fd ≤ d.0 = All-head (λ (x : ℕ × ℕ). fd ≤ x.0) d ds all in
        All-cons (λ (x : ℕ × ℕ). fd + 1 ≤ x.0) d (without_fd ds fd) (grind (arith, nat_tests, from, e)) ih

absent_from : (fds : List (ℕ × ℕ)) (fd : ℕ) → AllFrom fd fds → number_at fds fd ≡ None → AllFrom (fd + 1) fds
absent_from [] fd all none = All-nil (λ (d : ℕ × ℕ). fd + 1 ≤ d.0)
absent_from (d ∷ ds) fd all none = by_test (d.0 == fd) refl none (absent_from ds fd (All-tail (λ (x : ℕ × ℕ). fd ≤ x.0) d ds all))
  where
    by_test : (b : Bool) → (d.0 == fd) ≡ b → number_at (d ∷ ds) fd ≡ None → (number_at ds fd ≡ None → AllFrom (fd + 1) ds) → AllFrom (fd + 1) (d ∷ ds)
    by_test true e none ih = absurd (let there : number_at (d ∷ ds) fd ≡ Some d.1 = rw e refl in let both = sym there ∙ none in cc)
    by_test false e none ih =
        let from : fd ≤ d.0 = All-head (λ (x : ℕ × ℕ). fd ≤ x.0) d ds all in
        All-cons (λ (x : ℕ × ℕ). fd + 1 ≤ x.0) d ds (grind (arith, nat_tests, from, e)) (ih (rw e at none))

pub close_from : {A B : Type 0} (result : Result A B) (old new : List (ℕ × ℕ)) (fd : ℕ) (other : Type 0) → IsErr result ↔ (number_at old fd ≡ None) → OnOk result (new ≡ without_fd old fd) → OnErr result ((new ≡ old) × other)
    → AllFrom fd old → AllFrom (fd + 1) new
close_from (Ok a) old new fd other bad ok err all = subst (AllFrom (fd + 1)) (sym ok) (without_from old fd all)
close_from (Err e) old new fd other bad ok err all = subst (AllFrom (fd + 1)) (sym err.0) (absent_from old fd all (bad.0 refl))

pub none_from : (fds : List (ℕ × ℕ)) (fd : ℕ) → 64 ≤ fd → AllFrom fd fds → AreSmall fds → fds ≡ []
unfolding AreSmall
none_from [] fd most from small = refl
none_from (d ∷ ds) fd most from small = absurd (omega (arith, most, All-head (λ (x : ℕ × ℕ). fd ≤ x.0) d ds from, All-head (λ (x : ℕ × ℕ). x.0 < 64) d ds small))

pub same_opens : {A B : Type 0} (result : Result A B) (P : Type 0) (old new : Rows Counted) → OnErr result (P × (new ≡ old)) → OnErr result (P × (new.entries ≡ old.entries))
same_opens (Ok a) P old new err = tt
same_opens (Err e) P old new err = (err.0, ap (λ (r : Rows Counted). r.entries) err.1)

pub closed_leave : {A B : Type 0} (result : Result A B) (fds : List (ℕ × ℕ)) (fd : ℕ) (first old new : List Counted) (other : Type 0) → OnOk result (new ≡ released_at fds fd old) → OnErr result (other × (new ≡ old)) → LeavesOwned first old → LeavesOwned first new
closed_leave (Ok a) fds fd first old new other ok err leaves = subst (LeavesOwned first) (sym ok) (more_leave first old (released_at fds fd old) leaves (close_leaves fds fd old))
closed_leave (Err e) fds fd first old new other ok err leaves = subst (LeavesOwned first) (sym err.1) leaves

pub closed_owners : {A B : Type 0} (result : Result A B) (fds fds' : List (ℕ × ℕ)) (old new : List Counted) → OnOk result ((others : List (List (ℕ × ℕ))) → (holds : List ℕ) → OwnersAre (fds ∷ others) holds old → OwnersAre (fds' ∷ others) holds new)
    → OnErr result ((fds' ≡ fds) × (new ≡ old)) → (others : List (List (ℕ × ℕ))) → OwnersAre (fds ∷ others) [] old → OwnersAre (fds' ∷ others) [] new
closed_owners (Ok a) fds fds' old new ok err others are = ok others [] are
closed_owners (Err e) fds fds' old new ok err others are = subst (λ (l : List Counted). OwnersAre (fds' ∷ others) [] l) (sym err.1) (subst (λ (l : List (ℕ × ℕ)). OwnersAre (l ∷ others) [] old) (sym err.0) are)
