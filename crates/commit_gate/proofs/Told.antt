-- The commits that a disk tells, over the calls of one step.
use Rattle.std.proofs.Common.{◌≡◌, inl, inr, [], ◌∷◌, Option, Some, None, Result, Ok, Err, refl, ap, ◌∙◌}
use Rattle.std.specs.Prelude.{OnOk, OnErr}
use Rattle.std.specs.Option.{option_map}
use Rattle.dev_traits.specs.Commits.{Commits, OpenCommit, with_write, wrote, unchanged}
use Rattle.dev_traits.specs.Disk.{DiskView, CommitsBy}
use Rattle.ckpt_chain.specs.Slot.{gate_place}
use Rattle.ckpt_chain.specs.declared.slot.Slot.{Slot}
use Rattle.ckpt_chain.specs.declared.slot.Slot.TheVariants.{A, B}

-- what holds at Ok and at Err holds
pub at_both : {T E : Type 0} (r : Result T E) (P Q R : Type 0) → OnOk r P → OnErr r Q → (P → R) → (Q → R) → R
at_both (Ok x) P Q R ok err one two = one ok
at_both (Err e) P Q R ok err one two = two err

-- byte 0 in a gate is no part of a commit
open_stays : (target : Slot) (o : Option OpenCommit) → option_map (with_write (gate_place target) (0 ∷ [])) o ≡ o
unfolding with_write
open_stays A None = refl
open_stays A (Some o) = refl
open_stays B None = refl
open_stays B (Some o) = refl

closing_is_none : (target : Slot) (c : Commits) → wrote (gate_place target) (0 ∷ []) c ≡ c
closing_is_none target c = ap (λ (o : Option OpenCommit). record { ended = c.ended; now = o }) (open_stays target c.now)

pub closing_changes_nothing : (target : Slot) (v w : DiskView) → CommitsBy (wrote (gate_place target) (0 ∷ [])) v w → CommitsBy unchanged v w
closing_changes_nothing target v w (inl e) = inl (e ∙ closing_is_none target v.commits)
closing_changes_nothing target v w (inr e) = inr e
