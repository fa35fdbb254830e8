-- Which groups the epochs of a run have.
use Rattle.std.specs.Prelude.{◌≡◌, ◌+◌, ℕ, false, List, Some}
use Rattle.std.specs.List.{list_any}
use Rattle.group_defs.specs.Group.{Group}
use Rattle.group_defs.specs.Standing.{barrier}
use Rattle.run_defs.specs.Marks.{is_barrier}
use Rattle.run_defs.specs.Progress.{Progress, after_barrier, checkpoint, checkpoint_of, group_of_epoch, progress_after, progress_at}
use Rattle.run_defs.specs.declared.run.Limits.{Limits}
use Rattle.run_defs.specs.declared.run.Mark.{Mark}
use Rattle.run_laws.specs.Rests.{IsTraceAtRest}

-- The group of an epoch stays it; the next epoch's is the group at rest with its barrier. Other marks make no checkpoint.
pub record EpochsHaveGroups (start : Group) (origin_epoch : ℕ) (limits : Limits) : Type 0 where
  pub first : (marks : List Mark) → group_of_epoch (progress_after limits.quantum (progress_at origin_epoch start) marks) origin_epoch ≡ Some start
  pub later : (r : Progress) (more : List Mark) (epoch : ℕ) (h : Group) → group_of_epoch r epoch ≡ Some h → group_of_epoch (progress_after limits.quantum r more) epoch ≡ Some h
  pub other : (r : Progress) (more : List Mark) → list_any is_barrier more ≡ false → (progress_after limits.quantum r more).checkpoints ≡ r.checkpoints
  pub made : (marks : List Mark) (r : Progress) (epoch : ℕ) → IsTraceAtRest start origin_epoch limits marks r
      → epoch ≡ r.state.standing.last + 1 → checkpoint_of (after_barrier r epoch) epoch ≡ Some (checkpoint r epoch)
