-- The trace of a run on one thread: of the legal ones, the one whose order is fixed.
use Rattle.std.specs.Prelude.{◌≡◌, ℕ, List, ◌++◌}
use Rattle.group_defs.specs.Group.{Group}
use Rattle.run_defs.specs.Ends.{HasEnded}
use Rattle.run_defs.specs.Legal.{Allowed, BarrierAllowed, IsAtRest}
use Rattle.run_defs.specs.Progress.{EachMark, Progress, progress_after, progress_at}
use Rattle.run_defs.specs.declared.run.Limits.{Limits}
use Rattle.run_defs.specs.declared.run.Mark.{Mark}
use Rattle.run_defs.specs.declared.run.Mark.TheVariants.{Take, Turn, Barrier, Fetch, Ack}

-- Worker 0 takes a process where no lease is out, each Barrier has its Ack, no Barrier is allowed, and the run hasn't ended.
-- So each Take is followed by its Turn, and each Barrier by its Fetch and its Ack: no other mark is allowed there.
pub record TakeInSoloOrder (limits : Limits) (r : Progress) (worker : ℕ) : Type 0 where
  pub worker_is : worker ≡ 0
  pub rests : IsAtRest r
  pub no_barrier : (epoch : ℕ) → BarrierAllowed limits r epoch → ⊥
  pub goes_on : HasEnded limits r → ⊥

abbrev pub IsInSoloOrder : Limits → Progress → Mark → Type 0
IsInSoloOrder limits r (Take worker pid) = TakeInSoloOrder limits r worker
IsInSoloOrder limits r (Turn worker pid n) = Unit {0}
IsInSoloOrder limits r (Barrier epoch) = Unit {0}
IsInSoloOrder limits r (Fetch epoch) = Unit {0}
IsInSoloOrder limits r (Ack epoch) = Unit {0}

abbrev pub IsSoloMark : Limits → Progress → Mark → Type 0
IsSoloMark limits r m = Allowed limits r m × IsInSoloOrder limits r m

-- what a run on one thread has logged so far
abbrev pub IsSoloSoFar : Group → ℕ → Limits → List Mark → Type 0
IsSoloSoFar start origin_epoch limits marks = EachMark (IsSoloMark limits) limits.quantum (progress_at origin_epoch start) marks

-- all of it, which ends at the first settled end
pub record IsSoloTrace (start : Group) (origin_epoch : ℕ) (limits : Limits) (marks : List Mark) : Type 0 where
  pub so_far : IsSoloSoFar start origin_epoch limits marks
  pub ended : HasEnded limits (progress_after limits.quantum (progress_at origin_epoch start) marks)

-- the beginning of such a trace
abbrev pub IsSoloPrefix : Group → ℕ → Limits → List Mark → Type 0
IsSoloPrefix start origin_epoch limits marks = (more : List Mark) × IsSoloTrace start origin_epoch limits (marks ++ more)
