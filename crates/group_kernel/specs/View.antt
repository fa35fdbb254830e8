-- What callers see of a kernel: its start and its log, of which all else is a function.
use Rattle.std.specs.Prelude.{◌≡◌, ℕ, Bool, false, List, [], ◌∷◌, ◌++◌}
use Rattle.ckpt_records.specs.declared.origin.Parts.{Parts}
use Rattle.group_defs.specs.Group.{Group}
use Rattle.run_defs.specs.Progress.{Progress, progress_after, progress_at}
use Rattle.run_defs.specs.declared.run.Limits.{Limits}
use Rattle.run_defs.specs.declared.run.Mark.{Mark}

-- The group of the origin and its epoch, the limits, the log, whether the run was stopped, and whether the next barrier is prepared.
pub record KernelView : Type 0 where
  pub start : Group
  pub origin_epoch : ℕ
  pub limits : Limits
  pub marks : List Mark
  pub stopped : Bool
  pub prepared : Bool

-- with nothing logged
abbrev pub begun : Group → ℕ → Limits → KernelView
begun start origin_epoch limits = record { start = start; origin_epoch = origin_epoch; limits = limits; marks = []; stopped = false; prepared = false }

-- what stands after the log: the group and its standing, the leases that are out, the turns, the pages touched, the checkpoints
abbrev pub progress_of : KernelView → Progress
progress_of v = progress_after v.limits.quantum (progress_at v.origin_epoch v.start) v.marks

-- with one more mark, which keeps a preparation or takes it away
abbrev pub logged : KernelView → Mark → Bool → KernelView
logged v m prepared = record v { marks = v.marks ++ m ∷ []; prepared = prepared }

-- with further marks
abbrev pub after_marks : KernelView → List Mark → KernelView
after_marks v marks = record v { marks = v.marks ++ marks }

-- All stays, but for a preparation.
abbrev pub StaysAsItWas : KernelView → KernelView → Type 0
StaysAsItWas v v' = v' ≡ record v { prepared = v'.prepared }
