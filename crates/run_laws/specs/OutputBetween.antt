-- What parts the output of a run has.
use Rattle.std.specs.Prelude.{◌≡◌, ◌≤◌, ◌+◌, ◌-◌, ℕ, List, [], ◌++◌, length, take, drop}
use Rattle.group_defs.specs.Group.{Group}
use Rattle.group_defs.specs.Output.{last_position}
use Rattle.group_defs.specs.Standing.{barrier}
use Rattle.run_defs.specs.Progress.{Progress, output_between, progress_after, progress_at}
use Rattle.run_defs.specs.declared.run.Limits.{Limits}
use Rattle.run_defs.specs.declared.run.Mark.{Mark}
use Rattle.run_laws.specs.Rests.{IsTraceAtRest}

-- The output between two positions: it stays, and parts of it join.
pub record OutputHasParts (start : Group) (limits : Limits) : Type 0 where
  pub none : (r : Progress) (at : ℕ) → output_between start r at at ≡ []
  pub size : (r : Progress) (from to : ℕ) → start.frame.out.from ≤ from → to ≤ start.frame.out.from + length r.output
      → length (output_between start r from to) ≡ to - from
  pub stays : (r : Progress) (more : List Mark) (from to : ℕ) → to ≤ start.frame.out.from + length r.output
      → output_between start (progress_after limits.quantum r more) from to ≡ output_between start r from to
  pub longer : (r : Progress) (more : List Mark) → length r.output ≤ length (progress_after limits.quantum r more).output
  pub joins : (r : Progress) (from mid to m : ℕ) → start.frame.out.from ≤ from → from ≤ mid → mid + m ≤ to
      → output_between start r from mid ++ take m (output_between start r mid to) ≡ output_between start r from (mid + m)
  pub begun : (origin_epoch : ℕ) (marks : List Mark) (from : ℕ) → output_between start (progress_after limits.quantum (progress_at origin_epoch start) marks) from (last_position start.frame.out)
      ≡ drop (from - start.frame.out.from) start.frame.out.bytes

-- What a barrier at rest leaves in the group is the output from the mark before it up to the last position.
pub record BarriersLetOut (start : Group) (origin_epoch : ℕ) (limits : Limits) : Type 0 where
  pub reaches : (marks : List Mark) (r : Progress) → IsTraceAtRest start origin_epoch limits marks r
      → last_position r.state.group.frame.out ≡ start.frame.out.from + length r.output
  pub stays : (marks : List Mark) (r : Progress) (epoch : ℕ) → IsTraceAtRest start origin_epoch limits marks r
      → last_position (barrier r.state epoch).group.frame.out ≡ last_position r.state.group.frame.out
  pub lets_out : (marks more : List Mark) (r : Progress) (epoch : ℕ) → IsTraceAtRest start origin_epoch limits marks r
      → output_between start (progress_after limits.quantum r more) r.state.group.frame.out.mark (last_position r.state.group.frame.out)
      ≡ (barrier r.state epoch).group.frame.out.bytes
