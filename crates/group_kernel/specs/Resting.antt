-- A state in which nothing goes on by itself.
use Rattle.std.specs.Prelude.{◌≡◌, []}
use Rattle.group_defs.specs.Output.{last_position}
use Rattle.group_defs.specs.Standing.{State}
use Rattle.run_defs.specs.Legal.{ready}

-- No process is ready, and nothing was written to the outside since the last barrier.
pub record HasNothingNew (s : State) : Type 0 where
  pub all_wait : ready s ≡ []
  pub nothing_new : s.group.frame.out.mark ≡ last_position s.group.frame.out
