-- How a run ends.
use Rattle.std.specs.Prelude.{◌≡◌, ◌⊎◌, false, [], IsTrue}
use Rattle.std.specs.List.{list_any}
use Rattle.group_defs.specs.Group.{Group, is_running}
use Rattle.group_defs.specs.Output.{last_position}
use Rattle.group_defs.specs.Standing.{State}
use Rattle.run_defs.specs.Legal.{IsAtRest, ready}
use Rattle.run_defs.specs.Progress.{Progress}
use Rattle.run_defs.specs.declared.run.Limits.{Limits}

-- no process is running
abbrev pub IsDone : Group → Type 0
IsDone g = list_any is_running g.frame.procs ≡ false

-- a process is running, each running one waits, and nothing was written to the outside since the last barrier
pub record IsStuck (s : State) : Type 0 where
  pub runs : IsTrue (list_any is_running s.group.frame.procs)
  pub all_wait : ready s ≡ []
  pub nothing_new : s.group.frame.out.mark ≡ last_position s.group.frame.out

-- all turns are made, and the group is neither done nor stuck
pub record IsSpent (limits : Limits) (r : Progress) : Type 0 where
  pub turns : r.turns ≡ limits.turns
  pub not_done : IsDone r.state.group → ⊥
  pub not_stuck : IsStuck r.state → ⊥

-- no lease is out, each Barrier has its Ack, and no Turn follows the last Barrier
pub record IsSettled (r : Progress) : Type 0 where
  pub rests : IsAtRest r
  pub no_turn : r.turns_since ≡ 0

-- the run is settled, and its state is at an end
abbrev pub HasEnded : Limits → Progress → Type 0
HasEnded limits r = IsSettled r × (IsDone r.state.group ⊎ (IsStuck r.state ⊎ IsSpent limits r))
