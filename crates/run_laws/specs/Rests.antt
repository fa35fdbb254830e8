-- A run on one thread at rest, between two of its turns and commits.
use Rattle.std.specs.Prelude.{◌≡◌, ◌<◌, ◌+◌, ℕ, List, [], ◌∷◌, ◌++◌, take, Some}
use Rattle.group_defs.specs.Group.{Group}
use Rattle.group_defs.specs.Standing.{barrier}
use Rattle.run_defs.specs.Legal.{IsAtRest, HasBarrierCause, next_pid, ready}
use Rattle.run_defs.specs.Progress.{Progress, progress_after, progress_at}
use Rattle.run_defs.specs.Solo.{IsSoloSoFar}
use Rattle.run_defs.specs.Turns.{IsTurn}
use Rattle.run_defs.specs.declared.run.Limits.{Limits}
use Rattle.run_defs.specs.declared.run.Mark.{Mark}
use Rattle.run_defs.specs.declared.run.Mark.TheVariants.{Take, Turn, Barrier, Fetch, Ack}

-- The trace of a run that is at rest, and what stands after it.
pub record IsTraceAtRest (start : Group) (origin_epoch : ℕ) (limits : Limits) (marks : List Mark) (r : Progress) : Type 0 where
  pub so_far : IsSoloSoFar start origin_epoch limits marks
  pub stands : progress_after limits.quantum (progress_at origin_epoch start) marks ≡ r
  pub rests : IsAtRest r

-- this process's turn is next: no barrier is due, and turns are left
pub record IsNextTurn (limits : Limits) (r : Progress) (pid : ℕ) : Type 0 where
  pub next : next_pid r.taken (ready r.state) ≡ Some pid
  pub interval : r.turns_since < limits.every
  pub turns : r.turns < limits.turns

-- a turn behind marks; a barrier with its fetch, and with its acknowledgement too
abbrev pub with_turn : List Mark → ℕ → ℕ → List Mark
with_turn marks pid n = (marks ++ Take 0 pid ∷ []) ++ Turn 0 pid n ∷ []

abbrev pub with_fetched : List Mark → ℕ → List Mark
with_fetched marks epoch = (marks ++ Barrier epoch ∷ []) ++ Fetch epoch ∷ []

abbrev pub with_ack : List Mark → ℕ → List Mark
with_ack marks epoch = with_fetched marks epoch ++ Ack epoch ∷ []

-- A run begins at rest, and comes from one rest to the next by a turn or by a commit.
pub record RestsFollow (start : Group) (origin_epoch : ℕ) (limits : Limits) : Type 0 where
  pub begin : IsTraceAtRest start origin_epoch limits [] (progress_at origin_epoch start)
  pub take : (marks : List Mark) (r : Progress) (pid : ℕ) → IsTraceAtRest start origin_epoch limits marks r
      → IsNextTurn limits r pid → IsSoloSoFar start origin_epoch limits (marks ++ Take 0 pid ∷ [])
  pub turn : (marks : List Mark) (r : Progress) (pid n : ℕ) → IsTraceAtRest start origin_epoch limits marks r
      → IsNextTurn limits r pid → IsTurn limits.quantum r.state pid n
      → IsTraceAtRest start origin_epoch limits (with_turn marks pid n) (progress_after limits.quantum r (Take 0 pid ∷ Turn 0 pid n ∷ []))
  pub fetch : (marks : List Mark) (r : Progress) (epoch : ℕ) → IsTraceAtRest start origin_epoch limits marks r
      → HasBarrierCause limits r → epoch ≡ r.state.standing.last + 1 → IsSoloSoFar start origin_epoch limits (with_fetched marks epoch)
  pub commit : (marks : List Mark) (r : Progress) (epoch : ℕ) → IsTraceAtRest start origin_epoch limits marks r
      → HasBarrierCause limits r → epoch ≡ r.state.standing.last + 1
      → IsTraceAtRest start origin_epoch limits (with_ack marks epoch) (progress_after limits.quantum r (Barrier epoch ∷ Fetch epoch ∷ Ack epoch ∷ []))
