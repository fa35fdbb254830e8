-- Which pages a turn touches: those that the next checkpoint writes, where they aren't all zero.
use Rattle.std.specs.Prelude.{ℕ, zero, suc, ◌==◌, if◌then◌else◌, List, []}
use Rattle.group_defs.specs.Group.{Group}
use Rattle.group_defs.specs.Pages.{nonzero_pages, touched_with_step}
use Rattle.group_defs.specs.Standing.{State, is_durable}
use Rattle.run_defs.specs.Turns.{steps_in, steps_of}

-- The pages touched so far in an interval, with the step that follows n steps of a turn.
abbrev pub touched_with : State → ℕ → ℕ → List (ℕ × ℕ) → List (ℕ × ℕ)
touched_with s pid n so_far = touched_with_step (is_durable (steps_of s pid n).standing pid) (steps_of s pid n).group pid so_far

-- with n steps, each of which reads what was touched before it
unfoldable pub touched_with_steps : State → ℕ → ℕ → List (ℕ × ℕ) → List (ℕ × ℕ)
touched_with_steps s pid zero so_far = so_far
touched_with_steps s pid (suc n) so_far = touched_with s pid n (touched_with_steps s pid n so_far)

-- with a turn of n local steps
abbrev pub touched_with_turn : ℕ → State → ℕ → ℕ → List (ℕ × ℕ) → List (ℕ × ℕ)
touched_with_turn quantum s pid n so_far = touched_with_steps s pid (steps_in quantum n) so_far

-- On a new disk, where the run's own epoch is 0, each page that isn't all zero at the start counts as stored to:
-- so at the first barrier each page that isn't all zero is touched.
abbrev pub touched_at_start : ℕ → Group → List (ℕ × ℕ)
touched_at_start origin_epoch g = if origin_epoch == 0 then nonzero_pages g else []
