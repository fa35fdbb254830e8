-- Marks by whose they are, and marks that are allowed where they stand.
use Rattle.std.specs.Prelude.{ℕ, ◌==◌, Bool, false, List}
use Rattle.group_defs.specs.Valid.{GroupIsValid}
use Rattle.run_defs.specs.Legal.{Allowed}
use Rattle.run_defs.specs.Progress.{EachMark, Progress}
use Rattle.run_defs.specs.declared.run.Limits.{Limits}
use Rattle.run_defs.specs.declared.run.Mark.{Mark}
use Rattle.run_defs.specs.declared.run.Mark.TheVariants.{Turn}

-- a Turn of this process
abbrev pub is_turn_of : ℕ → Mark → Bool
is_turn_of p (Turn worker pid n) = pid == p
is_turn_of p m = false

-- a Turn of this worker
abbrev pub is_turn_by : ℕ → Mark → Bool
is_turn_by w (Turn worker pid n) = worker == w
is_turn_by w m = false

-- Each of these marks is allowed where it stands, and the group is valid there. So are further marks of a legal run.
abbrev pub AllowedInValid : Limits → Progress → Mark → Type 0
AllowedInValid limits r m = GroupIsValid r.state.group × Allowed limits r m

abbrev pub AreAllowed : Limits → Progress → List Mark → Type 0
AreAllowed limits r marks = EachMark (AllowedInValid limits) limits.quantum r marks
