use Rattle.std.proofs.Common.{◌≤◌, List, ℕ, length, arith, ap}
use Rattle.group_defs.specs.Output.{last_position}
use Rattle.group_defs.specs.Valid.{OutValid}
use Rattle.group_kernel.proofs.frames.marked_copy.Goals as goal

pub overflow_sub-dropped : goal.overflow_sub-dropped
unfolding OutValid
overflow_sub-dropped c = c.requires.0

pub copy_behind-requires : goal.copy_behind-requires
unfolding OutValid
copy_behind-requires c = omega (arith, c.requires.0, c.requires.1, ap (λ (l : List ℕ). length l) c.as_slice.ensures)
