use Rattle.std.proofs.Common.{arith}
use Rattle.group_defs.specs.Valid.{OutValid}
use Rattle.syscalls_io.proofs.output.room_of.Goals as goal

pub overflow_sub-result : goal.overflow_sub-result
unfolding OutValid
overflow_sub-result c = let valid = c.requires in omega (arith, valid.1, c.last_of.ensures)

pub overflow_sub-result-2 : goal.overflow_sub-result-2
unfolding OutValid
overflow_sub-result-2 c = let valid = c.requires in omega (arith, valid.4, c.last_of.ensures)

pub returns : goal.returns
unfolding OutValid
returns c = let valid = c.requires in omega (arith, valid.1, valid.4, c.last_of.ensures)
