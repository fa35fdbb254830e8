use Rattle.std.proofs.Common.{arith}
use Rattle.group_defs.specs.Valid.{OutValid}
use Rattle.syscalls_io.proofs.output.last_of.Goals as goal

pub overflow_add-result : goal.overflow_add-result
unfolding OutValid
overflow_add-result c = let valid = c.requires in omega (arith, valid.2, c.len.ensures)
