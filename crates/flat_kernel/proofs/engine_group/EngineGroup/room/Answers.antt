use Rattle.std.proofs.Common.{arith}
use Rattle.group_defs.specs.Valid.{OutValid}
use Rattle.flat_kernel.proofs.EngineLaws.{output_valid}
use Rattle.flat_kernel.proofs.engine_group.EngineGroup.room.Goals as goal

pub overflow_add-last : goal.overflow_add-last
unfolding OutValid
overflow_add-last c = let v = output_valid c.args.self.now c.requires in omega (arith, v.2, c.len.ensures)

pub overflow_sub-result : goal.overflow_sub-result
unfolding OutValid
overflow_sub-result c = let v = output_valid c.args.self.now c.requires in omega (arith, v.1, c.len.ensures)

pub overflow_sub-result-2 : goal.overflow_sub-result-2
unfolding OutValid
overflow_sub-result-2 c = let v = output_valid c.args.self.now c.requires in omega (arith, v.4, c.len.ensures)

pub returns : goal.returns
unfolding OutValid
returns c = let v = output_valid c.args.self.now c.requires in omega (arith, v.1, v.4, c.len.ensures)
