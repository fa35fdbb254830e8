use Rattle.group_defs.specs.Valid.{OutValid}
use Rattle.flat_kernel.proofs.EngineLaws.{output_valid}
use Rattle.flat_kernel.proofs.freezing.output_lies.Goals as goal

pub returns : goal.returns
unfolding OutValid
returns c = let v = output_valid c.args._g.now c.requires in record { from = v.0; mark = v.1; last = v.2 }
