use Rattle.flat_kernel.proofs.EngineLaws.{out_in}
use Rattle.flat_kernel.proofs.laws.output_is_the_groups.Goals as goal

pub returns : goal.returns
returns c = out_in
