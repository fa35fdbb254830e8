use Rattle.std.proofs.Common.{ap, arith, length}
use Rattle.group_kernel.proofs.starting.file_faces_of.Goals as goal

pub loop-file-preserved : goal.loop-file-preserved
loop-file-preserved c = absurd (omega (arith, c.loop-file-test.true, ap length c.requires))
