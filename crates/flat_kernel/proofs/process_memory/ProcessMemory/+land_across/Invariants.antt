use Rattle.std.proofs.Common.{length}
use Rattle.flat_kernel.proofs.process_memory.ProcessMemory.+land_across.Given as goal

abbrev pub decreases-land_across : goal.decreases-land_across
decreases-land_across l = length l.new.now
