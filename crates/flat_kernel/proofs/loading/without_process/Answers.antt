use Rattle.std.proofs.Common.{ap}
use Rattle.flat_kernel.specs.Memory.{memory_in}
use Rattle.flat_kernel.proofs.PartsLaws.{nothing_fits}
use Rattle.flat_kernel.proofs.loading.without_process.Goals as goal

pub of-requires : goal.of-requires
of-requires c = nothing_fits (memory_in c.new-2.result.items) c.new.result (ap memory_in c.new-2.ensures.items) c.new.ensures
