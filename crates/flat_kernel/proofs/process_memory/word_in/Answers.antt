use Rattle.std.proofs.Common.{◌∙◌}
use Rattle.flat_kernel.proofs.MemoryNumbers.{four}
use Rattle.flat_kernel.proofs.process_memory.word_in.Goals as goal

pub returns : goal.returns
returns c = c.from_le_bytes.ensures ∙ four c.args.bytes.now c.requires
