use Rattle.std.proofs.Common.{sym, ap, arith}
use Rattle.std.specs.Option.{option_map}
use Rattle.rv64_isa.specs.Numbers.{number_of}
use Rattle.group_defs.specs.Cells.{cells_of}
use Rattle.flat_kernel.specs.Memory.{memory_in}
use Rattle.flat_kernel.proofs.MemoryReads.{none_first}
use Rattle.flat_kernel.proofs.process_memory.ProcessMemory.word_at.Goals as goal

pub returns-in-None : goal.returns-in-None
returns-in-None c =
    sym (ap (option_map number_of) (none_first 4 (cells_of (memory_in c.args.self.now.objects.items) c.args.self.now.maps) c.args.pc 4 (omega arith) (omega arith) c.in-None.ensures.none))
