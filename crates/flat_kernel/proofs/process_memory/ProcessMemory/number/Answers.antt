use Rattle.std.proofs.Common.{sym, ◌∙◌, ap, arith}
use Rattle.std.specs.Option.{option_map}
use Rattle.rv64_isa.specs.Numbers.{number_of}
use Rattle.group_defs.specs.Cells.{cells_of}
use Rattle.flat_kernel.specs.Memory.{memory_in}
use Rattle.flat_kernel.proofs.MemoryReads.{none_first}
use Rattle.flat_kernel.proofs.process_memory.ProcessMemory.number.Goals as goal

pub returns-in_err-bytes-clause-value : goal.returns-in_err-bytes-clause-value
returns-in_err-bytes-clause-value c =
    c.from_residual.ensures ∙ sym (ap (option_map number_of) (none_first c.args.right (cells_of (memory_in c.args.self.now.objects.items) c.args.self.now.maps) c.args.address c.args.n (omega arith) c.requires.some c.in_err-bytes.ensures.none))
