use Rattle.std.proofs.Common.{◌≡◌, is_some}
use Rattle.rv64_isa.specs.Memory.{readable}
use Rattle.group_defs.specs.Cells.{cells_of}
use Rattle.flat_kernel.specs.Memory.{memory_in}
use Rattle.flat_kernel.proofs.process_memory.ProcessMemory.can_read.Given as goal

abbrev pub invariant-loop-left : goal.invariant-loop-left
invariant-loop-left l = is_some (readable (cells_of (memory_in l.self.objects.items) l.self.maps) l.address l.n) ≡ is_some (readable (cells_of (memory_in l.self.objects.items) l.self.maps) l.at l.left)

abbrev pub decreases-loop-left : goal.decreases-loop-left
decreases-loop-left l = l.left
