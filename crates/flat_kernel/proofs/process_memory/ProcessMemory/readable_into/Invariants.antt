use Rattle.group_defs.specs.Cells.{cells_of}
use Rattle.flat_kernel.specs.Memory.{memory_in}
use Rattle.flat_kernel.proofs.MemoryAppends.{IsReadTo}
use Rattle.flat_kernel.proofs.process_memory.ProcessMemory.readable_into.Given as goal

abbrev pub invariant-loop-left : goal.invariant-loop-left
invariant-loop-left l = IsReadTo (cells_of (memory_in l.self.objects.items) l.self.maps) l.address l.n l.fn.out l.out l.at l.left

abbrev pub decreases-loop-left : goal.decreases-loop-left
decreases-loop-left l = l.left
