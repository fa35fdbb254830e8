use Rattle.flat_kernel.specs.Memory.{ArePlaces, memory_in}
use Rattle.std.proofs.Common.{take}
use Rattle.flat_kernel.proofs.process_memory.places_of.Given as goal

abbrev pub invariant-loop-map : goal.invariant-loop-map
invariant-loop-map l = ArePlaces (memory_in l.objects) (take l.map-index l.maps) l.places.items
