use Rattle.group_kernel.proofs.FirstTables.{AreFacesUpTo}
use Rattle.group_kernel.proofs.starting.all_faces.Given as goal

abbrev pub invariant-loop-numbered : goal.invariant-loop-numbered
invariant-loop-numbered l = AreFacesUpTo l.epoch l.objects l.fn.layers l.numbered-iterator.rest.items l.place l.faces.entries
