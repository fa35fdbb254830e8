use Rattle.group_kernel.proofs.PreparedFaces.{PreparesUpTo}
use Rattle.group_kernel.specs.Held.{seen}
use Rattle.group_kernel.proofs.group_tables.GroupTables.prepare_faces.Given as goal

abbrev pub invariant-loop-place : goal.invariant-loop-place
invariant-loop-place l = PreparesUpTo (seen l.initial.self) (seen l.self) l.place
