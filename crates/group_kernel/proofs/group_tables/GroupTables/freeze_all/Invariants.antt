use Rattle.group_kernel.proofs.FrozenFaces.{FreezesUpTo}
use Rattle.group_kernel.specs.Held.{seen}
use Rattle.group_kernel.proofs.group_tables.GroupTables.freeze_all.Given as goal

abbrev pub invariant-loop-place : goal.invariant-loop-place
invariant-loop-place l = FreezesUpTo (seen l.initial.self) (seen l.self) l.place l.frozen
