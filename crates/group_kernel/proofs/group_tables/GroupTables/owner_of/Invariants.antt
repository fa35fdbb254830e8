use Rattle.std.proofs.Common.{◌≡◌, None, take}
use Rattle.group_kernel.specs.FirstFaces.{private_face}
use Rattle.group_kernel.proofs.group_tables.GroupTables.owner_of.Given as goal

abbrev pub invariant-loop-place : goal.invariant-loop-place
invariant-loop-place l = private_face (take l.place l.self.rows.items) l.number ≡ None
