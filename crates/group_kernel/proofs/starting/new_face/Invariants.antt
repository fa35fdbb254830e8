use Rattle.std.proofs.Common.{take}
use Rattle.group_kernel.proofs.NewFaces.{IsFaceUpTo}
use Rattle.group_kernel.proofs.starting.new_face.Given as goal

abbrev pub invariant-loop-page : goal.invariant-loop-page
invariant-loop-page l = IsFaceUpTo l.pages (take l.page-index l.layer) l.face
