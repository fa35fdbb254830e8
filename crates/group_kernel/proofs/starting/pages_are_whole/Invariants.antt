use Rattle.std.proofs.Common.{take}
use Rattle.group_kernel.specs.NewFaces.{AreWhole}
use Rattle.group_kernel.proofs.starting.pages_are_whole.Given as goal

abbrev pub invariant-loop-page : goal.invariant-loop-page
invariant-loop-page l = AreWhole (take l.page-index l.layer)
