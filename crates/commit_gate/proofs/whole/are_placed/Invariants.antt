use Rattle.std.proofs.Common.{take}
use Rattle.std.specs.List.{AllByRecursion}
use Rattle.commit_gate.specs.Whole.{IsDataBlock}
use Rattle.commit_gate.proofs.whole.are_placed.Given as goal

abbrev pub invariant-loop-block : goal.invariant-loop-block
invariant-loop-block l = AllByRecursion (IsDataBlock l.count) (take l.block-index l.blocks)
