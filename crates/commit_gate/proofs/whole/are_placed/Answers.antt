use Rattle.std.proofs.Common.{List, refl, subst}
use Rattle.std.proofs.lemmas.List.{take_all}
use Rattle.std.specs.List.{AllByRecursion}
use Rattle.commit_gate.specs.Whole.{IsDataBlock}
use Rattle.commit_gate.specs.declared.whole.Block.{Block}
use Rattle.commit_gate.proofs.Phases.{placed_more}
use Rattle.commit_gate.proofs.whole.are_placed.Goals as goal

pub returns : goal.returns
returns c = (
  λ yes. subst (λ (l : List Block). AllByRecursion (IsDataBlock c.args.count) l) (take_all c.loop-block.block-index c.args.blocks.now c.loop-block-test.false) c.loop-block.invariant,
  λ all. refl,
)

pub loop-block-preserved : goal.loop-block-preserved
loop-block-preserved c = placed_more c.args.count c.args.blocks.now c.loop-block.block-index c.block-item.result c.loop-block-test.true c.block-item.is (c.is_placed.ensures.0 c.if-not-is_placed.false) c.loop-block.invariant
