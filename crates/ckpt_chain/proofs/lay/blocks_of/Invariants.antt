use Rattle.std.proofs.Common.{◌≡◌, ◌++◌, drop}
use Rattle.ckpt_chain.specs.Chain.{laid}
use Rattle.ckpt_chain.proofs.lay.blocks_of.Given as goal

abbrev pub invariant-loop-i : goal.invariant-loop-i
invariant-loop-i l = l.list.items ++ laid l.rest (drop l.i l.blocks) ≡ laid l.bytes l.blocks
