use Rattle.std.proofs.Common.{take}
use Rattle.page_flusher.specs.Taking.{Carry}
use Rattle.page_flusher.proofs.plan.meta_blocks.Given as goal

abbrev pub invariant-loop-i : goal.invariant-loop-i
invariant-loop-i l = Carry (take l.i l.numbers) (take l.i l.metas) l.blocks.items
