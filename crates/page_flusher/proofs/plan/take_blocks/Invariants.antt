use Rattle.page_flusher.specs.Taking.{AreTaken}
use Rattle.page_flusher.proofs.plan.take_blocks.Given as goal

abbrev pub invariant-loop : goal.invariant-loop
invariant-loop l = AreTaken l.initial.blocks l.counter l.taken.items l.blocks
