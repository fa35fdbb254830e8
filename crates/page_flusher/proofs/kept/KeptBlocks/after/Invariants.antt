use Rattle.std.proofs.Common.{◌≡◌, take}
use Rattle.commit_gate.specs.Whole.{numbers}
use Rattle.page_flusher.proofs.kept.KeptBlocks.after.Given as goal

abbrev pub invariant-loop-block : goal.invariant-loop-block
invariant-loop-block l = l.used.items ≡ numbers (take l.block-index l.blocks)
