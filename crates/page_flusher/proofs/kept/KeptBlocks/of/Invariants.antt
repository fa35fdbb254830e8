use Rattle.std.proofs.Common.{◌≡◌, ◌++◌, take}
use Rattle.ckpt_records.specs.Holds.{block_numbers}
use Rattle.page_flusher.proofs.kept.KeptBlocks.of.Given as goal

abbrev pub invariant-loop-page : goal.invariant-loop-page
invariant-loop-page l = l.used.items ≡ l.placement.metas ++ block_numbers (take l.page-index l.page-items)
