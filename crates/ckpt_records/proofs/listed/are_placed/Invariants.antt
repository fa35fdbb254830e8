use Rattle.std.proofs.Common.{◌≡◌, drop}
use Rattle.ckpt_records.specs.Listed.{are_placed}
use Rattle.ckpt_records.proofs.listed.are_placed.Given as goal

abbrev pub invariant-loop-run : goal.invariant-loop-run
invariant-loop-run l = are_placed l.blocks (drop l.run-index l.runs) l.left ≡ are_placed l.blocks l.runs l.objects
