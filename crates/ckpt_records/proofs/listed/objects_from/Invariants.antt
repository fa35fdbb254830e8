use Rattle.std.proofs.Common.{◌≡◌, drop}
use Rattle.ckpt_records.specs.Listed.{objects_from}
use Rattle.ckpt_records.proofs.listed.objects_from.Given as goal

abbrev pub invariant-loop-i : goal.invariant-loop-i
invariant-loop-i l = objects_from l.number (drop l.i l.objects) ≡ objects_from l.number l.objects
