use Rattle.std.proofs.Common.{take}
use Rattle.std.specs.List.{AllByRecursion}
use Rattle.ckpt_records.specs.Fits.{HasEnd}
use Rattle.ckpt_records.proofs.record.have_ends.Given as goal

abbrev pub invariant-loop-o : goal.invariant-loop-o
invariant-loop-o l = AllByRecursion (λ o. HasEnd o.kind) (take l.o-index l.opens)
