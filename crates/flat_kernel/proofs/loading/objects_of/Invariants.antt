use Rattle.std.proofs.Common.{◌≡◌, take}
use Rattle.ckpt_records.specs.Parts.{memory_of}
use Rattle.flat_kernel.specs.Memory.{memory_in}
use Rattle.flat_kernel.proofs.loading.objects_of.Given as goal

abbrev pub invariant-loop-i : goal.invariant-loop-i
invariant-loop-i l = memory_in l.whole.items ≡ memory_of (take l.i l.objects) (take l.i l.layers)
