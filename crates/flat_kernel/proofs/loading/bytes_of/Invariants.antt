use Rattle.std.proofs.Common.{◌≡◌}
use Rattle.ckpt_records.specs.Parts.{object_bytes}
use Rattle.flat_kernel.proofs.loading.bytes_of.Given as goal

abbrev pub invariant-loop-page : goal.invariant-loop-page
invariant-loop-page l = l.bytes.items ≡ object_bytes l.page l.layer
