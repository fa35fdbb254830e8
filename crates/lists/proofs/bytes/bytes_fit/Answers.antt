use Rattle.std.proofs.Common.{arith}
use Rattle.lists.specs.Bytes.{are_bytes}
use Rattle.lists.proofs.bytes.bytes_fit.Goals as goal

pub returns : goal.returns
returns c = are_bytes c.args._bytes.now (λ i lt. omega (arith, c.type_inv._bytes i))
