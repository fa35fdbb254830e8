use Rattle.std.proofs.Common.{◌<◌, arith}
use Rattle.std.proofs.lemmas.List.Elements.{All-from_get_or}
use Rattle.lists.specs.Bytes.{AreBytes}
use Rattle.flat_tests.proofs.tests.turns.bytes_fit.Goals as goal

pub returns : goal.returns
unfolding AreBytes
returns c = All-from_get_or (λ b. b < 256) c.args._bytes.now 0 (λ i lt. omega (arith, c.type_inv._bytes i))
