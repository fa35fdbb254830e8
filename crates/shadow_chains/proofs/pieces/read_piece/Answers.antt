use Rattle.std.proofs.Common.{◌∙◌, ap, Option, List, ℕ, ◌+◌}
use Rattle.shadow_chains.specs.Chain.{byte_of}
use Rattle.shadow_chains.proofs.Shown.{piece_byte}
use Rattle.shadow_chains.proofs.pieces.read_piece.Goals as goal

pub returns-in-Some : goal.returns-in-Some
returns-in-Some c k lt = piece_byte _ c.in-Some.buf.now c.read.new.into c.args.at _ k c.in-Some.ensures c.read.ensures lt

pub returns-in-None : goal.returns-in-None
returns-in-None c k lt = c.zero.ensures k lt ∙ ap (λ (o : Option (List ℕ)). byte_of o (c.args.at + k)) c.in-None.ensures
