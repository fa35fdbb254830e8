use Rattle.std.proofs.Common.{refl}
use Rattle.shadow_chains.proofs.Tops.{top_push}
use Rattle.shadow_chains.proofs.pieces.find_page.Goals as goal

pub returns-in-Some : goal.returns-in-Some
returns-in-Some c = rw (top_push, ← c.in-Some.ensures) refl

pub returns-in-None : goal.returns-in-None
returns-in-None c = rw (top_push, ← c.in-None.ensures) c.find.ensures
