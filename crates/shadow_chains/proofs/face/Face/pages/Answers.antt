use Rattle.shadow_chains.proofs.Flat.{length-page_set, length-flat}
use Rattle.shadow_chains.proofs.Faces.{over_base}
use Rattle.shadow_chains.proofs.face.Face.pages.Goals as goal

pub returns-clause-touched : goal.returns-clause-touched
returns-clause-touched c = rw (← c.self.view_is) (length-page_set _ c.self.inside.pages)

pub returns-clause-bytes : goal.returns-clause-bytes
returns-clause-bytes c = rw (← c.self.view_is) (length-flat _ c.self.inside.pages)

pub returns-clause-over : goal.returns-clause-over
returns-clause-over c = rw (← c.self.view_is) (over_base c.self.inside.layers c.self.inside.top.pages c.self.inside.since c.self.inside.pages)
