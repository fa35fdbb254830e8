use Rattle.std.proofs.Common.{◌∙◌, sym}
use Rattle.shadow_chains.proofs.Faces.{frozen_all, frozen_over, frozen_set, frozen_below, frozen_touched}
use Rattle.shadow_chains.proofs.face.Face.freeze.Goals as goal

pub returns-clause-layers : goal.returns-clause-layers
returns-clause-layers c = rw (← c.self.view_is) (frozen_all c.self.inside.layers c.self.inside.top.pages c.self.inside.since c.self.inside.pages _ _ (sym c.replace.ensures.value ∙ c.spare_of-layers.ensures) c.self.invariant.spare_is c.self.invariant.empty)

pub returns-clause-over : goal.returns-clause-over
returns-clause-over c = rw (← c.self.view_is) (frozen_over c.self.inside.layers c.self.inside.top.pages c.self.inside.since c.self.inside.pages _ _ (sym c.replace.ensures.value ∙ c.spare_of-layers.ensures) c.self.invariant.spare_is c.self.invariant.empty)

pub returns-clause-standing : goal.returns-clause-standing
returns-clause-standing c = rw (← c.self.view_is) (frozen_set c.self.inside.layers c.self.inside.top.pages c.self.inside.since c.self.inside.pages _ _ (sym c.replace.ensures.value ∙ c.spare_of-layers.ensures) c.self.invariant.spare_is c.self.invariant.empty)

pub returns-clause-base_bytes : goal.returns-clause-base_bytes
returns-clause-base_bytes c = rw (← c.self.view_is) (frozen_below c.self.inside.layers c.self.inside.top.pages c.self.inside.since c.self.inside.pages _ _ (sym c.replace.ensures.value ∙ c.spare_of-layers.ensures) c.self.invariant.spare_is c.self.invariant.empty _ c.len-self-inside.ensures.count)

pub returns-clause-touched : goal.returns-clause-touched
returns-clause-touched c = rw (← c.self.view_is) (frozen_touched c.self.inside.layers c.self.inside.top.pages c.self.inside.since c.self.inside.pages _ _ (sym c.replace.ensures.value ∙ c.spare_of-layers.ensures) c.self.invariant.spare_is c.self.invariant.empty _ c.len-self-inside.ensures.count)
