use Rattle.std.proofs.Common.{◌∙◌}
use Rattle.std.specs.Arc.{arc_value}
use Rattle.shadow_chains.proofs.Joins.{alike_itself, alike_emptied}
use Rattle.shadow_chains.proofs.flattening.push_empty.Goals as goal

pub returns-in_err-reserve : goal.returns-in_err-reserve
returns-in_err-reserve c = record { alike = rw c.reserve.ensures.items (alike_itself _) }

pub returns-in_default : goal.returns-in_default
returns-in_default c = record { alike = rw c.reserve.ensures.items (alike_itself _) }

pub returns : goal.returns
returns c = record { alike = alike_emptied _ (arc_value c.in-Ok.layer) _ (c.in-Ok.ensures.ok ∙ c.new.ensures) (rw c.reserve.ensures.items at c.push_shared.ensures.items) }
