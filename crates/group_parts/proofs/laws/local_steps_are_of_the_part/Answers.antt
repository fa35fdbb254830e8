use Rattle.group_parts.proofs.LocalPages.{steps_touch}
use Rattle.group_parts.proofs.LocalSteps.{all_local_in_group, all_local_in_part, local_in_group, steps_change}
use Rattle.group_parts.proofs.OwnPages.{steps_touch_own}
use Rattle.group_parts.proofs.laws.local_steps_are_of_the_part.Goals as goal

pub returns-clause-same : goal.returns-clause-same
returns-clause-same c = local_in_group

pub returns-clause-all : goal.returns-clause-all
returns-clause-all c s pid part n apart is = (all_local_in_group s pid part n apart is, all_local_in_part s pid part n apart is)

pub returns-clause-steps : goal.returns-clause-steps
returns-clause-steps c = steps_change

pub returns-clause-touched : goal.returns-clause-touched
returns-clause-touched c = steps_touch

pub returns-clause-own_pages : goal.returns-clause-own_pages
returns-clause-own_pages c = steps_touch_own
