use Rattle.group_parts.proofs.Apart.{valid_apart}
use Rattle.group_parts.proofs.LocalSteps.{apart_after}
use Rattle.group_parts.proofs.laws.apart_from_the_start.Goals as goal

pub returns-clause-valid : goal.returns-clause-valid
returns-clause-valid c = valid_apart

pub returns-clause-within : goal.returns-clause-within
returns-clause-within c = apart_after
