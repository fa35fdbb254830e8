use Rattle.group_parts.proofs.Callers.{taken_here}
use Rattle.group_parts.proofs.KeptLaws.{take_begins, take_stands}
use Rattle.group_parts.proofs.laws.takes.Goals as goal

pub returns-clause-stands : goal.returns-clause-stands
returns-clause-stands c = take_stands

pub returns-clause-lease : goal.returns-clause-lease
returns-clause-lease c = take_begins

pub returns-clause-here : goal.returns-clause-here
returns-clause-here c = taken_here
