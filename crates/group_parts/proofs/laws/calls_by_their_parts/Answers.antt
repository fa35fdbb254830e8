use Rattle.group_parts.proofs.Callers.{caller_is}
use Rattle.group_parts.proofs.NoneStarts.{calls_leave_others, steps_leave_all, steps_leave_others}
use Rattle.group_parts.proofs.Served.{stands_on}
use Rattle.group_parts.proofs.Sight.{sight_of_parts}
use Rattle.group_parts.proofs.laws.calls_by_their_parts.Goals as goal

pub returns-clause-sees : goal.returns-clause-sees
returns-clause-sees c = sight_of_parts

pub returns-clause-others : goal.returns-clause-others
returns-clause-others c = steps_leave_others

pub returns-clause-others_by_calls : goal.returns-clause-others_by_calls
returns-clause-others_by_calls c = calls_leave_others

pub returns-clause-stands : goal.returns-clause-stands
returns-clause-stands c = stands_on

pub returns-clause-caller : goal.returns-clause-caller
returns-clause-caller c = caller_is

pub returns-clause-but_new : goal.returns-clause-but_new
returns-clause-but_new c = steps_leave_all
