use Rattle.run_laws.proofs.TurnLaws.{ready_alone, step_same, steps_alone, turn_alone, waits_same}
use Rattle.run_laws.proofs.laws.turns_read_the_group.Goals as goal

pub returns-clause-step : goal.returns-clause-step
returns-clause-step c = step_same

pub returns-clause-waits : goal.returns-clause-waits
returns-clause-waits c = waits_same

pub returns-clause-steps : goal.returns-clause-steps
returns-clause-steps c = steps_alone

pub returns-clause-turn : goal.returns-clause-turn
returns-clause-turn c = turn_alone

pub returns-clause-ready : goal.returns-clause-ready
returns-clause-ready c = ready_alone
