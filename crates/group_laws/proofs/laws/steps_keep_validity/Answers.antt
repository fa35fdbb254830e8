use Rattle.group_laws.proofs.ValidSteps.{call_valid, group_step_valid}
use Rattle.group_laws.proofs.laws.steps_keep_validity.Goals as goal

pub returns-clause-step : goal.returns-clause-step
returns-clause-step c = group_step_valid

pub returns-clause-calls : goal.returns-clause-calls
returns-clause-calls c = call_valid
