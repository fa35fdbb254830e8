use Rattle.group_laws.proofs.RiseLaws.{call_rises, group_step_rises}
use Rattle.group_laws.proofs.laws.steps_rise.Goals as goal

pub returns-clause-step : goal.returns-clause-step
returns-clause-step c durable g pid v = group_step_rises g durable pid v

pub returns-clause-calls : goal.returns-clause-calls
returns-clause-calls c durable g p number v = call_rises g durable p number v
