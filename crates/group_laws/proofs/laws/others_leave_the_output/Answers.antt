use Rattle.group_laws.proofs.OutsideLaws.{output_left_by_calls, output_left_by_steps, written_by_calls, written_by_steps}
use Rattle.group_laws.proofs.laws.others_leave_the_output.Goals as goal

pub returns-clause-calls : goal.returns-clause-calls
returns-clause-calls c = output_left_by_calls

pub returns-clause-step : goal.returns-clause-step
returns-clause-step c = output_left_by_steps

pub returns-clause-written : goal.returns-clause-written
returns-clause-written c = written_by_calls

pub returns-clause-written_by_step : goal.returns-clause-written_by_step
returns-clause-written_by_step c = written_by_steps
