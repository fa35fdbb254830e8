use Rattle.run_laws.proofs.Runs.{exit_solo, exit_done, exit_output}
use Rattle.run_laws.proofs.laws.smallest_run.Goals as goal

pub returns-clause-solo : goal.returns-clause-solo
returns-clause-solo c = exit_solo

pub returns-clause-done : goal.returns-clause-done
returns-clause-done c = exit_done

pub returns-clause-output : goal.returns-clause-output
returns-clause-output c = exit_output
