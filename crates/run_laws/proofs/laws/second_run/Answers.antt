use Rattle.run_laws.proofs.Runs.{hi_solo, hi_done, hi_output}
use Rattle.run_laws.proofs.laws.second_run.Goals as goal

pub returns-clause-solo : goal.returns-clause-solo
returns-clause-solo c = hi_solo

pub returns-clause-done : goal.returns-clause-done
returns-clause-done c = hi_done

pub returns-clause-output : goal.returns-clause-output
returns-clause-output c = hi_output
