use Rattle.run_laws.proofs.Runs.{two_acked, two_done, two_legal}
use Rattle.run_laws.proofs.laws.two_workers_run.Goals as goal

pub returns-clause-legal : goal.returns-clause-legal
returns-clause-legal c = two_legal

pub returns-clause-done : goal.returns-clause-done
returns-clause-done c = two_done

pub returns-clause-acked : goal.returns-clause-acked
returns-clause-acked c = two_acked
