use Rattle.run_laws.proofs.CountLaws.{one_unacked}
use Rattle.run_laws.proofs.LegalLaws.{in_order}
use Rattle.run_laws.proofs.laws.one_commit_at_a_time.Goals as goal

pub returns-clause-order : goal.returns-clause-order
returns-clause-order c = in_order

pub returns-clause-one : goal.returns-clause-one
returns-clause-one c = one_unacked
