use Rattle.run_laws.proofs.LeaseLaws.{leased_run, leases_apart}
use Rattle.run_laws.proofs.laws.leases_are_apart.Goals as goal

pub returns-clause-apart : goal.returns-clause-apart
returns-clause-apart c = leases_apart

pub returns-clause-running : goal.returns-clause-running
returns-clause-running c = λ limits origin start marks small. leased_run limits origin small start marks
