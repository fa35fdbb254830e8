use Rattle.group_laws.proofs.StepLaws.{waiting_stays, local_waits_not}
use Rattle.group_laws.proofs.laws.waiting_changes_nothing.Goals as goal

pub returns-clause-same : goal.returns-clause-same
returns-clause-same c = waiting_stays

pub returns-clause-not_local : goal.returns-clause-not_local
returns-clause-not_local c = local_waits_not
