use Rattle.group_parts.proofs.Commute.{marks_leave_lease}
use Rattle.group_parts.proofs.LeaseSteps.{lease_begins, lease_runs, pages_more}
use Rattle.group_parts.proofs.laws.leases_commute.Goals as goal

pub returns-clause-begins : goal.returns-clause-begins
returns-clause-begins c = lease_begins

pub returns-clause-runs : goal.returns-clause-runs
returns-clause-runs c g pid done more part = lease_runs g pid done more part

pub returns-clause-pages : goal.returns-clause-pages
returns-clause-pages c = pages_more

pub returns-clause-found : goal.returns-clause-found
returns-clause-found c = marks_leave_lease
