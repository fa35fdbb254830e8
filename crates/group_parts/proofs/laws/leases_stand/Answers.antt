use Rattle.group_parts.proofs.LeasesKept.{marks_stand, next_unleased, start_stands, unleased_back}
use Rattle.group_parts.proofs.laws.leases_stand.Goals as goal

pub returns-clause-start : goal.returns-clause-start
returns-clause-start c = start_stands

pub returns-clause-marks : goal.returns-clause-marks
returns-clause-marks c = marks_stand

pub returns-clause-next : goal.returns-clause-next
returns-clause-next c = next_unleased

pub returns-clause-back : goal.returns-clause-back
returns-clause-back c = unleased_back
