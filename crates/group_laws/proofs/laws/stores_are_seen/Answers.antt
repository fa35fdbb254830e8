use Rattle.group_laws.proofs.Inside.{valid_inside}
use Rattle.group_laws.proofs.SeenLaws.{seen_by_all, stored_writes}
use Rattle.group_laws.proofs.laws.stores_are_seen.Goals as goal

pub returns-clause-inside : goal.returns-clause-inside
returns-clause-inside c = valid_inside

pub returns-clause-seen : goal.returns-clause-seen
returns-clause-seen c = stored_writes

pub returns-clause-by_all : goal.returns-clause-by_all
returns-clause-by_all c = seen_by_all
