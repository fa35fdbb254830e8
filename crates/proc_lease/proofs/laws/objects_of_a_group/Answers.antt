use Rattle.proc_lease.proofs.GroupObjects.{own_have, sees_private}
use Rattle.proc_lease.proofs.laws.objects_of_a_group.Goals as goal

pub returns-clause-sees : goal.returns-clause-sees
returns-clause-sees c objects g p same = sees_private objects g.memory p.maps same

pub returns-clause-own : goal.returns-clause-own
returns-clause-own c = own_have
