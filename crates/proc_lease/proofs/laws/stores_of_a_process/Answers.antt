use Rattle.proc_lease.proofs.GroupObjects.{bases_kept, enters, sets_stay, stores_alike}
use Rattle.proc_lease.proofs.laws.stores_of_a_process.Goals as goal

pub returns-clause-bytes : goal.returns-clause-bytes
returns-clause-bytes c = stores_alike

pub returns-clause-sets : goal.returns-clause-sets
returns-clause-sets c = enters

pub returns-clause-set_sizes : goal.returns-clause-set_sizes
returns-clause-set_sizes c = sets_stay

pub returns-clause-bases : goal.returns-clause-bases
returns-clause-bases c = bases_kept
