use Rattle.group_laws.proofs.LocalStores.{local_elsewhere, shared_stays}
use Rattle.group_laws.proofs.StepLaws.{local_is_own, local_is_private}
use Rattle.group_laws.proofs.laws.local_steps_are_private.Goals as goal

pub returns-clause-step : goal.returns-clause-step
returns-clause-step c = local_is_private

pub returns-clause-own : goal.returns-clause-own
returns-clause-own c = local_is_own

pub returns-clause-elsewhere : goal.returns-clause-elsewhere
returns-clause-elsewhere c = local_elsewhere

pub returns-clause-shared : goal.returns-clause-shared
returns-clause-shared c = shared_stays
