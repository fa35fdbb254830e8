use Rattle.group_laws.proofs.BarrierLaws.{barrier_valid, acknowledged_valid}
use Rattle.group_laws.proofs.laws.barriers_keep_validity.Goals as goal

pub returns-clause-made : goal.returns-clause-made
returns-clause-made c = barrier_valid

pub returns-clause-acknowledged : goal.returns-clause-acknowledged
returns-clause-acknowledged c = acknowledged_valid
