use Rattle.run_laws.proofs.Epochs.{barrier_makes, others_make_none}
use Rattle.run_laws.proofs.laws.barriers_make_checkpoints.Goals as goal

pub returns-clause-made : goal.returns-clause-made
returns-clause-made c = barrier_makes

pub returns-clause-others : goal.returns-clause-others
returns-clause-others c = others_make_none
