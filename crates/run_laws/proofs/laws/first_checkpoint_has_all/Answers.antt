use Rattle.run_laws.proofs.TurnPages.{first_has_all}
use Rattle.run_laws.proofs.laws.first_checkpoint_has_all.Goals as goal

pub returns : goal.returns
returns c = first_has_all
