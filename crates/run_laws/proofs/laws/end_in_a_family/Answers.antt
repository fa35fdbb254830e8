use Rattle.run_laws.proofs.Runs.{family_ends}
use Rattle.run_laws.proofs.laws.end_in_a_family.Goals as goal

pub returns : goal.returns
returns c = family_ends
