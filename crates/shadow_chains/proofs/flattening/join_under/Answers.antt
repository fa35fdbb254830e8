use Rattle.shadow_chains.proofs.Joins.{alike_itself}
use Rattle.shadow_chains.proofs.flattening.join_under.Goals as goal

pub returns-in_default-clause-alike : goal.returns-in_default-clause-alike
returns-in_default-clause-alike c = alike_itself _
