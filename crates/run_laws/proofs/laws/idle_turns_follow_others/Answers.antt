use Rattle.run_laws.proofs.MovedLaws.{has_moved_found, moved_behind}
use Rattle.run_laws.proofs.laws.idle_turns_follow_others.Goals as goal

pub returns-clause-found : goal.returns-clause-found
returns-clause-found c = has_moved_found

pub returns-clause-stands : goal.returns-clause-stands
returns-clause-stands c = moved_behind
