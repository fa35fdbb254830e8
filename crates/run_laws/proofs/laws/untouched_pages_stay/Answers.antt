use Rattle.run_laws.proofs.TurnPages.{calls_leave, turn_leaves, turn_touches}
use Rattle.run_laws.proofs.laws.untouched_pages_stay.Goals as goal

pub returns-clause-stay : goal.returns-clause-stay
returns-clause-stay c = turn_leaves

pub returns-clause-calls : goal.returns-clause-calls
returns-clause-calls c = calls_leave

pub returns-clause-grow : goal.returns-clause-grow
returns-clause-grow c = turn_touches
