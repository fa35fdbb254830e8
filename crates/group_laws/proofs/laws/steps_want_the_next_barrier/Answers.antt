use Rattle.group_laws.proofs.StandingLaws.{child_since, not_durable, other_since, own_since}
use Rattle.group_laws.proofs.laws.steps_want_the_next_barrier.Goals as goal

pub returns-clause-own : goal.returns-clause-own
returns-clause-own c = own_since

pub returns-clause-child : goal.returns-clause-child
returns-clause-child c = child_since

pub returns-clause-others : goal.returns-clause-others
returns-clause-others c = other_since

pub returns-clause-waits : goal.returns-clause-waits
returns-clause-waits c = not_durable
