use Rattle.run_laws.proofs.Runs.{refused_at, unreadable_at, unknown_at}
use Rattle.run_laws.proofs.laws.refused_calls.Goals as goal

pub returns-clause-closed : goal.returns-clause-closed
returns-clause-closed c = refused_at

pub returns-clause-unreadable : goal.returns-clause-unreadable
returns-clause-unreadable c = unreadable_at

pub returns-clause-unknown : goal.returns-clause-unknown
returns-clause-unknown c = unknown_at
