use Rattle.run_laws.proofs.MachineLaws.{each_before, each_more, each_none, each_split}
use Rattle.run_defs.specs.Legal.{Allowed}
use Rattle.run_defs.specs.Progress.{progress_at}
use Rattle.run_laws.proofs.laws.legal_mark_by_mark.Goals as goal

pub returns-clause-none : goal.returns-clause-none
returns-clause-none c = λ start origin limits. each_none (Allowed limits) limits.quantum (progress_at origin start)

pub returns-clause-before : goal.returns-clause-before
returns-clause-before c = λ start origin limits a b l. (each_split (Allowed limits) limits.quantum (progress_at origin start) a b l).0

pub returns-clause-each : goal.returns-clause-each
returns-clause-each c = λ start origin limits. each_before (Allowed limits) limits.quantum (progress_at origin start)

pub returns-clause-one_more : goal.returns-clause-one_more
returns-clause-one_more c = λ start origin limits. each_more (Allowed limits) limits.quantum (progress_at origin start)
