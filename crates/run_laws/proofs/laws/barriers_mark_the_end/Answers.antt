use Rattle.run_laws.proofs.OutputLaws.{barrier_last, barrier_room}
use Rattle.run_laws.proofs.laws.barriers_mark_the_end.Goals as goal

pub returns-clause-stays : goal.returns-clause-stays
returns-clause-stays c = λ s epoch. barrier_last s.group.frame.out

pub returns-clause-frees : goal.returns-clause-frees
returns-clause-frees c = λ s epoch. barrier_room s.group.frame.out
