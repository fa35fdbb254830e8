use Rattle.commit_gate.specs.FinishedLaws.{finished_other, finished_same, finished_slot}
use Rattle.commit_gate.proofs.laws.finished_opens_the_target.Goals as goal

pub returns-clause-target : goal.returns-clause-target
returns-clause-target c = λ target blocks body count r placed least size. finished_slot target blocks count placed r body least size

pub returns-clause-other : goal.returns-clause-other
returns-clause-other c = λ target blocks body count r placed least size. finished_other target blocks count placed r body least size

pub returns-clause-same : goal.returns-clause-same
returns-clause-same c = λ target blocks body count r placed least size. finished_same target blocks count placed r body least size
