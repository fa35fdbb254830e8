use Rattle.commit_gate.specs.FinishedLaws.{unfinished_other}
use Rattle.commit_gate.proofs.laws.unfinished_keeps_the_other_slot.Goals as goal

pub returns : goal.returns
returns c = λ target blocks count r image placed. unfinished_other target blocks count placed r image
