use Rattle.commit_gate.specs.ImageLaws.{in_steps}
use Rattle.commit_gate.proofs.laws.steps_are_unfinished_or_finished.Goals as goal

pub returns : goal.returns
returns c = λ target close blocks body count r image placed least size gate. in_steps target close blocks body count r placed least size gate image
