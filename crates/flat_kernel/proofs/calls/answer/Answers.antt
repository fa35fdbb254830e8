use Rattle.std.proofs.Common.{ap, ◌∙◌}
use Rattle.group_defs.specs.Step.{continued}
use Rattle.flat_kernel.specs.Engine.{group_in, process_in}
use Rattle.flat_kernel.proofs.StepLaws.{continued_in}
use Rattle.flat_kernel.proofs.calls.answer.Goals as goal

pub returns-clause-goes : goal.returns-clause-goes
returns-clause-goes c = let g = c.args.g.now in continued_in g c.requires.running c.answer.new.self ∙ ap (continued (group_in g) (process_in g)) c.answer.ensures
