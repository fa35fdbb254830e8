use Rattle.std.proofs.Common.{subst}
use Rattle.run_laws.proofs.OutputLaws.{Holds, held_last, output_held, turn_appends}
use Rattle.run_laws.proofs.OutputParts.{barriers_let_out, output_has_parts}
use Rattle.run_defs.specs.Progress.{Progress}
use Rattle.run_laws.proofs.laws.output_only_grows.Goals as goal

pub returns-clause-turns : goal.returns-clause-turns
returns-clause-turns c = turn_appends

pub returns-clause-held : goal.returns-clause-held
returns-clause-held c = λ quantum origin g marks r above below is. (subst (λ (x : Progress). Holds g.frame.out.from x.output x.state.group.frame.out) is (output_held quantum origin g marks above below)).bytes

pub returns-clause-last : goal.returns-clause-last
returns-clause-last c = λ quantum origin g marks r above below is. held_last g.frame.out.from r.output r.state.group.frame.out (subst (λ (x : Progress). Holds g.frame.out.from x.output x.state.group.frame.out) is (output_held quantum origin g marks above below))

pub returns-clause-parts : goal.returns-clause-parts
returns-clause-parts c = output_has_parts

pub returns-clause-lets_out : goal.returns-clause-lets_out
returns-clause-lets_out c = λ start origin limits. barriers_let_out start limits origin
