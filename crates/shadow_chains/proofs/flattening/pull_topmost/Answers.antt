use Rattle.std.proofs.Common.{arith, sym}
use Rattle.std.specs.Arc.{arc_value}
use Rattle.shadow_chains.proofs.Faces.{ok_from}
use Rattle.shadow_chains.proofs.Joins.{lowers_popped, lowers_pushed}
use Rattle.shadow_chains.proofs.flattening.pull_topmost.Goals as goal

pub returns-then-is_ok-clause-lowers : goal.returns-then-is_ok-clause-lowers
returns-then-is_ok-clause-lowers c since below =
    lowers_popped (λ a. arc_value a) c.args.layers.now.items c.pop.new.self.items c.in-Some.below c.in-Some.ensures.items since (omega (arith, c.in-Some.ensures.cases)) c.args.over.now.items c.pull.new.over.items
    (ok_from c.pull.result _ c.pull.ensures.ok (sym c.if-is_ok.ensures.value))

pub returns-clause-lowers : goal.returns-clause-lowers
returns-clause-lowers c since below =
    lowers_pushed (λ a. arc_value a) c.args.layers.now.items c.pop.new.self.items c.in-Some.below c.in-Some.ensures.items since (omega (arith, c.in-Some.ensures.cases)) c.args.over.now.items c.pull.new.over.items
    (arc_value c.pull.new.below) _ c.pull.ensures.same c.push_shared.ensures.items
