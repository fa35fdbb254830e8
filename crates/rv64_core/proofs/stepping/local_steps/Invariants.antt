use Rattle.rv64_core.specs.Steps.{AreAfterSteps}
use Rattle.rv64_core.proofs.stepping.local_steps.Given as goal

abbrev pub invariant-loop-made : goal.invariant-loop-made
invariant-loop-made g l =
    AreAfterSteps g.S.Space.landed l.made l.fn.regs (g.S.Space.cells l.fn.space) (g.S.Space.table l.fn.space) l.regs (g.S.Space.cells l.space) (g.S.Space.table l.space)
