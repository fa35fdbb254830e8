use Rattle.std.proofs.Common.{sym, ◌∙◌}
use Rattle.rv64_isa.specs.Registers.{a1, a2}
use Rattle.flat_kernel.specs.Engine.{cells_in, group_in, process_in}
use Rattle.flat_kernel.proofs.CallLaws.{wrote_nothing}
use Rattle.flat_kernel.proofs.calls.write.Goals as goal

pub returns-then-wanted-eq0-clause-ok : goal.returns-then-wanted-eq0-clause-ok
returns-then-wanted-eq0-clause-ok c =
    let g = c.args.g.now in
    c.answer.ensures.goes ∙ wrote_nothing (group_in g) (process_in g) (cells_in g) (a1 g.regs) (a2 g.regs) (sym c.get-wanted.ensures ∙ c.if-wanted-eq0.true)
