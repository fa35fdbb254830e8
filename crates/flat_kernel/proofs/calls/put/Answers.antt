use Rattle.std.proofs.Common.{ℕ, ◌≡◌, sym, ap, subst, ◌∙◌}
use Rattle.std.specs.Prelude.{MatchOption, is_some, ◌++◌}
use Rattle.group_defs.specs.declared.frame.Out.{Out}
use Rattle.rv64_isa.specs.Memory.{readable}
use Rattle.rv64_isa.specs.Registers.{a1, answered}
use Rattle.flat_kernel.specs.Engine.{cells_in}
use Rattle.flat_kernel.proofs.CallLaws.{put_done}
use Rattle.flat_kernel.proofs.ReadLaws.{read_count}
use Rattle.flat_kernel.proofs.StepLaws.{continued_in}
use Rattle.flat_kernel.proofs.calls.put.Goals as goal

pub returns-then-branch-clause-ok : goal.returns-then-branch-clause-ok
returns-then-branch-clause-ok c =
    let g = c.args.g.now in
    let told = c.in_ok-readable_into.ensures in
    let out : Out = record g.out { bytes = c.readable_into.new.out } in
    let at : c.get-address.result ≡ a1 g.regs = c.get-address.ensures in
    c.answer.ensures.goes
    ∙ sym (continued_in (record g { out = out }) c.requires.running (answered g.regs c.args.n))
    ∙ put_done g c.requires.running (readable (cells_in g) (a1 g.regs) c.args.n) c.args.n c.readable_into.new.out (read_count (cells_in g) 1 (a1 g.regs) c.args.n)
    (ap (λ (a : ℕ). is_some (readable (cells_in g) a c.args.n)) (sym at) ∙ sym told.able ∙ c.if-branch.true)
    (subst (λ (a : ℕ). MatchOption (readable (cells_in g) a c.args.n) (c.readable_into.new.out ≡ g.out.bytes) (λ bytes. c.readable_into.new.out ≡ g.out.bytes ++ bytes)) at told.bytes)
