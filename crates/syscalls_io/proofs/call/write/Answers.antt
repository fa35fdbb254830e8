use Rattle.std.proofs.Common.{◌≡◌, sym, subst, ap, ◌∙◌}
use Rattle.std.specs.Prelude.{IfOk}
use Rattle.descriptors.specs.Opens.{descriptions}
use Rattle.syscalls_io.specs.IoCalls.{Outcome, outcome}
use Rattle.syscalls_io.proofs.WritesCarriedOut.{to_nothing, to_outside}
use Rattle.syscalls_io.proofs.call.write.Goals as goal

pub returns-then-is_outside-clause-ok : goal.returns-then-is_outside-clause-ok
returns-then-is_outside-clause-ok g c =
    let P : Outcome → Type 0 = λ x. IfOk c.write_outside.result (λ answer. outcome answer c.write_outside.new.out ≡ x) in
    subst P (sym (to_outside (g.M.UserMem.cells c.args.memory.now) c.args.regs.now c.args.io.now.out c.args.descs.now.entries (descriptions c.args.io.now.opens.entries) (sym c.is_outside.ensures ∙ c.if-is_outside.true))) c.write_outside.ensures.ok

pub returns-clause-ok : goal.returns-clause-ok
returns-clause-ok g c =
    ap (λ answer. outcome answer c.args.io.now.out) c.refuse.ensures
    ∙ sym (to_nothing (g.M.UserMem.cells c.args.memory.now) c.args.regs.now c.args.io.now.out c.args.descs.now.entries (descriptions c.args.io.now.opens.entries) (sym c.is_outside.ensures ∙ c.if-is_outside.false))
