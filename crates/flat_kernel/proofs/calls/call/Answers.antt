use Rattle.std.proofs.Common.{◌≡◌, ◌*◌, ◌%◌, OnOk, sym, ap, subst, ◌∙◌, arith}
use Rattle.rv64_isa.specs.Numbers.{low_word}
use Rattle.rv64_isa.specs.Registers.{a0, call_number}
use Rattle.group_defs.specs.Changes.{open_at}
use Rattle.group_defs.specs.Group.{Group}
use Rattle.group_defs.specs.Step.{after_reply}
use Rattle.flat_kernel.specs.Descriptors.{is_at_outside}
use Rattle.flat_kernel.specs.Engine.{group_in, process_in}
use Rattle.flat_kernel.proofs.CallLaws.{exit_number, reply_exit, reply_none, write_replies}
use Rattle.flat_kernel.proofs.StepLaws.{ends_in}
use Rattle.flat_kernel.proofs.calls.call.Goals as goal

pub returns-then-is_outside-clause-ok : goal.returns-then-is_outside-clause-ok
returns-then-is_outside-clause-ok c =
    let g = c.args.g.now in
    let P : Group → Type 0 = λ h. OnOk c.write.result (group_in c.write.new.g ≡ h) in
    let at = ap (λ register. is_at_outside (open_at g.fixed.fds g.fixed.opens (low_word register))) (sym c.get-in-64.ensures) ∙ sym c.is_outside.ensures ∙ c.if-is_outside.true in
    subst P (ap (after_reply (group_in g) (process_in g)) (sym (write_replies g c.requires.running _ c.requires.runnable (sym c.get.ensures ∙ c.in-64.is) at))) c.write.ensures.ok

pub returns-else-is_outside-clause-ok : goal.returns-else-is_outside-clause-ok
returns-else-is_outside-clause-ok c =
    let g = c.args.g.now in
    let at = ap (λ register. is_at_outside (open_at g.fixed.fds g.fixed.opens (low_word register))) (sym c.get-in-64.ensures) ∙ sym c.is_outside.ensures ∙ c.if-is_outside.false in
    c.refuse.ensures.goes ∙ ap (after_reply (group_in g) (process_in g)) (sym (write_replies g c.requires.running _ c.requires.runnable (sym c.get.ensures ∙ c.in-64.is) at))

pub returns-in-93-clause-ok : goal.returns-in-93-clause-ok
returns-in-93-clause-ok c =
    let g = c.args.g.now in
    let number : call_number g.regs ≡ c.get.result = sym c.get.ensures in
    c.end.ensures.gone ∙ ends_in g c.requires.running (256 * (a0 g.regs % 256))
    ∙ ap (after_reply (group_in g) (process_in g)) (sym (reply_exit (group_in g) (process_in g) (exit_number (call_number g.regs) (omega arith) (omega arith))))

pub returns-in_default-clause-ok : goal.returns-in_default-clause-ok
returns-in_default-clause-ok c =
    let g = c.args.g.now in
    let number : call_number g.regs ≡ c.get.result = sym c.get.ensures in
    c.refuse-in_default.ensures.goes ∙ ap (after_reply (group_in g) (process_in g)) (sym (reply_none (group_in g) (process_in g) (λ e. omega arith) (λ e. omega arith) (λ e. omega arith)))
