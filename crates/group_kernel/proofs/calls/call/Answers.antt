use Rattle.std.proofs.Common.{◌≡◌, ◌≢◌, ℕ, ◌*◌, ◌%◌, sym, ap, subst, ◌∙◌, arith}
use Rattle.std.specs.Prelude.{IfOk}
use Rattle.descriptors.specs.Opens.{descriptions}
use Rattle.rv64_isa.specs.Registers.{a0, call_number}
use Rattle.group_kernel.specs.ServedCalls.{CallEnd, after_call, call_end, going_on}
use Rattle.group_kernel.specs.declared.calls.StepEnd.TheVariants.{Ends}
use Rattle.group_kernel.proofs.CallsCarriedOut.{called_io, called_exit_number, called_other}
use Rattle.group_kernel.proofs.calls.call.Goals as goal

pub returns-in-64-clause-ok : goal.returns-in-64-clause-ok
returns-in-64-clause-ok c s =
    let P : CallEnd → Type 0 = λ x. IfOk s.call_on_descriptor.result (λ end. call_end end s.call_on_descriptor.new.regs s.call_on_descriptor.new.io.out ≡ x) in
    subst P (sym (called_io (c.M.UserMem.cells s.args.memory.now) s.args.regs.now s.args.io.now.out s.args.fds.now.entries (descriptions s.args.io.now.opens.entries) (sym s.get.ensures ∙ s.in-64.is))) s.call_on_descriptor.ensures.ok

pub returns-in-93-clause-ok : goal.returns-in-93-clause-ok
returns-in-93-clause-ok c s =
    let number : call_number s.args.regs.now ≡ s.get.result = sym s.get.ensures in
    ap (λ (n : ℕ). call_end (Ends (256 * (n % 256))) s.args.regs.now s.args.io.now.out) s.get-in-93.ensures
    ∙ sym (called_exit_number (c.M.UserMem.cells s.args.memory.now) s.args.regs.now s.args.io.now.out s.args.fds.now.entries (descriptions s.args.io.now.opens.entries) (omega arith) (omega arith))

pub returns-clause-ok : goal.returns-clause-ok
returns-clause-ok c s =
    let number : call_number s.args.regs.now ≡ s.get.result = sym s.get.ensures in
    ap (λ r. going_on r s.args.io.now.out) s.refuse.ensures
    ∙ sym (called_other (c.M.UserMem.cells s.args.memory.now) s.args.regs.now s.args.io.now.out s.args.fds.now.entries (descriptions s.args.io.now.opens.entries) (λ e. omega arith) (λ e. omega arith) (λ e. omega arith))
