use Rattle.std.proofs.Common.{◌≡◌, ◌==◌, ℕ, false, sym, ap, subst, ◌∙◌, arith}
use Rattle.std.specs.Prelude.{IfOk, min}
use Rattle.group_defs.specs.Output.{room}
use Rattle.rv64_isa.specs.Memory.{readable}
use Rattle.rv64_isa.specs.Registers.{a1, a2}
use Rattle.syscalls_io.specs.IoCalls.{Outcome, after_reading, outcome}
use Rattle.syscalls_io.proofs.WritesCarriedOut.{wrote_nothing, write_waits, wrote}
use Rattle.syscalls_io.proofs.outside.write_outside.Goals as goal

pub returns-then-wanted-eq0-clause-ok : goal.returns-then-wanted-eq0-clause-ok
returns-then-wanted-eq0-clause-ok c s =
    sym (wrote_nothing (c.M.UserMem.cells s.args.memory.now) s.args.regs.now s.args.out.now (sym s.get-wanted.ensures ∙ s.if-wanted-eq0.true))

pub returns-then-room-eq0-clause-ok : goal.returns-then-room-eq0-clause-ok
returns-then-room-eq0-clause-ok c s =
    let some : (a2 s.args.regs.now == 0) ≡ false = grind (arith, s.get-wanted.ensures, s.if-wanted-eq0.false) in
    sym (write_waits (c.M.UserMem.cells s.args.memory.now) s.args.regs.now s.args.out.now some (sym s.room_of-room.ensures.value ∙ s.if-room-eq0.true))

pub returns-clause-ok : goal.returns-clause-ok
returns-clause-ok c s =
    let r = s.args.regs.now in
    let out = s.args.out.now in
    let cells = c.M.UserMem.cells s.args.memory.now in
    let some : (a2 r == 0) ≡ false = grind (arith, s.get-wanted.ensures, s.if-wanted-eq0.false) in
    let free : (room out == 0) ≡ false = grind (arith, s.room_of-room.ensures.value, s.if-room-eq0.false) in
    let P : Outcome → Type 0 = λ x. IfOk s.put.result (λ answer. outcome answer s.put.new.out ≡ x) in
    let least : s.min.result ≡ min (a2 r) (room out) = s.min.ensures ∙ ap (λ (n : ℕ). min n s.room_of-room.result) s.get-wanted.ensures ∙ ap (min (a2 r)) s.room_of-room.ensures.value in
    subst P (ap (λ (at : ℕ). after_reading out (readable cells at s.min.result)) s.get.ensures ∙ ap (λ (n : ℕ). after_reading out (readable cells (a1 r) n)) least ∙ sym (wrote cells r out some free)) s.put.ensures.ok
