-- What a write comes to, by its descriptor, its count and the room.
use Rattle.std.proofs.Common.{◌≡◌, ℕ, ◌==◌, Bool, true, false, List, ap, ◌∙◌, arith}
use Rattle.std.specs.Prelude.{min, pos, if◌then◌else◌}
use Rattle.descriptors.specs.declared.opens.Open.{Open}
use Rattle.group_defs.specs.Calls.{fd_of}
use Rattle.group_defs.specs.Changes.{open_at}
use Rattle.group_defs.specs.Output.{room}
use Rattle.group_defs.specs.declared.calls.TheConstants.{EBADF}
use Rattle.group_defs.specs.declared.frame.Out.{Out}
use Rattle.rv64_isa.specs.Memory.{Cells, readable}
use Rattle.rv64_isa.specs.Registers.{a1, a2}
use Rattle.rv64_isa.specs.declared.regs.Regs.{Regs}
use Rattle.syscalls_io.specs.IoCalls.{Outcome, after_io_call, after_reading, after_write, done, outcome, refused}
use Rattle.syscalls_io.specs.Outside.{is_at_outside}
use Rattle.syscalls_io.specs.declared.answer.CallAnswer.TheVariants.{Waits}

module _ (cells : Cells) (r : Regs) (out : Out) where
  by_tests : Outcome → Outcome → Outcome → Bool → Bool → Outcome
  by_tests a b c t u = if t then a else if u then b else c

  pub wrote_nothing : a2 r ≡ 0 → after_write cells r out ≡ done (pos 0) out
  unfolding after_write by_tests
  wrote_nothing none = let test : (a2 r == 0) ≡ true = grind (arith, none) in ap (λ (t : Bool). by_tests (done (pos 0) out) (outcome Waits out) (after_reading out (readable cells (a1 r) (min (a2 r) (room out)))) t (room out == 0)) test

  pub write_waits : (a2 r == 0) ≡ false → room out ≡ 0 → after_write cells r out ≡ outcome Waits out
  unfolding after_write by_tests
  write_waits some full =
      let test : (room out == 0) ≡ true = grind (arith, full) in
      let choose : Bool → Bool → Outcome = by_tests (done (pos 0) out) (outcome Waits out) (after_reading out (readable cells (a1 r) (min (a2 r) (room out)))) in
      ap (λ (t : Bool). choose t (room out == 0)) some ∙ ap (choose false) test

  pub wrote : (a2 r == 0) ≡ false → (room out == 0) ≡ false → after_write cells r out ≡ after_reading out (readable cells (a1 r) (min (a2 r) (room out)))
  unfolding after_write by_tests
  wrote some free =
      let choose : Bool → Bool → Outcome = by_tests (done (pos 0) out) (outcome Waits out) (after_reading out (readable cells (a1 r) (min (a2 r) (room out)))) in
      ap (λ (t : Bool). choose t (room out == 0)) some ∙ ap (choose false) free

  module _ (fds : List (ℕ × ℕ)) (opens : List Open) where
    pub to_outside : is_at_outside (open_at fds opens (fd_of r)) ≡ true → after_io_call fds opens cells r out ≡ after_write cells r out
    unfolding after_io_call
    to_outside at = ap (λ (t : Bool). let e : Outcome = if t then after_write cells r out else refused out EBADF in e) at

    pub to_nothing : is_at_outside (open_at fds opens (fd_of r)) ≡ false → after_io_call fds opens cells r out ≡ refused out EBADF
    unfolding after_io_call
    to_nothing at = ap (λ (t : Bool). let e : Outcome = if t then after_write cells r out else refused out EBADF in e) at
