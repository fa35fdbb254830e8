-- A call waits exactly where it writes bytes to the outside, which has no room.
use Rattle.std.proofs.Common.{◌≡◌, ℕ, ◌==◌, ◌&&◌, not, Bool, true, false, true≢false, List, Option, Some, None, refl, sym, ap, ◌∙◌}
use Rattle.std.specs.Prelude.{min, pos, ◌↔◌, if◌then◌else◌}
use Rattle.descriptors.specs.declared.opens.Open.{Open}
use Rattle.group_defs.specs.Calls.{fd_of}
use Rattle.group_defs.specs.Changes.{open_at}
use Rattle.group_defs.specs.Output.{room}
use Rattle.group_defs.specs.declared.calls.TheConstants.{EBADF, WRITE}
use Rattle.group_defs.specs.declared.frame.Out.{Out}
use Rattle.rv64_isa.specs.Memory.{Cells, readable}
use Rattle.rv64_isa.specs.Registers.{a1, a2, call_number}
use Rattle.rv64_isa.specs.declared.regs.Regs.{Regs}
use Rattle.syscalls_io.specs.IoCalls.{Outcome, after_io_call, after_reading, after_write, done, is_io_call, outcome, refused}
use Rattle.syscalls_io.specs.Outside.{is_at_outside, waits_for_room}
use Rattle.syscalls_io.specs.declared.answer.CallAnswer.{CallAnswer}
use Rattle.syscalls_io.specs.declared.answer.CallAnswer.TheVariants.{Done, Waits}

abbrev is_waits : CallAnswer → Bool
is_waits (Done value) = false
is_waits Waits = true

only_waits : (a : CallAnswer) → is_waits a ≡ true → a ≡ Waits
only_waits (Done value) e = absurd (true≢false (sym e))
only_waits Waits e = refl

module _ (fds : List (ℕ × ℕ)) (opens : List Open) (cells : Cells) (r : Regs) (out : Out) where
  read : (o : Option (List ℕ)) → is_waits (after_reading out o).answer ≡ false
  read None = refl
  read (Some bytes) = refl

  abbrev by : Bool → Bool → Bool → Option (List ℕ) → Outcome
  by at none full o = if at then (if none then done (pos 0) out else if full then outcome Waits out else after_reading out o) else refused out EBADF

  waits_by : (at none full : Bool) (o : Option (List ℕ)) → is_waits (by at none full o).answer ≡ (at && (not none && full))
  waits_by true true full o = refl
  waits_by true false true o = refl
  waits_by true false false o = read o
  waits_by false none full o = refl

  waits_where : (call_number r == WRITE) ≡ true → is_waits (after_io_call fds opens cells r out).answer ≡ waits_for_room fds opens out r
  unfolding after_io_call after_write
  waits_where number =
      waits_by (is_at_outside (open_at fds opens (fd_of r))) (a2 r == 0) (room out == 0) (readable cells (a1 r) (min (a2 r) (room out)))
      ∙ ap (λ (t : Bool). (t && is_at_outside (open_at fds opens (fd_of r))) && (not (a2 r == 0) && (room out == 0))) (sym number)

  pub waits_exactly : (answer : CallAnswer) (out' : Out) → is_io_call (call_number r) ≡ true → outcome answer out' ≡ after_io_call fds opens cells r out → (answer ≡ Waits) ↔ (waits_for_room fds opens out r ≡ true)
  waits_exactly answer out' number is =
      let same : is_waits answer ≡ waits_for_room fds opens out r = ap (λ (e : Outcome). is_waits e.answer) is ∙ waits_where number in
      (λ waits. sym same ∙ ap is_waits waits, λ true. only_waits answer (same ∙ true))
