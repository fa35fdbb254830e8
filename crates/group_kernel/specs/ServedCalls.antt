-- What the calls that are served come to, by plain values: the caller's registers, the output, and whether it goes on.
use Rattle.std.specs.Prelude.{ℕ, ◌*◌, ◌%◌, ◌-◌, ◌^◌, ◌||◌, ◌==◌, if◌then◌else◌, List}
use Rattle.std.specs.Int.{w64, cast_unsigned}
use Rattle.descriptors.specs.declared.opens.Open.{Open}
use Rattle.group_defs.specs.declared.calls.TheConstants.{ENOSYS, EXIT, EXIT_GROUP}
use Rattle.group_defs.specs.declared.frame.Out.{Out}
use Rattle.group_kernel.specs.declared.calls.StepEnd.{StepEnd}
use Rattle.group_kernel.specs.declared.calls.StepEnd.TheVariants.{Ends, GoesOn}
use Rattle.rv64_isa.specs.Memory.{Cells}
use Rattle.rv64_isa.specs.Registers.{a0, answered, call_number}
use Rattle.rv64_isa.specs.declared.regs.Regs.{Regs}
use Rattle.syscalls_io.specs.IoCalls.{Outcome, after_io_call, is_io_call}
use Rattle.syscalls_io.specs.declared.answer.CallAnswer.{CallAnswer}
use Rattle.syscalls_io.specs.declared.answer.CallAnswer.TheVariants.{Done, Waits}

-- the registers and the output after a call, and its end
pub record CallEnd : Type 0 where
  pub end : StepEnd
  pub regs : Regs
  pub out : Out

abbrev pub call_end : StepEnd → Regs → Out → CallEnd
call_end end r out = record { end = end; regs = r; out = out }

abbrev pub going_on : Regs → Out → CallEnd
going_on r out = call_end GoesOn r out

-- a refusal answers the two's complement of the errno
abbrev pub refused : Regs → Out → ℕ → CallEnd
refused r out errno = going_on (answered r (2 ^ 64 - errno)) out

-- the value of a call that is done goes into x10; a call that waits is stood at again
abbrev pub after_answer : Regs → CallAnswer → Regs
after_answer r (Done value) = answered r (cast_unsigned w64 value)
after_answer r Waits = r

abbrev pub after_outcome : Regs → Outcome → CallEnd
after_outcome r o = going_on (after_answer r o.answer) o.out

unfoldable pub after_call : List (ℕ × ℕ) → List Open → Cells → Regs → Out → CallEnd
after_call fds opens cells r out =
    if is_io_call (call_number r) then after_outcome r (after_io_call fds opens cells r out)
    else if (call_number r == EXIT) || (call_number r == EXIT_GROUP) then call_end (Ends (256 * (a0 r % 256))) r out
    else refused r out ENOSYS
