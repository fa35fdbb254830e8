-- What the calls on descriptors come to, by plain values: the answer, and the output afterwards.
use Rattle.std.specs.Prelude.{ℕ, ◌==◌, Bool, min, if◌then◌else◌, List, length, Option, Some, None, ℤ, pos, neg_ℤ}
use Rattle.descriptors.specs.declared.opens.Open.{Open}
use Rattle.group_defs.specs.Calls.{fd_of}
use Rattle.group_defs.specs.Changes.{open_at}
use Rattle.group_defs.specs.Output.{room, with_output}
use Rattle.group_defs.specs.declared.calls.TheConstants.{EBADF, EFAULT, WRITE}
use Rattle.group_defs.specs.declared.frame.Out.{Out}
use Rattle.rv64_isa.specs.Memory.{Cells, readable}
use Rattle.rv64_isa.specs.Registers.{a1, a2}
use Rattle.rv64_isa.specs.declared.regs.Regs.{Regs}
use Rattle.syscalls_io.specs.Outside.{is_at_outside}
use Rattle.syscalls_io.specs.declared.answer.CallAnswer.{CallAnswer}
use Rattle.syscalls_io.specs.declared.answer.CallAnswer.TheVariants.{Done, Waits}

-- the numbers of the calls that are carried out here
abbrev pub is_io_call : ℕ → Bool
is_io_call number = number == WRITE

-- the answer of a call, and the output after it
pub record Outcome : Type 0 where
  pub answer : CallAnswer
  pub out : Out

abbrev pub outcome : CallAnswer → Out → Outcome
outcome answer out = record { answer = answer; out = out }

abbrev pub done : ℤ → Out → Outcome
done value out = outcome (Done value) out

-- a refusal changes nothing, and answers the errno with its sign turned
abbrev pub refused : Out → ℕ → Outcome
refused out errno = done (neg_ℤ (pos errno)) out

-- bytes that can be read come behind the output
abbrev pub after_reading : Out → Option (List ℕ) → Outcome
after_reading out None = refused out EFAULT
after_reading out (Some bytes) = done (pos (length bytes)) (with_output out bytes)

-- n bytes at the address in a1, or as many as there is room for; without room it waits
unfoldable pub after_write : Cells → Regs → Out → Outcome
after_write cells r out =
    if a2 r == 0 then done (pos 0) out
    else if room out == 0 then outcome Waits out
    else after_reading out (readable cells (a1 r) (min (a2 r) (room out)))

-- a write to what is not the outside is refused
unfoldable pub after_io_call : List (ℕ × ℕ) → List Open → Cells → Regs → Out → Outcome
after_io_call fds opens cells r out =
    if is_at_outside (open_at fds opens (fd_of r)) then after_write cells r out
    else refused out EBADF
