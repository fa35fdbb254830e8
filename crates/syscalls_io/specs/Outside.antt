-- Descriptors at the outside, and calls that must wait for it.
use Rattle.std.specs.Prelude.{ℕ, ◌&&◌, ◌==◌, not, Bool, true, false, List, Option, Some, None}
use Rattle.descriptors.specs.declared.opens.Open.{Open}
use Rattle.descriptors.specs.declared.opens.OpenKind.{OpenKind}
use Rattle.descriptors.specs.declared.opens.OpenKind.TheVariants.{Nothing, Outside, File, PipeRead, PipeWrite, PairEnd}
use Rattle.group_defs.specs.Calls.{fd_of}
use Rattle.group_defs.specs.Changes.{open_at}
use Rattle.group_defs.specs.Output.{room}
use Rattle.group_defs.specs.declared.calls.TheConstants.{WRITE}
use Rattle.group_defs.specs.declared.frame.Out.{Out}
use Rattle.rv64_isa.specs.Registers.{a2, call_number}
use Rattle.rv64_isa.specs.declared.regs.Regs.{Regs}

abbrev pub is_outside : OpenKind → Bool
is_outside Nothing = false
is_outside Outside = true
is_outside (File object) = false
is_outside (PipeRead pipe) = false
is_outside (PipeWrite pipe) = false
is_outside (PairEnd pair end) = false

-- the description that a descriptor is at, where it is at one, is of the outside
abbrev pub is_at_outside : Option Open → Bool
is_at_outside None = false
is_at_outside (Some o) = is_outside o.kind

-- a call writes to the outside
abbrev pub writes_to_outside : List (ℕ × ℕ) → List Open → Regs → Bool
writes_to_outside fds opens r = (call_number r == WRITE) && is_at_outside (open_at fds opens (fd_of r))

-- some bytes, while there is no room
abbrev pub waits_for_room : List (ℕ × ℕ) → List Open → Out → Regs → Bool
waits_for_room fds opens out r = writes_to_outside fds opens r && (not (a2 r == 0) && (room out == 0))
