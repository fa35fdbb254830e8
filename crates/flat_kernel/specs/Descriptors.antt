-- Descriptors at the outside, and writes to it.
use Rattle.std.specs.Prelude.{◌&&◌, ◌==◌, not, Bool, true, false, Option, Some, None}
use Rattle.rv64_isa.specs.Registers.{a2, call_number}
use Rattle.rv64_isa.specs.declared.regs.Regs.{Regs}
use Rattle.descriptors.specs.declared.opens.Open.{Open}
use Rattle.descriptors.specs.declared.opens.OpenKind.{OpenKind}
use Rattle.descriptors.specs.declared.opens.OpenKind.TheVariants.{Nothing, Outside, File, PipeRead, PipeWrite, PairEnd}
use Rattle.group_defs.specs.Calls.{fd_of}
use Rattle.group_defs.specs.Changes.{open_at}
use Rattle.group_defs.specs.Output.{room}
use Rattle.flat_kernel.specs.declared.engine_group.EngineGroup.{EngineGroup}
use Rattle.flat_kernel.specs.declared.engine_group.Fixed.{Fixed}

abbrev pub is_outside : OpenKind → Bool
is_outside Nothing = false
is_outside Outside = true
is_outside (File object) = false
is_outside (PipeRead pipe) = false
is_outside (PipeWrite pipe) = false
is_outside (PairEnd pair end) = false

-- the description that a descriptor is at, where it is at one, is of the outside
abbrev pub is_at_outside : Option Open → Bool
is_at_outside None = false
is_at_outside (Some o) = is_outside o.kind

-- a call writes to the outside
abbrev pub writes_outside : Fixed → Regs → Bool
writes_outside fixed r = (call_number r == 64) && is_at_outside (open_at fixed.fds fixed.opens (fd_of r))

-- some bytes, while there is no room
abbrev pub must_wait : EngineGroup → Bool
must_wait g = writes_outside g.fixed g.regs && (not (a2 g.regs == 0) && (room g.out == 0))
