-- The calls and steps that write to the outside, and the bytes that they write there.
use Rattle.std.specs.Prelude.{ℕ, ◌==◌, ◌&&◌, min, Bool, true, false, List, [], Option, Some, None}
use Rattle.descriptors.specs.declared.opens.Open.{Open}
use Rattle.descriptors.specs.declared.opens.OpenKind.{OpenKind}
use Rattle.descriptors.specs.declared.opens.OpenKind.TheVariants as kinds
use Rattle.group_defs.specs.Calls.{fd_of}
use Rattle.group_defs.specs.Cells.{sight}
use Rattle.group_defs.specs.Changes.{open_at}
use Rattle.group_defs.specs.Group.{Group, regs_of, runner}
use Rattle.group_defs.specs.Output.{room}
use Rattle.group_defs.specs.Step.{effect_in}
use Rattle.group_defs.specs.declared.calls.TheConstants.{WRITE}
use Rattle.group_defs.specs.declared.frame.Proc.{Proc}
use Rattle.rv64_isa.specs.Instruction.{Effect, calls, steps, traps}
use Rattle.rv64_isa.specs.Memory.{readable}
use Rattle.rv64_isa.specs.Registers.{a1, a2, call_number}

-- whether a description is the outside
abbrev pub is_outside_kind : OpenKind → Bool
is_outside_kind kinds.Outside = true
is_outside_kind kind = false

abbrev pub is_open_outside : Option Open → Bool
is_open_outside None = false
is_open_outside (Some o) = is_outside_kind o.kind

-- The call by this number is write, and the caller's descriptor is at the outside.
unfoldable pub call_writes_outside : Group → Proc → ℕ → Bool
call_writes_outside g p number = (number == WRITE) && is_open_outside (open_at p.fds g.frame.opens (fd_of (regs_of p)))

-- The next step of the running process by this pid is such a call.
abbrev pub effect_writes_outside : Group → Proc → Effect → Bool
effect_writes_outside g p (steps r stored) = false
effect_writes_outside g p calls = call_writes_outside g p (call_number (regs_of p))
effect_writes_outside g p (traps status) = false

unfoldable pub step_writes_outside : Group → ℕ → Bool
step_writes_outside g pid = elim (runner g pid) [ None ↦ false | Some p ↦ effect_writes_outside g p (effect_in g p) ]

-- What it writes: the bytes at its buffer, as many as there is room for, and none where one of them can't be read.
unfoldable pub bytes_for_outside : Group → Proc → List ℕ
bytes_for_outside g p = elim (readable (sight g p) (a1 (regs_of p)) (min (a2 (regs_of p)) (room g.frame.out))) [ None ↦ [] | Some bytes ↦ bytes ]
