-- The group that the engine keeps: one process that runs, or what it left.
use Rattle.std.specs.Prelude.{ℕ, if◌then◌else◌, List, [], ◌∷◌}
use Rattle.rv64_isa.specs.declared.regs.Regs.{Regs}
use Rattle.rv64_isa.specs.Memory.{Cells}
use Rattle.group_defs.specs.declared.frame.Frame.{Frame}
use Rattle.group_defs.specs.declared.frame.Next.{Next}
use Rattle.group_defs.specs.declared.frame.ObjectRec.{ObjectRec}
use Rattle.group_defs.specs.declared.frame.Out.{Out}
use Rattle.group_defs.specs.declared.frame.Proc.{Proc}
use Rattle.group_defs.specs.declared.frame.ProcState.TheVariants.{Running}
use Rattle.address_maps.specs.declared.maps.Mapping.{Mapping}
use Rattle.descriptors.specs.declared.opens.Open.{Open}
use Rattle.group_defs.specs.Built.{OnlyBuilt}
use Rattle.group_defs.specs.Cells.{cells_of}
use Rattle.group_defs.specs.Group.{Group}
use Rattle.group_defs.specs.Standing.{Standing, State}
use Rattle.group_defs.specs.Valid.{GroupIsValid}
use Rattle.flat_kernel.specs.Memory.{memory_in}
use Rattle.flat_kernel.specs.declared.engine_group.EngineGroup.{EngineGroup}
use Rattle.flat_kernel.specs.declared.engine_group.Fixed.{Fixed}

abbrev pub running_process : Fixed → List Mapping → Regs → Proc
running_process fixed maps r = record {
  pid = fixed.pid;
  parent = 0;
  state = Running;
  pc = r.pc;
  regs = r.x;
  brk_base = fixed.brk_base;
  brk = fixed.brk;
  maps = maps;
  fds = fixed.fds;
}

abbrev pub frame_with : List Proc → List ObjectRec → List Open → Next → Out → Frame
frame_with procs objects opens next out = record {
  procs = procs;
  objects = objects;
  opens = opens;
  pipes = [];
  pairs = [];
  files = [];
  next = next;
  out = out;
}

-- while the process runs: what no step changes, its mappings, its registers, the flat table, and the output
abbrev pub running_group : Fixed → List Mapping → Regs → List (ℕ × List ℕ) → Out → Group
running_group fixed maps r memory out = record {
  frame = frame_with (running_process fixed maps r ∷ []) fixed.objects fixed.opens fixed.next out;
  memory = memory;
}

-- once it has ended
abbrev pub ended_group : Next → Out → Group
ended_group next out = record { frame = frame_with [] [] [] next out; memory = [] }

abbrev pub group_in : EngineGroup → Group
group_in g =
    if g.running then running_group g.fixed g.memory.maps g.regs (memory_in g.memory.objects.items) g.out
    else ended_group g.fixed.next g.out

-- it with a standing beside it, which no call that is served reads
abbrev pub state_in : EngineGroup → Standing → State
state_in g standing = record { group = group_in g; standing = standing }

-- a valid group of what is built
pub record IsRunnable (g : Group) : Type 0 where
  pub valid : GroupIsValid g
  pub built : OnlyBuilt g.frame

-- the process that runs, and what it sees
abbrev pub process_in : EngineGroup → Proc
process_in g = running_process g.fixed g.memory.maps g.regs

abbrev pub cells_in : EngineGroup → Cells
cells_in g = cells_of (memory_in g.memory.objects.items) g.memory.maps
