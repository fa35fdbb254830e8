-- The tables of a kernel as the group's parts: its public part, and the private parts that are here.
use Rattle.std.specs.Prelude.{◌≡◌, ℕ, ◌==◌, ◌&&◌, not, Bool, true, if◌then◌else◌, List, [], ◌∷◌, ◌++◌, map, All, Option, Some, None, IfSome, replicate, slice_index_or}
use Rattle.std.specs.List.{filter_map, find, list_any}
use Rattle.std.specs.Option.{option_map}
use Rattle.descriptors.specs.Opens.{descriptions}
use Rattle.group_defs.specs.Group.{Group}
use Rattle.group_defs.specs.Objects.{is_of_file}
use Rattle.group_defs.specs.Output.{out_after_barrier}
use Rattle.group_defs.specs.declared.frame.Frame.{Frame}
use Rattle.group_defs.specs.declared.frame.Proc.{Proc}
use Rattle.group_defs.specs.declared.frame.ProcState.{ProcState}
use Rattle.group_defs.specs.declared.frame.ProcState.TheVariants.{Running, Ended}
use Rattle.group_files.specs.declared.named_files.FileRec.{FileRec}
use Rattle.group_parts.specs.Kept.{KeptParts}
use Rattle.group_parts.specs.Parts.{PrivatePart}
use Rattle.group_kernel.specs.Faces.{AllStandOver}
use Rattle.group_kernel.specs.Leases.{part_held}
use Rattle.group_defs.specs.declared.frame.ObjectRec.{ObjectRec}
use Rattle.group_kernel.specs.declared.group_tables.GroupTables.{GroupTables}
use Rattle.syscalls_io.specs.declared.io_tables.IoTables.{IoTables}
use Rattle.group_kernel.specs.declared.row.Row.{Row}
use Rattle.proc_lease.specs.Private.{ObjectView, views_of}
use Rattle.proc_lease.specs.declared.process.Process.{Process}
use Rattle.shadow_chains.specs.declared.entry.Entry.{Entry}
use Rattle.tables.specs.Rows.{Rows}

-- The tables as lists.
pub record TablesView : Type 0 where
  pub rows : List Row
  pub objects : List ObjectRec
  pub shared : Rows Entry
  pub io : IoTables

abbrev pub seen : GroupTables → TablesView
seen t = record { rows = t.rows.items; objects = t.objects.items; shared = t.shared; io = t.io }

-- A row as the public part has it: an ended process has registers of zeros there, a running one none.
abbrev pub public_regs : ProcState → List ℕ
public_regs Running = []
public_regs (Ended status) = replicate 31 0

abbrev pub public_row : Row → Proc
public_row row = record {
  pid = row.pid;
  parent = row.parent;
  state = row.state;
  pc = 0;
  regs = public_regs row.state;
  brk_base = row.brk_base;
  brk = row.brk;
  maps = row.shared;
  fds = row.fds.entries;
}

-- The public objects' views: of those that processes may share, and of those of files.
abbrev pub public_objects : TablesView → List ObjectView
public_objects t = views_of t.shared.entries ++ views_of t.io.file_faces.entries

abbrev pub view_in : List ObjectView → ℕ → Option ObjectView
view_in objects number = find (λ o. o.number == number) objects

-- Their bytes, in the order of the frame's objects.
abbrev pub public_memory : TablesView → List (ℕ × List ℕ)
public_memory t = filter_map (λ o. option_map (λ v. (o.number, v.bytes)) (view_in (public_objects t) o.number)) t.objects

abbrev pub public_frame : TablesView → Frame
public_frame t = record {
  procs = map public_row t.rows;
  objects = t.objects;
  opens = descriptions t.io.opens.entries;
  pipes = t.io.pipes.entries;
  pairs = t.io.pairs.entries;
  files = t.io.files.entries;
  next = t.io.next;
  out = t.io.out;
}

-- The private parts that are here, each with its process's pid.
abbrev pub part_here : Row → Option (ℕ × PrivatePart)
part_here row = option_map (λ p. (row.pid, part_held p)) row.process

abbrev pub kept_in : TablesView → KeptParts
kept_in t = record { public = record { frame = public_frame t; memory = public_memory t }; here = filter_map part_here t.rows }

-- A row with its private part in it, where that is here; and the frame as a barrier leaves it, with these rows.
abbrev pub with_part_here : Row → Proc
with_part_here row = elim row.process [
  | None ↦ record (public_row row) { regs = replicate 31 0 }
  | Some p ↦ record (public_row row) { pc = p.regs.pc; regs = p.regs.x; maps = p.map.entries }
]

abbrev pub marked_frame : TablesView → Frame
marked_frame t = record (public_frame t) { procs = map with_part_here t.rows; out = out_after_barrier t.io.out }

-- the pid of the row at a place, or 0
abbrev pub pid_at : TablesView → ℕ → ℕ
pid_at t place = slice_index_or (map (λ row. row.pid) t.rows) place 0

-- the tables with this private part in a process's row
abbrev pub with_process : TablesView → ℕ → Option Process → TablesView
with_process t pid process = record t { rows = map {A = Row} (λ row. if row.pid == pid then record row { process = process } else row) t.rows }

-- Only files' objects have faces among the files'.
abbrev pub FileFacesOfFiles : TablesView → Type 0
FileFacesOfFiles t = All (λ e. is_of_file t.io.files.entries e.number ≡ true) t.io.file_faces.entries

-- Each face among the shared ones is of an object of the frame that no file has.
abbrev pub is_memory_object : List ObjectRec → List FileRec → ℕ → Bool
is_memory_object objects files number = list_any (λ o. o.number == number) objects && not (is_of_file files number)

abbrev pub SharedFacesOfMemory : TablesView → Type 0
SharedFacesOfMemory t = All (λ e. is_memory_object t.objects t.io.files.entries e.number ≡ true) t.shared.entries

-- All faces that are here, public and private, stand over the last barrier, and each public one is in the table that is for it.
pub record FacesStandOver (memory : List (ℕ × List ℕ)) (touched : List (ℕ × ℕ)) (t : TablesView) : Type 0 where
  pub files : FileFacesOfFiles t
  pub shared : SharedFacesOfMemory t
  pub public : AllStandOver memory touched (public_objects t)
  pub private : All (λ row. IfSome row.process (λ p. AllStandOver memory touched (views_of p.faces.entries))) t.rows
