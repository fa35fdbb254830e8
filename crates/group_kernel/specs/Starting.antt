-- The faces with which a kernel begins, and what each process takes of them.
use Rattle.std.specs.Prelude.{◌≡◌, ℕ, ◌*◌, ◌==◌, ◌&&◌, not, Bool, true, false, if◌then◌else◌, List, map, AllPairs, Option, Some, None, length, replicate, take, drop}
use Rattle.std.specs.List.{filter, list_all, list_any, range_with_len}
use Rattle.address_maps.specs.Mappings.{AreMappings}
use Rattle.descriptors.specs.Descriptors.{AreDescriptors}
use Rattle.descriptors.specs.declared.opens.Open.{Open}
use Rattle.group_defs.specs.Descriptions.{DescriptorsValid}
use Rattle.group_defs.specs.Fork.{maps_privately}
use Rattle.group_defs.specs.Group.{is_running, regs_of}
use Rattle.group_defs.specs.declared.frame.Proc.{Proc}
use Rattle.group_parts.specs.Parts.{shared_mappings}
use Rattle.group_kernel.specs.declared.row.Row.{Row}
use Rattle.proc_lease.specs.Private.{PrivateFits, views_of}
use Rattle.proc_lease.specs.declared.process.Process.{Process}
use Rattle.shadow_chains.specs.declared.entry.Entry.{Entry}
use Rattle.shadow_chains.specs.Faces.{touched}

-- whether the page at a place of an object's bytes isn't all zero
abbrev pub is_nonzero_in : List ℕ → ℕ → Bool
is_nonzero_in bytes page = not (list_all (λ b. b == 0) (take 4096 (drop (4096 * page) bytes)))

-- The first face of an object, which has these bytes: without a base on a new disk, and with its pages that aren't all zero in its
-- layers; else over its own bytes, with no page in them.
pub record IsFirstFace (epoch : ℕ) (object : ℕ × List ℕ) (e : Entry) : Type 0 where
  pub number : e.number ≡ object.0
  pub bytes : e.face.bytes ≡ object.1
  pub size : length object.1 ≡ 4096 * e.face.pages
  pub base : e.face.base ≡ (if epoch == 0 then None else Some object.0)
  pub base_bytes : e.face.base_bytes ≡ (if epoch == 0 then replicate (4096 * e.face.pages) 0 else object.1)
  pub set : touched e.face ≡ (if epoch == 0 then map (is_nonzero_in object.1) (range_with_len 0 e.face.pages) else replicate e.face.pages false)

-- the faces of the objects whose numbers pass a test, and the others
abbrev pub faces_that : (ℕ → Bool) → List Entry → List Entry
faces_that takes faces = filter (λ e. takes e.number) faces

abbrev pub faces_but : (ℕ → Bool) → List Entry → List Entry
faces_but takes faces = filter (λ e. not (takes e.number)) faces

-- A running process takes the faces of the objects that it maps privately. No two processes take the same.
abbrev pub takes_face : Proc → ℕ → Bool
takes_face p number = is_running p && maps_privately p.maps number

abbrev pub take_face : List Proc → ℕ → Bool
take_face procs number = list_any (λ p. takes_face p number) procs

abbrev pub TakeApart : List Proc → Type 0
TakeApart procs = AllPairs (λ p q. (number : ℕ) → takes_face p number ≡ true → takes_face q number ≡ false) procs

-- the private part of a process, with its faces out of these; none of an ended one
pub record IsRunningProcess (faces : List Entry) (p : Proc) (process : Process) : Type 0 where
  pub runs : is_running p ≡ true
  pub regs : process.regs ≡ regs_of p
  pub maps : process.map.entries ≡ p.maps
  pub own : process.faces.entries ≡ faces_that (maps_privately p.maps) faces

abbrev pub IsProcessOf : List Entry → Proc → Option Process → Type 0
IsProcessOf faces p None = is_running p ≡ false
IsProcessOf faces p (Some process) = IsRunningProcess faces p process

pub record IsRowOf (faces : List Entry) (p : Proc) (row : Row) : Type 0 where
  pub pid : row.pid ≡ p.pid
  pub parent : row.parent ≡ p.parent
  pub state : row.state ≡ p.state
  pub brk_base : row.brk_base ≡ p.brk_base
  pub brk : row.brk ≡ p.brk
  pub shared : row.shared ≡ shared_mappings p.maps
  pub fds : row.fds.entries ≡ p.fds
  pub process : IsProcessOf faces p row.process

-- what a process's lists have to be for its row to be made, over these descriptions
pub record HasTables (opens : List Open) (p : Proc) : Type 0 where
  pub maps : AreMappings p.maps
  pub fds : AreDescriptors p.fds
  pub named : DescriptorsValid opens p

-- what a running process maps privately lies inside the objects whose faces these are
abbrev pub HasFaces : List Entry → Proc → Type 0
HasFaces faces p = is_running p ≡ true → PrivateFits (views_of (faces_that (maps_privately p.maps) faces)) p.maps
