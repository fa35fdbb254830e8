-- Faces in the order in which their owners are asked, and tables told by a part of what each face shows.
use Rattle.std.specs.Prelude.{◌≡◌, ℕ, ◌<◌, ◌==◌, true, false, List, [], ◌∷◌, map, replicate, Option, Some, None, IfSome, IsSome, OnOk, Result, length, slice_index_or, take}
use Rattle.std.specs.Option.{option_map}
use Rattle.address_maps.specs.declared.maps.Mapping.{Mapping}
use Rattle.group_defs.specs.declared.frame.ObjectRec.{ObjectRec}
use Rattle.group_kernel.specs.Held.{TablesView}
use Rattle.syscalls_io.specs.declared.io_tables.IoTables.{IoTables}
use Rattle.group_kernel.specs.declared.objects.Owner.{Owner}
use Rattle.group_kernel.specs.declared.objects.Owner.TheVariants as owners
use Rattle.group_kernel.specs.declared.row.Row.{Row}
use Rattle.proc_lease.specs.Private.{view_of}
use Rattle.proc_lease.specs.declared.process.Process.{Process}
use Rattle.rv64_isa.specs.declared.regs.Regs.{Regs}
use Rattle.shadow_chains.specs.Chain.{overlaid, page_set}
use Rattle.shadow_chains.specs.Entries.{entry_with, face_of, number_of}
use Rattle.shadow_chains.specs.Faces.{FaceView, touched}
use Rattle.shadow_chains.specs.declared.entry.Entry.{Entry}
use Rattle.shadow_chains.specs.declared.face.Frozen.{Frozen}
use Rattle.tables.specs.Rising.{replaced}

-- An object's face, wherever it is first found: among the shared ones, those of files, and the private ones, row by row.
abbrev pub else_face : Option FaceView → Option FaceView → Option FaceView
else_face None y = y
else_face (Some x) y = Some x

abbrev pub face_in_process : Option Process → ℕ → Option FaceView
face_in_process None number = None
face_in_process (Some p) number = face_of p.faces.entries number

abbrev pub private_face : List Row → ℕ → Option FaceView
private_face [] number = None
private_face (row ∷ rows) number = else_face (face_in_process row.process number) (private_face rows number)

unfoldable pub first_face : TablesView → ℕ → Option FaceView
first_face t number = else_face (face_of t.shared.entries number) (else_face (face_of t.io.file_faces.entries number) (private_face t.rows number))

-- who owns it
abbrev pub IsOwner : TablesView → ℕ → Option Owner → Type 0
IsOwner t number None = first_face t number ≡ None
IsOwner t number (Some owners.Shared) = IsSome (face_of t.shared.entries number)
IsOwner t number (Some owners.File) = (face_of t.shared.entries number ≡ None) × IsSome (face_of t.io.file_faces.entries number)
IsOwner t number (Some (owners.Process place)) = (face_of t.shared.entries number ≡ None) × (face_of t.io.file_faces.entries number ≡ None)
    × (place < length t.rows) × (private_face (take place t.rows) number ≡ None)
    × ((d : Row) → IsSome (face_in_process (slice_index_or t.rows place d).process number))

-- Tables of which each face is told by what a function says of its entry.
abbrev pub ProcessBy : Type 0 → Type 0
ProcessBy V = Regs × List Mapping × List V

pub record TablesBy (V : Type 0) : Type 0 where
  pub rows : List (Row × Option (ProcessBy V))
  pub objects : List ObjectRec
  pub shared : List V
  pub files : List V
  pub io : IoTables

abbrev pub process_by : {V : Type 0} → (Entry → V) → Process → ProcessBy V
process_by v p = (p.regs, p.map.entries, map v p.faces.entries)

abbrev pub row_by : {V : Type 0} → (Entry → V) → Row → Row × Option (ProcessBy V)
row_by v row = (record row { process = None }, option_map (process_by v) row.process)

unfoldable pub tables_by : {V : Type 0} → (Entry → V) → TablesView → TablesBy V
tables_by v t = record {
  rows = map (row_by v) t.rows;
  objects = t.objects;
  shared = map v t.shared.entries;
  files = map v t.io.file_faces.entries;
  io = record t.io { file_faces = record { entries = []; spare = 0 } };
}

-- a face's number and bytes
abbrev pub bytes_of : Entry → ℕ × List ℕ
bytes_of e = (e.number, e.face.bytes)

-- All faces but the first one of a number stay.
abbrev pub OthersStay : TablesView → TablesView → ℕ → Type 0
OthersStay t new number = (other : ℕ) → (number == other) ≡ false → first_face new other ≡ first_face t other

-- A face was frozen under its object's number.
pub record IsFreezeOf (number : ℕ) (old now : FaceView) (f : Frozen) : Type 0 where
  pub number_is : f.number ≡ number
  pub base : f.base ≡ old.base
  pub over : overlaid f.layers old.base_bytes old.pages ≡ old.bytes
  pub standing : page_set f.layers old.pages ≡ touched old
  pub pages : now.pages ≡ old.pages
  pub bytes : now.bytes ≡ old.bytes
  pub new_base : now.base ≡ Some number
  pub base_bytes : now.base_bytes ≡ old.bytes
  pub set : touched now ≡ replicate old.pages false

-- The face of a number was prepared in its table, or was kept there with all that it shows.
pub record PreparesIn {T E : Type 0} (old new : List Entry) (number : ℕ) (r : Result T E) : Type 0 where
  pub face : FaceView
  pub is : new ≡ replaced number_of old (entry_with number face)
  pub same : IfSome (face_of old number) (λ f. view_of (entry_with number face) ≡ view_of (entry_with number f))
  pub ok : OnOk r (face.prepared ≡ true)

pub record PreparesFirst {T E : Type 0} (t new : TablesView) (number : ℕ) (r : Result T E) : Type 0 where
  pub same : tables_by view_of new ≡ tables_by view_of t
  pub others : OthersStay t new number
  pub ok : OnOk r (IfSome (first_face new number) (λ f. f.prepared ≡ true))

-- It was frozen there.
pub record FreezesIn (old new : List Entry) (number : ℕ) (frozen : Frozen) : Type 0 where
  pub face : FaceView
  pub is : new ≡ replaced number_of old (entry_with number face)
  pub freezes : IfSome (face_of old number) (λ f. IsFreezeOf number f face frozen)

-- What was frozen was the first face of its number.
pub record WasFrozen (t new : TablesView) (number : ℕ) (frozen : Frozen) : Type 0 where
  pub old : FaceView
  pub old_is : first_face t number ≡ Some old
  pub now : FaceView
  pub now_is : first_face new number ≡ Some now
  pub freezes : IsFreezeOf number old now frozen

abbrev pub FreezesOrNone : TablesView → TablesView → ℕ → Option Frozen → Type 0
FreezesOrNone t new number None = first_face t number ≡ None
FreezesOrNone t new number (Some frozen) = WasFrozen t new number frozen

pub record FreezesFirst (t new : TablesView) (number : ℕ) (r : Option Frozen) : Type 0 where
  pub same : tables_by bytes_of new ≡ tables_by bytes_of t
  pub others : OthersStay t new number
  pub frozen : FreezesOrNone t new number r
