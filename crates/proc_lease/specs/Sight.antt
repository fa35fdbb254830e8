-- What a caller sees: its private objects and the public ones, as one memory.
use Rattle.std.proofs.Common.{◌≡◌, ◌⊎◌, ◌≤◌, ℕ, suc, ◌+◌, ◌*◌, ◌==◌, ◌++◌, Bool, true, false, not, List, [], ◌∷◌, length, All, Some, refl, ap, arith, is_some}
use Rattle.std.proofs.Props.{props}
use Rattle.std.specs.List.{list_any}
use Rattle.address_maps.specs.Mappings.{AreApart, IsMapping, mapping_at}
use Rattle.address_maps.specs.declared.maps.Mapping.{Mapping}
use Rattle.group_defs.specs.Cells.{bytes_in, cells_of, object_place}
use Rattle.proc_lease.specs.Private.{ObjectView, IsReadyFor, byte_into_at, memory_of, stored_into, views_of}
use Rattle.proc_lease.specs.declared.process.Process.{Process}
use Rattle.rv64_isa.specs.Memory.{Cells, bytes_with}
use Rattle.rv64_isa.specs.Numbers.{has_bit, wrapped}
use Rattle.shadow_chains.specs.declared.entry.Entry.{Entry}
use Rattle.tables.specs.Rows.{Rows}

-- the private objects, the public ones, and the mappings through which they are seen
pub record SeenObjects : Type 0 where
  pub private : List ObjectView
  pub public : List ObjectView
  pub maps : List Mapping

abbrev pub seen_by : Process → Rows Entry → SeenObjects
seen_by process shared = record { private = views_of process.faces.entries; public = views_of shared.entries; maps = process.map.entries }

abbrev pub cells_seen : SeenObjects → Cells
cells_seen t = cells_of (memory_of (t.private ++ t.public)) t.maps

abbrev pub cells_between : Process → Rows Entry → Cells
cells_between process shared = cells_seen (seen_by process shared)

-- an object of this number is there
abbrev pub has_object : List ObjectView → ℕ → Bool
has_object objects number = list_any (λ o. o.number == number) objects

-- Each mapping lies inside its object, which is among the private ones where the mapping is private, and else among the public ones; no
-- object is among both.
pub record SeenFits (t : SeenObjects) : Type 0 where
  pub each : All IsMapping t.maps
  pub apart : AreApart t.maps
  pub inside : All (λ m. 4096 * (m.first + m.pages) ≤ length (bytes_in (memory_of (t.private ++ t.public)) m.object)) t.maps
  pub sides : All (λ m. has_object t.private m.object ≡ not m.shared) t.maps
  pub once : (number : ℕ) → has_object t.private number ≡ true → has_object t.public number ≡ false

pub SeenFits-prop : (t : SeenObjects) → IsProp (SeenFits t)
unfolding IsMapping AreApart
SeenFits-prop t = Prim.hlevel props

-- Whether each of n bytes from an address on has the right, whatever the bytes are.
abbrev pub is_able : List Mapping → ℕ → ℕ → ℕ → Bool
is_able maps right from n = is_some (bytes_with right (cells_of [] maps) from n)

-- Bytes that the caller stores come into both, each of which has those of its own objects.
abbrev pub with_stored_in : SeenObjects → ℕ → List ℕ → SeenObjects
with_stored_in t address bytes = record t { private = stored_into t.private t.maps address bytes; public = stored_into t.public t.maps address bytes }

-- A byte with the right is at this place of this object.
pub record IsSpot (maps : List Mapping) (right address object place : ℕ) (shared : Bool) : Type 0 where
  pub mapping : Mapping
  pub is : mapping_at maps address ≡ Some mapping
  pub able : has_bit mapping.prot right ≡ true
  pub object_is : object ≡ mapping.object
  pub place_is : place ≡ object_place mapping address
  pub shared_is : shared ≡ mapping.shared

-- A byte can be stored at an address without taking memory: it may be written, and its page is ready.
pub record IsStoreReady (private public : List Entry) (maps : List Mapping) (address : ℕ) : Type 0 where
  pub mapping : Mapping
  pub is : mapping_at maps address ≡ Some mapping
  pub able : has_bit mapping.prot 2 ≡ true
  pub ready : IsReadyFor private mapping.object (object_place mapping address) 1 ⊎ IsReadyFor public mapping.object (object_place mapping address) 1

abbrev pub CanStoreAt : Process → Rows Entry → ℕ → Type 0
CanStoreAt process shared address = IsStoreReady process.faces.entries shared.entries process.map.entries address

-- No bytes change nothing, and bytes may be stored in pieces.
objects_joined : (objects : List ObjectView) (maps : List Mapping) (first rest : List ℕ) (to : ℕ)
    → stored_into (stored_into objects maps to first) maps (to + length first) rest ≡ stored_into objects maps to (first ++ rest)
unfolding stored_into
objects_joined objects maps [] rest to = let e : to + 0 ≡ to = omega arith in ap (λ (n : ℕ). stored_into objects maps n rest) e
objects_joined objects maps (b ∷ bs) rest to =
    let next = byte_into_at objects (mapping_at maps (wrapped to)) (wrapped to) b in
    let e : to + suc (length bs) ≡ (to + 1) + length bs = omega arith in
    rw e (objects_joined next maps bs rest (to + 1))

pub none_stored : (t : SeenObjects) (to : ℕ) → with_stored_in t to [] ≡ t
unfolding stored_into
none_stored t to = refl

pub stored_joined : (t : SeenObjects) (to : ℕ) (first rest : List ℕ)
    → with_stored_in (with_stored_in t to first) (to + length first) rest ≡ with_stored_in t to (first ++ rest)
stored_joined t to first rest = rw (objects_joined t.private t.maps first rest to, objects_joined t.public t.maps first rest to) refl
