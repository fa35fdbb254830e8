-- The private part of a process: its mappings, and the faces of the private objects that it maps.
use Rattle.std.specs.Prelude.{◌≡◌, ◌≤◌, ℕ, ◌+◌, ◌*◌, ◌==◌, Bool, true, false, if◌then◌else◌, refl, List, [], ◌∷◌, length, map, slice_set, Option, Some, None, All}
use Rattle.std.proofs.Common.{subst}
use Rattle.std.proofs.Props.{props}
use Rattle.std.specs.Option.{ForSome}
use Rattle.rv64_isa.specs.Memory.{Cell, Cells, private_of, private_cells}
use Rattle.rv64_isa.specs.Numbers.{has_bit, wrapped}
use Rattle.address_maps.specs.Mappings.{IsMapping, AreApart, mapping_at, place_shown}
use Rattle.address_maps.specs.declared.maps.Mapping.{Mapping}
use Rattle.address_maps.specs.declared.maps.Place.{Place}
use Rattle.tables.specs.Lists.{on_first}
use Rattle.lists.specs.Bytes.{put}
use Rattle.group_defs.specs.Cells.{bytes_in, cells_of, object_place}
use Rattle.shadow_chains.specs.declared.entry.Entry.{Entry}
use Rattle.shadow_chains.specs.Chain.{with_range, HasRange, IsSubset}
use Rattle.shadow_chains.specs.Entries.{face_of}
use Rattle.shadow_chains.specs.Faces.{touched}

-- An object as its face shows it, however its layers lie: its number, how many pages it has and their bytes, the number and the bytes of
-- its base, and the set of pages that were written since the last freeze.
pub record ObjectView : Type 0 where
  pub number : ℕ
  pub pages : ℕ
  pub bytes : List ℕ
  pub base : Option ℕ
  pub base_bytes : List ℕ
  pub touched : List Bool

abbrev pub view_of : Entry → ObjectView
view_of e = record {
  number = e.number;
  pages = e.face.pages;
  bytes = e.face.bytes;
  base = e.face.base;
  base_bytes = e.face.base_bytes;
  touched = touched e.face;
}

abbrev pub views_of : List Entry → List ObjectView
views_of entries = map view_of entries

-- the objects as the flat table
abbrev pub memory_of : List ObjectView → List (ℕ × List ℕ)
memory_of objects = map (λ o. (o.number, o.bytes)) objects

-- what a process with these mappings sees of private mappings, whose objects these are
abbrev pub private_in : List ObjectView → List Mapping → Cells
private_in objects maps = private_cells (cells_of (memory_of objects) maps)

-- A byte put at a place of an object: its page is then in the set.
abbrev pub byte_into : List ObjectView → ℕ → ℕ → ℕ → List ObjectView
byte_into objects object place byte =
    on_first (λ o. o.number == object) (λ o. record o { bytes = slice_set o.bytes place byte; touched = with_range o.touched place 1 }) objects

-- A byte that a process stores is put at its address's place in the mapped object.
abbrev pub byte_into_at : List ObjectView → Option Mapping → ℕ → ℕ → List ObjectView
byte_into_at objects None address byte = objects
byte_into_at objects (Some m) address byte = byte_into objects m.object (object_place m address) byte

-- bytes from an address on; addresses are modulo 2^64
unfoldable pub stored_into : List ObjectView → List Mapping → ℕ → List ℕ → List ObjectView
stored_into objects maps address [] = objects
stored_into objects maps address (b ∷ bs) = stored_into (byte_into_at objects (mapping_at maps (wrapped address)) (wrapped address) b) maps (address + 1) bs

-- bytes put at a place of an object, all at once
abbrev pub with_bytes : ℕ → List ℕ → ObjectView → ObjectView
with_bytes place bytes o = record o { bytes = put o.bytes place bytes; touched = with_range o.touched place (length bytes) }

abbrev pub bytes_into : List ObjectView → ℕ → ℕ → List ℕ → List ObjectView
bytes_into objects object place bytes = on_first (λ o. o.number == object) (with_bytes place bytes) objects

-- Mappings that a process may have, of which each private one lies inside its object.
pub record PrivateFits (objects : List ObjectView) (maps : List Mapping) : Type 0 where
  pub each : All IsMapping maps
  pub apart : AreApart maps
  pub inside : All (λ m. m.shared ≡ false → 4096 * (m.first + m.pages) ≤ length (bytes_in (memory_of objects) m.object)) maps

pub PrivateFits-prop : (objects : List ObjectView) (maps : List Mapping) → IsProp (PrivateFits objects maps)
unfolding IsMapping AreApart
PrivateFits-prop objects maps = Prim.hlevel props

either_private : (test : Bool) (cell : Cell) → cell.shared ≡ test → ForSome (if test then None else Some cell) (λ c. c.shared ≡ false)
either_private true cell is c its = absurd cc
either_private false cell is c its = let e : cell ≡ c = cc in subst (λ (d : Cell). d.shared ≡ false) e is

own_private : (o : Option Cell) → ForSome (private_of o) (λ c. c.shared ≡ false)
own_private None c its = absurd cc
own_private (Some cell) c its = either_private cell.shared cell refl c its

-- what is seen of private mappings is private
pub all_private : (objects : List ObjectView) (maps : List Mapping) (address : ℕ) → ForSome (private_in objects maps address) (λ c. c.shared ≡ false)
all_private objects maps address = own_private (cells_of (memory_of objects) maps address)

-- what an address shows of a private mapping that has the right
pub record IsPrivatePlace (maps : List Mapping) (right address : ℕ) (place : Place) : Type 0 where
  pub mapping : Mapping
  pub is : mapping_at maps address ≡ Some mapping
  pub own : mapping.shared ≡ false
  pub able : has_bit mapping.prot right ≡ true
  pub shows : place ≡ place_shown address mapping

-- the pages of an object to which a write takes no memory
abbrev pub ready_of : List Entry → ℕ → List Bool
ready_of entries number = elim (face_of entries number) [ None ↦ [] | Some f ↦ f.ready ]

-- what is ready stays so, in each object
unfoldable pub StaysReady : List Entry → List Entry → Type 0
StaysReady old new = (number : ℕ) → IsSubset (ready_of old number) (ready_of new number)

-- a write of n bytes at a place of an object takes no memory
abbrev pub IsReadyFor : List Entry → ℕ → ℕ → ℕ → Type 0
IsReadyFor entries number place n = HasRange (ready_of entries number) place n

-- a store of n bytes at an address of a page takes no memory
abbrev pub IsPageReady : List Entry → List Mapping → ℕ → ℕ → Type 0
IsPageReady entries maps address n = (m : Mapping) → mapping_at maps address ≡ Some m → IsReadyFor entries m.object (object_place m address) n
