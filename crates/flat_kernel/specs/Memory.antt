-- The memory of the process that runs: its objects as a flat table, beside its mappings.
use Rattle.std.specs.Prelude.{◌≡◌, ◌<◌, ◌≤◌, ◌+◌, ◌*◌, ℕ, Bool, true, false, if◌then◌else◌, List, [], ◌∷◌, length, map, slice_index, slice_index_or, Option, Some, None, All, refl}
use Rattle.std.proofs.Common.{subst}
use Rattle.std.proofs.lemmas.List.Elements.{All-head, All-tail}
use Rattle.std.specs.Option.{ForSome}
use Rattle.std.proofs.Props.{props}
use Rattle.std.specs.declared.alloc.Global.{Global}
use Rattle.std.specs.declared.vec.Vec.{Vec}
use Rattle.address_maps.specs.declared.maps.Mapping.{Mapping}
use Rattle.group_defs.specs.Cells.{bytes_in, cell_in, cells_of, object_place}
use Rattle.address_maps.specs.Mappings.{has, mapping_at, AreApart, end_of}
use Rattle.group_defs.specs.Mappings.{IsUserMapping}
use Rattle.lists.specs.Bytes.{AreBytes}
use Rattle.rv64_isa.specs.Memory.{Cell}
use Rattle.tables.specs.Rising.{Rise}
use Rattle.flat_kernel.specs.declared.mapped_byte.MappedByte.{MappedByte}

-- objects as the flat table, each by its number
abbrev pub memory_in : List (ℕ × Vec ℕ Global) → List (ℕ × List ℕ)
memory_in objects = map (λ o. (o.0, o.1.items)) objects

-- each object's number, and how many bytes it has
abbrev pub shape : List (ℕ × List ℕ) → List (ℕ × ℕ)
shape memory = map (λ o. (o.0, length o.1)) memory

-- The mappings are private, placed and apart, and each lies inside its object. The objects rise by their numbers, and each has the
-- bytes of at most 16,384 pages.
pub record TableFits (memory : List (ℕ × List ℕ)) (maps : List Mapping) : Type 0 where
  pub placed : All IsUserMapping maps
  pub apart : AreApart maps
  pub unshared : All (λ m. m.shared ≡ false) maps
  pub inside : All (λ m. 4096 * (m.first + m.pages) ≤ length (bytes_in memory m.object)) maps
  pub rise : Rise (λ o. o.0) memory
  pub bytes : All (λ o. AreBytes o.1) memory
  pub sizes : All (λ o. length o.1 ≤ 4096 * 16384) memory

pub TableFits-prop : (memory : List (ℕ × List ℕ)) (maps : List Mapping) → IsProp (TableFits memory maps)
unfolding IsUserMapping AreApart Rise AreBytes
TableFits-prop memory maps = Prim.hlevel props

first_private : (test : Bool) (n m : Mapping) (rest : Option Mapping) → n.shared ≡ false → (rest ≡ Some m → m.shared ≡ false) → (if test then Some n else rest) ≡ Some m → m.shared ≡ false
first_private true n m rest here there is = let e : n ≡ m = cc in subst (λ (x : Mapping). x.shared ≡ false) e here
first_private false n m rest here there is = there is

private_at : (maps : List Mapping) → All (λ m. m.shared ≡ false) maps → (address : ℕ) (m : Mapping) → mapping_at maps address ≡ Some m → m.shared ≡ false
private_at [] all address m is = absurd cc
private_at (n ∷ maps) all address m is =
    first_private (has address n) n m (mapping_at maps address) (All-head (λ m. m.shared ≡ false) n maps all) (private_at maps (All-tail (λ m. m.shared ≡ false) n maps all) address m) is

private_cell : (memory : List (ℕ × List ℕ)) (address : ℕ) (o : Option Mapping) → ((m : Mapping) → o ≡ Some m → m.shared ≡ false)
    → ForSome (elim o [ None ↦ None | Some m ↦ Some (cell_in memory address m) ]) (λ c. c.shared ≡ false)
private_cell memory address None each c is = absurd cc
private_cell memory address (Some m) each c is = let e : cell_in memory address m ≡ c = cc in subst (λ (d : Cell). d.shared ≡ false) e (each m refl)

-- what they show is private
pub cells_private : (memory : List (ℕ × List ℕ)) (maps : List Mapping) → TableFits memory maps → (address : ℕ) → ForSome (cells_of memory maps address) (λ c. c.shared ≡ false)
unfolding cells_of
cells_private memory maps fits address = private_cell memory address (mapping_at maps address) (private_at maps fits.unshared address)

-- beside each mapping the place of its object in the table
pub record ArePlaces (memory : List (ℕ × List ℕ)) (maps : List Mapping) (places : List ℕ) : Type 0 where
  pub count : length places ≡ length maps
  pub within : (k : ℕ) → k < length maps → slice_index places k < length memory
  pub number : (k : ℕ) (m : Mapping) (o : ℕ × List ℕ) → k < length maps → (slice_index_or memory (slice_index places k) o).0 ≡ (slice_index_or maps k m).object

-- a mapping has the address, and the byte there lies where this says
pub record IsMappedByte (memory : List (ℕ × List ℕ)) (maps : List Mapping) (address : ℕ) (mapped : MappedByte) : Type 0 where
  pub mapping : Mapping
  pub is : mapping_at maps address ≡ Some mapping
  pub rights : mapped.rights ≡ mapping.prot
  pub within : mapped.object < length memory
  pub number : (o : ℕ × List ℕ) → (slice_index_or memory mapped.object o).0 ≡ mapping.object
  pub place : mapped.place ≡ object_place mapping address
  pub room : address + mapped.room ≡ end_of mapping
  pub inside : (o : ℕ × List ℕ) → mapped.place + mapped.room ≤ length (slice_index_or memory mapped.object o).1
