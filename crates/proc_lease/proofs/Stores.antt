-- What bytes stored come to: in the objects, and in what is seen.
use Rattle.std.proofs.Common.{◌≡◌, ◌≢◌, ℕ, ◌+◌, ◌<◌, ◌==◌, ◌&&◌, Bool, true, false, List, [], ◌∷◌, length, get_or, Option, Some, None, refl, ap, ◌∙◌, subst, arith, rules, length-set, get_or-set_same, get_or-set_other}
use Rattle.std.proofs.Math.Path.{fun_ext}
use Rattle.std.specs.Prelude.{if◌then◌else◌, slice_index, slice_set}
use Rattle.std.specs.Option.{option_map}
use Rattle.rv64_isa.specs.Memory.{Cell, is_same_place, poked}
use Rattle.rv64_isa.specs.Numbers.{wrapped}
use Rattle.address_maps.specs.declared.maps.Mapping.{Mapping}
use Rattle.address_maps.specs.Mappings.{mapping_at}
use Rattle.tables.specs.Lists.{on_first}
use Rattle.group_defs.specs.Cells.{bytes_in, cell_in, cells_of, object_place, with_byte, with_byte_at}
use Rattle.proc_lease.specs.Private.{ObjectView, memory_of, byte_into, byte_into_at, stored_into, PrivateFits}

-- ---- the flat table

pub itself : (n : ℕ) → (n == n) ≡ true
itself n = search rules

memory_byte : (objects : List ObjectView) (object place b : ℕ) → memory_of (byte_into objects object place b) ≡ with_byte (memory_of objects) object place b
unfolding on_first
memory_byte [] object place b = refl
memory_byte (o ∷ os) object place b = by_test (memory_byte os object place b) (o.number == object) refl
  where
    by_test : memory_of (byte_into os object place b) ≡ with_byte (memory_of os) object place b → (t : Bool) → (o.number == object) ≡ t → memory_of (byte_into (o ∷ os) object place b) ≡ with_byte (memory_of (o ∷ os)) object place b
    by_test rest true e = let same : o.number ≡ object = grind (arith, e) in rw (e, on_first) (ap (λ (n : ℕ). (n, slice_set o.bytes place b) ∷ memory_of os) same)
    by_test rest false e = rw (e, on_first) (ap (λ (l : List (ℕ × List ℕ)). (o.number, o.bytes) ∷ l) rest)

pub memory_byte_at : (objects : List ObjectView) (m : Option Mapping) (a b : ℕ) → memory_of (byte_into_at objects m a b) ≡ with_byte_at (memory_of objects) m a b
memory_byte_at objects None a b = refl
memory_byte_at objects (Some m) a b = memory_byte objects m.object (object_place m a) b

same_cons : (o : ℕ × List ℕ) (os : List (ℕ × List ℕ)) (object place b : ℕ) (t : Bool) → (o.0 == object) ≡ t → bytes_in (with_byte os object place b) object ≡ slice_set (bytes_in os object) place b → bytes_in (with_byte (o ∷ os) object place b) object ≡ slice_set (bytes_in (o ∷ os) object) place b
unfolding on_first
same_cons o os object place b true e ih = rw (bytes_in, e) (rw (bytes_in, itself object) refl)
same_cons o os object place b false e ih = rw (bytes_in, e) (rw (bytes_in, e) ih)

bytes_same : (memory : List (ℕ × List ℕ)) (object place b : ℕ) → bytes_in (with_byte memory object place b) object ≡ slice_set (bytes_in memory object) place b
unfolding on_first
bytes_same [] object place b = refl
bytes_same (o ∷ os) object place b = same_cons o os object place b (o.0 == object) refl (bytes_same os object place b)

other_cons : (o : ℕ × List ℕ) (os : List (ℕ × List ℕ)) (object place b number : ℕ) (t u : Bool) → (o.0 == object) ≡ t → (o.0 == number) ≡ u → (object == number) ≡ false → bytes_in (with_byte os object place b) number ≡ bytes_in os number → bytes_in (with_byte (o ∷ os) object place b) number ≡ bytes_in (o ∷ os) number
unfolding on_first
other_cons o os object place b number true true e f differ ih = grind (arith, e, f, differ)
other_cons o os object place b number true false e f differ ih = rw (bytes_in, e) (rw (bytes_in, differ) (rw (bytes_in, f) refl))
other_cons o os object place b number false true e f differ ih = rw (bytes_in, e) (rw (bytes_in, f) refl)
other_cons o os object place b number false false e f differ ih = rw (bytes_in, e) (rw (bytes_in, f) ih)

bytes_other : (memory : List (ℕ × List ℕ)) (object place b number : ℕ) → (object == number) ≡ false → bytes_in (with_byte memory object place b) number ≡ bytes_in memory number
unfolding on_first
bytes_other [] object place b number differ = refl
bytes_other (o ∷ os) object place b number differ = other_cons o os object place b number (o.0 == object) (o.0 == number) refl refl differ (bytes_other os object place b number differ)

set_law : (xs : List ℕ) (place b at : ℕ) (u : Bool) → (place == at) ≡ u → place < length xs → slice_index (slice_set xs place b) at ≡ (if u then b else slice_index xs at)
set_law xs place b at true e within = let same : place ≡ at = grind (arith, e) in let lt : at < length xs = omega (arith, same, within) in rw same (rw get_or-set_same refl)
set_law xs place b at false e within = let other : at ≢ place = grind (arith, e) in rw get_or-set_other refl

-- the byte at a place of an object
byte_law : (memory : List (ℕ × List ℕ)) (object place b number at : ℕ) (t u : Bool) → (object == number) ≡ t → (place == at) ≡ u → place < length (bytes_in memory object) → slice_index (bytes_in (with_byte memory object place b) number) at ≡ (if t && u then b else slice_index (bytes_in memory number) at)
byte_law memory object place b number at false u e f within = ap (λ l. slice_index l at) (bytes_other memory object place b number e)
byte_law memory object place b number at true u e f within =
    let same : object ≡ number = grind (arith, e) in
    let Here : ℕ → Type 0 = λ n. slice_index (bytes_in (with_byte memory object place b) n) at ≡ (if u then b else slice_index (bytes_in memory n) at) in
    subst Here same (ap (λ l. slice_index l at) (bytes_same memory object place b) ∙ set_law (bytes_in memory object) place b at u f within)

abbrev cell : ℕ → ℕ → Bool → ℕ → ℕ → Cell
cell byte rights shared object place = record { byte = byte; rights = rights; shared = shared; object = object; place = place }

abbrev seen : List (ℕ × List ℕ) → ℕ → Option Mapping → Option Cell
seen memory x None = None
seen memory x (Some m) = Some (cell_in memory x m)

abbrev with_if : Bool → Cell → ℕ → Cell
with_if hit c byte = if hit then record c { byte = byte } else c

cell_law : (hit : Bool) (new byte b : ℕ) (rights : ℕ) (shared : Bool) (object place : ℕ) → new ≡ (if hit then b else byte) → cell new rights shared object place ≡ with_if hit (cell byte rights shared object place) b
cell_law true new byte b rights shared object place e = ap (λ v. cell v rights shared object place) e
cell_law false new byte b rights shared object place e = ap (λ v. cell v rights shared object place) e

mapped_law : (memory : List (ℕ × List ℕ)) (c : Cell) (b x : ℕ) (o : Option Mapping) → c.place < length (bytes_in memory c.object) → seen (with_byte memory c.object c.place b) x o ≡ option_map (λ d. with_if (is_same_place (Some c) d) d b) (seen memory x o)
mapped_law memory c b x None within = refl
mapped_law memory c b x (Some m) within =
    ap (λ d. Some d) (cell_law ((c.object == m.object) && (c.place == object_place m x)) _ _ b m.prot m.shared m.object (object_place m x) (byte_law memory c.object c.place b m.object (object_place m x) (c.object == m.object) (c.place == object_place m x) refl refl within))

-- a byte stored at a place of an object
sight_byte : (memory : List (ℕ × List ℕ)) (maps : List Mapping) (c : Cell) (b x : ℕ) → c.place < length (bytes_in memory c.object) → cells_of (with_byte memory c.object c.place b) maps x ≡ option_map (λ d. with_if (is_same_place (Some c) d) d b) (cells_of memory maps x)
unfolding cells_of
sight_byte memory maps c b x within = mapped_law memory c b x (mapping_at maps x) within

unchanged : (o : Option Cell) (b : ℕ) → o ≡ option_map (λ d. if false then record d { byte = b } else d) o
unchanged None b = refl
unchanged (Some c) b = refl

stored_one : (memory : List (ℕ × List ℕ)) (maps others : List Mapping) (a b x : ℕ) (o : Option Mapping) → mapping_at maps a ≡ o → ((m : Mapping) → o ≡ Some m → object_place m a < length (bytes_in memory m.object)) → cells_of (with_byte_at memory o a b) others x ≡ option_map (λ d. with_if (is_same_place (seen memory a o) d) d b) (cells_of memory others x)
stored_one memory maps others a b x None is inside = unchanged (cells_of memory others x) b
stored_one memory maps others a b x (Some m) is inside = sight_byte memory others (cell_in memory a m) b x (inside m refl)

-- a byte stored where the mapping's place lies inside its object
pub poked_one : (memory : List (ℕ × List ℕ)) (maps : List Mapping) (a b : ℕ) → ((m : Mapping) → mapping_at maps a ≡ Some m → object_place m a < length (bytes_in memory m.object)) → cells_of (with_byte_at memory (mapping_at maps a) a b) maps ≡ poked (cells_of memory maps) a b
unfolding cells_of poked
poked_one memory maps a b inside = fun_ext (λ x. stored_one memory maps maps a b x (mapping_at maps a) refl inside)

-- ---- sizes

size_kept : (memory : List (ℕ × List ℕ)) (object place b number : ℕ) → length (bytes_in (with_byte memory object place b) number) ≡ length (bytes_in memory number)
size_kept memory object place b number = by_number (object == number) refl
  where
    by_number : (t : Bool) → (object == number) ≡ t → length (bytes_in (with_byte memory object place b) number) ≡ length (bytes_in memory number)
    by_number false e = ap length (bytes_other memory object place b number e)
    by_number true e =
        let same : object ≡ number = grind (arith, e) in
        let Here : ℕ → Type 0 = λ n. length (bytes_in (with_byte memory object place b) n) ≡ length (bytes_in memory n) in
        subst Here same (ap length (bytes_same memory object place b) ∙ length-set (bytes_in memory object) place b)

size_kept_at : (memory : List (ℕ × List ℕ)) (a b number : ℕ) (o : Option Mapping) → length (bytes_in (with_byte_at memory o a b) number) ≡ length (bytes_in memory number)
size_kept_at memory a b number None = refl
size_kept_at memory a b number (Some m) = size_kept memory m.object (object_place m a) b number

pub size_after : (objects : List ObjectView) (a b number : ℕ) (o : Option Mapping) → length (bytes_in (memory_of (byte_into_at objects o a b)) number) ≡ length (bytes_in (memory_of objects) number)
size_after objects a b number o = ap (λ (l : List (ℕ × List ℕ)). length (bytes_in l number)) (memory_byte_at objects o a b) ∙ size_kept_at (memory_of objects) a b number o

pub size_after_byte : (objects : List ObjectView) (object place b number : ℕ) → length (bytes_in (memory_of (byte_into objects object place b)) number) ≡ length (bytes_in (memory_of objects) number)
size_after_byte objects object place b number = ap (λ (l : List (ℕ × List ℕ)). length (bytes_in l number)) (memory_byte objects object place b) ∙ size_kept (memory_of objects) object place b number

-- objects of the same sizes fit the same mappings
pub same_sizes_fit : (old new : List ObjectView) (maps : List Mapping) → ((number : ℕ) → length (bytes_in (memory_of new) number) ≡ length (bytes_in (memory_of old) number)) → PrivateFits old maps → PrivateFits new maps
same_sizes_fit old new maps same fits = record {
  each = fits.each;
  apart = fits.apart;
  inside = λ k d lt own. omega (arith, same (get_or maps k d).object, fits.inside k d lt own);
}

pub sizes_stored : (objects : List ObjectView) (maps : List Mapping) (a : ℕ) (bytes : List ℕ) (number : ℕ) → length (bytes_in (memory_of (stored_into objects maps a bytes)) number) ≡ length (bytes_in (memory_of objects) number)
unfolding stored_into
sizes_stored objects maps a [] number = refl
sizes_stored objects maps a (b ∷ bs) number =
    sizes_stored (byte_into_at objects (mapping_at maps (wrapped a)) (wrapped a) b) maps (a + 1) bs number
    ∙ size_after objects (wrapped a) b number (mapping_at maps (wrapped a))

-- what fits goes on fitting
pub stored_fits : (objects : List ObjectView) (maps : List Mapping) (a : ℕ) (bytes : List ℕ) → PrivateFits objects maps → PrivateFits (stored_into objects maps a bytes) maps
stored_fits objects maps a bytes fits = same_sizes_fit objects (stored_into objects maps a bytes) maps (sizes_stored objects maps a bytes) fits
