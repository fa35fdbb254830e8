-- Bytes stored into the objects are stored into what is seen of private mappings.
use Rattle.std.proofs.Common.{◌≡◌, ℕ, ◌+◌, ◌*◌, ◌<◌, ◌≤◌, ◌&&◌, Bool, true, false, List, [], ◌∷◌, length, Option, Some, None, refl, sym, ap, ◌∙◌, arith}
use Rattle.std.specs.Prelude.{if◌then◌else◌, is_some}
use Rattle.rv64_isa.specs.Memory.{Cell, Cells, private_of, private_cells, byte_of, both, bytes_with, can_write, poked, stored}
use Rattle.rv64_isa.specs.Numbers.{wrapped}
use Rattle.rv64_isa.specs.PlaceLaws.{can_write-poked, private_cells-poked}
use Rattle.address_maps.specs.declared.maps.Mapping.{Mapping}
use Rattle.address_maps.specs.Mappings.{has, mapping_at, end_of}
use Rattle.group_defs.specs.Cells.{bytes_in, cells_of, object_place}
use Rattle.proc_lease.specs.Private.{ObjectView, memory_of, private_in, byte_into_at, stored_into, PrivateFits}
use Rattle.proc_lease.proofs.Mapped.{found_has, mapped_cell}
use Rattle.proc_lease.proofs.Stores.{memory_byte_at, poked_one, size_after, same_sizes_fit}

pub is_some-both : (x : Option ℕ) (r : Option (List ℕ)) → is_some (both x r) ≡ (is_some x && is_some r)
is_some-both None r = refl
is_some-both (Some b) None = refl
is_some-both (Some b) (Some bs) = refl

own_cell : (s : Bool) (c : Cell) → is_some (byte_of 2 (if s then None else Some c)) ≡ true → (if s then None else Some c) ≡ Some c
own_cell true c h = cc
own_cell false c h = refl

own : (o : Option Cell) → is_some (byte_of 2 (private_of o)) ≡ true → private_of o ≡ o
own None h = refl
own (Some c) h = own_cell c.shared c h

first_of_and : (x y : Bool) → (x && y) ≡ true → x ≡ true
first_of_and true y h = refl
first_of_and false y h = cc

second_of_and : (x y : Bool) → (x && y) ≡ true → y ≡ true
second_of_and true y h = h
second_of_and false y h = cc

-- the place of an address that can be stored at lies inside its object
inside_if : (objects : List ObjectView) (maps : List Mapping) (a : ℕ) (m : Mapping) (t : Bool) → PrivateFits objects maps → mapping_at maps a ≡ Some m → m.shared ≡ t → is_some (byte_of 2 (private_in objects maps a)) ≡ true → object_place m a < length (bytes_in (memory_of objects) m.object)
inside_if objects maps a m true fits found is able = absurd (let none = ap (λ o. is_some (byte_of 2 o)) (mapped_cell objects maps a m true found is) in cc)
inside_if objects maps a m false fits found is able =
    let here = found_has (λ n. n.shared ≡ false → 4096 * (n.first + n.pages) ≤ length (bytes_in (memory_of objects) n.object)) (has a) maps m fits.inside found in
    let low : m.start ≤ a = grind (arith, here.1) in
    let high : a < end_of m = grind (arith, here.1) in
    omega (arith, here.0 is, low, high)

-- one byte
pub one_stored : (objects : List ObjectView) (maps : List Mapping) (a b : ℕ) → PrivateFits objects maps → is_some (byte_of 2 (private_in objects maps a)) ≡ true → private_in (byte_into_at objects (mapping_at maps a) a b) maps ≡ poked (private_in objects maps) a b
one_stored objects maps a b fits able =
    ap (λ (l : List (ℕ × List ℕ)). private_cells (cells_of l maps)) (memory_byte_at objects (mapping_at maps a) a b)
    ∙ ap private_cells (poked_one (memory_of objects) maps a b (λ m found. inside_if objects maps a m m.shared fits found refl able))
    ∙ private_cells-poked (cells_of (memory_of objects) maps) a b (own (cells_of (memory_of objects) maps a) able)

pub stored_seen : (objects : List ObjectView) (maps : List Mapping) (a : ℕ) (bytes : List ℕ) → PrivateFits objects maps → can_write (private_in objects maps) a (length bytes) ≡ true → private_in (stored_into objects maps a bytes) maps ≡ stored (private_in objects maps) a bytes
unfolding stored_into stored bytes_with
stored_seen objects maps a [] fits can = refl
stored_seen objects maps a (b ∷ bs) fits can =
    let cells : Cells = private_in objects maps in
    let parts = sym (is_some-both (byte_of 2 (cells (wrapped a))) (bytes_with 2 cells (a + 1) (length bs))) ∙ can in
    let here = first_of_and (is_some (byte_of 2 (cells (wrapped a)))) (can_write cells (a + 1) (length bs)) parts in
    let rest = second_of_and (is_some (byte_of 2 (cells (wrapped a)))) (can_write cells (a + 1) (length bs)) parts in
    let next : List ObjectView = byte_into_at objects (mapping_at maps (wrapped a)) (wrapped a) b in
    let one : private_in next maps ≡ poked cells (wrapped a) b = one_stored objects maps (wrapped a) b fits here in
    let still : can_write (private_in next maps) (a + 1) (length bs) ≡ true = ap (λ (m : Cells). can_write m (a + 1) (length bs)) one ∙ can_write-poked cells (wrapped a) b (a + 1) (length bs) ∙ rest in
    let fits' : PrivateFits next maps = same_sizes_fit objects next maps (λ number. size_after objects (wrapped a) b number (mapping_at maps (wrapped a))) fits in
    stored_seen next maps (a + 1) bs fits' still ∙ ap (λ (m : Cells). stored m (a + 1) bs) one
