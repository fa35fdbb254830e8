-- What the objects behind a process's faces have to do with a group.
use Rattle.std.specs.Prelude.{◌≡◌, ◌==◌, ℕ, Bool, false, List, [], map, slice_index_or, Some, None, All}
use Rattle.std.specs.List.{find}
use Rattle.address_maps.specs.declared.maps.Mapping.{Mapping}
use Rattle.group_defs.specs.Cells.{bytes_in}
use Rattle.proc_lease.specs.Private.{ObjectView, memory_of}

-- each object that is mapped privately has the bytes that it has in a flat table
abbrev pub HavePrivate : List ObjectView → List (ℕ × List ℕ) → List Mapping → Type 0
HavePrivate objects memory maps = All (λ m. m.shared ≡ false → bytes_in (memory_of objects) m.object ≡ bytes_in memory m.object) maps

-- the set of the object of this number, and whether a page is in its object's set
abbrev pub set_of : List ObjectView → ℕ → List Bool
set_of objects number = elim (find (λ o. o.number == number) objects) [ None ↦ [] | Some o ↦ o.touched ]

abbrev pub is_in_set : List ObjectView → ℕ × ℕ → Bool
is_in_set objects page = slice_index_or (set_of objects page.0) page.1 false

-- object by object the same number, as many pages, and the same base with the same bytes
pub record KeepBases (old new : List ObjectView) : Type 0 where
  pub numbers : map (λ o. o.number) new ≡ map (λ o. o.number) old
  pub pages : map (λ o. o.pages) new ≡ map (λ o. o.pages) old
  pub bases : map (λ o. o.base) new ≡ map (λ o. o.base) old
  pub base_bytes : map (λ o. o.base_bytes) new ≡ map (λ o. o.base_bytes) old
