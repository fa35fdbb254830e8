-- What the end of a process leaves of rows, descriptions and objects.
use Rattle.std.specs.Prelude.{◌≡◌, ◌≤◌, ℕ, ◌==◌, ◌&&◌, ◌||◌, not, nat_lt, Bool, true, if◌then◌else◌, List, [], ◌++◌, take, drop, map, All, None, is_some}
use Rattle.std.specs.List.{filter, list_any}
use Rattle.address_maps.specs.declared.maps.Mapping.{Mapping}
use Rattle.descriptors.specs.Opens.{descriptions, owners_of}
use Rattle.descriptors.specs.declared.counted.Counted.{Counted}
use Rattle.group_defs.specs.declared.frame.ProcState.TheVariants.{Running, Ended}
use Rattle.group_kernel.specs.declared.row.Row.{Row}
use Rattle.shadow_chains.specs.Entries.{face_of, number_of}
use Rattle.shadow_chains.specs.declared.entry.Entry.{Entry}
use Rattle.tables.specs.Rising.{removed}
use Rattle.tables.specs.Rows.{Rows}

abbrev pub maps_any : List Mapping → ℕ → Bool
maps_any maps number = list_any (λ m. m.object == number) maps

abbrev pub row_maps : ℕ → Row → Bool
row_maps number row = maps_any row.shared number

-- An object stays where the process that ends doesn't map it, which has a face of it or maps it shared, or a row that is left does.
abbrev pub stays_shared : List Mapping → List Row → ℕ → Bool
stays_shared shared rows number = not (maps_any shared number) || list_any (row_maps number) rows

abbrev pub without_unmapped : List Row → ℕ → List Entry → List Entry
without_unmapped rows number entries = if list_any (row_maps number) rows then entries else removed number_of entries number

abbrev pub stays_by : List Entry → List Mapping → List Row → ℕ → Bool
stays_by faces shared rows number = not (is_some (face_of faces number) || maps_any shared number) || list_any (row_maps number) rows

-- The row that ends keeps its pid, its parent and its status.
abbrev pub ended_row : ℕ → Rows (ℕ × ℕ) → Row → Row
ended_row status fds row = record {
  pid = row.pid;
  parent = row.parent;
  state = Ended status;
  brk_base = 0;
  brk = 0;
  shared = [];
  fds = fds;
  process = None;
}

-- It is left where it has a parent, and of its children those that run, which have no parent any more.
abbrev pub remains : ℕ → Row → Bool
remains pid row = if row.pid == pid then not (row.parent == 0) else elim row.state [ Running ↦ true | Ended status ↦ not (row.parent == pid) ]

abbrev pub without_parent : ℕ → Row → Row
without_parent pid row = if not (row.pid == pid) && (row.parent == pid) then record row { parent = 0 } else row

abbrev pub rows_left_by : ℕ → List Row → List Row
rows_left_by pid rows = map (without_parent pid) (filter (remains pid) rows)

-- a list of which what stands from a place on is still to be filtered
abbrev pub filtered_from : {X : Type 0} → (X → Bool) → ℕ → List X → List X
filtered_from test place xs = take place xs ++ filter test (drop place xs)

-- Descriptions whose last owner goes, go: the others are left.
abbrev pub is_owned : List Counted → ℕ → Bool
is_owned opens number = nat_lt 0 (owners_of opens number)

abbrev pub AllOwned : List Counted → Type 0
AllOwned opens = All (λ o. is_owned opens o.number ≡ true) (descriptions opens)

pub record LeavesOwned (old new : List Counted) : Type 0 where
  pub fewer : (number : ℕ) → owners_of new number ≤ owners_of old number
  pub left : AllOwned old → descriptions new ≡ filter (λ o. is_owned new o.number) (descriptions old)
