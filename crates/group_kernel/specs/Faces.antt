-- Faces over the last barrier: what lies below an object's layers, and which pages stand in them.
use Rattle.std.specs.Prelude.{◌≡◌, ℕ, ◌*◌, ◌-◌, ◌<◌, ◌==◌, Bool, false, if◌then◌else◌, List, [], All, Option, Some, None, length, slice_index_or}
use Rattle.group_defs.specs.Cells.{bytes_in}
use Rattle.group_defs.specs.Pages.{is_among}
use Rattle.proc_lease.specs.Private.{ObjectView}
use Rattle.run_defs.specs.Progress.{Progress, group_of_epoch}

-- The objects' bytes in the group of an epoch. A new disk has epoch 0, and no objects.
abbrev pub memory_of_epoch : Progress → ℕ → List (ℕ × List ℕ)
memory_of_epoch r epoch = if epoch == 0 then [] else elim (group_of_epoch r epoch) [ None ↦ [] | Some g ↦ g.memory ]

-- those over which the next checkpoint stands: of the last barrier, or of the origin
abbrev pub base_memory : Progress → List (ℕ × List ℕ)
base_memory r = memory_of_epoch r r.state.standing.last

-- the bytes of a base, of which there are none without one
abbrev pub bytes_below : List (ℕ × List ℕ) → Option ℕ → List ℕ
bytes_below memory None = []
bytes_below memory (Some number) = bytes_in memory number

-- An object's face stands over these bytes of the last barrier's objects: below its layers lie those of its base, and the pages that
-- stand in its layers are just those touched since.
pub record StandsOver (memory : List (ℕ × List ℕ)) (touched : List (ℕ × ℕ)) (o : ObjectView) : Type 0 where
  pub below : (i : ℕ) → i < 4096 * o.pages → slice_index_or o.base_bytes i 0 ≡ slice_index_or (bytes_below memory o.base) i 0
  pub count : length o.touched ≡ o.pages
  pub set : (page : ℕ) → page < o.pages → slice_index_or o.touched page false ≡ is_among touched (o.number, page)

abbrev pub AllStandOver : List (ℕ × List ℕ) → List (ℕ × ℕ) → List ObjectView → Type 0
AllStandOver memory touched objects = All (StandsOver memory touched) objects
