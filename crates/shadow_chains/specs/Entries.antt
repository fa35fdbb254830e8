-- A table of faces, as the list of its entries.
use Rattle.std.specs.Prelude.{ℕ, List, if◌then◌else◌, is_some, Option}
use Rattle.std.specs.Option.{option_map}
use Rattle.tables.specs.Rising.{entry_of, added, replaced}
use Rattle.shadow_chains.specs.declared.entry.Entry.{Entry}
use Rattle.shadow_chains.specs.Faces.{FaceView}

-- the number of an entry
abbrev pub number_of : Entry → ℕ
number_of entry = entry.number

-- an entry
abbrev pub entry_with : ℕ → FaceView → Entry
entry_with number face = record { number = number; face = face }

-- the face of a number
abbrev pub face_of : List Entry → ℕ → Option FaceView
face_of entries number = option_map (λ entry. entry.face) (entry_of number_of entries number)

-- the entries with this face under this number, in the place of the one that is there
abbrev pub with_face : List Entry → ℕ → FaceView → List Entry
with_face entries number face =
    if is_some (face_of entries number) then replaced number_of entries (entry_with number face) else added number_of entries (entry_with number face)
