-- The mappings and the faces of the processes that tests run.
use Rattle.std.specs.Prelude.{ℕ, Bool, false, List, [], ◌∷◌}
use Rattle.address_maps.specs.declared.maps.Mapping.{Mapping}
use Rattle.shadow_chains.specs.Faces.{FaceView}
use Rattle.shadow_chains.specs.declared.entry.Entry.{Entry}
use Rattle.shadow_chains.specs.Entries.{entry_with}

abbrev pub two_pages_of : ℕ → ℕ → Bool → ℕ → Mapping
two_pages_of start prot shared object = record { start = start; pages = 2; prot = prot; shared = shared; object = object; first = 0 }

-- the program at 0x1000 with its rights, then the data at 0x3000 with its own
abbrev pub both_maps : ℕ → ℕ → Bool → List Mapping
both_maps of_program of_data shared = two_pages_of 4096 of_program false 3 ∷ two_pages_of 12288 of_data shared 7 ∷ []

abbrev pub both_faces : FaceView → FaceView → List Entry
both_faces low high = entry_with 3 low ∷ entry_with 7 high ∷ []
