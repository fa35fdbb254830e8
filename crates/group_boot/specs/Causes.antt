-- Why no file, no image and no manifest was read.
use Rattle.std.specs.Prelude.{◌≡◌, ◌≤◌, ℕ, ⊤, List, Some, None, length}
use Rattle.std.specs.Option.{ForSome}
use Rattle.dev_traits.specs.Counts.{Rose}
use Rattle.dev_traits.specs.Outside.{FilesView}
use Rattle.group_boot.specs.Manifest.{NamesImage}
use Rattle.group_boot.specs.declared.manifest.LoadRefused.{LoadRefused}
use Rattle.group_boot.specs.declared.manifest.LoadRefused.TheVariants as loads

abbrev pub RefusedByFiles : List ℕ → FilesView → FilesView → LoadRefused → Type 0
RefusedByFiles word before after loads.NotBuilt = ForSome before.contents (λ held. (image : List ℕ) → NamesImage held word image → ⊥)
RefusedByFiles word before after loads.FilesFault = Rose before.faults after.faults
RefusedByFiles word before after loads.NoMemory = ⊤

-- why no file was read
abbrev pub NoFile : List ℕ → FilesView → FilesView → LoadRefused → Type 0
NoFile name before after loads.NotBuilt = ForSome before.contents (λ held. held name ≡ None)
NoFile name before after loads.FilesFault = Rose before.faults after.faults
NoFile name before after loads.NoMemory = ⊤

-- why no image was read
abbrev pub NoImage : List ℕ → FilesView → FilesView → LoadRefused → Type 0
NoImage name before after loads.NotBuilt =
    ForSome before.contents (λ held. (image : List ℕ) → held name ≡ Some image → (1 ≤ length image) × (length image ≤ 16777216) → ⊥)
NoImage name before after loads.FilesFault = Rose before.faults after.faults
NoImage name before after loads.NoMemory = ⊤
