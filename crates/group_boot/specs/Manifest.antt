-- The manifest of one flat image, and the image that it names.
use Rattle.std.specs.Prelude.{◌≡◌, ℕ, ◌≤◌, List, [], ◌∷◌, ◌++◌, length, Option, Some}
use Rattle.std.specs.List.{AllByRecursion}
use Rattle.std.specs.Option.{ForSome}
use Rattle.dev_traits.specs.Outside.{FilesView}

-- `aurora 1`, line feed, `flat `
abbrev pub heading : List ℕ
heading = 97 ∷ 117 ∷ 114 ∷ 111 ∷ 114 ∷ 97 ∷ 32 ∷ 49 ∷ 10 ∷ 102 ∷ 108 ∷ 97 ∷ 116 ∷ 32 ∷ []

-- the manifest of one flat image: the heading, the image's name and a line feed
pub record IsFlat (manifest name : List ℕ) : Type 0 where
  pub text : manifest ≡ heading ++ (name ++ 10 ∷ [])
  pub size : (1 ≤ length name) × (length name ≤ 64)
  pub printed : AllByRecursion (λ b. (33 ≤ b) × (b ≤ 126)) name

-- the manifest of this name is there, and the image that it names, with 1 to 16,777,216 bytes
pub record NamesImage (contents : List ℕ → Option (List ℕ)) (word image : List ℕ) : Type 0 where
  pub manifest : List ℕ
  pub name : List ℕ
  pub found : contents word ≡ Some manifest
  pub flat : IsFlat manifest name
  pub there : contents name ≡ Some image
  pub size : (1 ≤ length image) × (length image ≤ 16777216)

-- The same as far as the files tell what they have.
pub record IsNamed (files : FilesView) (word image : List ℕ) : Type 0 where
  pub named : ForSome files.contents (λ contents. NamesImage contents word image)
  pub size : (1 ≤ length image) × (length image ≤ 16777216)
