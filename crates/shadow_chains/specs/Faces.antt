-- What a face shows.
use Rattle.std.specs.Prelude.{◌≡◌, ℕ, ◌+◌, ◌≤◌, List, [], ◌∷◌, ◌++◌, length, Bool, true, is_some, Option, IfSome, drop, take}
use Rattle.mem_objects.specs.Pages.{Pages}
use Rattle.shadow_chains.specs.Chain.{flat, page_set}
use Rattle.shadow_chains.specs.Own.{Own}

-- How many pages it has and their bytes; the number of its base, and the base's bytes; the layers since the last freeze, from the oldest to its
-- own; the pages to which a write takes no memory; whether it is prepared; how many layers it looks through.
pub record FaceView : Type 0 where
  pub pages : ℕ
  pub bytes : List ℕ
  pub base : Option ℕ
  pub base_bytes : List ℕ
  pub layers : List Pages
  pub ready : List Bool
  pub prepared : Bool
  pub depth : ℕ

-- the pages that stand in the layers since the last freeze
abbrev pub touched : FaceView → List Bool
touched f = page_set f.layers f.pages

-- a face over all its layers, of which those from a place on were laid since the last freeze, with its own on top
abbrev pub see : ℕ → Option ℕ → List Pages → ℕ → Own → Option (List Pages) → FaceView
see pages base layers since own spare = record {
  pages = pages;
  bytes = flat (layers ++ own.pages ∷ []) pages;
  base = base;
  base_bytes = flat (take since layers) pages;
  layers = drop since layers ++ own.pages ∷ [];
  ready = page_set (own.room ∷ own.pages ∷ []) pages;
  prepared = is_some spare;
  depth = length layers + 1;
}

-- a spare list has the layers since the freeze, and then the own one is empty
pub record Stands (layers : List Pages) (since : ℕ) (own : Own) (spare : Option (List Pages)) : Type 0 where
  pub since_fits : since ≤ length layers
  pub spare_is : IfSome spare (λ l. l ≡ drop since layers)
  pub empty : is_some spare ≡ true → own.pages ≡ []

-- as many pages, over the same base
abbrev pub SameBase : FaceView → FaceView → Type 0
SameBase old new = record { pages : new.pages ≡ old.pages; number : new.base ≡ old.base; bytes : new.base_bytes ≡ old.base_bytes }
