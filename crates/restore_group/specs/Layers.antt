-- The pages of a placement by object, and the layers that are read of them.
use Rattle.std.specs.Prelude.{◌≡◌, ℕ, ◌==◌, if◌then◌else◌, List, [], ◌∷◌, map, length}
use Rattle.std.specs.List.{AllByRecursion, AllZip}
use Rattle.group_defs.specs.declared.frame.ObjectRec.{ObjectRec}
use Rattle.lists.specs.Bytes.{AreBytes}
use Rattle.ckpt_chain.specs.Chain.{block}
use Rattle.ckpt_records.specs.declared.meta.PagePlace.{PagePlace}
use Rattle.mem_objects.specs.Pages.{Pages, IsZero}

-- the pages of an object at the front of a list, and those behind them
unfoldable pub front : ℕ → List PagePlace → List PagePlace
front object [] = []
front object (p ∷ pages) = if p.object == object then p ∷ front object pages else []

unfoldable pub behind : ℕ → List PagePlace → List PagePlace
behind object [] = []
behind object (p ∷ pages) = if p.object == object then behind object pages else p ∷ pages

-- the pages of each object, in the objects' order
unfoldable pub shared_out : List ObjectRec → List PagePlace → List (ℕ × List PagePlace)
shared_out [] pages = []
shared_out (o ∷ objects) pages = (o.number, front o.number pages) ∷ shared_out objects (behind o.number pages)

-- the layer that an image has of an object's pages
abbrev pub layer_in : List ℕ → List PagePlace → Pages
layer_in image own = map (λ p. (p.page, block image p.block)) own

abbrev pub layers_in : List ℕ → List (ℕ × List PagePlace) → List (ℕ × Pages)
layers_in image shared = map (λ s. (s.0, layer_in image s.1)) shared

-- none of these pages is all zero in the image
unfoldable pub NoneZero : List ℕ → List PagePlace → Type 0
NoneZero image pages = AllByRecursion (λ p. IsZero (block image p.block) → ⊥) pages

-- a whole page that isn't all zero
pub record IsPage (bytes : List ℕ) : Type 0 where
  pub whole : length bytes ≡ 4096
  pub in_range : AreBytes bytes
  pub not_zero : IsZero bytes → ⊥

-- the layer has just these pages, whole and none all zero
pub record IsLayerOf (own : List PagePlace) (layer : Pages) : Type 0 where
  pub numbers : map (λ l. l.0) layer ≡ map (λ p. p.page) own
  pub pages : AllByRecursion (λ l. IsPage l.1) layer

abbrev pub AreLayersOf : List (ℕ × List PagePlace) → List (ℕ × Pages) → Type 0
AreLayersOf shared layers = AllZip (λ s l. (l.0 ≡ s.0) × IsLayerOf s.1 l.1) shared layers
