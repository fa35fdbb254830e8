-- The group that parts stand for.
use Rattle.std.specs.Prelude.{◌≡◌, ℕ, List, [], ◌∷◌, map, replicate, Some, None}
use Rattle.std.specs.List.{flat_map, range_with_len}
use Rattle.group_defs.specs.declared.frame.ObjectRec.{ObjectRec}
use Rattle.group_defs.specs.Group.{Group}
use Rattle.group_defs.specs.Pages.{nonzero_pages}
use Rattle.mem_objects.specs.Pages.{Pages, page_of}
use Rattle.ckpt_records.specs.declared.origin.Parts.{Parts}

-- a page's bytes: zeros where the layer doesn't have it
abbrev pub page_in : Pages → ℕ → List ℕ
page_in layer page = elim (page_of layer page) [ Some bytes ↦ bytes | None ↦ replicate 4096 0 ]

-- the bytes of an object of so many pages
unfoldable pub object_bytes : ℕ → Pages → List ℕ
object_bytes pages layer = flat_map (page_in layer) (range_with_len 0 pages)

-- The flat table of objects, each paired with the layer in its place. Pages past the object don't count here.
unfoldable pub memory_of : List ObjectRec → List (ℕ × Pages) → List (ℕ × List ℕ)
memory_of [] layers = []
memory_of (o ∷ objects) [] = (o.number, object_bytes o.pages []) ∷ memory_of objects []
memory_of (o ∷ objects) (l ∷ layers) = (o.number, object_bytes o.pages l.1) ∷ memory_of objects layers

abbrev pub group_of : Parts → Group
group_of p = record { frame = p.frame; memory = memory_of p.frame.objects p.layers }

-- each object has its layer in its place, under its number
abbrev pub HasLayers : Parts → Type 0
HasLayers p = map (λ l. l.0) p.layers ≡ map (λ o. o.number) p.frame.objects

-- the pages that layers have, by object and then page
abbrev pub pages_in : List (ℕ × Pages) → List (ℕ × ℕ)
pages_in layers = flat_map (λ l. map (λ s. (l.0, s.0)) l.1) layers

-- The parts stand for this group: it is theirs, and the layers have just its pages that aren't all zero.
pub record StandFor (p : Parts) (g : Group) : Type 0 where
  pub group : group_of p ≡ g
  pub layers : HasLayers p
  pub own : pages_in p.layers ≡ nonzero_pages g
