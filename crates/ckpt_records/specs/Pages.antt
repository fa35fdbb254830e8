-- The pages of a group that a checkpoint has.
use Rattle.std.specs.Prelude.{◌⊎◌, Bool, not, ⊤, ◌≡◌, ◌==◌, ◌<◌, ◌+◌, ◌-◌, ◌/◌, ℕ, List, [], ◌∷◌, ◌++◌, length, map}
use Rattle.std.specs.List.{AllByRecursion, AllPairs, count_by, list_any, range_with_len}
use Rattle.group_defs.specs.Group.{Group}
use Rattle.group_defs.specs.Pages.{page_bytes, nonzero_pages}
use Rattle.ckpt_records.specs.declared.meta.Page.{Page}

-- an object's number and the page's place in it
abbrev pub written_page : Page → ℕ × ℕ
written_page p = (p.object, p.page)

-- These are the pages of the group that aren't all zero, in their order, each with its bytes.
pub record ArePagesOf (g : Group) (pages : List Page) : Type 0 where
  pub which : map written_page pages ≡ nonzero_pages g
  pub bytes : AllByRecursion (λ p. p.bytes ≡ page_bytes g.memory (written_page p)) pages
