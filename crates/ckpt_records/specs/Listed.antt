-- What is tested of the runs of a record before their pages are kept.
use Rattle.std.specs.Prelude.{◌≡◌, ◌⊎◌, ◌<◌, ◌≤◌, ◌+◌, ◌==◌, ◌&&◌, nat_lt, nat_le, ℕ, Bool, true, false, List, [], ◌∷◌, Any, AllPairs, ⊤, if◌then◌else◌}
use Rattle.std.specs.List.{AllByRecursion}
use Rattle.group_defs.specs.declared.frame.ObjectRec.{ObjectRec}
use Rattle.ckpt_records.specs.declared.meta.PagePlace.{PagePlace}
use Rattle.ckpt_records.specs.declared.meta.PageRun.{PageRun}
use Rattle.ckpt_records.specs.Runs.{continues}

-- a run's first page
abbrev pub first_page : PageRun → PagePlace
first_page r = record { object = r.object; page = r.first; block = r.block }

-- a run whose pages are an object's, in blocks from 2 to the disk's last one
abbrev pub IsRunPlace : List ObjectRec → ℕ → PageRun → Type 0
IsRunPlace objects blocks r = (1 ≤ r.count) × (2 ≤ r.block) × (r.block + r.count ≤ blocks) × Any (λ o. (o.number ≡ r.object) × (r.first + r.count ≤ o.pages)) objects

-- in an object before, or in the same one behind the run's last page
unfoldable pub IsRunBefore : PageRun → PageRun → Type 0
IsRunBefore r q = (r.object < q.object) ⊎ ((r.object ≡ q.object) × (r.first + r.count ≤ q.first))

-- the first of these runs doesn't continue this one
abbrev pub IsApart : PageRun → List PageRun → Type 0
IsApart r [] = ⊤
IsApart r (q ∷ runs) = continues r (first_page q) ≡ false

-- no run continues the one before it
abbrev pub AreApart : List PageRun → Type 0
AreApart [] = ⊤
AreApart (r ∷ runs) = IsApart r runs × AreApart runs

-- The runs are those by which their pages are listed, and the pages are in their order and in their places.
pub record RunsValid (format blocks : ℕ) (objects : List ObjectRec) (runs : List PageRun) : Type 0 where
  pub rising : AllPairs IsRunBefore runs
  pub placed : AllByRecursion (IsRunPlace objects blocks) runs
  pub apart : format ≡ 2 → AreApart runs

-- ---- one walk over objects and runs, both of which rise

-- the objects from this number on
unfoldable pub objects_from : ℕ → List ObjectRec → List ObjectRec
objects_from n [] = []
objects_from n (o ∷ objects) = if nat_lt o.number n then objects_from n objects else o ∷ objects

-- whether the run's pages are those of the first of these objects, in blocks of the disk
unfoldable pub is_first_placed : ℕ → PageRun → List ObjectRec → Bool
is_first_placed blocks r [] = false
is_first_placed blocks r (o ∷ objects) =
    nat_le 1 r.count && nat_le 2 r.block && nat_le (r.block + r.count) blocks && (o.number == r.object) && nat_le (r.first + r.count) o.pages

unfoldable pub are_placed : ℕ → List PageRun → List ObjectRec → Bool
are_placed blocks [] objects = true
are_placed blocks (r ∷ runs) objects = is_first_placed blocks r (objects_from r.object objects) && are_placed blocks runs (objects_from r.object objects)
