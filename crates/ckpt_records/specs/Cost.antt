-- How many blocks a checkpoint takes, and how many are free.
use Rattle.std.specs.Prelude.{◌⊎◌, Bool, not, ⊤, ◌≡◌, ◌==◌, ◌<◌, ◌+◌, ◌-◌, ◌/◌, ℕ, List, [], ◌∷◌, ◌++◌, length, map}
use Rattle.std.specs.List.{AllByRecursion, AllPairs, count_by, list_any, range_with_len}
use Rattle.group_defs.specs.Group.{Group}
use Rattle.group_defs.specs.Pages.{nonzero_pages}
use Rattle.group_defs.specs.declared.frame.Frame.{Frame}
use Rattle.ckpt_chain.specs.Chain.{metas_for}
use Rattle.ckpt_records.specs.Runs.{lone_run}
use Rattle.ckpt_records.specs.Spelling.{run_record}
use Rattle.ckpt_records.specs.declared.meta.PagePlace.{PagePlace}

-- the page in block 0: how long the record is doesn't depend on where pages lie that are runs of their own
abbrev pub unplaced : ℕ × ℕ → PagePlace
unplaced page = record { object = page.0; page = page.1; block = 0 }

-- how many meta blocks a record of these pages takes, where each page is a run of its own
abbrev pub metas_of : Frame → List (ℕ × ℕ) → ℕ
metas_of f pages = metas_for (length (run_record 2 f (map (λ page. lone_run (unplaced page)) pages)))

-- how many blocks a checkpoint of these pages takes at most: one for each page, and its meta blocks
abbrev pub blocks_for : Frame → List (ℕ × ℕ) → ℕ
blocks_for f pages = length pages + metas_of f pages

-- how many a group's checkpoint takes at most: one for each page that isn't all zero, and its meta blocks
abbrev pub cost_of : Group → ℕ
cost_of g = blocks_for g.frame (nonzero_pages g)

-- How many write calls a group's commit makes at most: one a block, and one each to close the old gate, for the slot's body and
-- for the gate.
abbrev pub calls_for : Group → ℕ
calls_for g = cost_of g + 3

-- whether a block is among those in use
abbrev pub is_used : List ℕ → ℕ → Bool
is_used used block = list_any (λ u. u == block) used

-- how many blocks behind the slots of a disk of so many blocks aren't in use
abbrev pub free_blocks : ℕ → List ℕ → ℕ
free_blocks count used = count_by (λ b. not (is_used used b)) (range_with_len 2 (count - 2))
