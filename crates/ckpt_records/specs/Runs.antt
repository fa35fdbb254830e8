-- Runs: pages of an object that follow each other, in blocks that follow each other.
use Rattle.std.specs.Prelude.{ℕ, ◌+◌, ◌^◌, ◌<◌, ◌==◌, ◌&&◌, Bool, List, [], ◌∷◌, map, if◌then◌else◌}
use Rattle.std.specs.List.{flat_map, range_with_len}
use Rattle.ckpt_records.specs.declared.meta.PagePlace.{PagePlace}
use Rattle.ckpt_records.specs.declared.meta.PageRun.{PageRun}

-- the page that stands at a place of a run
abbrev pub page_at : PageRun → ℕ → PagePlace
page_at r i = record { object = r.object; page = r.first + i; block = r.block + i }

-- the pages of a run
abbrev pub run_pages : PageRun → List PagePlace
run_pages r = map (page_at r) (range_with_len 0 r.count)

abbrev pub pages_of_runs : List PageRun → List PagePlace
pages_of_runs runs = flat_map run_pages runs

-- the run's ends are numbers of 64 bits
abbrev pub RunEnds : PageRun → Type 0
RunEnds r = (r.first + r.count < 2 ^ 64) × (r.block + r.count < 2 ^ 64)

-- a page as a run of its own
abbrev pub lone_run : PagePlace → PageRun
lone_run p = record { object = p.object; first = p.page; count = 1; block = p.block }

-- whether a page continues a run: it is the object's next page, in the next block
abbrev pub continues : PageRun → PagePlace → Bool
continues r p = (p.object == r.object) && (p.page == r.first + r.count) && (p.block == r.block + r.count)

-- the run with one page more
abbrev pub longer : PageRun → PageRun
longer r = record r { count = r.count + 1 }

-- the runs of a run's pages and those after them
unfoldable pub runs_from : PageRun → List PagePlace → List PageRun
runs_from r [] = r ∷ []
runs_from r (p ∷ pages) = if continues r p then runs_from (longer r) pages else r ∷ runs_from (lone_run p) pages

-- The longest runs of a list of pages: each page continues the run before it where it can, and else begins a new one.
unfoldable pub runs_of : List PagePlace → List PageRun
runs_of [] = []
runs_of (p ∷ pages) = runs_from (lone_run p) pages
