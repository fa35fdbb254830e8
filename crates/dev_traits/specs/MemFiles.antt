-- Files in memory as contracts see them.
use Rattle.std.specs.Prelude.{ℕ, ◌==◌, Bool, if◌then◌else◌, List, [], ◌∷◌, Option, Some, None, bytes_eq}
use Rattle.std.specs.List.{list_any}
use Rattle.std.specs.declared.vec.Vec.{Vec}
use Rattle.std.specs.declared.alloc.Global.{Global}
use Rattle.dev_traits.specs.Counts.{one_more}
use Rattle.dev_traits.specs.Outside.{FilesView}
use Rattle.dev_traits.specs.declared.mem.files.MemFiles.{MemFiles}

-- the first file of this name
abbrev pub contents_in : List (List ℕ × Vec ℕ Global) → List ℕ → Option (List ℕ)
contents_in [] name = None
contents_in (file ∷ files) name = if bytes_eq file.0 name then Some file.1.items else contents_in files name

abbrev pub files_view : MemFiles → FilesView
files_view f = record { faults = f.faults; contents = Some (contents_in f.list.items) }

-- the numbers of the reads that fail
abbrev pub files_failing : MemFiles → List ℕ
files_failing f = f.failing.items

-- how many reads there were
abbrev pub reads_of : MemFiles → ℕ
reads_of f = f.reads

-- the next read fails
abbrev pub is_read_refused : MemFiles → Bool
is_read_refused f = list_any (λ k. k == one_more f.reads) f.failing.items
