-- The pages of a group: their bytes, those that aren't all zero, and those that a step stores to.
use Rattle.std.specs.Prelude.{ℕ, ◌+◌, ◌-◌, ◌*◌, ◌/◌, ◌&&◌, ◌==◌, nat_lt, not, Bool, if◌then◌else◌, List, [], ◌∷◌, ◌++◌, map, take, drop, Option, Some, None}
use Rattle.std.specs.List.{flat_map, filter, list_any, list_all, range_with_len}
use Rattle.rv64_isa.specs.Instruction.{Effect, calls, list_of, steps, traps}
use Rattle.rv64_isa.specs.Memory.{Write}
use Rattle.rv64_isa.specs.Numbers.{wrapped}
use Rattle.rv64_isa.specs.Registers.{call_number}
use Rattle.address_maps.specs.Mappings.{mapping_at}
use Rattle.address_maps.specs.declared.maps.Mapping.{Mapping}
use Rattle.descriptors.specs.declared.opens.Open.{Open}
use Rattle.descriptors.specs.declared.opens.OpenKind.{OpenKind}
use Rattle.descriptors.specs.declared.opens.OpenKind.TheVariants as kinds
use Rattle.group_defs.specs.Calls.{Reply, answers, ends, fd_of, refuses, waits}
use Rattle.group_defs.specs.Cells.{object_place, bytes_in}
use Rattle.group_defs.specs.Changes.{open_at}
use Rattle.group_defs.specs.FileCalls.{write_place}
use Rattle.group_defs.specs.Fork.{Copy, copies_from, to_copy}
use Rattle.group_defs.specs.Group.{Group, regs_of, runner}
use Rattle.group_defs.specs.Step.{effect_in, reply_to}
use Rattle.group_defs.specs.declared.frame.Frame.{Frame}
use Rattle.group_defs.specs.declared.frame.ObjectRec.{ObjectRec}
use Rattle.group_defs.specs.declared.calls.TheConstants.{CLONE, OPENAT, WRITE}
use Rattle.group_defs.specs.declared.frame.Proc.{Proc}
use Rattle.group_files.specs.Files.{length_of}
use Rattle.group_files.specs.declared.named_files.FileRec.{FileRec}

-- A page is an object's number and the page's place in the object. All pages, each once, by object and then page:
abbrev pub pages_of : ObjectRec → List (ℕ × ℕ)
pages_of o = map (λ page. (o.number, page)) (range_with_len 0 o.pages)

unfoldable pub all_pages : Frame → List (ℕ × ℕ)
all_pages f = flat_map pages_of f.objects

-- a page's bytes, and the pages that aren't all zero
abbrev pub page_bytes : List (ℕ × List ℕ) → ℕ × ℕ → List ℕ
page_bytes memory page = take 4096 (drop (4096 * page.1) (bytes_in memory page.0))

abbrev pub is_zero_page : List (ℕ × List ℕ) → ℕ × ℕ → Bool
is_zero_page memory page = list_all (λ b. b == 0) (page_bytes memory page)

unfoldable pub nonzero_pages : Group → List (ℕ × ℕ)
nonzero_pages g = filter (λ page. not (is_zero_page g.memory page)) (all_pages g.frame)

-- the page that an address lies in, and those that bytes from an address on lie in
abbrev pub page_at : List Mapping → ℕ → List (ℕ × ℕ)
page_at maps address = elim (mapping_at maps address) [ None ↦ [] | Some m ↦ (m.object, object_place m address / 4096) ∷ [] ]

unfoldable pub pages_at : List Mapping → ℕ → List ℕ → List (ℕ × ℕ)
pages_at maps address [] = []
pages_at maps address (b ∷ bs) = page_at maps (wrapped address) ++ pages_at maps (address + 1) bs

abbrev pub pages_of_writes : List Mapping → List Write → List (ℕ × ℕ)
pages_of_writes maps writes = flat_map (λ w. pages_at maps w.address w.bytes) writes

-- the pages of an object that bytes from one place up to another lie in
abbrev pub pages_between : ℕ → ℕ → ℕ → List (ℕ × ℕ)
pages_between object from to =
    if nat_lt from to then map (λ page. (object, page)) (range_with_len (from / 4096) ((to - 1) / 4096 + 1 - from / 4096)) else []

-- What a call touches beside the caller's own memory. A write to a file touches the pages that its bytes come to lie in;
abbrev pub pages_of_file_write : Group → Open → ℕ → OpenKind → List (ℕ × ℕ)
pages_of_file_write g o count (kinds.File object) = pages_between object (write_place g o object) (write_place g o object + count)
pages_of_file_write g o count kind = []

abbrev pub pages_written_to : Group → ℕ → Option Open → List (ℕ × ℕ)
pages_written_to g count None = []
pages_written_to g count (Some o) = pages_of_file_write g o count o.kind

-- making a file empty touches each of its pages that has a byte below the old length;
abbrev pub pages_emptied : List FileRec → FileRec → List (ℕ × ℕ)
pages_emptied after file = if nat_lt (length_of after file.object) file.length then pages_between file.object 0 file.length else []

-- and a fork hands on what its parent touched in the interval before.
abbrev pub copied_page : Copy → ℕ × ℕ → List (ℕ × ℕ)
copied_page c page = if c.old.number == page.0 then (c.fresh, page.1) ∷ [] else []

abbrev pub handed_on : Group → Proc → List (ℕ × ℕ) → List (ℕ × ℕ)
handed_on g p so_far = flat_map (λ c. flat_map (copied_page c) so_far) (copies_from g.frame.next.object (to_copy g.frame p))

-- by the call's number, where it answered a value and left the group h; so_far are the pages touched before it in the interval
unfoldable pub touched_beside : Group → Proc → List (ℕ × ℕ) → ℕ → ℕ → Group → List (ℕ × ℕ)
touched_beside g p so_far number value h =
    if number == WRITE then pages_written_to g value (open_at p.fds g.frame.opens (fd_of (regs_of p)))
    else if number == OPENAT then flat_map (pages_emptied h.frame.files) g.frame.files
    else if number == CLONE then handed_on g p so_far
    else []

abbrev pub touched_by_reply : Group → Proc → List (ℕ × ℕ) → ℕ → Reply Group → List (ℕ × ℕ)
touched_by_reply g p so_far number waits = []
touched_by_reply g p so_far number (refuses errno) = []
touched_by_reply g p so_far number (answers value h writes) = pages_of_writes p.maps writes ++ touched_beside g p so_far number value h
touched_by_reply g p so_far number (ends status) = []

abbrev pub touched_by_effect : Bool → Group → Proc → List (ℕ × ℕ) → Effect → List (ℕ × ℕ)
touched_by_effect durable g p so_far (steps r stored) = pages_of_writes p.maps (list_of stored)
touched_by_effect durable g p so_far calls = touched_by_reply g p so_far (call_number (regs_of p)) (reply_to durable g p)
touched_by_effect durable g p so_far (traps status) = []

-- the pages touched so far in an interval, after one more step
unfoldable pub touched_with_step : Bool → Group → ℕ → List (ℕ × ℕ) → List (ℕ × ℕ)
touched_with_step durable g pid so_far = so_far ++ elim (runner g pid) [ None ↦ [] | Some p ↦ touched_by_effect durable g p so_far (effect_in g p) ]

-- whether a page is one of these
abbrev pub is_among : List (ℕ × ℕ) → ℕ × ℕ → Bool
is_among pages page = list_any (λ p. (p.0 == page.0) && (p.1 == page.1)) pages
