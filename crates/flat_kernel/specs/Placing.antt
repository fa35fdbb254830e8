-- The pages of a memory that aren't all zero.
use Rattle.std.specs.Prelude.{ℕ, ◌*◌, ◌/◌, ◌==◌, not, Bool, List, map, length, take, drop}
use Rattle.std.specs.List.{flat_map, filter, list_all, range_with_len}
use Rattle.ckpt_records.specs.declared.meta.Page.{Page}

-- the bytes of a page of these bytes
abbrev pub page_slice : List ℕ → ℕ → List ℕ
page_slice bytes page = take 4096 (drop (4096 * page) bytes)

abbrev pub is_zero : List ℕ → Bool
is_zero bytes = list_all (λ b. b == 0) bytes

abbrev pub is_nonzero_page : List ℕ → ℕ → Bool
is_nonzero_page bytes page = not (is_zero (page_slice bytes page))

abbrev pub page_with : ℕ → List ℕ → ℕ → Page
page_with object bytes page = record { object = object; page = page; bytes = page_slice bytes page }

-- of the first pages of an object those that aren't all zero
unfoldable pub pages_up_to : ℕ → List ℕ → ℕ → List Page
pages_up_to object bytes count = map (page_with object bytes) (filter (is_nonzero_page bytes) (range_with_len 0 count))

-- of all its pages
abbrev pub object_pages : ℕ × List ℕ → List Page
object_pages o = pages_up_to o.0 o.1 (length o.1 / 4096)

-- by object and then page
unfoldable pub memory_pages : List (ℕ × List ℕ) → List Page
memory_pages memory = flat_map object_pages memory
