-- Layers one over another, and what is seen through them.
use Rattle.std.specs.Prelude.{◌≡◌, ℕ, ◌+◌, ◌*◌, ◌/◌, ◌%◌, List, [], ◌∷◌, map, replicate, Bool, true, false, ◌&&◌, ◌||◌, nat_lt, is_some, slice_index_or, Some, None, Option, length}
use Rattle.std.specs.List.{range_with_len}
use Rattle.mem_objects.specs.Pages.{Pages, page_of}

-- the first, else the second
abbrev pub first_of_two : Option (List ℕ) → Option (List ℕ) → Option (List ℕ)
first_of_two None y = y
first_of_two (Some x) y = Some x

-- the page of the topmost layer that has it; layers go from the oldest to the topmost
abbrev pub top_page : List Pages → ℕ → Option (List ℕ)
top_page [] page = None
top_page (l ∷ ls) page = first_of_two (top_page ls page) (page_of l page)

-- a byte of a page, or of a page of zeros
abbrev pub byte_of : Option (List ℕ) → ℕ → ℕ
byte_of None i = 0
byte_of (Some page) i = slice_index_or page i 0

-- the whole page, or a page of zeros
abbrev pub whole_page : Option (List ℕ) → List ℕ
whole_page None = replicate 4096 0
whole_page (Some page) = page

-- the byte that is seen at a place
unfoldable pub byte_at : List Pages → ℕ → ℕ
byte_at ls i = byte_of (top_page ls (i / 4096)) (i % 4096)

-- the bytes of so many pages, one after another
unfoldable pub flat : List Pages → ℕ → List ℕ
flat ls pages = map (byte_at ls) (range_with_len 0 (4096 * pages))

-- a byte of a page, or this one where there is none
abbrev pub byte_over : Option (List ℕ) → ℕ → ℕ → ℕ
byte_over None i byte = byte
byte_over (Some page) i byte = slice_index_or page i 0

-- the bytes of so many pages: each of the topmost layer that has it, else of the base; zeros where the base has none either
unfoldable pub overlaid : List Pages → List ℕ → ℕ → List ℕ
overlaid ls base pages =
    map (λ i. byte_over (top_page ls (i / 4096)) (i % 4096) (slice_index_or base i 0)) (range_with_len 0 (4096 * pages))

-- Sets of an object's pages: for each page, whether it is in the set.
-- the pages that stand in these layers
unfoldable pub page_set : List Pages → ℕ → List Bool
page_set ls pages = map (λ p. is_some (top_page ls p)) (range_with_len 0 pages)

-- whether the page has one of the n bytes from this place on
unfoldable pub covers : ℕ → ℕ → ℕ → Bool
covers place n page = nat_lt (4096 * page) (place + n) && nat_lt place (4096 * page + 4096) && nat_lt 0 n

-- the set, with the pages that have one of the n bytes from this place on
unfoldable pub with_range : List Bool → ℕ → ℕ → List Bool
with_range set place n = map (λ p. slice_index_or set p false || covers place n p) (range_with_len 0 (length set))

-- each page that has one of the n bytes from this place on is in the set
unfoldable pub HasRange : List Bool → ℕ → ℕ → Type 0
HasRange set place n = (p : ℕ) → covers place n p ≡ true → slice_index_or set p false ≡ true

-- each page of the one set is in the other
unfoldable pub IsSubset : List Bool → List Bool → Type 0
IsSubset old new = (p : ℕ) → slice_index_or old p false ≡ true → slice_index_or new p false ≡ true
