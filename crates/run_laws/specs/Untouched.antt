-- What steps leave of pages that they don't touch.
use Rattle.std.specs.Prelude.{◌≡◌, ◌<◌, ◌≤◌, ◌⊎◌, ℕ, true, false, List, []}
use Rattle.group_defs.specs.Cells.{bytes_in}
use Rattle.group_defs.specs.Group.{Group}
use Rattle.group_defs.specs.Pages.{is_among, is_zero_page, page_bytes}

-- a page that is all zero, or the copy of a page of the group before that nobody had touched so far
abbrev pub IsZeroOrCopy : Group → List (ℕ × ℕ) → List (ℕ × List ℕ) → ℕ × ℕ → Type 0
IsZeroOrCopy before so_far memory page =
    (is_zero_page memory page ≡ true) ⊎ ((k : ℕ) × (page_bytes memory page ≡ page_bytes before.memory (k, page.1)) × (is_among so_far (k, page.1) ≡ false))

-- Of an object that was there before, each page that isn't touched has its bytes, or its object has gone. Of a new object each
-- page that isn't touched is all zero, or a copy: so what a fork copies counts as touched where its parent had touched it. The
-- next object gets the next number, so the objects that were there have numbers below it.
pub record LeavesUntouched (before : Group) (so_far touched : List (ℕ × ℕ)) (after : Group) : Type 0 where
  pub stay : (page : ℕ × ℕ) → page.0 < before.frame.next.object → is_among touched page ≡ false
      → (page_bytes after.memory page ≡ page_bytes before.memory page) ⊎ (bytes_in after.memory page.0 ≡ [])
  pub new : (page : ℕ × ℕ) → before.frame.next.object ≤ page.0 → is_among touched page ≡ false
      → IsZeroOrCopy before so_far after.memory page
