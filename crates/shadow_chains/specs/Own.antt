-- What calls do to a face's own layer.
use Rattle.std.specs.Prelude.{◌≡◌, ◌≢◌, ◌⊎◌, ℕ, ◌+◌, ◌*◌, ◌≤◌, List, [], ◌∷◌, ◌++◌, length, true, IsSome, Option, drop, take}
use Rattle.lists.specs.Bytes.{put}
use Rattle.mem_objects.specs.Pages.{Pages, page_of, PutsPage}
use Rattle.shadow_chains.specs.Chain.{first_of_two, top_page, whole_page, flat, page_set, covers, with_range}

-- its pages, and those that can be added to it without memory
pub record Own : Type 0 where
  pub pages : Pages
  pub room : Pages

-- a write to this page takes no memory
unfoldable pub IsReady : Own → ℕ → Type 0
IsReady own page = IsSome (page_of own.pages page) ⊎ IsSome (page_of own.room page)

-- each page that was ready is ready
unfoldable pub StaysReady : Own → Own → Type 0
StaysReady old new = (q : ℕ) → IsReady old q → IsReady new q

-- each page of a range is ready
unfoldable pub AllReady : Own → ℕ → ℕ → Type 0
AllReady own place n = (p : ℕ) → covers place n p ≡ true → IsReady own p

-- every other page is the same
unfoldable pub SameBut : ℕ → Pages → Pages → Type 0
SameBut page old new = (q : ℕ) → q ≢ page → page_of new q ≡ page_of old q

-- a page comes into an own layer as a copy, with bytes put into it
pub record Brings (old new : Pages) (page : ℕ) (below : Option (List ℕ)) (at : ℕ) (bytes : List ℕ) : Type 0 where
  pub whole : length (whole_page below) ≡ 4096
  pub puts : PutsPage old new page (put (whole_page below) at bytes)

-- an own layer got these bytes at a place, and the pages that they lie in
pub record Wrote (ls : List Pages) (old new : Pages) (place : ℕ) (bytes : List ℕ) : Type 0 where
  pub seen : (n : ℕ) → place + length bytes ≤ 4096 * n → flat (ls ++ new ∷ []) n ≡ put (flat (ls ++ old ∷ []) n) place bytes
  pub marked : (s n : ℕ) → place + length bytes ≤ 4096 * n → page_set (drop s ls ++ new ∷ []) n ≡ with_range (page_set (drop s ls ++ old ∷ []) n) place (length bytes)

-- layers over which an own layer was laid: the same pages are seen
pub record Seals (old : List Pages) (own : Pages) (new : List Pages) : Type 0 where
  pub extra : List Pages
  pub longer : new ≡ old ++ extra
  pub same : (p : ℕ) → top_page extra p ≡ page_of own p
  pub one : length new ≤ length old + 1

-- a layer over the one below it, in one
unfoldable pub Joins : Pages → Pages → Pages → Type 0
Joins over below joined = (p : ℕ) → page_of joined p ≡ first_of_two (page_of over p) (page_of below p)

-- two layers show what two others show, the upper ones first
unfoldable pub ShowSame : Pages → Pages → Pages → Pages → Type 0
ShowSame over below over' below' = (p : ℕ) → first_of_two (page_of over' p) (page_of below' p) ≡ first_of_two (page_of over p) (page_of below p)

-- layers show what others show
unfoldable pub ShowAlike : List Pages → List Pages → Type 0
ShowAlike old new = (p : ℕ) → top_page new p ≡ top_page old p

-- The layers from a place on and an own layer over them show what they did, and those below are as they were.
pub record Lowers (since : ℕ) (old : List Pages) (own : Pages) (new : List Pages) (own' : Pages) : Type 0 where
  pub fits : since ≤ length new
  pub kept : take since new ≡ take since old
  pub alike : ShowAlike (drop since old ++ own ∷ []) (drop since new ++ own' ∷ [])
