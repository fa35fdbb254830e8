-- Free blocks that are taken, and what is put into them.
use Rattle.std.specs.Prelude.{◌≡◌, ◌⊎◌, ◌<◌, ◌+◌, ℕ, Bool, List, ◌++◌, length, map, IsTrue}
use Rattle.std.specs.List.{AllByRecursion, AllPairs}
use Rattle.group_defs.specs.declared.frame.Frame.{Frame}
use Rattle.block_alloc.specs.Free.{free_count, is_free}
use Rattle.ckpt_chain.specs.Chain.{Has, first_of, laid, metas_for}
use Rattle.ckpt_chain.specs.declared.slot.SlotBody.{SlotBody}
use Rattle.ckpt_records.specs.Spelling.{record_bytes}
use Rattle.ckpt_records.specs.Spells.{IsOrderly, Spells}
use Rattle.ckpt_records.specs.declared.meta.PagePlace.{PagePlace}
use Rattle.commit_gate.specs.Whole.{numbers}
use Rattle.commit_gate.specs.declared.whole.Block.{Block}
use Rattle.page_flusher.specs.Plans.{placed}
use Rattle.page_flusher.specs.declared.plan.Layout.{Layout}
use Rattle.ckpt_records.specs.declared.meta.Page.{Page}

-- So many blocks were taken: they were free, by rising number, a block that is still free is behind them, and the others that
-- were free still are.
pub record AreTaken (old : List Bool) (count : ℕ) (taken : List ℕ) (new : List Bool) : Type 0 where
  pub size : length taken ≡ count
  pub free : AllByRecursion (λ b. IsTrue (is_free old b)) taken
  pub rising : AllPairs (λ m n. m < n) taken
  pub left : (b : ℕ) → IsTrue (is_free new b) → IsTrue (is_free old b) × AllByRecursion (λ t. t < b) taken
  pub others : (b : ℕ) → IsTrue (is_free old b) → Has b taken ⊎ IsTrue (is_free new b)
  pub fewer : free_count new + count ≡ free_count old

-- The blocks have these numbers and these bytes.
pub record Carry (ns : List ℕ) (contents : List (List ℕ)) (blocks : List Block) : Type 0 where
  pub numbers_are : numbers blocks ≡ ns
  pub bytes_are : map (λ b. b.bytes) blocks ≡ contents

-- The bytes spell a frame and a list of pages on each disk on which these are in order.
abbrev pub IsSpelledBy : List ℕ → Frame → List PagePlace → Type 0
IsSpelledBy bytes f pages = (blocks : ℕ) → IsOrderly blocks f pages → Spells 2 bytes blocks f pages

-- The pages and the meta blocks lie in the least of the blocks that were free, and the record says where its pages do.
pub record IsLaidIn (old : List Bool) (f : Frame) (pages : List Page) (layout : Layout) (new : List Bool) : Type 0 where
  pub enough : length layout.places.items ≡ length pages
  pub record_is : layout.bytes.items ≡ record_bytes 2 f (placed pages layout.places.items)
  pub metas_enough : length layout.metas.items ≡ metas_for (length layout.bytes.items)
  pub taken : AreTaken old (length pages + metas_for (length layout.bytes.items)) (layout.places.items ++ layout.metas.items) new

-- The blocks are those of a layout, with the pages' bytes and the record's; the body names the record's.
pub record IsLaidAs (layout : Layout) (epoch : ℕ) (pages : List Page) (blocks : List Block) (body : SlotBody) : Type 0 where
  pub carry : Carry (layout.places.items ++ layout.metas.items) (map (λ p. p.bytes) pages ++ laid layout.bytes.items layout.metas.items) blocks
  pub body_is : body ≡ record { format = 2; epoch = epoch; first = first_of layout.metas.items; length = length layout.bytes.items }
