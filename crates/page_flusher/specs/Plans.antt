-- What a commit writes for a group.
use Rattle.std.specs.Prelude.{◌⊎◌, ◌↔◌, ⊤, ◌≡◌, ◌<◌, ℕ, List, ◌++◌, length, map}
use Rattle.std.specs.List.{zip, AllByRecursion, AllPairs}
use Rattle.group_defs.specs.declared.frame.Frame.{Frame}
use Rattle.block_alloc.specs.Free.{MayBeFree}
use Rattle.ckpt_chain.specs.Chain.{Has, first_of, laid, metas_for}
use Rattle.ckpt_chain.specs.declared.slot.SlotBody.{SlotBody}
use Rattle.ckpt_records.specs.Spelling.{record_bytes}
use Rattle.ckpt_records.specs.declared.meta.PagePlace.{PagePlace}
use Rattle.commit_gate.specs.Whole.{numbers}
use Rattle.commit_gate.specs.declared.whole.Block.{Block}
use Rattle.ckpt_records.specs.declared.meta.Page.{Page}
use Rattle.page_flusher.specs.declared.plan.PlanRefused.{PlanRefused}
use Rattle.page_flusher.specs.declared.plan.PlanRefused.TheVariants as refusals
use Rattle.ckpt_records.specs.Cost.{blocks_for, free_blocks}
use Rattle.ckpt_records.specs.Pages.{written_page}

abbrev pub in_block : Page × ℕ → PagePlace
in_block x = record { object = x.0.object; page = x.0.page; block = x.1 }

-- the pages in these blocks, one after another
unfoldable pub placed : List Page → List ℕ → List PagePlace
placed pages blocks = map in_block (zip pages blocks)

-- The pages lie in the least free blocks, and behind them the meta blocks of the record that says so, in format 2; the body names them.
pub record IsLaidOut (count : ℕ) (used : List ℕ) (epoch : ℕ) (f : Frame) (pages : List Page) (blocks : List Block) (body : SlotBody) : Type 0 where
  pub places : List ℕ
  pub metas : List ℕ
  pub enough : length places ≡ length pages
  pub metas_enough : length metas ≡ metas_for (length (record_bytes 2 f (placed pages places)))
  pub numbers_are : numbers blocks ≡ places ++ metas
  pub rising : AllPairs (λ m n. m < n) (places ++ metas)
  pub free : AllByRecursion (MayBeFree count used) (places ++ metas)
  -- a free block that isn't taken is behind all that are
  pub least : (b : ℕ) → MayBeFree count used b → Has b (places ++ metas) ⊎ AllByRecursion (λ t. t < b) (places ++ metas)
  pub bytes_are : map (λ b. b.bytes) blocks ≡ map (λ p. p.bytes) pages ++ laid (record_bytes 2 f (placed pages places)) metas
  pub body_is : body ≡ record { format = 2; epoch = epoch; first = first_of metas; length = length (record_bytes 2 f (placed pages places)) }

-- so many blocks are free, by whichever list of the blocks in use
abbrev pub IsFreeCount : ℕ → List ℕ → ℕ → Type 0
IsFreeCount count used free = (blocks : List ℕ) → ((b : ℕ) → Has b used ↔ Has b blocks) → free ≡ free_blocks count blocks

-- The checkpoint needs more blocks than are free: both numbers.
pub record IsFull (count : ℕ) (used : List ℕ) (f : Frame) (pages : List Page) (need free : ℕ) : Type 0 where
  pub need_is : need ≡ blocks_for f (map written_page pages)
  pub free_is : IsFreeCount count used free
  pub too_few : free < need

-- Want of memory is open.
abbrev pub IsPlanRefused : ℕ → List ℕ → Frame → List Page → PlanRefused → Type 0
IsPlanRefused count used f pages (refusals.Full need free) = IsFull count used f pages need free
IsPlanRefused count used f pages refusals.NoMemory = ⊤
