-- What the engine knows of what a disk keeps.
use Rattle.std.specs.Prelude.{◌≡◌, ◌↔◌, ◌≤◌, ◌+◌, ◌*◌, ℕ, List, [], ◌∷◌, ◌++◌, length, slice_index}
use Rattle.std.specs.List.{AllByRecursion}
use Rattle.ckpt_chain.specs.Chain.{Has}
use Rattle.ckpt_chain.specs.Slot.{gate_place}
use Rattle.ckpt_chain.specs.declared.slot.Slot.{Slot}
use Rattle.ckpt_chain.specs.declared.slot.Slot.TheVariants.{A, B}
use Rattle.ckpt_chain.specs.declared.slot.SlotBody.{SlotBody}
use Rattle.commit_gate.specs.Whole.{IsDataBlock, finished, numbers}
use Rattle.commit_gate.specs.declared.whole.Block.{Block}
use Rattle.ckpt_records.specs.Holds.{block_numbers}
use Rattle.ckpt_records.specs.declared.origin.Origin.{Origin}
use Rattle.ckpt_records.specs.Newest.{NewestCheckpoint, epoch_after, target_after, used_by}
use Rattle.ckpt_chain.specs.Slot.{other}
use Rattle.page_flusher.specs.declared.kept.KeptBlocks.{KeptBlocks}

-- the gate byte of a slot, as the engine knows it
abbrev pub gate_in : KeptBlocks → Slot → ℕ
gate_in k A = k.gate_a
gate_in k B = k.gate_b

-- It knows the epoch that comes next, the blocks in use, and the slot of the next commit.
pub record Describes (k : KeptBlocks) (kept : NewestCheckpoint) : Type 0 where
  pub epoch : epoch_after kept ≡ k.epoch + 1
  pub used : (b : ℕ) → Has b k.used ↔ Has b (used_by kept)
  pub target : target_after kept ≡ k.target

-- ... and the gates
abbrev pub DescribesGates : KeptBlocks → List ℕ → Type 0
DescribesGates k image = (slot : Slot) → slice_index image (gate_place slot) ≡ gate_in k slot

-- After the next commit, which writes these blocks: the other slot comes next; the commit's gate is open, and the other one is as
-- before. Where the gates of a disk were known before the commit, those that it leaves are known.
pub record IsKeptAfter (k : KeptBlocks) (blocks : List Block) (k' : KeptBlocks) : Type 0 where
  pub epoch : k'.epoch ≡ k.epoch + 1
  pub used : k'.used ≡ numbers blocks
  pub target : k'.target ≡ other k.target
  pub opened : gate_in k' k.target ≡ 1
  pub stays : gate_in k' (other k.target) ≡ gate_in k (other k.target)
  pub gates : (count : ℕ) (body : SlotBody) (r : List ℕ) → 16 ≤ count → length r ≡ 4096 * count → AllByRecursion (IsDataBlock count) blocks → DescribesGates k r → DescribesGates k' (finished k.target blocks body r)

-- at a run's start: the epoch, the blocks and the gates of its origin, and the slot that its placement doesn't have
pub record DescribesOrigin (o : Origin) (k : KeptBlocks) : Type 0 where
  pub epoch : k.epoch ≡ o.epoch
  pub used : k.used ≡ o.placement.metas ++ block_numbers o.placement.pages
  pub target : k.target ≡ other o.placement.slot
  pub gates : o.gates ≡ k.gate_a ∷ k.gate_b ∷ []
