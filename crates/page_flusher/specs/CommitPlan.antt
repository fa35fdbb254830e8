-- What a disk keeps while a commit goes on, and what the commit puts in its place.
use Rattle.std.specs.Prelude.{◌≡◌, ◌≢◌, ◌⊎◌, ◌↔◌, ◌+◌, ◌*◌, ◌≤◌, ℕ, List, ◌++◌, length, map}
use Rattle.std.specs.List.{AllByRecursion, AllPairs}
use Rattle.group_defs.specs.Group.{Group}
use Rattle.group_defs.specs.Pages.{nonzero_pages}
use Rattle.ckpt_chain.specs.Chain.{Has, first_of, metas_for}
use Rattle.ckpt_chain.specs.declared.slot.Slot.{Slot}
use Rattle.ckpt_chain.specs.declared.slot.SlotBody.{SlotBody}
use Rattle.ckpt_records.specs.Holds.{HoldsAt, block_numbers, listed_page}
use Rattle.ckpt_records.specs.Spelling.{record_bytes}
use Rattle.ckpt_records.specs.declared.meta.PagePlace.{PagePlace}
use Rattle.commit_gate.specs.Whole.{IsDataBlock, IsUnfinished, numbers, finished}
use Rattle.commit_gate.specs.declared.whole.Block.{Block}
use Rattle.ckpt_records.specs.Cost.{cost_of}
use Rattle.ckpt_records.specs.Newest.{NewestCheckpoint, HasNewest, target_after, epoch_after, used_by}

-- The blocks lie behind the slots of a disk of so many blocks, and none is used by what is kept.
pub record Avoids (count : ℕ) (kept : NewestCheckpoint) (blocks : List Block) : Type 0 where
  pub placed : AllByRecursion (IsDataBlock count) blocks
  pub free : (b : ℕ) → Has b (numbers blocks) → Has b (used_by kept) → ⊥

-- what a stop during the commit of a group as this epoch leaves: what was kept, or that group
abbrev pub HasNewestOr : NewestCheckpoint → ℕ → Group → List ℕ → Type 0
HasNewestOr kept epoch h image =
    HasNewest image kept ⊎ ((pages : List PagePlace) × (metas : List ℕ) × HoldsAt image epoch h pages metas (target_after kept))

-- ... as the next epoch
abbrev pub HasNewestOrNext : NewestCheckpoint → Group → List ℕ → Type 0
HasNewestOrNext kept h image = HasNewestOr kept (epoch_after kept) h image

-- The blocks in use have those of what is kept.
abbrev pub Covers : List ℕ → NewestCheckpoint → Type 0
Covers used kept = (b : ℕ) → Has b (used_by kept) → Has b used

-- Before a commit the disk of so many blocks keeps this, which uses only blocks in use; the commit is of a later epoch, from 1 on,
-- into the slot that it leaves.
pub record IsBeforeCommit (count : ℕ) (used : List ℕ) (epoch : ℕ) (target : Slot) (kept : NewestCheckpoint) (r : List ℕ) : Type 0 where
  pub covers : Covers used kept
  pub later : epoch_after kept ≤ epoch
  pub into : target_after kept ≡ target
  pub size : length r ≡ 4096 * count
  pub keeps : HasNewest r kept

-- The commit replaces what is kept: at each of its moments the disk keeps that, or has the group; once it is finished, the group.
pub record Replaces (kept : NewestCheckpoint) (epoch : ℕ) (g : Group) (pages : List PagePlace) (metas : List ℕ) (target : Slot) (blocks : List Block) (body : SlotBody) (r : List ℕ) : Type 0 where
  pub during : (image : List ℕ) → IsUnfinished target blocks r image ⊎ (image ≡ finished target blocks body r) → HasNewestOr kept epoch g image
  pub after : HoldsAt (finished target blocks body r) epoch g pages metas target

-- The plan of a group's commit as this epoch: its pages that aren't all zero and the meta blocks of its record lie in just the blocks
-- written, one each, none of them in use, and no more than the group's checkpoint takes; its body is of format 2, and names the
-- record; on every disk of so many blocks whose kept checkpoint uses only blocks in use, the commit replaces it by the group's.
pub record IsPlan (count : ℕ) (used : List ℕ) (epoch : ℕ) (g : Group) (blocks : List Block) (body : SlotBody) : Type 0 where
  pub pages : List PagePlace
  pub metas : List ℕ
  pub listed : map listed_page pages ≡ nonzero_pages g
  pub metas_are : length metas ≡ metas_for (length (record_bytes 2 g.frame pages))
  pub uses : (b : ℕ) → Has b (numbers blocks) ↔ Has b (metas ++ block_numbers pages)
  pub one_each : length blocks ≡ length metas + length pages
  pub once : AllPairs (λ m n. m ≢ n) (numbers blocks)
  pub unused : (b : ℕ) → Has b (numbers blocks) → Has b used → ⊥
  pub size : length blocks ≤ cost_of g
  pub placed : AllByRecursion (IsDataBlock count) blocks
  pub format : body.format ≡ 2
  pub epoch_is : body.epoch ≡ epoch
  pub first_is : body.first ≡ first_of metas
  pub length_is : body.length ≡ length (record_bytes 2 g.frame pages)
  pub replaces : (kept : NewestCheckpoint) (target : Slot) (r : List ℕ) → IsBeforeCommit count used epoch target kept r → Replaces kept epoch g pages metas target blocks body r
