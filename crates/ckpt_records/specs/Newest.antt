-- What a disk keeps: nothing, or one checkpoint; and what comes after it.
use Rattle.std.specs.Prelude.{◌≡◌, ◌⊎◌, ◌↔◌, ◌+◌, ◌*◌, ℕ, List, [], ◌++◌, length, None}
use Rattle.std.specs.List.{AllByRecursion}
use Rattle.group_defs.specs.Group.{Group}
use Rattle.ckpt_chain.specs.Slot.{newest, other}
use Rattle.ckpt_chain.specs.declared.slot.Slot.{Slot}
use Rattle.ckpt_chain.specs.declared.slot.Slot.TheVariants.{A, B}
use Rattle.ckpt_records.specs.Holds.{HoldsAt, block_numbers}
use Rattle.ckpt_records.specs.declared.meta.PagePlace.{PagePlace}

-- nothing; or the checkpoint of an epoch: its group, where its pages lie, its meta blocks, and its slot
pub data NewestCheckpoint : Type 0 where
  nothing : NewestCheckpoint
  checkpoint : ℕ → Group → List PagePlace → List ℕ → Slot → NewestCheckpoint

-- the image keeps it: no slot is open, or the newest one is open at this checkpoint
abbrev pub HasNewest : List ℕ → NewestCheckpoint → Type 0
HasNewest image nothing = newest image ≡ None
HasNewest image (checkpoint epoch g pages metas slot) = HoldsAt image epoch g pages metas slot

-- the slot of the next commit: A where no slot is open, else the one that isn't the newest open one
abbrev pub target_after : NewestCheckpoint → Slot
target_after nothing = A
target_after (checkpoint epoch g pages metas slot) = other slot

-- the epoch of the next commit
abbrev pub epoch_after : NewestCheckpoint → ℕ
epoch_after nothing = 1
epoch_after (checkpoint epoch g pages metas slot) = epoch + 1

-- the blocks that the checkpoint uses
abbrev pub used_by : NewestCheckpoint → List ℕ
used_by nothing = []
used_by (checkpoint epoch g pages metas slot) = metas ++ block_numbers pages
