-- What restoring answers.
use Rattle.std.specs.Prelude.{◌≡◌, ◌≤◌, ◌<◌, ℕ, List, [], ◌∷◌, length, map, slice_index, Some, None, Result, Ok, Err, ⊤}
use Rattle.std.specs.List.{AllByRecursion}
use Rattle.dev_traits.specs.Counts.{Rose}
use Rattle.group_defs.specs.Group.{Group}
use Rattle.group_defs.specs.Pages.{nonzero_pages}
use Rattle.ckpt_chain.specs.Chain.{InDisk}
use Rattle.ckpt_chain.specs.Slot.{newest}
use Rattle.ckpt_chain.specs.declared.slot.Slot.{Slot}
use Rattle.ckpt_chain.specs.declared.slot.SlotBody.{SlotBody}
use Rattle.ckpt_records.specs.Holds.{Holds, IsCheckpointed, listed_page}
use Rattle.ckpt_records.specs.Spells.{PagesRise}
use Rattle.ckpt_records.specs.declared.origin.Origin.{Origin}
use Rattle.ckpt_records.specs.Parts.{group_of, StandFor}
use Rattle.restore_group.specs.declared.restoring.Refused.{Refused}
use Rattle.restore_group.specs.declared.restoring.Refused.TheVariants as refusals
use Rattle.ckpt_records.specs.Origin.{IsRestored}

-- the image holds no epoch and no group
abbrev pub HoldsNothing : List ℕ → Type 0
HoldsNothing image = (epoch : ℕ) (g : Group) → Holds image epoch g → ⊥

-- a slot is open, and the newest one has this epoch
pub record IsOpenAt (image : List ℕ) (epoch : ℕ) : Type 0 where
  pub slot : Slot
  pub body : SlotBody
  pub newest_is : newest image ≡ Some (slot, body)
  pub epoch_is : body.epoch ≡ epoch

-- Ok is what the image holds; NoCheckpoint where no slot is open; Damaged where one is and nothing is held. Want of memory is
-- answered only where a slot is open.
abbrev pub IsOutcome : List ℕ → Result Origin Refused → Type 0
IsOutcome image (Ok o) = IsRestored image o
IsOutcome image (Err refusals.NoCheckpoint) = newest image ≡ None
IsOutcome image (Err (refusals.Damaged epoch)) = IsOpenAt image epoch × HoldsNothing image
IsOutcome image (Err refusals.DiskFault) = ⊤
IsOutcome image (Err refusals.NoMemory) = newest image ≡ None → ⊥

-- What Ok gives on every disk of so many blocks: a valid group whose mark is its last position, and a placement of just its
-- pages that aren't all zero, which are the layers' pages.
pub record IsSound (count : ℕ) (o : Origin) : Type 0 where
  pub epoch : 1 ≤ o.epoch
  pub parts : StandFor o.parts (group_of o.parts)
  pub group : IsCheckpointed (group_of o.parts)
  pub listed : map listed_page o.placement.pages ≡ nonzero_pages (group_of o.parts)
  pub rising : PagesRise o.placement.pages
  pub placed : AllByRecursion (λ p. (2 ≤ p.block) × (p.block < count)) o.placement.pages
  pub some_meta : 1 ≤ length o.placement.metas
  pub metas : InDisk count o.placement.metas

-- a disk fault is answered only where the count of faults rose
abbrev pub FaultIsCause : ℕ → ℕ → Result Origin Refused → Type 0
FaultIsCause before after (Ok o) = ⊤
FaultIsCause before after (Err refusals.NoCheckpoint) = ⊤
FaultIsCause before after (Err (refusals.Damaged epoch)) = ⊤
FaultIsCause before after (Err refusals.NoMemory) = ⊤
FaultIsCause before after (Err refusals.DiskFault) = Rose before after
