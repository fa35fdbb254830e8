-- What a run begins with: its limits, its disk, and the group of its origin.
use Rattle.std.specs.Prelude.{◌≡◌, ◌⊎◌, ◌<◌, ◌≤◌, ◌^◌, ℕ, List, [], length, map, None}
use Rattle.std.specs.List.{AllByRecursion}
use Rattle.dev_traits.specs.Outside.{SinkView}
use Rattle.group_defs.specs.declared.frame.Frame.{Frame}
use Rattle.group_defs.specs.declared.frame.Out.{Out}
use Rattle.group_defs.specs.Numbers.{HasUnwornNumbers}
use Rattle.group_defs.specs.Output.{last_position}
use Rattle.group_defs.specs.Pages.{nonzero_pages}
use Rattle.ckpt_chain.specs.Slot.{newest, gates_of}
use Rattle.ckpt_chain.specs.declared.slot.Slot.TheVariants.{B}
use Rattle.ckpt_records.specs.Holds.{HoldsAt, IsCheckpointed, listed_page}
use Rattle.ckpt_records.specs.Spells.{PagesRise}
use Rattle.ckpt_records.specs.declared.origin.Origin.{Origin}
use Rattle.ckpt_records.specs.Parts.{group_of, HasLayers}

-- the number of blocks that a disk may have
abbrev pub HasSize : ℕ → Type 0
HasSize blocks = (16 ≤ blocks) × (blocks ≤ 1048576)

-- The origin of a new disk: a valid group without output, no block in use, and slot A is the next one.
pub record IsNewOrigin (o : Origin) : Type 0 where
  pub epoch : o.epoch ≡ 0
  pub layers : HasLayers o.parts
  pub group : IsCheckpointed (group_of o.parts)
  pub no_output : o.parts.frame.out.bytes ≡ []
  pub no_pages : o.placement.pages ≡ []
  pub no_metas : o.placement.metas ≡ []
  pub slot : o.placement.slot ≡ B

-- The origin of a checkpoint on a disk of so many blocks: a valid group, and a placement of just its pages that aren't all
-- zero and of its meta blocks.
pub record IsOld (count : ℕ) (o : Origin) : Type 0 where
  pub epoch : 1 ≤ o.epoch
  pub layers : HasLayers o.parts
  pub group : IsCheckpointed (group_of o.parts)
  pub listed : map listed_page o.placement.pages ≡ nonzero_pages (group_of o.parts)
  pub rising : PagesRise o.placement.pages
  pub placed : AllByRecursion (λ p. (2 ≤ p.block) × (p.block < count)) o.placement.pages
  pub some_meta : 1 ≤ length o.placement.metas
  pub metas : AllByRecursion (λ b. (2 ≤ b) × (b < count)) o.placement.metas

-- An origin for a disk of so many blocks: of a new disk, or of a checkpoint.
abbrev pub IsOrigin : ℕ → Origin → Type 0
IsOrigin count o = IsNewOrigin o ⊎ IsOld count o

-- The image holds the origin's epoch and group, at its placement; the gates are the gate bytes of slots A and B.
pub record IsRestored (image : List ℕ) (o : Origin) : Type 0 where
  pub held : HoldsAt image o.epoch (group_of o.parts) o.placement.pages o.placement.metas o.placement.slot
  pub gates : o.gates ≡ gates_of image

-- What the bytes of the disk are to the origin: they hold its epoch and group at its placement; or no slot is open, and
-- the origin is a new disk's. Its gates are theirs.
abbrev pub IsOriginOf : List ℕ → Origin → Type 0
IsOriginOf image o = ((1 ≤ o.epoch) × IsRestored image o) ⊎ ((o.epoch ≡ 0) × (newest image ≡ None) × (o.gates ≡ gates_of image))

-- The epoch too leaves room for a run.
pub record IsUnworn (epoch : ℕ) (f : Frame) : Type 0 where
  pub epoch_is : epoch ≤ 2 ^ 62
  pub numbers : HasUnwornNumbers f

-- The sink's count is a position of the output: the first one, the last, or one between them.
abbrev pub IsWithin : SinkView → Out → Type 0
IsWithin sink out = (out.from ≤ sink.count) × (sink.count ≤ last_position out)
