-- What the record of a checkpoint says.
use Rattle.std.specs.Prelude.{◌≡◌, ℕ, List, Some}
use Rattle.group_defs.specs.Built.{OnlyBuilt}
use Rattle.group_defs.specs.Output.{last_position}
use Rattle.group_defs.specs.Valid.{FrameValid}
use Rattle.group_defs.specs.declared.frame.Frame.{Frame}
use Rattle.ckpt_chain.specs.Chain.{stream_at}
use Rattle.ckpt_chain.specs.declared.slot.SlotBody.{SlotBody}
use Rattle.ckpt_records.specs.Spells.{Spells}
use Rattle.ckpt_records.specs.declared.meta.PagePlace.{PagePlace}

-- a frame that a checkpoint may have; what the bytes of files must be is no matter while there are none
pub record IsWholeFrame (f : Frame) : Type 0 where
  pub valid : FrameValid f
  pub built : OnlyBuilt f
  pub all_marked : f.out.mark ≡ last_position f.out

-- the stream of a slot's body, in these meta blocks, spells in the body's format this frame and this list of pages
pub record IsMeta (image : List ℕ) (count : ℕ) (body : SlotBody) (f : Frame) (pages : List PagePlace) (metas : List ℕ) : Type 0 where
  pub bytes : List ℕ
  pub stream : stream_at image count body ≡ Some (bytes, metas)
  pub spelled : Spells body.format bytes count f pages
  pub whole : IsWholeFrame f
