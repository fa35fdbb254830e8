-- What a checkpoint has over the group of the epoch before it.
use Rattle.std.specs.Prelude.{◌≡◌, ℕ, ◌-◌, ◌<◌, List, Some, is_some}
use Rattle.std.specs.List.{AllZip}
use Rattle.group_defs.specs.Cells.{bytes_in}
use Rattle.group_defs.specs.Group.{Group}
use Rattle.group_defs.specs.Pages.{is_among}
use Rattle.group_defs.specs.declared.frame.ObjectRec.{ObjectRec}
use Rattle.group_kernel.specs.Faces.{bytes_below, memory_of_epoch}
use Rattle.group_kernel.specs.declared.ckpt.Ckpt.{Ckpt}
use Rattle.run_defs.specs.Progress.{Checkpoint, Progress, checkpoint_of}
use Rattle.shadow_chains.specs.Chain.{overlaid, top_page}
use Rattle.shadow_chains.specs.declared.face.Frozen.{Frozen}

-- An object's bytes are, page by page, those of the topmost layer that has the page, else of its base, else zeros.
pub record IsDeltaOf (memory : List (ℕ × List ℕ)) (h : Group) (o : ObjectRec) (f : Frozen) : Type 0 where
  pub number : f.number ≡ o.number
  pub bytes : overlaid f.layers (bytes_below memory f.base) o.pages ≡ bytes_in h.memory o.number

-- The checkpoint stands for the group h over these bytes of the last barrier's objects.
pub record IsDelta (memory : List (ℕ × List ℕ)) (c : Ckpt) (h : Group) : Type 0 where
  pub frame : c.frame ≡ h.frame
  pub objects : AllZip (IsDeltaOf memory h) h.frame.objects c.frozen

-- The layers of an object have just its pages that are among these.
abbrev pub HasJust : List (ℕ × ℕ) → ObjectRec → Frozen → Type 0
HasJust touched o f = (page : ℕ) → page < o.pages → is_some (top_page f.layers page) ≡ is_among touched (o.number, page)

-- A run's checkpoint: the group right after its epoch's Barrier over that of the epoch before, or over no objects where that is 0; in
-- its layers stand just the pages that the interval touched.
pub record IsCheckpointIn (r : Progress) (c : Ckpt) : Type 0 where
  pub made : Checkpoint
  pub made_is : checkpoint_of r c.epoch ≡ Some made
  pub delta : IsDelta (memory_of_epoch r (c.epoch - 1)) c made.group
  pub just : AllZip (HasJust made.touched) made.group.frame.objects c.frozen
