-- What a run leaves: on its disk, whenever that stops, and at the output.
use Rattle.std.specs.Prelude.{◌≡◌, ◌⊎◌, ◌≤◌, ◌<◌, ℕ, List, [], ◌∷◌, map, Some, None}
use Rattle.std.specs.List.{AllByRecursion}
use Rattle.dev_traits.specs.Commits.{nothing_written, unchanged}
use Rattle.dev_traits.specs.Disk.{CommitsBy, DiskView}
use Rattle.dev_traits.specs.Outside.{SinkView, Takes}
use Rattle.group_defs.specs.Group.{Group}
use Rattle.group_defs.specs.Output.{last_position}
use Rattle.run_defs.specs.Ends.{IsSettled}
use Rattle.run_defs.specs.Marks.{acked_epochs}
use Rattle.run_defs.specs.Progress.{IsGroupOf, Progress, mark_of, output_between, progress_after, progress_at}
use Rattle.run_defs.specs.declared.run.AckMark.{AckMark}
use Rattle.run_defs.specs.declared.run.Limits.{Limits}
use Rattle.run_defs.specs.declared.run.Mark.{Mark}
use Rattle.ckpt_chain.specs.Slot.{newest}
use Rattle.ckpt_records.specs.Holds.{Holds}

-- no commit has begun on the disk, as far as it tells its commits
abbrev pub HasNoneBegun : DiskView → Type 0
HasNoneBegun v = (v.commits.now ≡ None) ⊎ (v.commits.now ≡ Some nothing_written)

-- Nothing was written, and a stop since then, or since an earlier moment, leaves nothing that it couldn't leave before; no commit
-- is told where none had begun.
pub record IsUnwritten (before after : DiskView) : Type 0 where
  pub blocks : after.blocks ≡ before.blocks
  pub reading : after.reading ≡ before.reading
  pub writes : after.writes ≡ before.writes
  pub later : before.faults ≤ after.faults
  pub left : (t : ℕ) (image : List ℕ) → t ≤ before.moment → after.left t image → before.left t image
  pub commits : HasNoneBegun before → CommitsBy unchanged before after

-- A run so far: its limits, the group and the epoch that it began with, its trace, and what stands after that. On a new disk
-- the epoch is 0.
pub record RunSoFar : Type 0 where
  pub limits : Limits
  pub start : Group
  pub origin_epoch : ℕ
  pub trace : List Mark
  pub now : Progress

abbrev pub run_of : Limits → Group → ℕ → List Mark → RunSoFar
run_of limits start origin_epoch trace = record {
  limits = limits;
  start = start;
  origin_epoch = origin_epoch;
  trace = trace;
  now = progress_after limits.quantum (progress_at origin_epoch start) trace;
}

-- the group after the whole trace
abbrev pub last_group : RunSoFar → Group
last_group run = run.now.state.group

-- the last acknowledged epoch, or the run's own
abbrev pub last_acked : RunSoFar → ℕ
last_acked run = run.now.state.standing.acked

-- The image holds the whole group of this epoch: of the run's own, or of a barrier that was fetched.
pub record HoldsEpoch (run : RunSoFar) (image : List ℕ) (epoch : ℕ) : Type 0 where
  pub fetched : epoch ≤ run.now.fetched
  pub group : Group
  pub group_is : IsGroupOf run.now epoch group
  pub held : Holds image epoch group

-- It holds the group of one epoch; or the run began on a new disk, and no slot is open. A new disk's epoch is 0, which no image
-- holds.
abbrev pub HoldsOne : RunSoFar → List ℕ → Type 0
HoldsOne run image = ((epoch : ℕ) × HoldsEpoch run image epoch) ⊎ ((run.origin_epoch ≡ 0) × (newest image ≡ None))

-- The disk that comes back, whenever it stopped.
pub record Safe (run : RunSoFar) (opened_at : ℕ) (acks : List AckMark) (before after : DiskView) : Type 0 where
  -- since an acknowledgement, which is of a barrier: the group of its epoch or of a later one
  pub acknowledged : AllByRecursion (λ a. (image : List ℕ) → after.left a.at image → (epoch : ℕ) × (a.epoch ≤ epoch) × HoldsEpoch run image epoch) acks
  -- since the opening
  pub opened : (image : List ℕ) → after.left opened_at image → HoldsOne run image
  -- since the call, or a moment before it: that, or what a stop could have left before the call
  pub entered : (t : ℕ) (image : List ℕ) → t ≤ before.moment → after.left t image
      → before.left t image ⊎ HoldsOne run image

-- moments from one on that never fall, up to another
abbrev pub NeverFall : ℕ → List AckMark → ℕ → Type 0
NeverFall from [] to = from ≤ to
NeverFall from (a ∷ acks) to = (from ≤ a.at) × NeverFall a.at acks to

-- The acknowledgements are those of the trace, each with its moment: the call's, the opening's, theirs and the answer's never fall.
pub record AreAcks (run : RunSoFar) (opened_at : ℕ) (acks : List AckMark) (before after : DiskView) : Type 0 where
  pub epochs : map (λ a. a.epoch) acks ≡ acked_epochs run.trace
  pub opening : before.moment ≤ opened_at
  pub moments : NeverFall opened_at acks after.moment

-- the output's bytes from one position up to another
abbrev pub output_of : RunSoFar → ℕ → ℕ → List ℕ
output_of run from to = output_between run.start run.now from to

-- The image has the group of the last acknowledged epoch; or nothing was acknowledged on a new disk, and no slot is open.
abbrev pub HoldsLastAcknowledged : RunSoFar → List ℕ → Type 0
HoldsLastAcknowledged run image =
    ((g : Group) × IsGroupOf run.now (last_acked run) g × Holds image (last_acked run) g) ⊎ ((last_acked run ≡ 0) × (newest image ≡ None))

-- Up to this position the output got what the run's own checkpoint covers before the first mark, and what each epoch's covers before
-- a later one was fetched.
pub record IsReleasedInTime (run : RunSoFar) (to : ℕ) : Type 0 where
  pub begun : (run.trace ≡ []) ⊎ (run.start.frame.out.mark ≤ to)
  pub fetched : (epoch mark : ℕ) → epoch < run.now.fetched → mark_of run.now epoch ≡ Some mark → mark ≤ to

-- The output got what the trace produced from its count on, up to a position that the last acknowledged barrier covers. The rest stays.
pub record Released (run : RunSoFar) (before after : SinkView) : Type 0 where
  pub to : ℕ
  pub mark : ℕ
  pub mark_is : mark_of run.now (last_acked run) ≡ Some mark
  pub least : before.count ≤ to
  pub most : to ≤ mark
  pub prompt : IsReleasedInTime run to
  pub taken : Takes (output_of run before.count to) before after

-- The run ended by itself: its trace is settled, and the output has everything.
pub record IsWhole (run : RunSoFar) (out : SinkView) : Type 0 where
  pub settled : IsSettled run.now
  pub all_out : out.count ≡ last_position (last_group run).frame.out
