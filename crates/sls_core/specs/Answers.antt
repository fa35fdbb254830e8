-- What a run answers, and what stands then.
use Rattle.std.specs.Prelude.{◌≡◌, ◌<◌, ◌≤◌, ◌+◌, ℕ, ⊤, List, [], Option, Some, None}
use Rattle.std.specs.List.{filter_map, sum_by}
use Rattle.std.specs.Option.{ForSome}
use Rattle.dev_traits.specs.Counts.{Rose}
use Rattle.dev_traits.specs.Disk.{DiskView, LeftNow}
use Rattle.dev_traits.specs.Outside.{SinkView}
use Rattle.group_defs.specs.Group.{Group}
use Rattle.run_defs.specs.Ends.{IsDone, IsStuck, IsSpent}
use Rattle.run_defs.specs.Legal.{Legal}
use Rattle.run_defs.specs.Progress.{IsGroupOf, group_of_epoch, progress_after, progress_at}
use Rattle.run_defs.specs.Solo.{IsSoloPrefix, IsSoloTrace}
use Rattle.run_defs.specs.declared.run.AckMark.{AckMark}
use Rattle.run_defs.specs.declared.run.Mark.{Mark}
use Rattle.run_defs.specs.declared.run.Mark.TheVariants.{Fetch}
use Rattle.ckpt_records.specs.Newest.{NewestCheckpoint, HasNewest, epoch_after, used_by}
use Rattle.ckpt_records.specs.Cost.{calls_for, cost_of, free_blocks}
use Rattle.sls_core.specs.Committed.{IsOnlyCommitted, TellsAcknowledged, WholeCommit}
use Rattle.sls_core.specs.Safe.{RunSoFar, Safe, AreAcks, HoldsLastAcknowledged, Released, IsUnwritten, IsWhole, last_acked, last_group}
use Rattle.sls_core.specs.declared.run.RunAnswer.{RunAnswer}
use Rattle.sls_core.specs.declared.run.RunAnswer.TheVariants.{Done, Stuck, Spent, DiskFault, SinkFault, DiskFull, NoMemory}

-- So many blocks are free of the checkpoint that the image keeps, which is the one before this epoch.
pub record HasFree (count : ℕ) (image : List ℕ) (epoch free : ℕ) : Type 0 where
  pub kept : NewestCheckpoint
  pub keeps : HasNewest image kept
  pub next : epoch_after kept ≡ epoch
  pub free_is : free ≡ free_blocks count (used_by kept)

-- The checkpoint of the last barrier, which is fetched and not acknowledged, needs more blocks than are free.
pub record IsDiskFull (run : RunSoFar) (disk : DiskView) (need free : ℕ) : Type 0 where
  pub unacked : last_acked run < run.now.fetched
  pub group : Group
  pub group_is : IsGroupOf run.now run.now.fetched group
  pub need_is : need ≡ cost_of group
  pub free_is : ForSome disk.reading (λ r. HasFree disk.blocks r run.now.fetched free)
  pub too_few : free < need

-- Why a run ended: by itself, as the definitions of ends say; a fault only where that device's count rose; a full disk. Want
-- of memory is open.
abbrev pub EndsFor : RunSoFar → DiskView → DiskView → SinkView → SinkView → RunAnswer → Type 0
EndsFor run disk disk' out out' Done = IsWhole run out' × IsDone (last_group run)
EndsFor run disk disk' out out' Stuck = IsWhole run out' × IsStuck run.now.state
EndsFor run disk disk' out out' Spent = IsWhole run out' × IsSpent run.limits run.now
EndsFor run disk disk' out out' DiskFault = Rose disk.faults disk'.faults
EndsFor run disk disk' out out' SinkFault = Rose out.faults out'.faults
EndsFor run disk disk' out out' (DiskFull need free) = IsDiskFull run disk' need free
EndsFor run disk disk' out out' NoMemory = ⊤

-- the epoch of a Fetch
abbrev pub fetched_epoch : Mark → Option ℕ
fetched_epoch (Fetch epoch) = Some epoch
fetched_epoch m = None

-- how many write calls the commit of an epoch's group may make; none where the run has no group of that epoch
abbrev pub calls_of_epoch : RunSoFar → ℕ → ℕ
calls_of_epoch run epoch = elim (group_of_epoch run.now epoch) [ None ↦ 0 | Some g ↦ calls_for g ]

-- how many the commits of all epochs may make that the trace fetches
abbrev pub writes_allowed : RunSoFar → ℕ
writes_allowed run = sum_by (calls_of_epoch run) (filter_map fetched_epoch run.trace)

-- What a run has done so far, whose disk and output were these at its start, and whose disk was opened at this moment.
pub record IsSafeSoFar (run : RunSoFar) (opened_at : ℕ) (acks : List AckMark) (disk disk' : DiskView)
    (out out' : SinkView) : Type 0 where
  pub blocks : disk'.blocks ≡ disk.blocks
  -- the write calls, on every disk, told or not
  pub writes : disk'.writes ≤ disk.writes + writes_allowed run
  -- the disk that comes back, where the disk tells its bytes
  pub safe : ForSome disk.reading (λ r. Safe run opened_at acks disk disk')
  -- the commits, where the disk tells them: those acknowledged, and at most one more
  pub told : (behind : List WholeCommit) × TellsAcknowledged run acks behind disk disk'
  pub acked : AreAcks run opened_at acks disk disk'
  pub released : Released run out out'
  -- nothing was written before the first fetch
  pub unfetched : run.now.fetched ≡ run.origin_epoch → IsUnwritten disk disk'

-- A run, on one thread or on several: its trace is legal and says what stands, what it left is safe, and why it ended.
pub record IsSafeRun (run : RunSoFar) (opened_at : ℕ) (acks : List AckMark) (disk disk' : DiskView)
    (out out' : SinkView) (answer : RunAnswer) : Type 0 where
  pub now_is : run.now ≡ progress_after run.limits.quantum (progress_at run.origin_epoch run.start) run.trace
  pub legal : Legal run.start run.origin_epoch run.limits run.trace
  pub stands : IsSafeSoFar run opened_at acks disk disk' out out'
  pub ends : EndsFor run disk disk' out out' answer

-- it ended by itself
abbrev pub EndsByItself : RunAnswer → Type 0
EndsByItself Done = ⊤
EndsByItself Stuck = ⊤
EndsByItself Spent = ⊤
EndsByItself answer = ⊥

-- A run on one thread: its trace is the beginning of the one trace of such a run, and all of it where it ended by itself.
pub record IsSoloRun (run : RunSoFar) (opened_at : ℕ) (acks : List AckMark) (disk disk' : DiskView)
    (out out' : SinkView) (answer : RunAnswer) : Type 0 where
  pub safe : IsSafeRun run opened_at acks disk disk' out out' answer
  -- After any answer but a disk fault no commit is under way: a stop now leaves what was acknowledged last.
  pub current : (answer ≡ DiskFault → ⊥)
      → ForSome disk.reading (λ r. (image : List ℕ) → LeftNow disk' image → HoldsLastAcknowledged run image)
  -- Nor was one begun and given up: the acknowledged commits are all that was written, on every disk, told or not.
  pub none_given_up : (answer ≡ DiskFault → ⊥) → IsOnlyCommitted run acks disk disk'
  -- After any answer no commit has ended but those acknowledged.
  pub told : TellsAcknowledged run acks [] disk disk'
  pub order : IsSoloPrefix run.start run.origin_epoch run.limits run.trace
  pub whole : EndsByItself answer → IsSoloTrace run.start run.origin_epoch run.limits run.trace
