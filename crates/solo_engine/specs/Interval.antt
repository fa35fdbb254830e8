-- What the parts of an interval do: the turns up to a barrier, the barrier with its fetch, the plan, and the commit with the
-- release.
use Rattle.std.specs.Prelude.{◌≡◌, ◌↔◌, ◌≤◌, ◌<◌, ◌+◌, ◌-◌, ◌*◌, ◌^◌, ℕ, ⊤, Bool, List, [], ◌∷◌, ◌++◌, drop, slice_index, IsTrue}
use Rattle.std.specs.List.{AllByRecursion}
use Rattle.std.specs.Option.{ForSome}
use Rattle.dev_traits.specs.Counts.{Rose}
use Rattle.dev_traits.specs.Disk.{DiskView, OnlyReading}
use Rattle.dev_traits.specs.Since.{LeavesOnly}
use Rattle.dev_traits.specs.Outside.{SinkView, Takes, TakesPart}
use Rattle.group_defs.specs.declared.frame.Out.{Out}
use Rattle.group_defs.specs.Group.{Group}
use Rattle.group_defs.specs.Output.{last_position}
use Rattle.group_defs.specs.Standing.{Standing, group_barrier}
use Rattle.run_defs.specs.declared.run.AckMark.{AckMark}
use Rattle.run_defs.specs.declared.run.Limits.{Limits}
use Rattle.run_defs.specs.declared.run.Mark.{Mark}
use Rattle.run_defs.specs.declared.run.Mark.TheVariants.{Take, Turn, Ack}
use Rattle.run_defs.specs.Ends.{IsDone, IsStuck}
use Rattle.run_defs.specs.Legal.{HasBarrierCause, Legal, ready}
use Rattle.run_defs.specs.Progress.{Progress, progress_after}
use Rattle.run_defs.specs.Solo.{IsSoloPrefix, IsSoloSoFar}
use Rattle.run_laws.specs.EpochGroups.{EpochsHaveGroups}
use Rattle.run_laws.specs.OutputBetween.{BarriersLetOut, OutputHasParts}
use Rattle.run_laws.specs.Rests.{IsTraceAtRest, RestsFollow, with_fetched}
use Rattle.ckpt_chain.specs.Slot.{gate_place}
use Rattle.ckpt_chain.specs.declared.slot.SlotBody.{SlotBody}
use Rattle.ckpt_records.specs.Cost.{calls_for, cost_of}
use Rattle.ckpt_records.specs.Holds.{IsCheckpointed}
use Rattle.ckpt_records.specs.Newest.{NewestCheckpoint, nothing, checkpoint, HasNewest}
use Rattle.commit_gate.specs.Whole.{AddsCommit, AddsNone, Reads, calls_more, finished, write_calls}
use Rattle.commit_gate.specs.declared.whole.Block.{Block}
use Rattle.page_flusher.specs.CommitPlan.{HasNewestOrNext, IsPlan}
use Rattle.page_flusher.specs.KeptBlocks.{IsKeptAfter, Describes}
use Rattle.page_flusher.specs.Plans.{IsFreeCount}
use Rattle.page_flusher.specs.declared.kept.KeptBlocks.{KeptBlocks}
use Rattle.sls_core.specs.declared.run.RunAnswer.{RunAnswer}
use Rattle.sls_core.specs.declared.run.RunAnswer.TheVariants.{Done, Stuck, Spent, DiskFault, SinkFault, DiskFull, NoMemory}
use Rattle.solo_engine.specs.declared.interval.PlannedCommit.{PlannedCommit}

-- only Takes and Turns
abbrev pub IsOfTurn : Mark → Type 0
IsOfTurn (Take worker pid) = ⊤
IsOfTurn (Turn worker pid n) = ⊤
IsOfTurn m = ⊥

-- The engine has a run's group, made so many turns in all, and so many since the last barrier.
pub record HasProgress (g : Group) (made since : ℕ) (r : Progress) : Type 0 where
  pub group : r.state.group ≡ g
  pub made_is : r.turns ≡ made
  pub since_is : r.turns_since ≡ since

-- One process of the group is ready, or none, whatever stands beside it.
abbrev pub IsOneReady : Group → ℕ → Type 0
IsOneReady g pid = (standing : Standing) → ready (record { group = g; standing = standing }) ≡ pid ∷ []

abbrev pub IsNoneReady : Group → Type 0
IsNoneReady g = (standing : Standing) → ready (record { group = g; standing = standing }) ≡ []

-- Some turns were made: the trace is the beginning of a run on one thread.
pub record StopsTurning (limits : Limits) (trace trace' : List Mark) (g : Group) (made : ℕ) : Type 0 where
  pub more : List Mark
  pub trace_is : trace' ≡ trace ++ more
  pub turns : AllByRecursion IsOfTurn more
  pub so_far : (start : Group) (origin : ℕ) (r : Progress) → IsTraceAtRest start origin limits trace r → HasProgress g made 0 r → IsSoloSoFar start origin limits trace'

-- a run at rest goes on to a rest by these marks
abbrev pub GoesOn : Limits → List Mark → List Mark → List Mark → (Progress → Type 0) → (Progress → Type 0) → Type 0
GoesOn limits trace more trace' Has Has' = (start : Group) (origin : ℕ) (r : Progress) → IsTraceAtRest start origin limits trace r → Has r
    → IsTraceAtRest start origin limits trace' (progress_after limits.quantum r more) × Has' (progress_after limits.quantum r more)

-- So many turns were made since the barrier.
pub record HasTurned (limits : Limits) (trace trace' : List Mark) (g g' : Group) (made since : ℕ) : Type 0 where
  pub more : List Mark
  pub trace_is : trace' ≡ trace ++ more
  pub turns : AllByRecursion IsOfTurn more
  pub within : made + since ≤ limits.turns
  pub goes_on : GoesOn limits trace more trace' (HasProgress g made 0) (HasProgress g' (made + since) since)
  pub grown : last_position g'.frame.out ≤ last_position g.frame.out + 1048576 * since
  pub mark_is : g'.frame.out.mark ≡ g.frame.out.mark

-- Turns up to the barrier, which is due.
pub record ComesToBarrier (limits : Limits) (trace trace' : List Mark) (g g' : Group) (made made' : ℕ) : Type 0 where
  pub since : ℕ
  pub some : 0 < since
  pub made_is : made' ≡ made + since
  pub turned : HasTurned limits trace trace' g g' made since
  pub due : (r : Progress) → HasProgress g' (made + since) since r → HasBarrierCause limits r

-- The barrier after this epoch, and its fetch.
pub record IsFetched (limits : Limits) (epoch : ℕ) (trace trace' : List Mark) (g g' : Group) (made made' : ℕ) : Type 0 where
  pub marks : List Mark
  pub before : Group
  pub comes : ComesToBarrier limits trace marks g before made made'
  pub trace_is : trace' ≡ with_fetched marks (epoch + 1)
  pub group_is : g' ≡ group_barrier before
  pub checkpointed : IsCheckpointed g'
  pub from_is : g'.frame.out.from ≡ g.frame.out.mark

-- The commit of a group to a disk of so many blocks is planned, and what is known after it.
pub record IsPlanned (count : ℕ) (g : Group) (k : KeptBlocks) (r : PlannedCommit) : Type 0 where
  pub plan : IsPlan count k.used (k.epoch + 1) g r.plan.blocks r.plan.body
  pub next : IsKeptAfter k r.plan.blocks r.next

-- The group needs more blocks than are free.
pub record NeedsMore (count : ℕ) (g : Group) (k : KeptBlocks) (need free : ℕ) : Type 0 where
  pub free_is : IsFreeCount count k.used free
  pub need_is : need ≡ cost_of g
  pub too_few : free < need

-- why there is no plan
abbrev pub IsUnplanned : ℕ → Group → KeptBlocks → RunAnswer → Type 0
IsUnplanned count g k (DiskFull need free) = NeedsMore count g k need free
IsUnplanned count g k NoMemory = ⊤
IsUnplanned count g k Done = ⊥
IsUnplanned count g k Stuck = ⊥
IsUnplanned count g k Spent = ⊥
IsUnplanned count g k DiskFault = ⊥
IsUnplanned count g k SinkFault = ⊥

-- what stops leave during a commit after what is known to be kept
abbrev pub LeavesNewestOrNext : KeptBlocks → Group → DiskView → DiskView → Type 0
LeavesNewestOrNext k g disk disk' = ForSome disk.reading (λ r. (kept : NewestCheckpoint) → Describes k kept → HasNewest r kept → LeavesOnly disk disk' (HasNewestOrNext kept g))

-- The commit failed.
pub record IsUncommitted (k : KeptBlocks) (g : Group) (disk disk' : DiskView) : Type 0 where
  pub blocks : disk'.blocks ≡ disk.blocks
  pub writes : disk'.writes ≤ disk.writes + calls_for g
  pub later : disk.moment ≤ disk'.moment
  pub leaves : LeavesNewestOrNext k g disk disk'
  pub rose : Rose disk.faults disk'.faults
  pub none_ended : AddsNone disk disk'

-- It was acknowledged: the plan is the disk's reading, and nothing else could be left. It closed the old gate first where that
-- read 1.
pub record IsCommitted (k : KeptBlocks) (g : Group) (planned : List Block) (body : SlotBody) (disk disk' : DiskView) (trace trace' : List Mark) (acks acks' : List AckMark) : Type 0 where
  pub blocks : disk'.blocks ≡ disk.blocks
  pub closes : Bool
  pub closed : ForSome disk.reading (λ r. IsTrue closes ↔ (slice_index r (gate_place k.target) ≡ 1))
  pub writes : disk'.writes ≡ calls_more (write_calls closes planned) disk.writes
  pub later : disk.moment ≤ disk'.moment
  pub faults : disk.faults ≤ disk'.faults
  pub leaves : LeavesNewestOrNext k g disk disk'
  pub only : OnlyReading disk'
  pub reads : Reads (finished k.target planned body) disk disk'
  pub commits : AddsCommit planned body disk disk'
  pub trace_is : trace' ≡ trace ++ Ack (k.epoch + 1) ∷ []
  pub acks_is : acks' ≡ acks ++ record { epoch = k.epoch + 1; at = disk'.moment } ∷ []

-- how a run ends whose group has no turn left
abbrev pub EndsIn : Group → RunAnswer → Type 0
EndsIn g Done = IsDone g
EndsIn g Stuck = (standing : Standing) → IsStuck (record { group = g; standing = standing })
EndsIn g Spent = (IsDone g → ⊥) × ((standing : Standing) → (IsStuck (record { group = g; standing = standing }) → ⊥) × (ready (record { group = g; standing = standing }) ≡ [] → ⊥))
EndsIn g DiskFault = ⊥
EndsIn g SinkFault = ⊥
EndsIn g (DiskFull need free) = ⊥
EndsIn g NoMemory = ⊥

-- what is kept when a run begins with this group: nothing, or its checkpoint
abbrev pub IsNewestAtStart : Group → NewestCheckpoint → Type 0
IsNewestAtStart g nothing = ⊤
IsNewestAtStart g (checkpoint epoch h pages metas slot) = h ≡ g

-- what the output hasn't got of a group's
abbrev pub rest_of : Out → SinkView → List ℕ
rest_of o out = drop (out.count - o.from) o.bytes

-- The output took all of it.
pub record ReleasesRest (o : Out) (out out' : SinkView) : Type 0 where
  pub taken : Takes (rest_of o out) out out'
  pub faults : out.faults ≤ out'.faults

-- The output failed, and took the first bytes of it, not all.
pub record ReleasesPart (o : Out) (out out' : SinkView) : Type 0 where
  pub part : TakesPart (rest_of o out) out out'
  pub rose : Rose out.faults out'.faults

-- A run's start and its limits have room; and what each such run is known to do.
pub record IsStart (limits : Limits) (start : Group) (origin : ℕ) : Type 0 where
  pub every : 1 ≤ limits.every
  pub turns : limits.turns ≤ 1000000
  pub checkpointed : IsCheckpointed start
  pub epoch : origin ≤ 2 ^ 62
  pub position : last_position start.frame.out ≤ 2 ^ 62
  pub rests : RestsFollow start origin limits
  pub epochs : EpochsHaveGroups start origin limits
  pub parts : OutputHasParts start limits
  pub lets_out : BarriersLetOut start origin limits
  pub legal : (marks : List Mark) → IsSoloSoFar start origin limits marks → Legal start origin limits marks
  pub prefix : (marks : List Mark) → IsSoloSoFar start origin limits marks → IsSoloPrefix start origin limits marks
