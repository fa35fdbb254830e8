-- What a kernel's calls do and answer, by its log alone.
use Rattle.std.specs.Prelude.{◌≡◌, ◌⊎◌, ℕ, ◌+◌, ◌≤◌, true, false, List, [], length, All}
use Rattle.std.specs.List.{filter}
use Rattle.ckpt_records.specs.Origin.{IsUnworn}
use Rattle.ckpt_records.specs.Parts.{HasLayers, group_of}
use Rattle.ckpt_records.specs.declared.origin.Parts.{Parts}
use Rattle.group_defs.specs.Built.{IsPlain}
use Rattle.group_defs.specs.Output.{last_position}
use Rattle.group_defs.specs.Valid.{GroupIsValid}
use Rattle.group_defs.specs.declared.frame.Frame.{Frame}
use Rattle.group_kernel.specs.Deltas.{IsCheckpointIn}
use Rattle.group_kernel.specs.Leases.{IsLeased}
use Rattle.group_kernel.specs.View.{KernelView, logged, progress_of}
use Rattle.group_kernel.specs.declared.ckpt.Ckpt.{Ckpt}
use Rattle.proc_lease.specs.declared.lease.Lease.{Lease}
use Rattle.run_defs.specs.Ends.{IsDone, IsSettled, IsSpent, IsStuck}
use Rattle.run_defs.specs.Legal.{BarrierAllowed, FetchAllowed, TakeAllowed, is_unleased, ready}
use Rattle.run_defs.specs.Progress.{Progress}
use Rattle.run_defs.specs.declared.run.Limits.{Limits}
use Rattle.run_defs.specs.declared.run.Mark.TheVariants.{Fetch, Take}
use Rattle.run_defs.specs.declared.run.RunEnd.{RunEnd}
use Rattle.run_defs.specs.declared.run.RunEnd.TheVariants.{Done, Stuck, Spent}

-- What no call that is served makes: files, pipes, pairs, and descriptions of these. This goes as their calls come.
pub record HasOnlyServedTables (f : Frame) : Type 0 where
  pub files : f.files ≡ []
  pub pipes : f.pipes ≡ []
  pub pairs : f.pairs ≡ []
  pub opens : All (λ o. IsPlain o.kind) f.opens

-- Parts with which a kernel may begin: of a valid group with all of its output before the mark, and with numbers that leave room
-- for a run.
pub record MayBegin (parts : Parts) (origin_epoch : ℕ) : Type 0 where
  pub layers : HasLayers parts
  pub valid : GroupIsValid (group_of parts)
  pub all_marked : parts.frame.out.mark ≡ last_position parts.frame.out
  pub unworn : IsUnworn origin_epoch parts.frame
  pub served : HasOnlyServedTables parts.frame

-- A process was taken, by the rule for its Take, and its lease is out.
pub record HasTaken (v v' : KernelView) (worker : ℕ) (lease : Lease) : Type 0 where
  pub running : v.stopped ≡ false
  pub allowed : TakeAllowed v.limits (progress_of v) worker lease.pid
  pub log : v' ≡ logged v (Take worker lease.pid) false
  pub no_steps : lease.done ≡ 0
  pub leased : IsLeased v' worker lease

-- Why none is taken: the run was stopped; the turns of the interval, or those of the run, are all made or out; or each process that is
-- ready has a lease.
abbrev pub IsNoneTaken : KernelView → Type 0
IsNoneTaken v =
    (v.stopped ≡ true) ⊎ ((v.limits.every ≤ (progress_of v).turns_since + length (progress_of v).leases)
    ⊎ ((v.limits.turns ≤ (progress_of v).turns + length (progress_of v).leases)
    ⊎ (filter (is_unleased (progress_of v).leases) (ready (progress_of v).state) ≡ [])))

-- the epoch of the next barrier
abbrev pub next_epoch : KernelView → ℕ
next_epoch v = (progress_of v).state.standing.last + 1

abbrev pub IsBarrierDue : KernelView → Type 0
IsBarrierDue v = BarrierAllowed v.limits (progress_of v) (next_epoch v)

-- The checkpoint of the last barrier was fetched.
pub record HasFetched (v v' : KernelView) (c : Ckpt) : Type 0 where
  pub allowed : FetchAllowed (progress_of v) c.epoch
  pub log : v' ≡ logged v (Fetch c.epoch) v.prepared
  pub checkpoint : IsCheckpointIn (progress_of v) c

-- The run is settled, and this is its end.
abbrev pub IsEnd : Limits → Progress → RunEnd → Type 0
IsEnd limits r Done = IsSettled r × IsDone r.state.group
IsEnd limits r Stuck = IsSettled r × IsStuck r.state
IsEnd limits r Spent = IsSettled r × IsSpent limits r
