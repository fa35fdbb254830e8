-- What holds of a kernel at every moment.
use Rattle.std.specs.Prelude.{◌≡◌, ℕ, ◌+◌, ◌-◌, ◌≤◌, ◌<◌, Bool, true, false, if◌then◌else◌, IsTrue, List, [], map, All, Option, Some, None, IfSome, length}
use Rattle.std.specs.Vec.{vec_capacity, vec_len}
use Rattle.ckpt_records.specs.Origin.{IsUnworn}
use Rattle.descriptors.specs.Owners.{OwnersAre}
use Rattle.group_defs.specs.Group.{Group}
use Rattle.group_defs.specs.Standing.{group_barrier}
use Rattle.group_defs.specs.Valid.{GroupIsValid}
use Rattle.group_parts.specs.Kept.{StandsFor}
use Rattle.group_kernel.specs.Calls.{HasOnlyServedTables}
use Rattle.group_kernel.specs.Deltas.{IsCheckpointIn}
use Rattle.group_kernel.specs.Faces.{base_memory}
use Rattle.group_kernel.specs.FirstFaces.{first_face}
use Rattle.group_kernel.specs.Held.{FacesStandOver, TablesView, kept_in}
use Rattle.group_kernel.specs.View.{KernelView, progress_of}
use Rattle.group_kernel.specs.declared.ckpt.Ckpt.{Ckpt}
use Rattle.group_kernel.specs.declared.ckpt.Prepared.{Prepared}
use Rattle.group_kernel.specs.declared.log.Log.{Log}
use Rattle.run_defs.specs.Legal.{Legal}
use Rattle.run_defs.specs.Limits.{LimitsFit}
use Rattle.run_defs.specs.Progress.{Progress}

-- The log's numbers are those of what stands after it.
pub record IsCountOf (r : Progress) (log : Log) : Type 0 where
  pub turns : log.turns ≡ r.turns
  pub turns_since : log.turns_since ≡ r.turns_since
  pub leases : log.leases ≡ length r.leases
  pub taken : log.taken ≡ r.taken
  pub last : log.last ≡ r.state.standing.last
  pub fetched : log.fetched ≡ r.fetched
  pub acked : log.acked ≡ r.state.standing.acked

-- how many marks the last barrier still wants: its Fetch and its Ack
abbrev pub marks_open : Log → ℕ
marks_open log = (log.last - log.fetched) + (log.last - log.acked)

-- So many more marks, and those that the last barrier still wants, take no memory.
abbrev pub HasRoom : Log → ℕ → Type 0
HasRoom log n = vec_len log.marks + marks_open log + n ≤ vec_capacity log.marks

-- Each object's face that is here, wherever it is first found, is ready to be frozen.
abbrev pub AreReady : TablesView → Type 0
AreReady t = All (λ o. IfSome (first_face t o.number) (λ f. f.prepared ≡ true)) t.objects

-- A preparation: where no lease is out, the frame of the group after its barrier, a place for each object, and each face ready to be
-- frozen; and room for the marks of the barrier.
pub record IsPrepared (r : Progress) (t : TablesView) (log : Log) (p : Prepared) : Type 0 where
  pub room : HasRoom log 3
  pub frame : r.leases ≡ [] → p.frame ≡ (group_barrier r.state.group).frame
  pub places : length p.frozen.items ≡ length t.objects
  pub ready : AreReady t

-- A checkpoint that is here is the one of the last barrier, which isn't fetched yet.
pub record IsUnfetched (r : Progress) (c : Ckpt) : Type 0 where
  pub epoch : c.epoch ≡ r.state.standing.last
  pub unfetched : r.fetched < r.state.standing.last
  pub checkpoint : IsCheckpointIn r c

-- Who owns descriptions: the descriptors of all processes. No message carries one yet.
abbrev pub OwnersCounted : TablesView → Type 0
OwnersCounted t = OwnersAre (map (λ row. row.fds.entries) t.rows) [] t.io.opens.entries

-- The run began with a valid group that isn't worn, its log is legal, the tables stand for the group after it but for the
-- parts on lease, the faces stand over the last barrier, the numbers are the log's, and what is prepared and frozen is as it says.
pub record Stands (v : KernelView) (t : TablesView) (log : Log) (prepared : Option Prepared) (frozen : Option Ckpt) : Type 0 where
  pub start_valid : GroupIsValid v.start
  pub unworn : IsUnworn v.origin_epoch v.start.frame
  pub limits : LimitsFit v.limits
  pub legal : Legal v.start v.origin_epoch v.limits v.marks
  pub stands : StandsFor (progress_of v).leases (kept_in t) (progress_of v).state.group
  pub faces : FacesStandOver (base_memory (progress_of v)) (progress_of v).touched t
  pub owners : OwnersCounted t
  pub served : HasOnlyServedTables (progress_of v).state.group.frame
  pub counts : IsCountOf (progress_of v) log
  pub room : HasRoom log 0
  pub prepared_is : IfSome prepared (IsPrepared (progress_of v) t log)
  pub frozen_is : IfSome frozen (IsUnfetched (progress_of v))
  pub fetched : frozen ≡ None → log.fetched ≡ log.last
