-- What holds of a kernel, with what stands after its log as a variable.
use Rattle.std.proofs.Common.{◌≡◌, ◌∙◌, ℕ, ◌++◌, Bool, List, [], ◌∷◌, Option, Some, None, refl, sym, ap, arith, subst}
use Rattle.std.specs.Prelude.{IfSome, ◌-◌, ◌==◌}
use Rattle.std.specs.List.{find}
use Rattle.group_parts.specs.Kept.{StandsFor}
use Rattle.group_kernel.specs.Calls.{HasOnlyServedTables}
use Rattle.group_kernel.specs.Deltas.{IsCheckpointIn, IsDelta}
use Rattle.group_kernel.specs.Faces.{base_memory, memory_of_epoch}
use Rattle.group_kernel.specs.Held.{FacesStandOver, TablesView, kept_in}
use Rattle.group_kernel.specs.Standing.{HasRoom, IsCountOf, IsPrepared, IsUnfetched, OwnersCounted, Stands}
use Rattle.group_kernel.specs.View.{KernelView, logged, progress_of}
use Rattle.group_kernel.specs.declared.ckpt.Ckpt.{Ckpt}
use Rattle.group_kernel.specs.declared.ckpt.Prepared.{Prepared}
use Rattle.group_kernel.specs.declared.log.Log.{Log}
use Rattle.run_defs.specs.Legal.{Allowed}
use Rattle.run_defs.specs.Progress.{Checkpoint, Progress, after_mark, progress_after, progress_at}
use Rattle.run_defs.specs.declared.run.Mark.{Mark}
use Rattle.run_laws.proofs.MachineLaws.{each_more, progress_more}

pub record StandsAt (r : Progress) (t : TablesView) (log : Log) (prepared : Option Prepared) (frozen : Option Ckpt) : Type 0 where
  pub stands : StandsFor r.leases (kept_in t) r.state.group
  pub faces : FacesStandOver (base_memory r) r.touched t
  pub owners : OwnersCounted t
  pub served : HasOnlyServedTables r.state.group.frame
  pub counts : IsCountOf r log
  pub room : HasRoom log 0
  pub prepared_is : IfSome prepared (IsPrepared r t log)
  pub frozen_is : IfSome frozen (IsUnfetched r)
  pub fetched : frozen ≡ None → log.fetched ≡ log.last

pub stands_at : (v : KernelView) (t : TablesView) (log : Log) (prepared : Option Prepared) (frozen : Option Ckpt) → Stands v t log prepared frozen → StandsAt (progress_of v) t log prepared frozen
stands_at v t log prepared frozen s = record {
  stands = s.stands;
  faces = s.faces;
  owners = s.owners;
  served = s.served;
  counts = s.counts;
  room = s.room;
  prepared_is = s.prepared_is;
  frozen_is = s.frozen_is;
  fetched = s.fetched;
}

-- one mark more
pub one_more : (v : KernelView) (m : Mark) (prepared : Bool) → progress_of (logged v m prepared) ≡ after_mark v.limits.quantum (progress_of v) m
one_more v m prepared = progress_more v.limits.quantum (progress_at v.origin_epoch v.start) v.marks (m ∷ [])

pub stands_logged : (v : KernelView) (m : Mark) (is_prepared : Bool) (t t' : TablesView) (log log' : Log) (prepared prepared' : Option Prepared) (frozen frozen' : Option Ckpt) → Stands v t log prepared frozen → Allowed v.limits (progress_of v) m
    → StandsAt (after_mark v.limits.quantum (progress_of v) m) t' log' prepared' frozen' → Stands (logged v m is_prepared) t' log' prepared' frozen'
stands_logged v m is_prepared t t' log log' prepared prepared' frozen frozen' s allowed after =
    let at : StandsAt (progress_of (logged v m is_prepared)) t' log' prepared' frozen' = subst (λ (r : Progress). StandsAt r t' log' prepared' frozen') (sym (one_more v m is_prepared)) after in
    record {
      start_valid = s.start_valid;
      unworn = s.unworn;
      limits = s.limits;
      legal = each_more (Allowed v.limits) v.limits.quantum (progress_at v.origin_epoch v.start) v.marks m s.legal allowed;
      stands = at.stands;
      faces = at.faces;
      owners = at.owners;
      served = at.served;
      counts = at.counts;
      room = at.room;
      prepared_is = at.prepared_is;
      frozen_is = at.frozen_is;
      fetched = at.fetched;
    }

-- what a checkpoint is over stays where the checkpoints do
memory_stays : (r r' : Progress) (epoch : ℕ) → r'.checkpoints ≡ r.checkpoints → memory_of_epoch r' epoch ≡ memory_of_epoch r epoch
memory_stays r r' epoch same = ap (λ (l : List Checkpoint). memory_of_epoch (record r' { checkpoints = l }) epoch) same

pub checkpoint_stays : (r r' : Progress) (c : Ckpt) → r'.checkpoints ≡ r.checkpoints → IsCheckpointIn r c → IsCheckpointIn r' c
checkpoint_stays r r' c same is = record {
  made = is.made;
  made_is = ap (λ (l : List Checkpoint). find (λ (x : Checkpoint). x.epoch == c.epoch) l) same ∙ is.made_is;
  delta = subst (λ (memory : List (ℕ × List ℕ)). IsDelta memory c is.made.group) (sym (memory_stays r r' (c.epoch - 1) same)) is.delta;
  just = is.just;
}

-- a checkpoint that isn't fetched stays so where checkpoints and the last barrier's epoch stay
pub unfetched_stays : (r r' : Progress) (frozen : Option Ckpt) → r'.checkpoints ≡ r.checkpoints → r'.state.standing.last ≡ r.state.standing.last → r'.fetched ≡ r.fetched
    → IfSome frozen (IsUnfetched r) → IfSome frozen (IsUnfetched r')
unfetched_stays r r' None checkpoints last fetched is = is
unfetched_stays r r' (Some c) checkpoints last fetched is = record {
  epoch = is.epoch ∙ sym last;
  unfetched = let before = is.unfetched in omega (arith, before, last, fetched);
  checkpoint = checkpoint_stays r r' c checkpoints is.checkpoint;
}
