-- A kernel stands right after its group's tables were made, before any mark.
use Rattle.std.proofs.Common.{◌≡◌, ◌∙◌, ℕ, ◌+◌, ◌-◌, ◌≤◌, List, [], Option, Some, None, refl, sym, ap, arith, length, subst}
use Rattle.ckpt_records.specs.Parts.{group_of}
use Rattle.ckpt_records.specs.declared.origin.Parts.{Parts}
use Rattle.group_parts.proofs.KeptLaws.{all_stand}
use Rattle.group_parts.specs.Kept.{KeptParts, StandsFor, all_parts}
use Rattle.run_defs.specs.Limits.{LimitsFit}
use Rattle.run_defs.specs.Legal.{Allowed}
use Rattle.run_defs.specs.Progress.{progress_at}
use Rattle.run_defs.specs.declared.run.Limits.{Limits}
use Rattle.run_defs.specs.declared.run.Mark.{Mark}
use Rattle.run_laws.proofs.MachineLaws.{each_none}
use Rattle.group_kernel.specs.Calls.{MayBegin}
use Rattle.group_kernel.specs.Faces.{base_memory}
use Rattle.group_kernel.specs.Held.{FacesStandOver, TablesView, kept_in}
use Rattle.group_kernel.specs.Standing.{HasRoom, OwnersCounted, Stands}
use Rattle.group_kernel.specs.View.{begun}
use Rattle.group_kernel.specs.declared.log.Log.{Log}

no_marks : (log : Log) (epoch : ℕ) → log.marks.items ≡ [] → (log.last ≡ epoch) × (log.fetched ≡ epoch) × (log.acked ≡ epoch) → HasRoom log 0
no_marks log epoch none epochs = let count = ap (λ (l : List Mark). length l) none in let a = epochs.0 in let b = epochs.1 in let c = epochs.2 in omega (arith, count, a, b, c)

pub begins : (start parts : Parts) (epoch : ℕ) (limits : Limits) (t : TablesView) (log : Log) → start ≡ parts → MayBegin parts epoch → LimitsFit limits → kept_in t ≡ all_parts (group_of parts)
    → FacesStandOver (base_memory (progress_at epoch (group_of parts))) (progress_at epoch (group_of parts)).touched t → OwnersCounted t
    → log.marks.items ≡ [] → (log.turns ≡ 0) × (log.turns_since ≡ 0) × (log.leases ≡ 0) × (log.taken ≡ 0) → (log.last ≡ epoch) × (log.fetched ≡ epoch) × (log.acked ≡ epoch)
    → (marks : List Mark) → marks ≡ [] → Stands (record (begun (group_of start) epoch limits) { marks = marks }) t log None None
begins start parts epoch limits t log same may fit kept faces owners none zeros epochs marks no_mark =
    subst (λ (x : Parts). Stands (record (begun (group_of x) epoch limits) { marks = marks }) t log None None) (sym same)
    (subst (λ (l : List Mark). Stands (record (begun (group_of parts) epoch limits) { marks = l }) t log None None) (sym no_mark) (record {
      start_valid = may.valid;
      unworn = may.unworn;
      limits = fit;
      legal = each_none (Allowed limits) limits.quantum (progress_at epoch (group_of parts));
      stands = subst (λ (k : KeptParts). StandsFor [] k (group_of parts)) (sym kept) (all_stand (group_of parts));
      faces = faces;
      owners = owners;
      served = may.served;
      counts = record { turns = zeros.0; turns_since = zeros.1; leases = zeros.2; taken = zeros.3; last = epochs.0; fetched = epochs.1; acked = epochs.2 };
      room = no_marks log epoch none epochs;
      prepared_is = tt;
      frozen_is = tt;
      fetched = λ x. epochs.1 ∙ sym epochs.0;
    }))
