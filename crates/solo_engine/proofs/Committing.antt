-- A planned commit: what stops leave, and what its calls need.
use Rattle.std.proofs.Common.{◌≡◌, ◌≤◌, ℕ, ◌+◌, ◌*◌, Bool, List, length, Some, sym, ◌∙◌, subst, arith}
use Rattle.std.specs.Prelude.{◌↔◌, slice_index, IsTrue}
use Rattle.std.specs.Option.{ForSome}
use Rattle.dev_traits.specs.Disk.{DiskView}
use Rattle.dev_traits.specs.Since.{LeavesOnly, weaker}
use Rattle.group_defs.specs.Group.{Group}
use Rattle.ckpt_chain.specs.Slot.{gate_place}
use Rattle.commit_gate.specs.ImageLaws.{in_steps}
use Rattle.commit_gate.specs.Whole.{IsDuring}
use Rattle.solo_engine.specs.Interval.{IsPlanned, LeavesNewestOrNext}
use Rattle.page_flusher.specs.CommitPlan.{HasNewestOr, HasNewestOrNext, IsBeforeCommit}
use Rattle.ckpt_records.specs.Newest.{HasNewest, NewestCheckpoint}
use Rattle.page_flusher.specs.KeptBlocks.{Describes, DescribesGates, gate_in}
use Rattle.solo_engine.specs.declared.interval.PlannedCommit.{PlannedCommit}
use Rattle.page_flusher.specs.declared.kept.KeptBlocks.{KeptBlocks}

-- before the commit the disk has what is kept
pub before_commit : (count : ℕ) (k : KeptBlocks) (kept : NewestCheckpoint) (r : List ℕ) → Describes k kept → length r ≡ 4096 * count → HasNewest r kept → IsBeforeCommit count k.used (k.epoch + 1) k.target kept r
before_commit count k kept r knows size keeps = record { covers = λ b has. (knows.used b).1 has; later = omega (arith, knows.epoch); into = knows.target; size = size; keeps = keeps }

pub leaves_kept : (count : ℕ) (g : Group) (k : KeptBlocks) (r : PlannedCommit) (close : Bool) (disk disk' : DiskView) → IsPlanned count g k r → 16 ≤ count → ((bytes : List ℕ) → disk.reading ≡ Some bytes → length bytes ≡ 4096 * count)
    → ForSome disk.reading (λ bytes. IsTrue close ↔ (slice_index bytes (gate_place k.target) ≡ 1))
    → LeavesOnly disk disk' (IsDuring k.target close r.plan.blocks r.plan.body disk.reading) → LeavesNewestOrNext k g disk disk'
leaves_kept count g k r close disk disk' is least size gate leaves bytes told kept knows keeps =
    weaker disk disk' (IsDuring k.target close r.plan.blocks r.plan.body disk.reading) (HasNewestOrNext kept g)
    (λ image either. subst (λ (e : ℕ). HasNewestOr kept e g image) (sym knows.epoch) ((is.plan.replaces kept k.target bytes (before_commit count k kept bytes knows (size bytes told) keeps)).during image
    (in_steps k.target close r.plan.blocks r.plan.body count bytes is.plan.placed least (size bytes told) (gate bytes told) image (either bytes told)))) leaves

-- whether the gate of the next slot reads 1, as the bytes have it
pub gate_read : (k : KeptBlocks) (disk : DiskView) {X : Type 0} → ForSome disk.reading (λ r. DescribesGates k r) → X ↔ (gate_in k k.target ≡ 1) → ForSome disk.reading (λ r. X ↔ (slice_index r (gate_place k.target) ≡ 1))
gate_read k disk gates either bytes told = (
  (λ x. gates bytes told k.target ∙ either.0 x),
  (λ one. either.1 (sym (gates bytes told k.target) ∙ one)),
)
