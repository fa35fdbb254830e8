use Rattle.std.proofs.Common.{◌≡◌, ◌∙◌, ℕ, ◌+◌, ◌<◌, ◌≤◌, List, [], Bool, not, Option, Some, None, true, false, refl, sym, ap, arith, subst}
use Rattle.std.specs.Prelude.{IsTrue}
use Rattle.group_kernel.specs.Calls.{IsBarrierDue}
use Rattle.group_kernel.specs.Held.{pid_at, seen}
use Rattle.group_kernel.specs.View.{KernelView, progress_of}
use Rattle.group_kernel.proofs.CommitMarks.{valid}
use Rattle.group_kernel.proofs.MarkedFrames.{out_valid}
use Rattle.group_kernel.proofs.OtherRows.{all_seen_fit}
use Rattle.group_kernel.proofs.RestWords.{IsDueNow, due_told}
use Rattle.group_kernel.proofs.kernel.Kernel.barrier_due.Goals as goal

pub next_ready-requires : goal.next_ready-requires
next_ready-requires c = record { fits = all_seen_fit (seen c.self.inside.tables) _ _ c.self.invariant.stands (valid _ _ _ _ _ c.self.invariant) c.self.invariant.faces.files; out = out_valid (seen c.self.inside.tables) _ _ c.self.invariant.stands (valid _ _ _ _ _ c.self.invariant) }

pub returns : goal.returns
returns c =
    subst (λ (v : KernelView). (IsTrue c.is_none.result → IsBarrierDue v) × (IsBarrierDue v → IsTrue c.is_none.result)) c.self.view_is
    (due_told c.self.inside.limits _ c.self.inside.log c.self.invariant.counts (sym c.is_at_rest.ensures ∙ c.if-not-is_at_rest.false) (omega (arith, c.if-self-eq0.false)) c.if-self.false c.if-self-2.false
    0 c.next_ready.result (pid_at (seen c.self.inside.tables)) c.is_none.result c.is_none.ensures (c.next_ready.ensures.next _ _ c.self.invariant.stands (valid _ _ _ _ _ c.self.invariant) c.self.invariant.served c.self.invariant.faces.files))
