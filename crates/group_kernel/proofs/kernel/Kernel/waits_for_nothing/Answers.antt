use Rattle.std.proofs.Common.{◌≡◌, ◌∙◌, ℕ, ◌+◌, ◌<◌, ◌≤◌, List, [], Bool, not, Option, Some, None, true, false, refl, sym, ap, arith, subst}
use Rattle.std.proofs.lemmas.Bool.{false≢true}
use Rattle.std.specs.Prelude.{◌==◌, IsTrue}
use Rattle.group_kernel.specs.contracts.kernel.Kernel.{the_view}
use Rattle.group_kernel.specs.Held.{pid_at, seen}
use Rattle.group_kernel.specs.Resting.{HasNothingNew}
use Rattle.group_kernel.specs.View.{KernelView, progress_of}
use Rattle.run_defs.specs.Legal.{IsAtRest}
use Rattle.group_kernel.proofs.CommitMarks.{valid}
use Rattle.group_kernel.proofs.MarkedFrames.{out_valid, tables_out}
use Rattle.group_kernel.proofs.OtherRows.{all_seen_fit}
use Rattle.group_kernel.proofs.RestWords.{none_some, nothing_told, ready_told}
use Rattle.group_kernel.proofs.kernel.Kernel.waits_for_nothing.Goals as goal

pub next_ready-requires : goal.next_ready-requires
next_ready-requires c = record { fits = all_seen_fit (seen c.self.inside.tables) _ _ c.self.invariant.stands (valid _ _ _ _ _ c.self.invariant) c.self.invariant.faces.files; out = out_valid (seen c.self.inside.tables) _ _ c.self.invariant.stands (valid _ _ _ _ _ c.self.invariant) }

pub returns-then-is_some : goal.returns-then-is_some
returns-then-is_some c = (
  λ e. absurd (false≢true e),
  λ nothing. absurd (ready_told (progress_of (the_view c.self.inside)) 0 0 c.next_ready.result (pid_at (seen c.self.inside.tables)) (subst (λ (v : KernelView). IsAtRest (progress_of v)) (sym c.self.view_is) c.requires.rest)
      (c.next_ready.ensures.next _ _ c.self.invariant.stands (valid _ _ _ _ _ c.self.invariant) c.self.invariant.served c.self.invariant.faces.files) (sym c.is_some.ensures ∙ c.if-is_some.true) (subst (λ (v : KernelView). HasNothingNew (progress_of v).state) (sym c.self.view_is) nothing)),
)

pub last_of-requires : goal.last_of-requires
last_of-requires c = out_valid (seen c.self.inside.tables) _ _ c.self.invariant.stands (valid _ _ _ _ _ c.self.invariant)

pub returns : goal.returns
returns c =
    subst (λ (v : KernelView). (IsTrue (c.self.inside.tables.io.out.mark == c.last_of.result) → HasNothingNew (progress_of v).state) × (HasNothingNew (progress_of v).state → IsTrue (c.self.inside.tables.io.out.mark == c.last_of.result))) c.self.view_is
    (nothing_told (progress_of (the_view c.self.inside)) c.self.inside.tables.io.out 0 c.next_ready.result (pid_at (seen c.self.inside.tables)) c.last_of.result
    (subst (λ (v : KernelView). IsAtRest (progress_of v)) (sym c.self.view_is) c.requires.rest)
    (tables_out (seen c.self.inside.tables) _ _ c.self.invariant.stands) (c.next_ready.ensures.next _ _ c.self.invariant.stands (valid _ _ _ _ _ c.self.invariant) c.self.invariant.served c.self.invariant.faces.files) (none_some c.next_ready.result true (sym c.is_some.ensures ∙ c.if-is_some.false) refl) c.last_of.ensures)
