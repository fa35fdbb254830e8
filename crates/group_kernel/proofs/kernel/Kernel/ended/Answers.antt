use Rattle.std.proofs.Common.{◌≡◌, ◌∙◌, ℕ, ◌+◌, ◌≤◌, List, [], Bool, Option, Some, None, true, false, refl, sym, ap, arith, subst}
use Rattle.std.proofs.lemmas.Bool.{false≢true}
use Rattle.group_kernel.specs.Resting.{HasNothingNew}
use Rattle.group_kernel.specs.contracts.kernel.Kernel.{the_view}
use Rattle.group_kernel.specs.View.{KernelView, progress_of}
use Rattle.run_defs.specs.Ends.{HasEnded, IsDone, IsSettled, IsSpent, IsStuck}
use Rattle.group_kernel.proofs.RestWords.{goes_on, settled, spent, stuck}
use Rattle.group_kernel.proofs.kernel.Kernel.ended.Goals as goal

pub returns-then-not-any_running-clause-some : goal.returns-then-not-any_running-clause-some
returns-then-not-any_running-clause-some c =
    subst (λ (v : KernelView). IsSettled (progress_of v) × IsDone (progress_of v).state.group) c.self.view_is
    (settled _ c.self.inside.log c.self.invariant.counts (sym c.is_at_rest.ensures ∙ c.if-not-is_at_rest.false) c.if-self-gt0.false, sym (c.any_running.ensures _ _ c.self.invariant.stands) ∙ c.if-not-any_running.true)

pub returns-then-waits_for_nothing-clause-some : goal.returns-then-waits_for_nothing-clause-some
returns-then-waits_for_nothing-clause-some c =
    subst (λ (v : KernelView). IsSettled (progress_of v) × IsStuck (progress_of v).state) c.self.view_is (
      settled _ c.self.inside.log c.self.invariant.counts (sym c.is_at_rest.ensures ∙ c.if-not-is_at_rest.false) c.if-self-gt0.false,
      stuck (progress_of (the_view c.self.inside)) (sym (c.any_running.ensures _ _ c.self.invariant.stands) ∙ c.if-not-any_running.false)
          (subst (λ (v : KernelView). HasNothingNew (progress_of v).state) (sym c.self.view_is) (c.waits_for_nothing.ensures.0 c.if-waits_for_nothing.true)),
    )

pub returns-then-self-clause-some : goal.returns-then-self-clause-some
returns-then-self-clause-some c =
    subst (λ (v : KernelView). IsSettled (progress_of v) × IsSpent v.limits (progress_of v)) c.self.view_is (
      settled _ c.self.inside.log c.self.invariant.counts (sym c.is_at_rest.ensures ∙ c.if-not-is_at_rest.false) c.if-self-gt0.false,
      spent c.self.inside.limits (progress_of (the_view c.self.inside)) c.self.inside.log c.self.invariant.counts c.if-self.true (sym (c.any_running.ensures _ _ c.self.invariant.stands) ∙ c.if-not-any_running.false)
          (λ nothing. false≢true (sym c.if-waits_for_nothing.false ∙ c.waits_for_nothing.ensures.1 (subst (λ (v : KernelView). HasNothingNew (progress_of v).state) c.self.view_is nothing))),
    )

pub returns-clause-none : goal.returns-clause-none
returns-clause-none c =
    subst (λ (v : KernelView). HasEnded v.limits (progress_of v) → ⊥) c.self.view_is
    (goes_on c.self.inside.limits (progress_of (the_view c.self.inside)) c.self.inside.log c.self.invariant.counts (sym (c.any_running.ensures _ _ c.self.invariant.stands) ∙ c.if-not-any_running.false)
    (λ nothing. false≢true (sym c.if-waits_for_nothing.false ∙ c.waits_for_nothing.ensures.1 (subst (λ (v : KernelView). HasNothingNew (progress_of v).state) c.self.view_is nothing))) c.if-self.false)
