use Rattle.std.proofs.Common.{◌≡◌, ◌∙◌, ℕ, ◌+◌, ◌≤◌, List, [], Bool, Option, Some, None, true, false, refl, sym, ap, arith, subst}
use Rattle.std.specs.Prelude.{length}
use Rattle.shadow_chains.specs.declared.face.Frozen.{Frozen}
use Rattle.group_kernel.specs.Calls.{IsBarrierDue}
use Rattle.group_kernel.specs.Held.{kept_in, seen}
use Rattle.group_kernel.specs.View.{KernelView, progress_of}
use Rattle.group_kernel.proofs.CommitMarks.{valid}
use Rattle.group_kernel.proofs.Barriers.{all_acked, all_fetched, barrier_leaves, filled_whole, last_small, objects_rise}
use Rattle.group_kernel.proofs.MarkedFrames.{same_out_valid}
use Rattle.group_kernel.proofs.kernel.Kernel.barrier.Goals as goal

pub freeze_all-requires-clause-once : goal.freeze_all-requires-clause-once
freeze_all-requires-clause-once c = objects_rise (seen c.self.inside.tables) _ _ c.self.invariant.stands (valid _ _ _ _ _ c.self.invariant)

pub move_mark-requires : goal.move_mark-requires
move_mark-requires c = same_out_valid (seen c.self.inside.tables) (seen c.freeze_all.new.self) _ _ c.freeze_all.ensures.frozen.kept c.self.invariant.stands (valid _ _ _ _ _ c.self.invariant)

pub barrier-requires-clause-acked : goal.barrier-requires-clause-acked
barrier-requires-clause-acked c =
    (all_acked _ _ _ _ _ c.self.invariant _ (subst IsBarrierDue (sym c.self.view_is) c.requires.due), all_fetched _ _ _ _ _ c.self.invariant _ (subst IsBarrierDue (sym c.self.view_is) c.requires.due))

pub barrier-requires-clause-small : goal.barrier-requires-clause-small
barrier-requires-clause-small c = last_small _ _ _ _ _ c.self.invariant

pub invariant_of-self : goal.invariant_of-self
invariant_of-self c =
    barrier_leaves _ _ _ _ _ c.self.invariant _ (subst IsBarrierDue (sym c.self.view_is) c.requires.due) (seen c.freeze_all.new.self) _ c.in-Some.field-0 (sym c.replace.ensures.value ∙ c.in-Some.is) c.freeze_all.ensures.frozen
    c.move_mark.new.out _ _ _ _ _ c.move_mark.ensures (c.freeze_all.ensures.owners c.self.invariant.owners) c.replace.ensures.after (λ many. c.of.ensures ∙ filled_whole c.in-Some.field-0.frozen.items c.freeze_all.new.frozen c.in-Some.field-0.frozen.len (sym c.deref_mut.ensures.len ∙ ap (λ (l : List Frozen). length l) c.deref_mut.ensures.value) many) c.barrier.ensures.numbers c.barrier.ensures.marks c.barrier.ensures.left
