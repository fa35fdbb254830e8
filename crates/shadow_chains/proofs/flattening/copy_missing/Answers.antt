use Rattle.std.proofs.Common.{◌∙◌, ◌++◌, ◌∷◌, [], take, sym, ap, subst, arith, List, ℕ}
use Rattle.std.proofs.lemmas.List.{take_more}
use Rattle.mem_objects.specs.Pages.{Pages}
use Rattle.shadow_chains.specs.Own.{Joins}
use Rattle.shadow_chains.proofs.Joins.{joins_none, joins_more, joins_front}
use Rattle.shadow_chains.proofs.flattening.copy_missing.Goals as goal

pub loop-slot-init : goal.loop-slot-init
loop-slot-init c = record { rise = c.requires; joins = joins_none c.args.over.now.items }

pub returns-in_err-copy_one-clause-same : goal.returns-in_err-copy_one-clause-same
returns-in_err-copy_one-clause-same c = rw c.in_err-copy_one.ensures.err (joins_front _ _ _ c.loop-slot.slot-index c.loop-slot.invariant.joins)

pub loop-slot-preserved : goal.loop-slot-preserved
loop-slot-preserved c = record {
  rise = c.copy_one.ensures.rise;
  joins = subst (λ (l : Pages). Joins c.args.over.now.items l c.copy_one.new.over.items) (sym (take_more c.args.below.now c.loop-slot.slot-index c.slot-item.result (omega arith) ∙ ap (λ (x : ℕ × List ℕ). take c.loop-slot.slot-index c.args.below.now ++ x ∷ []) (sym c.slot-item.is)))
      (joins_more _ _ _ c.slot-item.result _ c.loop-slot.invariant.joins c.in_ok-copy_one.ensures.ok);
}

pub returns-clause-same : goal.returns-clause-same
returns-clause-same c = joins_front _ _ _ c.loop-slot.slot-index c.loop-slot.invariant.joins
