use Rattle.std.proofs.Common.{refl, ap, ◌∙◌, set, get_or, List}
use Rattle.group_kernel.specs.Ending.{without_parent}
use Rattle.group_kernel.specs.declared.row.Row.{Row}
use Rattle.group_kernel.proofs.RowsLeft.{all_changed, change_next}
use Rattle.group_kernel.proofs.ending.part_from.Goals as goal

pub loop-place-init : goal.loop-place-init
loop-place-init c = record { rows = refl }

pub loop-place-preserved : goal.loop-place-preserved
loop-place-preserved c = record {
  rows = ap (set c.loop-place.rows c.loop-place.place) c.leave_parent.ensures
      ∙ ap (λ (l : List Row). set l c.loop-place.place (without_parent c.args.pid (get_or l c.loop-place.place c.index-rows-place.result))) c.loop-place.invariant.rows
      ∙ change_next (without_parent c.args.pid) c.args.rows.now c.loop-place.place c.index-rows-place.result c.loop-place-test.true;
}

pub returns : goal.returns
returns c = c.loop-place.invariant.rows ∙ all_changed (without_parent c.args.pid) c.args.rows.now c.loop-place.place c.loop-place-test.false
