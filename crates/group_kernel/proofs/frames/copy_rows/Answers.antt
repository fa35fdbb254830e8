use Rattle.std.proofs.Common.{◌≡◌, ◌∙◌, ◌≤◌, ◌++◌, ◌∷◌, [], List, ap, map, take, sym, arith}
use Rattle.std.proofs.lemmas.List.{map_more, take_all}
use Rattle.group_defs.specs.declared.frame.Proc.{Proc}
use Rattle.group_kernel.specs.Held.{with_part_here}
use Rattle.group_kernel.specs.declared.row.Row.{Row}
use Rattle.group_kernel.proofs.frames.copy_rows.Goals as goal

pub loop-row-preserved : goal.loop-row-preserved
loop-row-preserved c =
    c.in_ok-push.ensures.ok ∙ ap (λ (l : List Proc). l ++ c.in_ok-copy_row.field-0 ∷ []) c.loop-row.invariant
    ∙ ap (λ (p : Proc). map with_part_here (take c.loop-row.row-index c.args.rows.now) ++ p ∷ []) (c.in_ok-copy_row.ensures ∙ ap with_part_here c.row-item.is)
    ∙ sym (map_more with_part_here c.args.rows.now c.loop-row.row-index c.row-item.result c.loop-row-test.true)

pub returns : goal.returns
returns c = c.loop-row.invariant ∙ ap (map with_part_here) (take_all c.loop-row.row-index c.args.rows.now c.loop-row-test.false)
