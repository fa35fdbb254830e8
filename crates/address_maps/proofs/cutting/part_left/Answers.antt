use Rattle.std.proofs.Common.{sym, ◌∙◌, arith}
use Rattle.address_maps.specs.CutLaws.{remains_whole, remains_below, remains_above, remains_nothing, one_side}
use Rattle.address_maps.proofs.cutting.part_left.Goals as goal

pub returns-then-not-touches : goal.returns-then-not-touches
returns-then-not-touches c = sym (remains_whole c.args.start c.args.end c.args.m (sym c.touches.ensures ∙ c.if-not-touches.true))

pub returns-then-m-start : goal.returns-then-m-start
returns-then-m-start c =
    let on = sym c.touches.ensures ∙ c.if-not-touches.false in
    rw c.below.ensures (sym (remains_below c.args.start c.args.end c.args.m on c.if-m-start.true (one_side c.args.start c.args.end c.args.m c.requires.part on c.if-m-start.true)))

pub returns-then-from-end_of : goal.returns-then-from-end_of
returns-then-from-end_of c =
    let on = sym c.touches.ensures ∙ c.if-not-touches.false in
    rw c.above.ensures (sym (remains_above c.args.start c.args.end c.args.m on c.if-m-start.false (omega (arith, c.if-from-end_of.true, c.from.ensures, c.end_of.ensures))))

pub returns-else-from-end_of : goal.returns-else-from-end_of
returns-else-from-end_of c =
    let on = sym c.touches.ensures ∙ c.if-not-touches.false in
    sym (remains_nothing c.args.start c.args.end c.args.m on c.if-m-start.false (omega (arith, c.if-from-end_of.false, c.from.ensures, c.end_of.ensures)))
