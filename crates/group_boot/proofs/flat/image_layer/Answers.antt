use Rattle.std.proofs.Common.{List, ℕ, ◌+◌, sym, subst, arith}
use Rattle.mem_objects.specs.Pages.{IsZero, Pages, PutsPage}
use Rattle.group_boot.proofs.ImagePages.{HasPages, none_yet, put_more, zero_more}
use Rattle.group_boot.proofs.flat.image_layer.Goals as goal
use Rattle.group_boot.proofs.flat.image_layer.Goals.{then-not-is_zero+in_ok-put, else-not-is_zero}

pub loop-number-init : goal.loop-number-init
loop-number-init c = none_yet c.args.image.now c.new-layer.result c.new-layer.ensures

pub loop-number-preserved : goal.loop-number-preserved
loop-number-preserved c =
    let image = c.args.image.now in
    let number = c.loop-number.number in
    let layer = c.loop-number.layer in
    elim c.if-not-is_zero.branch [
      | then-not-is_zero+in_ok-put w ↦
          subst (λ (l : Pages). HasPages image l (number + 1)) (sym w.layer-is)
          (put_more image layer number c.loop-number.invariant w.put.new.self (subst (λ (b : List ℕ). PutsPage layer w.put.new.self number b) c.fill.ensures w.in_ok-put.ensures.ok))
      | else-not-is_zero w ↦
          subst (λ (l : Pages). HasPages image l (number + 1)) (sym w.layer-is)
          (zero_more image layer number c.loop-number.invariant (subst IsZero c.fill.ensures (c.is_zero.ensures.0 w.if-not-is_zero.false)))
    ]

pub returns : goal.returns
returns c = λ page below. c.loop-number.invariant.shown page (omega (arith, below, c.loop-number-test.false, c.pages_for-number-end.ensures))
