use Rattle.std.proofs.Common.{◌≡◌, ◌∙◌, ◌<◌, ℕ, List, ap, subst, take_all, length, get_or, arith}
use Rattle.std.proofs.lemmas.List.Elements.{All-nil}
use Rattle.mem_objects.specs.Pages.{Pages}
use Rattle.group_kernel.specs.NewFaces.{AreWhole}
use Rattle.group_kernel.proofs.NewFaces.{whole_next}
use Rattle.group_kernel.proofs.starting.pages_are_whole.Goals as goal

pub loop-page-init : goal.loop-page-init
loop-page-init c = All-nil (λ (p : ℕ × List ℕ). length p.1 ≡ 4096)

pub loop-page-preserved : goal.loop-page-preserved
loop-page-preserved c =
    let all = c.as_slice-page-items.ensures.all in
    let page = c.page-item.result in
    let here : page ≡ get_or c.args.layer.now c.loop-page.page-index page = c.page-item.is ∙ ap (λ (l : Pages). get_or l c.loop-page.page-index page) all in
    let lt : c.loop-page.page-index < length c.args.layer.now = subst (λ (l : Pages). c.loop-page.page-index < length l) all c.loop-page-test.true in
    whole_next c.args.layer.now c.loop-page.page-index page lt here c.loop-page.invariant c.as_array.ensures.len

pub returns : goal.returns
returns c =
    let all = c.as_slice-page-items.ensures.all in
    subst AreWhole (take_all c.loop-page.page-index c.args.layer.now (omega (arith, c.loop-page-test.false, ap (λ (l : Pages). length l) all))) c.loop-page.invariant
