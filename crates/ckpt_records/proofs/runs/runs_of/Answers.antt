use Rattle.std.proofs.Common.{◌≡◌, ◌∙◌, ap, sym, arith, List}
use Rattle.std.proofs.lemmas.List.{nil_from_length}
use Rattle.ckpt_records.specs.declared.meta.PagePlace.{PagePlace}
use Rattle.ckpt_records.specs.declared.meta.PageRun.{PageRun}
use Rattle.ckpt_records.specs.Runs.{runs_of, runs_from}
use Rattle.ckpt_records.proofs.RunLaws.{more_run, new_run, last_run, runs_begin, runs_none}
use Rattle.ckpt_records.proofs.runs.runs_of.Goals as goal
use Rattle.ckpt_records.proofs.runs.runs_of.Goals.{then-continues, else-continues+in_ok-push}

pub returns-in_default : goal.returns-in_default
returns-in_default c =
    let none = nil_from_length c.args.pages.now c.in_default.ensures.cases in
    c.new-found.ensures.items ∙ sym (ap runs_of none ∙ runs_none)

pub returns : goal.returns
returns c =
    let first = c.in-Some.first.now in
    let others = c.in-Some.others.now in
    let start = ap (λ (r : PageRun). runs_from r others) c.lone_run-run.ensures in
    let list = ap runs_of c.in-Some.ensures.cases.0 ∙ runs_begin first others in
    c.in_ok-push-2.ensures.items ∙ last_run c.loop-page.found.items c.loop-page.run others c.loop-page.page-index (runs_from c.lone_run-run.result others) c.loop-page-test.false c.loop-page.invariant.whole ∙ start ∙ sym list

pub loop-page-preserved : goal.loop-page-preserved
loop-page-preserved c = elim c.if-continues.branch [
  | then-continues w ↦ record {
    few = omega (arith, ap (λ (r : PageRun). r.count) w.run-is, c.loop-page.invariant.few);
    whole = more_run c.loop-page.found.items c.if-continues.found.items c.loop-page.run c.if-continues.run c.in-Some.others.now c.loop-page.page-index _ _ c.loop-page-test.true (sym c.continues.ensures ∙ w.if-continues.true) (ap (λ v. v.items) w.found-is) w.run-is c.loop-page.invariant.whole;
  }
  | else-continues+in_ok-push w ↦ record {
    few = omega (arith, ap (λ (r : PageRun). r.count) (w.run-is ∙ w.lone_run-run-else-continues.ensures));
    whole = new_run c.loop-page.found.items c.if-continues.found.items c.loop-page.run c.if-continues.run c.in-Some.others.now c.loop-page.page-index _ _ c.loop-page-test.true (sym c.continues.ensures ∙ w.if-continues.false) (ap (λ v. v.items) w.found-is ∙ w.in_ok-push.ensures.items) (w.run-is ∙ w.lone_run-run-else-continues.ensures) c.loop-page.invariant.whole;
  }
]
