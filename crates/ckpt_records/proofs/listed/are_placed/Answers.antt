use Rattle.std.proofs.Common.{◌≡◌, ◌∙◌, ◌+◌, Bool, sym, ap, drop}
use Rattle.std.specs.Prelude.{◌&&◌}
use Rattle.ckpt_records.specs.Listed.{are_placed}
use Rattle.ckpt_records.proofs.WalkLaws.{placed_step, placed_end}
use Rattle.ckpt_records.proofs.listed.are_placed.Goals as goal

pub returns-then-not-is_first_placed : goal.returns-then-not-is_first_placed
returns-then-not-is_first_placed c =
    let rest : Bool = are_placed c.args.blocks (drop (c.loop-run.run-index + 1) c.args.runs.now) c.objects_from-left.result.now in
    let step = placed_step c.args.blocks c.args.runs.now c.loop-run.run-index _ c.loop-run.left.now c.objects_from-left.result.now c.loop-run-test.true c.objects_from-left.ensures in
    sym (step ∙ ap (λ (b : Bool). b && rest) (sym c.is_first_placed.ensures ∙ c.if-not-is_first_placed.true)) ∙ c.loop-run.invariant

pub loop-run-preserved : goal.loop-run-preserved
loop-run-preserved c =
    let rest : Bool = are_placed c.args.blocks (drop (c.loop-run.run-index + 1) c.args.runs.now) c.objects_from-left.result.now in
    let step = placed_step c.args.blocks c.args.runs.now c.loop-run.run-index _ c.loop-run.left.now c.objects_from-left.result.now c.loop-run-test.true c.objects_from-left.ensures in
    sym (step ∙ ap (λ (b : Bool). b && rest) (sym c.is_first_placed.ensures ∙ c.if-not-is_first_placed.false)) ∙ c.loop-run.invariant

pub returns : goal.returns
returns c = sym (placed_end c.args.blocks c.args.runs.now c.loop-run.run-index c.loop-run.left.now c.loop-run-test.false) ∙ c.loop-run.invariant
