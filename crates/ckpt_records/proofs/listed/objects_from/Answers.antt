use Rattle.std.proofs.Common.{◌≡◌, ◌∙◌, ◌≤◌, length, sym, drop, arith}
use Rattle.std.proofs.lemmas.List.{drop_all}
use Rattle.ckpt_records.proofs.WalkLaws.{passes, stops, none_left}
use Rattle.ckpt_records.proofs.listed.objects_from.Goals as goal

pub loop-i-preserved : goal.loop-i-preserved
loop-i-preserved c = sym (passes c.args.number c.args.objects.now c.loop-i.i _ c.loop-i-test.true c.if-object-number.false) ∙ c.loop-i.invariant

pub returns-then-object-number : goal.returns-then-object-number
returns-then-object-number c = c.split_at.ensures.back ∙ sym (stops c.args.number c.args.objects.now c.loop-i.i _ c.loop-i-test.true c.if-object-number.true) ∙ c.loop-i.invariant

pub returns : goal.returns
returns c =
    let all = drop_all (length c.args.objects.now) c.args.objects.now (omega arith) in
    c.split_at-2.ensures.back ∙ all ∙ sym (none_left c.args.number c.args.objects.now c.loop-i.i c.loop-i-test.false) ∙ c.loop-i.invariant
