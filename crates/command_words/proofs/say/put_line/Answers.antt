use Rattle.std.proofs.Common.{◌∙◌, subst}
use Rattle.dev_traits.specs.Outside.{Takes, TakesPart}
use Rattle.std.proofs.lemmas.List.{drop_all}
use Rattle.command_words.specs.Put.{HasPut, line_with}
use Rattle.command_words.proofs.Saying.{HasBegun, cut, ended, further, next_field}
use Rattle.command_words.proofs.say.put_line.Goals as goal

pub returns-in_err-put_all : goal.returns-in_err-put_all
returns-in_err-put_all g c =
    let before = g.S.Sink.view c.loop-text.say in
    let after = g.S.Sink.view c.put_all.new.sink in
    cut _ _ _ (g.S.Sink.view c.args.say.now) before after
    (next_field c.args.fields.now c.loop-text.text-index _ c.args.last.now _ _ before c.loop-text-test.true c.loop-text.invariant)
    c.from_residual.result c.from_residual.ensures.0
    (subst (λ l. TakesPart l before after) c.as_bytes.ensures.value c.in_err-put_all.ensures.err) c.in_err-put_all.ensures.faults

pub returns-in_err-put_all-2 : goal.returns-in_err-put_all-2
returns-in_err-put_all-2 g c =
    let before = g.S.Sink.view c.put_all.new.sink in
    let after = g.S.Sink.view c.put_all-in-loop-text.new.sink in
    let start = g.S.Sink.view c.loop-text.say in
    let named = further _ _ _ (g.S.Sink.view c.args.say.now) start before
    (next_field c.args.fields.now c.loop-text.text-index _ c.args.last.now _ _ start c.loop-text-test.true c.loop-text.invariant)
    (subst (λ l. Takes l start before) c.as_bytes.ensures.value c.in_ok-put_all.ensures.ok) c.put_all.ensures.faults.later in
    cut _ _ _ (g.S.Sink.view c.args.say.now) before after named
    c.from_residual-in_err-put_all-2.result c.from_residual-in_err-put_all-2.ensures.0
    (subst (λ l. TakesPart l before after) (c.as_bytes-in-loop-text.ensures.value ∙ c.format.ensures.text) c.in_err-put_all-2.ensures.err) c.in_err-put_all-2.ensures.faults

pub loop-text-preserved : goal.loop-text-preserved
loop-text-preserved g c =
    let before = g.S.Sink.view c.put_all.new.sink in
    let after = g.S.Sink.view c.put_all-in-loop-text.new.sink in
    let start = g.S.Sink.view c.loop-text.say in
    let named = further _ _ _ (g.S.Sink.view c.args.say.now) start before
    (next_field c.args.fields.now c.loop-text.text-index _ c.args.last.now _ _ start c.loop-text-test.true c.loop-text.invariant)
    (subst (λ l. Takes l start before) c.as_bytes.ensures.value c.in_ok-put_all.ensures.ok) c.put_all.ensures.faults.later in
    further _ _ _ (g.S.Sink.view c.args.say.now) before after named
    (subst (λ l. Takes l before after) (c.as_bytes-in-loop-text.ensures.value ∙ c.format.ensures.text) c.in_ok-put_all-2.ensures.ok) c.put_all-in-loop-text.ensures.faults.later

pub returns : goal.returns
returns g c =
    let start = g.S.Sink.view c.args.say.now in
    let before = g.S.Sink.view c.loop-text.say in
    let after = g.S.Sink.view c.put_all-2.new.sink in
    ended c.put_all-2.result c.args.last.now _ start before after
    (subst (λ l. HasBegun (line_with l c.args.last.now) (line_with c.args.fields.now c.args.last.now) start before) (drop_all c.loop-text.text-index c.args.fields.now c.loop-text-test.false) c.loop-text.invariant)
    (subst (λ l. HasPut l c.put_all-2.result before after) c.as_bytes-2.ensures.value (record { ok = c.put_all-2.ensures.ok; err = c.put_all-2.ensures.err; faults = c.put_all-2.ensures.faults }))
