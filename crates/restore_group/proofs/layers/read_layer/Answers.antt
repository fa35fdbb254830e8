use Rattle.std.proofs.Common.{◌≡◌, refl, ◌∙◌, rules, take, subst, List}
use Rattle.std.proofs.lemmas.List.{take_all}
use Rattle.ckpt_chain.specs.Reads.{reads_on}
use Rattle.ckpt_records.specs.declared.meta.PagePlace.{PagePlace}
use Rattle.restore_group.specs.Layers.{IsLayerOf}
use Rattle.restore_group.proofs.ReadLaws.{layer_more, layer_in_more, none_zero_at, layer_rises}
use Rattle.restore_group.proofs.layers.read_layer.Goals as goal

pub returns-in_err-read_page-clause-only : goal.returns-in_err-read_page-clause-only
returns-in_err-read_page-clause-only g c = λ image told broken none.
    none_zero_at image c.args.own.now c.loop-p.p-index none c.loop-p-test.true (c.in_err-read_page.ensures.only image (c.loop-p.invariant.disk.reading ∙ told) (search (rules, c.from_residual.ensures.1, broken)))

pub loop-p-preserved : goal.loop-p-preserved
loop-p-preserved g c = record {
  layer = layer_more c.args.own.now c.loop-p.p-index c.loop-p.slots.items c.push.new.self.items _ c.in_ok-read_page.field-0 c.loop-p-test.true refl c.loop-p.invariant.layer c.in_ok-read_page.ensures.page c.in_ok-push.ensures.items;
  found = λ image told.
      layer_in_more image c.args.own.now c.loop-p.p-index c.loop-p.slots.items c.push.new.self.items _ c.in_ok-read_page.field-0 c.loop-p-test.true refl
      (c.in_ok-read_page.ensures.found image (c.loop-p.invariant.disk.reading ∙ told)) (c.loop-p.invariant.found image told) c.in_ok-push.ensures.items;
  disk = reads_on _ _ _ c.loop-p.invariant.disk c.read_page.ensures.disk;
}

pub of-requires : goal.of-requires
of-requires g c =
    let whole : take c.loop-p.p-index c.args.own.now ≡ c.args.own.now = take_all c.loop-p.p-index c.args.own.now c.loop-p-test.false in
    layer_rises c.args.own.now c.loop-p.slots.items (subst (λ (x : List PagePlace). IsLayerOf x c.loop-p.slots.items) whole c.loop-p.invariant.layer) c.requires.rising
