use Rattle.std.proofs.Common.{◌<◌, refl, sym, ◌∙◌, ap, subst, rules, List}
use Rattle.std.specs.List.{AllPairs}
use Rattle.ckpt_chain.specs.Reads.{no_reads, reads_on}
use Rattle.ckpt_records.specs.declared.meta.PagePlace.{PagePlace}
use Rattle.restore_group.specs.Layers.{behind, NoneZero}
use Rattle.restore_group.proofs.ReadLaws.{rest_none, rest_next, layers_none, layers_in_none, layers_more, layers_in_more, none_zero_own, own_placed, own_rises, own_is, number_of}
use Rattle.restore_group.proofs.layers.read_layers.Goals as goal

pub loop-o-init : goal.loop-o-init
loop-o-init g c = record {
  rest = rest_none c.args.pages.now;
  layers = rw c.new-layers.ensures.items (layers_none c.args.pages.now);
  found = λ image told. c.new-layers.ensures.items ∙ layers_in_none image c.args.pages.now;
  disk = no_reads _;
}

pub read_layer-requires-clause-placed : goal.read_layer-requires-clause-placed
read_layer-requires-clause-placed g c =
    let own = own_is c.args.objects.now c.loop-o.o-index c.args.pages.now c.loop-o.rest.now c.split_at.result.0.now _ c.split_at.ensures.front c.front_len.ensures.at_front c.loop-o.invariant.rest in
    rw (own, c.loop-o.invariant.disk.blocks) (own_placed _ c.args.objects.now c.loop-o.o-index c.args.pages.now c.requires.placed)

pub read_layer-requires-clause-rising : goal.read_layer-requires-clause-rising
read_layer-requires-clause-rising g c =
    let own = own_is c.args.objects.now c.loop-o.o-index c.args.pages.now c.loop-o.rest.now c.split_at.result.0.now _ c.split_at.ensures.front c.front_len.ensures.at_front c.loop-o.invariant.rest in
    subst (λ (x : List PagePlace). AllPairs (λ p q. p.page < q.page) x) (sym own) (own_rises c.args.objects.now c.loop-o.o-index c.args.pages.now c.requires.rising)

pub returns-in_err-read_layer-clause-only : goal.returns-in_err-read_layer-clause-only
returns-in_err-read_layer-clause-only g c = λ image told broken none.
    let own = own_is c.args.objects.now c.loop-o.o-index c.args.pages.now c.loop-o.rest.now c.split_at.result.0.now _ c.split_at.ensures.front c.front_len.ensures.at_front c.loop-o.invariant.rest in
    let none_own = subst (λ (x : List PagePlace). NoneZero image x) (sym own) (none_zero_own image c.args.objects.now c.loop-o.o-index c.args.pages.now none) in
    c.in_err-read_layer.ensures.only image (c.loop-o.invariant.disk.reading ∙ told) (search (rules, c.from_residual.ensures.1, broken)) none_own

pub loop-o-preserved : goal.loop-o-preserved
loop-o-preserved g c =
    let own = own_is c.args.objects.now c.loop-o.o-index c.args.pages.now c.loop-o.rest.now c.split_at.result.0.now _ c.split_at.ensures.front c.front_len.ensures.at_front c.loop-o.invariant.rest in
    record {
      rest = c.split_at.ensures.back ∙ c.front_len.ensures.after ∙ ap (behind (number_of c.args.objects.now c.loop-o.o-index)) c.loop-o.invariant.rest ∙ sym (rest_next c.args.objects.now c.loop-o.o-index c.args.pages.now c.loop-o-test.true);
      layers = layers_more c.args.objects.now c.loop-o.o-index c.args.pages.now c.split_at.result.0.now c.loop-o.layers.items c.push.new.self.items _ c.in_ok-read_layer.field-0 c.loop-o-test.true refl own c.loop-o.invariant.layers c.in_ok-read_layer.ensures.layer c.in_ok-push.ensures.items;
      found = λ image told.
          layers_in_more image c.args.objects.now c.loop-o.o-index c.args.pages.now c.split_at.result.0.now c.loop-o.layers.items c.push.new.self.items _ c.in_ok-read_layer.field-0 c.loop-o-test.true refl own
          (c.loop-o.invariant.found image told) (c.in_ok-read_layer.ensures.found image (c.loop-o.invariant.disk.reading ∙ told)) c.in_ok-push.ensures.items;
      disk = reads_on _ _ _ c.loop-o.invariant.disk c.read_layer.ensures.disk;
    }
