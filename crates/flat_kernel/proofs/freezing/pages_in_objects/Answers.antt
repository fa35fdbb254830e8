use Rattle.std.proofs.Common.{ℕ, List, ap, sym, ◌∙◌}
use Rattle.flat_kernel.proofs.PlaceLaws.{no_objects, object_added}
use Rattle.flat_kernel.proofs.freezing.pages_in_objects.Goals as goal

pub loop-object-init : goal.loop-object-init
loop-object-init c = c.new-pages.ensures.items ∙ sym no_objects

pub loop-object-preserved : goal.loop-object-preserved
loop-object-preserved c =
    object_added (λ o. (o.0, o.1.items)) c.args.objects.now c.loop-object.object-index c.loop-object-item.result c.loop-object-item.result.0 c.deref.result.now c.loop-object.pages.items c.add_object.new.pages.items
    c.loop-object-test.true c.loop-object-item.is (ap (λ (bytes : List ℕ). (c.loop-object-item.result.0, bytes)) c.deref.ensures.value) c.loop-object.invariant c.in_ok-add_object.ensures
