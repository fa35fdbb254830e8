use Rattle.std.proofs.Common.{sym, ap, ◌∙◌}
use Rattle.flat_kernel.specs.Memory.{memory_in}
use Rattle.flat_kernel.proofs.PartsLaws.{memory_all, memory_next, memory_none}
use Rattle.flat_kernel.proofs.loading.objects_of.Goals as goal

pub loop-i-init : goal.loop-i-init
loop-i-init c = ap memory_in c.new-whole.ensures.items ∙ sym (memory_none c.args.objects.now c.args.layers.now)

pub loop-i-preserved : goal.loop-i-preserved
loop-i-preserved c =
    memory_next c.args.objects.now c.args.layers.now c.loop-i.i c.loop-i.whole.items c.push.new.self.items c.in_ok-bytes.bytes _ c.index-layers-i.result
    c.loop-i-test.true c.requires.layers c.loop-i.invariant c.in_ok-bytes.ensures c.in_ok-push.ensures.items

pub returns : goal.returns
returns c = c.loop-i.invariant ∙ memory_all c.args.objects.now c.args.layers.now c.loop-i.i c.loop-i-test.false c.requires.layers
