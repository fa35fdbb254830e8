use Rattle.std.proofs.Common.{◌∙◌}
use Rattle.page_flusher.proofs.Laying.{placed_all, placed_more}
use Rattle.page_flusher.proofs.plan.places_of.Goals as goal

pub loop-i-preserved : goal.loop-i-preserved
loop-i-preserved c = placed_more c.args.pages.now c.args.blocks.now c.loop-i.i c.index-pages-i.result c.loop-i.places.items c.push.new.self.items c.requires c.loop-i-test.true c.index-pages-i.is c.loop-i.invariant c.in_ok-push.ensures.items

pub returns : goal.returns
returns c = c.loop-i.invariant ∙ placed_all c.args.pages.now c.args.blocks.now c.loop-i.i c.requires c.loop-i-test.false
