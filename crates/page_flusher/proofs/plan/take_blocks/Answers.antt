use Rattle.std.proofs.Common.{arith}
use Rattle.page_flusher.proofs.FreeLaws.{count_none, one_taken}
use Rattle.page_flusher.proofs.plan.take_blocks.Goals as goal

pub loop-preserved : goal.loop-preserved
loop-preserved c = one_taken c.args.blocks.now c.loop.blocks c.take.new.self c.loop.counter c.loop.taken.items c.push.new.self.items c.in-Some.block c.loop.invariant c.in-Some.ensures.some c.in-Some.ensures.taken c.in_ok-push.ensures.items

pub unreachable-requires : goal.unreachable-requires
unreachable-requires c = omega (arith, count_none c.loop.blocks c.in-None.ensures.none, c.loop.invariant.fewer, c.loop-test.true, c.requires)
