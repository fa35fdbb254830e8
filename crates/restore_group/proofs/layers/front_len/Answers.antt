use Rattle.std.proofs.Common.{arith}
use Rattle.restore_group.proofs.ReadLaws.{front_is, no_page}
use Rattle.restore_group.proofs.layers.front_len.Goals as goal

pub returns-else-pages-n-clause-at_front : goal.returns-else-pages-n-clause-at_front
returns-else-pages-n-clause-at_front c =
    (front_is c.args.object c.loop-n.n c.args.pages.now no_page c.loop-n.invariant.in_range c.loop-n.invariant.same (λ lt. c.if-pages-n.false)).0

pub returns-else-pages-n-clause-after : goal.returns-else-pages-n-clause-after
returns-else-pages-n-clause-after c =
    (front_is c.args.object c.loop-n.n c.args.pages.now no_page c.loop-n.invariant.in_range c.loop-n.invariant.same (λ lt. c.if-pages-n.false)).1

pub returns-after-loop-n-clause-at_front : goal.returns-after-loop-n-clause-at_front
returns-after-loop-n-clause-at_front c =
    (front_is c.args.object c.loop-n.n c.args.pages.now no_page c.loop-n.invariant.in_range c.loop-n.invariant.same (λ lt e. omega (arith, lt, c.loop-n-test.false))).0

pub returns-after-loop-n-clause-after : goal.returns-after-loop-n-clause-after
returns-after-loop-n-clause-after c =
    (front_is c.args.object c.loop-n.n c.args.pages.now no_page c.loop-n.invariant.in_range c.loop-n.invariant.same (λ lt e. omega (arith, lt, c.loop-n-test.false))).1
