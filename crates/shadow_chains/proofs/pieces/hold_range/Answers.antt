use Rattle.std.proofs.Common.{◌<◌, arith}
use Rattle.std.proofs.lemmas.Bool.Decides.{nat_tests}
use Rattle.shadow_chains.proofs.Faces.{ok_map}
use Rattle.shadow_chains.proofs.Ready.{stays_itself}
use Rattle.shadow_chains.proofs.Writes.{range_ready, range_all, ready_nowhere, pages_of_range, pages_in_range}
use Rattle.shadow_chains.proofs.pieces.hold_range.Goals as goal

pub returns-clause-ok : goal.returns-clause-ok
returns-clause-ok c =
    ok_map c.hold_all.result _ _ (λ each. range_ready _ c.args.place c.args.n (λ p from below. each p from (pages_of_range c.args.place c.args.n p below))) c.hold_all.ensures.ok

pub returns-then-n-eq0-clause-ready : goal.returns-then-n-eq0-clause-ready
returns-then-n-eq0-clause-ready c = stays_itself c.args.top.now

pub returns-then-n-eq0-clause-ok : goal.returns-then-n-eq0-clause-ok
returns-then-n-eq0-clause-ok c = ready_nowhere c.args.top.now c.args.place c.args.n (grind (arith, nat_tests))

pub returns-clause-succeeds : goal.returns-clause-succeeds
returns-clause-succeeds c ready =
    let some : 0 < c.args.n = grind (arith, nat_tests) in
    c.hold_all.ensures.succeeds (λ p from below. range_all c.args.top.now c.args.place c.args.n some ready p from (pages_in_range c.args.place c.args.n p below))
