use Rattle.shadow_chains.proofs.Ready.{stays_then}
use Rattle.shadow_chains.proofs.pieces.write_long.Goals as goal

pub returns-clause-ready : goal.returns-clause-ready
returns-clause-ready c = stays_then _ _ _ c.in_ok-hold_range.ensures.ready c.write_all.ensures.ready

pub returns-in_err-hold_range-clause-succeeds : goal.returns-in_err-hold_range-clause-succeeds
returns-in_err-hold_range-clause-succeeds c ready =
    let bad = c.in_err-hold_range.ensures.succeeds ready in absurd (cc)
