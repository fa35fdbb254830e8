use Rattle.std.proofs.Common.{arith, refl, ◌∙◌}
use Rattle.shadow_chains.proofs.Ready.{stays_itself, stays_then}
use Rattle.shadow_chains.proofs.Writes.{hold_more, stays_at}
use Rattle.shadow_chains.proofs.pieces.hold_all.Goals as goal

pub loop-page-init : goal.loop-page-init
loop-page-init c = record { pages = refl; ready = stays_itself c.args.top.now; each = λ p from below. absurd (omega arith) }

pub returns-in_err-hold-clause-ready : goal.returns-in_err-hold-clause-ready
returns-in_err-hold-clause-ready c = stays_then _ _ _ c.loop-page.invariant.ready c.hold.ensures.ready

pub returns-in_err-hold-clause-succeeds : goal.returns-in_err-hold-clause-succeeds
returns-in_err-hold-clause-succeeds c all =
    let bad = c.in_err-hold.ensures.succeeds (stays_at _ _ c.loop-page.page c.loop-page.invariant.ready (all c.loop-page.page (omega arith) (omega arith))) in
    absurd (cc)

pub loop-page-preserved : goal.loop-page-preserved
loop-page-preserved c = record {
  pages = c.in_ok-hold.ensures.pages ∙ c.loop-page.invariant.pages;
  ready = stays_then _ _ _ c.loop-page.invariant.ready c.in_ok-hold.ensures.ready;
  each = hold_more _ _ c.args.first c.loop-page.page c.loop-page.invariant.each c.in_ok-hold.ensures.ready c.in_ok-hold.ensures.ok;
}
