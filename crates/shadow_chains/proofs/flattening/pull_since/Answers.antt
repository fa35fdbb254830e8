use Rattle.std.proofs.Common.{arith}
use Rattle.std.proofs.lemmas.List.{length-map}
use Rattle.std.specs.Arc.{arc_value}
use Rattle.shadow_chains.proofs.Joins.{lowers_itself, lowers_then}
use Rattle.shadow_chains.proofs.flattening.pull_since.Goals as goal

pub loop-alloc-init : goal.loop-alloc-init
loop-alloc-init c = record {
  fits = c.requires.fits;
  rise = c.requires.rise;
  lowers = lowers_itself c.args.since _ _ (omega (arith, c.requires.fits, length-map c.args.layers.now.items (λ a. arc_value a)));
}

pub returns-in_err-pull_topmost-clause-lowers : goal.returns-in_err-pull_topmost-clause-lowers
returns-in_err-pull_topmost-clause-lowers c = lowers_then _ _ _ _ _ _ _ c.loop-alloc.invariant.lowers (c.pull_topmost.ensures.lowers c.args.since (omega arith))

pub loop-alloc-preserved : goal.loop-alloc-preserved
loop-alloc-preserved c = record {
  fits = omega (arith, c.in_ok-pull_topmost.ensures.ok);
  rise = c.pull_topmost.ensures.rise;
  lowers = lowers_then _ _ _ _ _ _ _ c.loop-alloc.invariant.lowers (c.pull_topmost.ensures.lowers c.args.since (omega arith));
}
