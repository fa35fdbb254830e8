use Rattle.std.proofs.Common.{arith}
use Rattle.std.proofs.lemmas.List.{length_push}
use Rattle.shadow_chains.proofs.Joins.{joins_none, joins_more}
use Rattle.shadow_chains.proofs.flattening.move_missing.Goals as goal

pub loop-slot-init : goal.loop-slot-init
loop-slot-init c = record { rise = c.requires.rise; joins = joins_none c.args.over.now.items; room = omega arith }

pub loop-slot-preserved : goal.loop-slot-preserved
loop-slot-preserved c = record {
  rise = c.move_one.ensures.rise;
  joins = joins_more _ _ _ c.in-Some.slot _ c.loop-slot.invariant.joins c.move_one.ensures.joins;
  room = omega (arith, length_push c.loop-slot.yielded c.in-Some.slot);
}
