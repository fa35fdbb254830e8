use Rattle.std.proofs.Common.{arith}
use Rattle.mem_objects.proofs.Places.{rise_none}
use Rattle.shadow_chains.proofs.own.Top.pull.Goals as goal

pub invariant_of-self : goal.invariant_of-self
invariant_of-self c = record { slots_rise = c.pull_since.ensures.rise; room_rises = rw c.new.ensures.items rise_none; fits = omega arith }
