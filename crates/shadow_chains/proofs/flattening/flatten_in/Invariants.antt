use Rattle.std.proofs.Common.{map, vec_len}
use Rattle.std.specs.Arc.{arc_value}
use Rattle.shadow_chains.specs.Own.{ShowAlike}
use Rattle.shadow_chains.proofs.flattening.flatten_in.Given as goal

abbrev pub invariant-loop-alloc : goal.invariant-loop-alloc
invariant-loop-alloc l = ShowAlike (map (λ a. arc_value a) l.fn.layers.items) (map (λ a. arc_value a) l.layers.items)

abbrev pub decreases-loop-alloc : goal.decreases-loop-alloc
decreases-loop-alloc l = vec_len l.layers
