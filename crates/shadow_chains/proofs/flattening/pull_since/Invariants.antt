use Rattle.std.proofs.Common.{◌≤◌, map, vec_len}
use Rattle.std.specs.Arc.{arc_value}
use Rattle.mem_objects.specs.Pages.{PageNumbersRise}
use Rattle.shadow_chains.specs.Own.{Lowers}
use Rattle.shadow_chains.proofs.flattening.pull_since.Given as goal

abbrev pub invariant-loop-alloc : goal.invariant-loop-alloc
invariant-loop-alloc l = record {
  fits : l.since ≤ vec_len l.layers;
  rise : PageNumbersRise l.over.items;
  lowers : Lowers l.since (map (λ a. arc_value a) l.initial.layers.items) l.initial.over.items (map (λ a. arc_value a) l.layers.items) l.over.items;
}

abbrev pub decreases-loop-alloc : goal.decreases-loop-alloc
decreases-loop-alloc l = vec_len l.layers
