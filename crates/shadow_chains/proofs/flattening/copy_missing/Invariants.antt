use Rattle.std.proofs.Common.{take}
use Rattle.mem_objects.specs.Pages.{PageNumbersRise}
use Rattle.shadow_chains.specs.Own.{Joins}
use Rattle.shadow_chains.proofs.flattening.copy_missing.Given as goal

abbrev pub invariant-loop-slot : goal.invariant-loop-slot
invariant-loop-slot l = record {
  rise : PageNumbersRise l.over.items;
  joins : Joins l.initial.over.items (take l.slot-index l.below) l.over.items;
}
