use Rattle.std.proofs.Common.{◌+◌, ◌≤◌, length, vec_len, vec_capacity}
use Rattle.mem_objects.specs.Pages.{PageNumbersRise}
use Rattle.shadow_chains.specs.Own.{Joins}
use Rattle.shadow_chains.proofs.flattening.move_missing.Given as goal

abbrev pub invariant-loop-slot : goal.invariant-loop-slot
invariant-loop-slot l = record {
  rise : PageNumbersRise l.over.items;
  joins : Joins l.initial.over.items l.yielded l.over.items;
  room : vec_len l.over + vec_len l.fn.below ≤ vec_capacity l.over + length l.yielded;
}
