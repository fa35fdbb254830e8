use Rattle.std.proofs.Common.{◌≡◌}
use Rattle.std.specs.Vec.{vec_capacity}
use Rattle.address_maps.specs.Cut.{remains}
use Rattle.address_maps.specs.CutLaws.{Trimmed}
use Rattle.address_maps.proofs.cutting.trim.Given as goal

abbrev pub invariant-loop-place : goal.invariant-loop-place
invariant-loop-place l = record {
  so_far : Trimmed (remains l.start l.end) l.fn.items.items l.items.items l.kept l.place;
  capacity : vec_capacity l.items ≡ vec_capacity l.fn.items;
}
