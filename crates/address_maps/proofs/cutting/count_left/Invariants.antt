use Rattle.std.proofs.Common.{◌≡◌, ◌≤◌, ◌*◌, take, length}
use Rattle.std.specs.List.{flat_map}
use Rattle.address_maps.specs.Cut.{remains}
use Rattle.address_maps.proofs.cutting.count_left.Given as goal

abbrev pub invariant-loop-m : goal.invariant-loop-m
invariant-loop-m l = record { count : l.count ≡ length (flat_map (remains l.start l.end) (take l.m-index l.items)); most : l.count ≤ 2 * l.m-index }
