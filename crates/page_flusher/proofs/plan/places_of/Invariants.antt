use Rattle.std.proofs.Common.{◌≡◌, map, take}
use Rattle.std.specs.List.{zip}
use Rattle.page_flusher.specs.Plans.{in_block}
use Rattle.page_flusher.proofs.plan.places_of.Given as goal

abbrev pub invariant-loop-i : goal.invariant-loop-i
invariant-loop-i l = l.places.items ≡ map in_block (take l.i (zip l.pages l.blocks))
