use Rattle.std.proofs.Common.{subst, sym, take, List, ℕ, ◌+◌}
use Rattle.flat_kernel.specs.Memory.{ArePlaces, memory_in}
use Rattle.flat_kernel.proofs.MemoryPlaces.{mapped_some, places_more}
use Rattle.flat_kernel.proofs.process_memory.places_of.Goals as goal

pub place_of-requires-clause-some : goal.place_of-requires-clause-some
place_of-requires-clause-some c = mapped_some (memory_in c.args.objects.now) c.args.maps.now c.loop-map.map-index _ c.requires c.loop-map-test.true

pub loop-map-preserved : goal.loop-map-preserved
loop-map-preserved c =
    subst (λ (places : List ℕ). ArePlaces (memory_in c.args.objects.now) (take (c.loop-map.map-index + 1) c.args.maps.now) places) (sym c.in_ok-push.ensures.items)
    (places_more (memory_in c.args.objects.now) c.args.maps.now c.loop-map.places.items c.loop-map.map-index c.place_of.result _ c.loop-map-test.true c.loop-map.invariant c.place_of.ensures.within c.place_of.ensures.number)
