use Rattle.address_maps.specs.ApartLaws.{mappings_none}
use Rattle.address_maps.proofs.address_map.Map.new.Goals as goal

pub invariant_of-result : goal.invariant_of-result
invariant_of-result c = rw c.new.ensures.items mappings_none
