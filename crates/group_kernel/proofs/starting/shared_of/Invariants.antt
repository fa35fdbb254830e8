use Rattle.std.proofs.Common.{◌≡◌, take}
use Rattle.group_parts.specs.Parts.{shared_mappings}
use Rattle.group_kernel.proofs.starting.shared_of.Given as goal

abbrev pub invariant-loop-mapping : goal.invariant-loop-mapping
invariant-loop-mapping l = l.shared ≡ shared_mappings (take l.mapping-index l.maps)
