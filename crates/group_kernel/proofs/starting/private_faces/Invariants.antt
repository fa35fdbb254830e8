use Rattle.std.proofs.Common.{◌≡◌, take}
use Rattle.group_defs.specs.Fork.{maps_privately}
use Rattle.group_kernel.specs.Starting.{faces_but, faces_that}
use Rattle.group_kernel.proofs.starting.private_faces.Given as goal

abbrev pub invariant-loop-mapping : goal.invariant-loop-mapping
invariant-loop-mapping l = record {
  taken : l.faces.entries ≡ faces_that (maps_privately (take l.mapping-index l.maps)) l.initial.all.entries;
  left : l.all.entries ≡ faces_but (maps_privately (take l.mapping-index l.maps)) l.initial.all.entries;
}
