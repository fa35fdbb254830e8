use Rattle.std.proofs.Common.{◌≡◌, take}
use Rattle.std.specs.List.{filter}
use Rattle.group_kernel.specs.Ending.{stays_shared}
use Rattle.group_kernel.proofs.ending.drop_faces.Given as goal

abbrev pub invariant-loop-mapping : goal.invariant-loop-mapping
invariant-loop-mapping l = record { faces : l.faces.entries ≡ filter (λ e. stays_shared (take l.mapping-index l.shared) l.rows e.number) l.initial.faces.entries }
