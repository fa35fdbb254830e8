-- What a step that isn't local does to the tables, and what a barrier does to the faces.
use Rattle.std.specs.Prelude.{◌≡◌, ℕ, Bool, true, false, List, [], Some}
use Rattle.std.specs.List.{AllZip}
use Rattle.group_defs.specs.Family.{ended}
use Rattle.group_defs.specs.Group.{Group, runner}
use Rattle.group_defs.specs.Pages.{touched_with_step}
use Rattle.group_defs.specs.Step.{group_step, is_local}
use Rattle.group_defs.specs.Valid.{GroupIsValid}
use Rattle.group_defs.specs.declared.frame.Proc.{Proc}
use Rattle.group_parts.specs.Kept.{StandsFor}
use Rattle.group_kernel.specs.Calls.{HasOnlyServedTables}
use Rattle.group_kernel.specs.Deltas.{HasJust, IsDeltaOf}
use Rattle.group_kernel.specs.Held.{FacesStandOver, TablesView, kept_in}
use Rattle.group_kernel.specs.Standing.{OwnersCounted}
use Rattle.run_defs.specs.Legal.{is_unleased}
use Rattle.run_defs.specs.Progress.{Lease}
use Rattle.shadow_chains.specs.declared.face.Frozen.{Frozen}

-- Before the step: the tables, with the process's private part in them, stand for a valid group in which its next step isn't local.
pub record StandsBefore (t : TablesView) (leases : List Lease) (g : Group) (pid : ℕ) : Type 0 where
  pub valid : GroupIsValid g
  pub served : HasOnlyServedTables g.frame
  pub unleased : is_unleased leases pid ≡ true
  pub not_local : is_local g pid ≡ false
  pub owners : OwnersCounted t
  pub stands : StandsFor leases (kept_in t) g

-- The step was made, whatever its end: the tables stand for the group after it, the pages that it touched came into the faces, and owners
-- are counted.
pub record MakesStep (t new : TablesView) (pid : ℕ) : Type 0 where
  pub stands : (durable : Bool) (leases : List Lease) (g : Group) → StandsBefore t leases g pid → StandsFor leases (kept_in new) (group_step durable g pid)
  pub faces : (durable : Bool) (leases : List Lease) (g : Group) (memory : List (ℕ × List ℕ)) (touched : List (ℕ × ℕ)) → StandsBefore t leases g pid
      → FacesStandOver memory touched t → FacesStandOver memory (touched_with_step durable g pid touched) new
  pub owners : (leases : List Lease) (g : Group) → StandsBefore t leases g pid → OwnersCounted new

-- The step ends the process with this status; nothing is done to the tables yet.
pub record ComesToEnd (t : TablesView) (pid status : ℕ) : Type 0 where
  pub ends : (durable : Bool) (leases : List Lease) (g : Group) (p : Proc) → StandsBefore t leases g pid → runner g pid ≡ Some p → group_step durable g pid ≡ ended g p status

-- All objects were frozen: each into its place, over the bytes below; and then each face stands over the present bytes, with no page in
-- its layers.
pub record FreezesAll (t new : TablesView) (frozen : List Frozen) : Type 0 where
  pub kept : kept_in new ≡ kept_in t
  pub deltas : (g : Group) (memory : List (ℕ × List ℕ)) (touched : List (ℕ × ℕ)) → StandsFor [] (kept_in t) g → GroupIsValid g → FacesStandOver memory touched t
      → AllZip (IsDeltaOf memory g) g.frame.objects frozen × AllZip (HasJust touched) g.frame.objects frozen
  pub faces : (g : Group) (memory : List (ℕ × List ℕ)) (touched : List (ℕ × ℕ)) → StandsFor [] (kept_in t) g → GroupIsValid g → FacesStandOver memory touched t → FacesStandOver g.memory [] new
