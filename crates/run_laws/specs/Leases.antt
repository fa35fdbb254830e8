-- The leases that are out after a legal trace.
use Rattle.std.specs.Prelude.{◌≡◌, All, AllPairs, List, Some}
use Rattle.group_defs.specs.Group.{Group, runner}
use Rattle.group_defs.specs.declared.frame.Proc.{Proc}
use Rattle.run_defs.specs.Progress.{Lease}

-- No worker has two, and no process.
pub record AreDistinct (leases : List Lease) : Type 0 where
  pub workers : AllPairs (λ a b. a.worker ≡ b.worker → ⊥) leases
  pub pids : AllPairs (λ a b. a.pid ≡ b.pid → ⊥) leases

-- each is of a process that runs in the group
abbrev pub AreOfRunning : Group → List Lease → Type 0
AreOfRunning g leases = All (λ l. (p : Proc) × (runner g l.pid ≡ Some p)) leases
