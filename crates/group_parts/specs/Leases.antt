-- Leases: what a lease's part is in the group, and what stands of the leases that are out.
use Rattle.std.specs.Prelude.{◌≡◌, ◌⊎◌, ℕ, true, false, IsTrue, Some, List, [], ◌∷◌, All, is_some, ⊤}
use Rattle.std.specs.List.{list_any}
use Rattle.group_defs.specs.Fork.{maps_privately}
use Rattle.group_defs.specs.Group.{Group}
use Rattle.group_defs.specs.Pages.{is_among}
use Rattle.group_defs.specs.Step.{is_waiting}
use Rattle.group_parts.specs.Local.{AllLocalPart, steps_of_part}
use Rattle.group_parts.specs.Parts.{PrivatePart, part_of}
use Rattle.run_defs.specs.Legal.{is_unleased}
use Rattle.run_defs.specs.Progress.{Lease, Progress, is_lease}

-- A lease's part is what so many local steps make of its process's private part in the group.
pub record IsLeaseOf (g : Group) (pid done : ℕ) (part : PrivatePart) : Type 0 where
  pub taken : PrivatePart
  pub taken_is : part_of g pid ≡ Some taken
  pub all_local : AllLocalPart taken done
  pub part_is : part ≡ steps_of_part taken done

-- no process has two leases
abbrev pub LeasedOnce : List Lease → Type 0
LeasedOnce [] = ⊤
LeasedOnce (l ∷ ls) = (is_unleased ls l.pid ≡ true) × LeasedOnce ls

-- A lease has moved, or its process doesn't wait.
abbrev pub MayEnd : Progress → Lease → Type 0
MayEnd r l = (l.moved ≡ true) ⊎ (is_waiting r.state l.pid ≡ false)

-- what stands of the leases that are out; each is of a running process
pub record LeasesStand (r : Progress) : Type 0 where
  pub once : LeasedOnce r.leases
  pub may_end : All (MayEnd r) r.leases
  pub run : All (λ l. IsTrue (is_some (part_of r.state.group l.pid))) r.leases

-- From r to r' this lease is still out, its process's private part in the group stayed, and so its own part is still one of it; no
-- page of an object that it maps privately was touched, and no barrier was made.
pub record LeavesLease (r r' : Progress) (worker pid done : ℕ) (part : PrivatePart) : Type 0 where
  pub stays : part_of r'.state.group pid ≡ part_of r.state.group pid
  pub lease : IsLeaseOf r'.state.group pid done part
  pub out : IsTrue (list_any (is_lease worker pid) r'.leases)
  pub touched : (object page : ℕ) → maps_privately part.maps object ≡ true → is_among r'.touched (object, page) ≡ is_among r.touched (object, page)
  pub checkpoints : r'.checkpoints ≡ r.checkpoints
