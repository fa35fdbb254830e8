-- What is kept of a group while leases are out: its public part, and the private parts of the processes that have none.
use Rattle.std.specs.Prelude.{◌≡◌, ℕ, ◌==◌, if◌then◌else◌, List, [], ◌∷◌, Option, Some, None}
use Rattle.std.specs.List.{find}
use Rattle.std.specs.Option.{option_map}
use Rattle.group_defs.specs.Group.{Group, is_running}
use Rattle.group_defs.specs.declared.frame.Proc.{Proc}
use Rattle.group_parts.specs.Parts.{PrivatePart, part_in, part_of, public_part}
use Rattle.run_defs.specs.Legal.{is_unleased}
use Rattle.run_defs.specs.Progress.{Lease}

-- the private parts that are here stand with their processes' pids
pub record KeptParts : Type 0 where
  pub public : Group
  pub here : List (ℕ × PrivatePart)

abbrev pub kept_part : List (ℕ × PrivatePart) → ℕ → Option PrivatePart
kept_part here pid = option_map (λ e. e.1) (find (λ e. e.0 == pid) here)

-- They stand for a group of which these leases are out: of a leased process no private part is here, of every other one the group's.
pub record StandsFor (leases : List Lease) (k : KeptParts) (g : Group) : Type 0 where
  pub public : k.public ≡ public_part g
  pub here : (pid : ℕ) → kept_part k.here pid ≡ (if is_unleased leases pid then part_of g pid else None)

-- all parts of a group
abbrev pub parts_in : Group → List Proc → List (ℕ × PrivatePart)
parts_in g [] = []
parts_in g (p ∷ ps) = if is_running p then (p.pid, part_in g p) ∷ parts_in g ps else parts_in g ps

abbrev pub all_parts : Group → KeptParts
all_parts g = record { public = public_part g; here = parts_in g g.frame.procs }

-- One part is put in the place of its process's, or added, and all others stay; or it is taken out.
abbrev pub PutsPart : List (ℕ × PrivatePart) → List (ℕ × PrivatePart) → ℕ → PrivatePart → Type 0
PutsPart old new pid part = (other : ℕ) → kept_part new other ≡ (if pid == other then Some part else kept_part old other)

abbrev pub TakesPart : List (ℕ × PrivatePart) → List (ℕ × PrivatePart) → ℕ → Type 0
TakesPart old new pid = (other : ℕ) → kept_part new other ≡ (if pid == other then None else kept_part old other)

-- a process's row of the public part with this private part in it, and with the one that is here
abbrev pub filled : Option PrivatePart → Proc → Proc
filled None p = p
filled (Some part) p = record p { pc = part.regs.pc; regs = part.regs.x; maps = part.maps }

abbrev pub with_part : List (ℕ × PrivatePart) → Proc → Proc
with_part here p = if is_running p then filled (kept_part here p.pid) p else p
