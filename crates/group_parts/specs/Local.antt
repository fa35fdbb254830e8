-- Local steps of a process, as steps of its private part alone.
use Rattle.std.specs.Prelude.{◌≡◌, ℕ, zero, suc, ◌++◌, ◌==◌, Bool, false, List, [], Some, IsTrue}
use Rattle.group_defs.specs.Cells.{cells_of, with_writes}
use Rattle.group_defs.specs.Group.{Group}
use Rattle.group_defs.specs.Pages.{pages_of_writes}
use Rattle.group_parts.specs.Parts.{PrivatePart, part_of, public_part}
use Rattle.rv64_isa.specs.Instruction.{Effect, steps, calls, traps, instruction, is_step, list_of}
use Rattle.rv64_isa.specs.Memory.{Write, private_cells}
use Rattle.rv64_isa.specs.declared.regs.Regs.{Regs}

-- what the next instruction comes to where the private mappings alone are seen
abbrev pub part_effect : PrivatePart → Effect
part_effect s = instruction (private_cells (cells_of s.memory s.maps)) s.regs

-- A part is local where that is a step: it neither calls nor traps.
unfoldable pub is_local_part : PrivatePart → Bool
is_local_part s = is_step (part_effect s)

-- the part with new registers, after these writes
abbrev pub continued_part : PrivatePart → Regs → List Write → PrivatePart
continued_part s r writes = record { regs = r; maps = s.maps; memory = with_writes s.memory s.maps writes }

-- the part after the next step, which changes nothing where it isn't local
abbrev pub part_after : PrivatePart → Effect → PrivatePart
part_after s (steps r stored) = continued_part s r (list_of stored)
part_after s calls = s
part_after s (traps status) = s

unfoldable pub step_of_part : PrivatePart → PrivatePart
step_of_part s = part_after s (part_effect s)

-- after n steps
unfoldable pub steps_of_part : PrivatePart → ℕ → PrivatePart
steps_of_part s zero = s
steps_of_part s (suc n) = step_of_part (steps_of_part s n)

-- each of the next n steps is local
unfoldable pub AllLocalPart : PrivatePart → ℕ → Type 0
AllLocalPart s zero = Unit {0}
AllLocalPart s (suc n) = AllLocalPart s n × IsTrue (is_local_part (steps_of_part s n))

-- what the next step stores, the pages that it stores to, and those of n steps
abbrev pub writes_of_effect : Effect → List Write
writes_of_effect (steps r stored) = list_of stored
writes_of_effect calls = []
writes_of_effect (traps status) = []

unfoldable pub pages_of_step : PrivatePart → List (ℕ × ℕ)
pages_of_step s = pages_of_writes s.maps (writes_of_effect (part_effect s))

unfoldable pub pages_of_steps : PrivatePart → ℕ → List (ℕ × ℕ)
pages_of_steps s zero = []
pages_of_steps s (suc n) = pages_of_steps s n ++ pages_of_step (steps_of_part s n)

-- From g to h this process's private part became another; the public part and every other private part stayed.
pub record OnlyPartChanges (pid : ℕ) (g h : Group) (part : PrivatePart) : Type 0 where
  pub part_is : part_of h pid ≡ Some part
  pub public : public_part h ≡ public_part g
  pub others : (other : ℕ) → (pid == other) ≡ false → part_of h other ≡ part_of g other
