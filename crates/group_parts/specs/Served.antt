-- What a step that isn't local leaves of the public part.
use Rattle.std.specs.Prelude.{ℕ, ◌==◌, ◌||◌, not, Bool, false, List, Some, None}
use Rattle.std.specs.List.{filter, filter_map, list_any}
use Rattle.address_maps.specs.declared.maps.Mapping.{Mapping}
use Rattle.group_defs.specs.Cells.{with_writes}
use Rattle.group_defs.specs.Changes.{with_procs}
use Rattle.group_defs.specs.Family.{after_end}
use Rattle.group_defs.specs.Group.{Group, regs_of, runner}
use Rattle.group_defs.specs.Held.{settled}
use Rattle.group_defs.specs.Objects.{maps_object}
use Rattle.group_defs.specs.Step.{effect_in}
use Rattle.group_defs.specs.declared.calls.TheConstants.{CLONE}
use Rattle.group_defs.specs.declared.frame.Proc.{Proc}
use Rattle.group_parts.specs.Parts.{PrivatePart}
use Rattle.rv64_isa.specs.Instruction.{Effect, steps, calls, traps}
use Rattle.rv64_isa.specs.Memory.{Write}
use Rattle.rv64_isa.specs.Registers.{call_number}
use Rattle.rv64_isa.specs.declared.regs.Regs.{Regs}

-- The next step of the running process by this pid is a call of clone, which lets a child run.
abbrev pub effect_clones : Proc → Effect → Bool
effect_clones p (steps r stored) = false
effect_clones p calls = call_number (regs_of p) == CLONE
effect_clones p (traps status) = false

unfoldable pub step_clones : Group → ℕ → Bool
step_clones g pid = elim (runner g pid) [ None ↦ false | Some p ↦ effect_clones p (effect_in g p) ]

-- The caller's writes land in its part and in the public objects, by the mappings that it had; each has those of its own objects.
abbrev pub answered_part : PrivatePart → Regs → List Mapping → List Write → PrivatePart
answered_part part r maps writes = record { regs = r; maps = part.maps; memory = with_writes part.memory maps writes }

abbrev pub stored_in : Group → List Mapping → List Write → Group
stored_in public maps writes = record public { memory = with_writes public.memory maps writes }

-- The end of a process. Its rows are left as in the group, and what nobody holds any more goes. Which objects are mapped isn't seen in
-- rows alone, since private mappings of others don't stand there: an object stays where the process that ends doesn't map it, or
-- a row that is left does.
abbrev pub rows_left : Group → Proc → ℕ → List Proc
rows_left public p status = filter_map (after_end p status) public.frame.procs

abbrev pub stays_for : List Proc → List Mapping → ℕ → Bool
stays_for rows maps number = not (list_any (λ m. m.object == number) maps) || list_any (maps_object number) rows

abbrev pub with_objects_that : Group → (ℕ → Bool) → Group → Group
with_objects_that from stays g = record g {
  frame = record g.frame { objects = filter (λ o. stays o.number) from.frame.objects };
  memory = filter (λ o. stays o.0) from.memory;
}

unfoldable pub public_ended : Group → Proc → ℕ → Group
public_ended public p status = with_objects_that public (stays_for (rows_left public p status) p.maps) (settled (with_procs public (rows_left public p status)))
