-- A group as one public part and one private part for each running process.
use Rattle.std.specs.Prelude.{◌≡◌, ℕ, ◌==◌, not, Bool, true, false, if◌then◌else◌, List, [], map, Option, Some}
use Rattle.std.specs.List.{filter, list_any}
use Rattle.std.specs.Option.{option_map}
use Rattle.address_maps.specs.declared.maps.Mapping.{Mapping}
use Rattle.group_defs.specs.Fork.{maps_privately}
use Rattle.group_defs.specs.Group.{Group, is_running, regs_of, runner}
use Rattle.group_defs.specs.Objects.{maps_object}
use Rattle.group_defs.specs.declared.frame.Proc.{Proc}
use Rattle.rv64_isa.specs.declared.regs.Regs.{Regs}

-- What a lease hands out of a process: its registers, its mappings, and the objects that they map privately, each with its number.
pub record PrivatePart : Type 0 where
  pub regs : Regs
  pub maps : List Mapping
  pub memory : List (ℕ × List ℕ)

-- of a table of objects, those that these mappings map privately
abbrev pub private_memory : List (ℕ × List ℕ) → List Mapping → List (ℕ × List ℕ)
private_memory memory maps = filter (λ o. maps_privately maps o.0) memory

abbrev pub part_in : Group → Proc → PrivatePart
part_in g p = record { regs = regs_of p; maps = p.maps; memory = private_memory g.memory p.maps }

-- a running process's private part
unfoldable pub part_of : Group → ℕ → Option PrivatePart
part_of g pid = option_map (part_in g) (runner g pid)

-- What stays of a running process in the public part: all but its registers and private mappings. Its shared mappings stay, since
-- a call of another process asks who maps a shared object. An ended process has no private part.
abbrev pub shared_mappings : List Mapping → List Mapping
shared_mappings maps = filter (λ m. m.shared) maps

abbrev pub public_process : Proc → Proc
public_process p = if is_running p then record p { pc = 0; regs = []; maps = shared_mappings p.maps } else p

-- whether one of these processes maps the object privately, or none does
abbrev pub is_private : List Proc → ℕ → Bool
is_private procs number = list_any (λ p. maps_privately p.maps number) procs

abbrev pub is_public : List Proc → ℕ → Bool
is_public procs number = not (is_private procs number)

-- All else of a group: its processes without their private parts, its tables, and the objects that nobody maps privately.
unfoldable pub public_part : Group → Group
public_part g = record {
  frame = record g.frame { procs = map public_process g.frame.procs };
  memory = filter (λ o. is_public g.frame.procs o.0) g.memory;
}

-- No running process maps an object that another running process maps privately.
unfoldable pub IsApart : Group → Type 0
IsApart g = (pid other : ℕ) (p q : Proc) → (pid == other) ≡ false → runner g pid ≡ Some p → runner g other ≡ Some q
    → (number : ℕ) → maps_object number p ≡ true → maps_privately q.maps number ≡ false
