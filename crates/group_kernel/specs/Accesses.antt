-- What an instruction that isn't local does to what its process sees.
use Rattle.std.specs.Prelude.{◌≡◌, List, [], ◌∷◌, Option}
use Rattle.proc_lease.specs.Sight.{SeenObjects, with_stored_in}
use Rattle.rv64_isa.specs.Instruction.{Effect, list_of, steps}
use Rattle.rv64_isa.specs.Memory.{Write}
use Rattle.rv64_isa.specs.declared.regs.Regs.{Regs}

-- writes, one after another
abbrev pub with_writes_in : SeenObjects → List Write → SeenObjects
with_writes_in t [] = t
with_writes_in t (w ∷ ws) = with_writes_in (with_stored_in t w.address w.bytes) ws

-- The effect is a step with these registers, and what is seen is after what it stores.
pub record HasAccessed (e : Effect) (t t' : SeenObjects) (r : Regs) : Type 0 where
  pub stored : Option Write
  pub effect : e ≡ steps r stored
  pub landed : t' ≡ with_writes_in t (list_of stored)
