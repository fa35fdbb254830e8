-- What a run of local steps leaves.
use Rattle.std.specs.Prelude.{◌≡◌, ◌<◌, ℕ, List}
use Rattle.rv64_isa.specs.declared.regs.Regs.{Regs}
use Rattle.rv64_isa.specs.Instruction.{Effect}
use Rattle.address_maps.specs.declared.maps.Mapping.{Mapping}
use Rattle.rv64_core.specs.Step.{IsNoStep, IsStore}
use Rattle.rv64_core.specs.Steps.{AreAfterSteps}
use Rattle.proc_lease.specs.Private.{ObjectView, private_in, stored_into}
use Rattle.proc_lease.specs.declared.lease.Halt.{Halt}
use Rattle.proc_lease.specs.declared.lease.Halt.TheVariants.{Quantum, Shared, NoMemory}

-- Registers and objects are those after exactly n local steps of a process with these mappings. Each step is the instruction at pc,
-- on what is seen of private mappings; what it stores comes into the objects, and the pages that it lies in into their sets.
abbrev pub AreAfterLocalSteps : ℕ → List Mapping → Regs → List ObjectView → Regs → List ObjectView → Type 0
AreAfterLocalSteps n maps r objects r' objects' =
    AreAfterSteps {T = List ObjectView × List Mapping} (λ t address bytes. (stored_into t.0 t.1 address bytes, t.1)) n
    r (private_in objects maps) (objects, maps) r' (private_in objects' maps) (objects', maps)

-- Why a run stopped after so many steps of a quantum: the quantum is reached; or it isn't, and what comes next is no local step; or it
-- isn't, and what comes next is a store that found no memory.
abbrev pub Stops : Halt → ℕ → ℕ → Effect → Type 0
Stops Quantum made quantum next = made ≡ quantum
Stops Shared made quantum next = (made < quantum) × IsNoStep next
Stops NoMemory made quantum next = (made < quantum) × IsStore next
