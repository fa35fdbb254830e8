-- What a shared access leaves.
use Rattle.std.specs.Prelude.{◌≡◌, ⊤, ℕ, Option, Some, None}
use Rattle.rv64_isa.specs.declared.act.Act.{Act}
use Rattle.rv64_isa.specs.declared.act.Act.TheVariants.{Sets, Jumps, Loads, Stores, Calls, Traps}
use Rattle.rv64_isa.specs.declared.regs.Regs.{Regs}
use Rattle.rv64_isa.specs.Instruction.{Effect, steps, calls, traps, act_of_word}
use Rattle.rv64_isa.specs.Memory.{Cells}
use Rattle.group_defs.specs.Reserved.{EachFrom}
use Rattle.rv64_core.specs.Step.{IsAfterStep}
use Rattle.syscalls_proc.specs.declared.access.Access.{Access}
use Rattle.syscalls_proc.specs.declared.access.Access.TheVariants.{Stepped, Trap}

abbrev pub IsNoCall : Effect → Type 0
IsNoCall (steps s write) = ⊤
IsNoCall calls = ⊥
IsNoCall (traps code) = ⊤

-- Memory may be wanted by what stores where not each byte is reserved.
abbrev pub ActMayWantMemory : (ℕ → Type 0) → Act → Type 0
ActMayWantMemory IsReserved (Sets rd value) = ⊥
ActMayWantMemory IsReserved (Jumps rd target) = ⊥
ActMayWantMemory IsReserved (Loads rd from n is_signed) = ⊥
ActMayWantMemory IsReserved (Stores to n value) = EachFrom IsReserved to n → ⊥
ActMayWantMemory IsReserved Calls = ⊥
ActMayWantMemory IsReserved (Traps code) = ⊥

-- the same of a fetched word
abbrev pub MayWantMemory : (ℕ → Type 0) → Regs → Option ℕ → Type 0
MayWantMemory IsReserved r None = ⊥
MayWantMemory IsReserved r (Some word) = ActMayWantMemory IsReserved (act_of_word r word)

-- The answer is this effect's, and so are registers and cells: after a step, or as before a trap.
abbrev pub Leaves : Access → Effect → Regs → Cells → Regs → Cells → Type 0
Leaves Stepped e r cells r' cells' = IsAfterStep e cells r' cells'
Leaves (Trap code) e r cells r' cells' = (e ≡ traps code) × (r' ≡ r) × (cells' ≡ cells)
