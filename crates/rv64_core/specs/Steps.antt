-- What a call of local_steps leaves.
use Rattle.std.specs.Prelude.{◌≡◌, ℕ, zero, suc, ◌<◌, List}
use Rattle.rv64_isa.specs.declared.regs.Regs.{Regs}
use Rattle.rv64_isa.specs.Instruction.{Effect, instruction}
use Rattle.rv64_isa.specs.Memory.{Cells}
use Rattle.rv64_core.specs.declared.local.Local.{Local}
use Rattle.rv64_core.specs.declared.local.Local.TheVariants.{Stepped, Shared, NoMemory}
use Rattle.rv64_core.specs.Step.{IsAfterStep, IsNoStep, IsStore, after_landing}

-- Registers, cells and table are those after exactly n steps, each the instruction at pc, from the registers, cells and table that
-- come first. The last step is taken apart first: it is made from what the steps before it leave.
unfoldable pub AreAfterSteps : {T : Type 0} → (T → ℕ → List ℕ → T) → ℕ → Regs → Cells → T → Regs → Cells → T → Type 0
AreAfterSteps landed zero r cells table r' cells' table' = (r' ≡ r) × (cells' ≡ cells) × (table' ≡ table)
AreAfterSteps {T = T} landed (suc n) r cells table r' cells' table' =
    (s : Regs) × ((d : Cells) × ((t : T) ×
    (AreAfterSteps landed n r cells table s d t × IsAfterStep (instruction d s) d r' cells' × (table' ≡ after_landing landed (instruction d s) t))))

-- Why so many steps were made of at most n: all n were made; or fewer, and the effect that comes next is no step; or fewer, and it
-- is a step that stores, for which there was no memory.
abbrev pub EndSteps : Local → ℕ → ℕ → Effect → Type 0
EndSteps Stepped made n next = made ≡ n
EndSteps Shared made n next = (made < n) × IsNoStep next
EndSteps NoMemory made n next = (made < n) × IsStore next
