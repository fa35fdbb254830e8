-- What the step that isn't local does: to its caller, to the objects that it sees, and to the tables that calls change.
use Rattle.std.specs.Prelude.{◌≡◌, ◌⊎◌, ℕ, List}
use Rattle.descriptors.specs.Opens.{descriptions}
use Rattle.group_kernel.specs.ServedCalls.{after_call, call_end}
use Rattle.group_kernel.specs.Accesses.{HasAccessed}
use Rattle.proc_lease.specs.Sight.{cells_between, seen_by}
use Rattle.group_kernel.specs.declared.calls.StepEnd.{StepEnd}
use Rattle.group_kernel.specs.declared.calls.StepEnd.TheVariants.{Ends, GoesOn}
use Rattle.syscalls_io.specs.declared.io_tables.IoTables.{IoTables}
use Rattle.proc_lease.specs.declared.process.Process.{Process}
use Rattle.rv64_isa.specs.Instruction.{calls, instruction, traps}
use Rattle.shadow_chains.specs.declared.entry.Entry.{Entry}
use Rattle.tables.specs.Rows.{Rows}

-- A system call was carried out and came to this end: the objects stay, and of the tables only the output changes.
pub record HasCalled (fds : List (ℕ × ℕ)) (io io' : IoTables) (process process' : Process) (shared shared' : Rows Entry) (end : StepEnd) : Type 0 where
  pub effect : instruction (cells_between process shared) process.regs ≡ calls
  pub sees : seen_by process' shared' ≡ seen_by process shared
  pub others : io' ≡ record io { out = io'.out }
  pub end_is : call_end end process'.regs io'.out ≡ after_call fds (descriptions io.opens.entries) (cells_between process shared) process.regs io.out

-- Nothing has changed, though faces may have more room than before.
pub record IsUnchanged (io io' : IoTables) (process process' : Process) (shared shared' : Rows Entry) : Type 0 where
  pub regs : process'.regs ≡ process.regs
  pub sees : seen_by process' shared' ≡ seen_by process shared
  pub others : io' ≡ io

-- The caller goes on, after an instruction or a call.
abbrev pub HasStepped : List (ℕ × ℕ) → IoTables → IoTables → Process → Process → Rows Entry → Rows Entry → Type 0
HasStepped fds io io' process process' shared shared' =
    (HasAccessed (instruction (cells_between process shared) process.regs) (seen_by process shared) (seen_by process' shared') process'.regs × (io' ≡ io))
    ⊎ HasCalled fds io io' process process' shared shared' GoesOn

-- It ends with a status, by a trap or a call.
abbrev pub HasEnded : List (ℕ × ℕ) → IoTables → IoTables → Process → Process → Rows Entry → Rows Entry → ℕ → Type 0
HasEnded fds io io' process process' shared shared' status =
    ((instruction (cells_between process shared) process.regs ≡ traps status) × IsUnchanged io io' process process' shared shared')
    ⊎ HasCalled fds io io' process process' shared shared' (Ends status)
