-- The step that isn't local, by what was done to the caller, to the objects that it sees and to the tables that calls change.
use Rattle.std.proofs.Common.{◌≡◌, inl, inr, ℕ, ◌<◌, length, get_or, Some, refl, sym, ap, ◌∙◌, subst}
use Rattle.descriptors.specs.Opens.{descriptions}
use Rattle.group_defs.specs.declared.frame.Out.{Out}
use Rattle.group_kernel.specs.Held.{FileFacesOfFiles, TablesView, pid_at, with_process}
use Rattle.group_kernel.specs.Leases.{IsSameProcess}
use Rattle.group_kernel.specs.SameTables.{IsSameTables}
use Rattle.proc_lease.specs.Sight.{SeenObjects, cells_between}
use Rattle.group_kernel.specs.Stepping.{HasEnded, HasStepped, IsUnchanged}
use Rattle.group_kernel.specs.Steps.{ComesToEnd, MakesStep}
use Rattle.syscalls_io.specs.declared.io_tables.IoTables.{IoTables}
use Rattle.group_kernel.specs.declared.row.Row.{Row}
use Rattle.group_kernel.proofs.AccessSteps.{access_steps, trap_ends}
use Rattle.group_kernel.proofs.AnsweredCalls.{ended_as_it_was}
use Rattle.group_kernel.proofs.CallSteps.{call_ends, call_steps}
use Rattle.proc_lease.specs.declared.process.Process.{Process}
use Rattle.rv64_isa.specs.Instruction.{Effect, calls, steps, traps}
use Rattle.shadow_chains.specs.Entries.{number_of}
use Rattle.shadow_chains.specs.declared.entry.Entry.{Entry}
use Rattle.syscalls_proc.specs.Accessing.{IsNoCall}
use Rattle.tables.specs.Rising.{Rise}
use Rattle.tables.specs.Rows.{Rows}

pub no_call : (e : Effect) → (e ≡ calls → ⊥) → IsNoCall e
no_call (steps r stored) other = tt
no_call calls other = absurd (other refl)
no_call (traps status) other = tt

module _ (t : TablesView) (place : ℕ) (row : Row) (process process' : Process) (shared' : Rows Entry) (io' : IoTables) (lt : place < length t.rows) (only : FileFacesOfFiles t) (is_row : row ≡ get_or t.rows place row) where
  abbrev pid : ℕ
  pid = pid_at t place

  pub goes_on : Rise number_of process.faces.entries → Rise number_of t.shared.entries → HasStepped row.fds.entries t.io io' process process' t.shared shared'
      → MakesStep (with_process t pid (Some process)) (with_process (record t { shared = shared'; io = io' }) pid (Some process')) pid
  goes_on rise rise' (inl (accessed, same)) =
      subst (λ (io : IoTables). MakesStep (with_process t pid (Some process)) (with_process (record t { shared = shared'; io = io }) pid (Some process')) pid) (sym same)
      (access_steps t place process process' shared' lt only rise rise' accessed)
  goes_on rise rise' (inr called) = call_steps t place row process process' shared' io' lt only is_row rise rise' called

  pub same_tables : IsUnchanged t.io io' process process' t.shared shared' → IsSameTables t (record t { shared = shared'; io = io' })
  same_tables same = record { rows = refl; objects = refl; shared = ap (λ (s : SeenObjects). s.public) same.sees; io = same.others }

  pub same_process : IsUnchanged t.io io' process process' t.shared shared' → IsSameProcess process process'
  same_process same = record { regs = same.regs; maps = ap (λ (s : SeenObjects). s.maps) same.sees; faces = ap (λ (s : SeenObjects). s.private) same.sees }

  unchanged : (status : ℕ) → HasEnded row.fds.entries t.io io' process process' t.shared shared' status → IsUnchanged t.io io' process process' t.shared shared'
  unchanged status (inl (trap, same)) = same
  unchanged status (inr called) =
      let (regs, out) = ended_as_it_was row.fds.entries (descriptions t.io.opens.entries) (cells_between process t.shared) process.regs t.io.out status process'.regs io'.out called.end_is in
      record { regs = regs; sees = called.sees; others = called.others ∙ ap (λ (o : Out). record t.io { out = o }) out }

  comes_to : (status : ℕ) → HasEnded row.fds.entries t.io io' process process' t.shared shared' status → ComesToEnd (with_process t pid (Some process)) pid status
  comes_to status (inl (trap, same)) = trap_ends t place process lt only status trap
  comes_to status (inr called) = call_ends t place row process process' shared' io' status lt only is_row called

  pub ends_here : (status : ℕ) → HasEnded row.fds.entries t.io io' process process' t.shared shared' status
      → ComesToEnd (with_process t pid (Some process)) pid status × IsSameTables t (record t { shared = shared'; io = io' }) × IsSameProcess process process'
  ends_here status ended = (comes_to status ended, same_tables (unchanged status ended), same_process (unchanged status ended))
