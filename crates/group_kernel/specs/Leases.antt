-- Leases that a kernel handed out.
use Rattle.std.specs.Prelude.{◌≡◌, ◌⊎◌, ℕ, ◌<◌, ◌++◌, false, IsTrue, List}
use Rattle.std.specs.List.{list_any}
use Rattle.group_parts.specs.Leases.{IsLeaseOf}
use Rattle.group_parts.specs.Local.{is_local_part, pages_of_steps}
use Rattle.group_parts.specs.Parts.{PrivatePart}
use Rattle.group_kernel.specs.Faces.{AllStandOver, base_memory}
use Rattle.group_kernel.specs.View.{KernelView, progress_of}
use Rattle.proc_lease.specs.Private.{memory_of, views_of}
use Rattle.proc_lease.specs.declared.lease.Lease.{Lease}
use Rattle.proc_lease.specs.declared.process.Process.{Process}
use Rattle.run_defs.specs.Progress.{is_lease}
use Rattle.shadow_chains.specs.Entries.{number_of}
use Rattle.tables.specs.Rising.{Rise}

-- the private part that a process is
abbrev pub part_held : Process → PrivatePart
part_held p = record { regs = p.regs; maps = p.map.entries; memory = memory_of (views_of p.faces.entries) }

-- A worker's lease is out. Its process is what so many local steps make of its private part in the group, and its faces, one for each
-- number, stand over the last barrier: in their layers are the pages touched since and those to which these steps stored.
pub record IsLeased (v : KernelView) (worker : ℕ) (lease : Lease) : Type 0 where
  pub out : IsTrue (list_any (is_lease worker lease.pid) (progress_of v).leases)
  pub once : Rise number_of lease.process.faces.entries
  pub part : IsLeaseOf (progress_of v).state.group lease.pid lease.done (part_held lease.process)
  pub faces : AllStandOver (base_memory (progress_of v)) ((progress_of v).touched ++ pages_of_steps part.taken lease.done) (views_of lease.process.faces.entries)

-- It may be given back: at the quantum, or before a step that isn't local.
abbrev pub MayGive : ℕ → Lease → Type 0
MayGive quantum lease = (lease.done ≡ quantum) ⊎ ((lease.done < quantum) × (is_local_part (part_held lease.process) ≡ false))

-- The same process, and the same lease of it, of which faces may have more room than before.
pub record IsSameProcess (old new : Process) : Type 0 where
  pub regs : new.regs ≡ old.regs
  pub maps : new.map.entries ≡ old.map.entries
  pub faces : views_of new.faces.entries ≡ views_of old.faces.entries

pub record IsSameLease (old new : Lease) : Type 0 where
  pub pid : new.pid ≡ old.pid
  pub steps : new.done ≡ old.done
  pub process : IsSameProcess old.process new.process
