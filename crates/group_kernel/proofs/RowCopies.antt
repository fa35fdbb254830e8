-- A row with its private part, from its fields.
use Rattle.std.proofs.Common.{◌≡◌, ℕ, List, Option, Some, None, refl}
use Rattle.std.specs.Prelude.{replicate}
use Rattle.address_maps.specs.declared.maps.Mapping.{Mapping}
use Rattle.group_defs.specs.declared.frame.Proc.{Proc}
use Rattle.proc_lease.specs.declared.process.Process.{Process}
use Rattle.group_kernel.specs.Held.{public_row, with_part_here}
use Rattle.group_kernel.specs.declared.row.Row.{Row}

abbrev pub copied : Row → ℕ → List ℕ → List Mapping → List (ℕ × ℕ) → Proc
copied row pc regs maps fds = record (public_row row) { pc = pc; regs = regs; maps = maps; fds = fds }

abbrev with_of : Row → Option Process → Proc
with_of row o = elim o [ None ↦ record (public_row row) { regs = replicate 31 0 } | Some p ↦ record (public_row row) { pc = p.regs.pc; regs = p.regs.x; maps = p.map.entries } ]

by_process : (row : Row) (o : Option Process) (pc : ℕ) (regs : List ℕ) (maps : List Mapping) (fds : List (ℕ × ℕ)) → pc ≡ (with_of row o).pc → regs ≡ (with_of row o).regs → maps ≡ (with_of row o).maps → fds ≡ row.fds.entries
    → copied row pc regs maps fds ≡ with_of row o
by_process row None pc regs maps fds p r m f = rw (p, r, m, f) refl
by_process row (Some process) pc regs maps fds p r m f = rw (p, r, m, f) refl

pub copy_is : (row : Row) (pc : ℕ) (regs : List ℕ) (maps : List Mapping) (fds : List (ℕ × ℕ)) → pc ≡ (with_part_here row).pc → regs ≡ (with_part_here row).regs → maps ≡ (with_part_here row).maps → fds ≡ row.fds.entries
    → copied row pc regs maps fds ≡ with_part_here row
copy_is row = by_process row row.process
