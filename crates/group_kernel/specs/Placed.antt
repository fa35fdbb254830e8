-- What the row at a place has.
use Rattle.std.specs.Prelude.{ℕ, Bool, Option, None, map, slice_index_or}
use Rattle.group_defs.specs.Group.{is_running}
use Rattle.group_kernel.specs.Held.{TablesView, public_row}
use Rattle.group_kernel.specs.declared.row.Row.{Row}
use Rattle.proc_lease.specs.declared.process.Process.{Process}

-- the process of the row at a place, where its private part is here
abbrev pub process_at : TablesView → ℕ → Option Process
process_at t place = slice_index_or (map {A = Row} (λ row. row.process) t.rows) place None

-- the row's process runs, here or on lease
unfoldable pub is_running_row : Row → Bool
is_running_row row = is_running (public_row row)
