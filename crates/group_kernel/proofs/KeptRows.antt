-- A row whose descriptors stay is put back as it was.
use Rattle.std.proofs.Common.{◌≡◌, ℕ, List, get_or, set, ap, ◌∙◌}
use Rattle.std.proofs.lemmas.List.{set-get_or}
use Rattle.descriptors.specs.declared.descriptor_table.DescTable.{DescTable}
use Rattle.group_kernel.specs.declared.row.Row.{Row}

pub kept_rows : (rows : List Row) (place : ℕ) (row : Row) (fds : DescTable) → row ≡ get_or rows place row → fds ≡ row.fds → set rows place (record row { fds = fds }) ≡ rows
kept_rows rows place row fds is same = ap (λ (f : DescTable). set rows place (record row { fds = f })) same ∙ ap (set rows place) is ∙ set-get_or rows place row
