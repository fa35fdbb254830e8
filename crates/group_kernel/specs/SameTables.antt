-- Tables that stay as they were.
use Rattle.std.specs.Prelude.{◌≡◌}
use Rattle.group_kernel.specs.Held.{TablesView}
use Rattle.proc_lease.specs.Private.{views_of}

-- All stays, though shared faces may have more room than before.
pub record IsSameTables (old new : TablesView) : Type 0 where
  pub rows : new.rows ≡ old.rows
  pub objects : new.objects ≡ old.objects
  pub shared : views_of new.shared.entries ≡ views_of old.shared.entries
  pub io : new.io ≡ old.io
