-- What each process that is here sees.
use Rattle.std.specs.Prelude.{All, IfSome}
use Rattle.group_kernel.specs.Held.{TablesView}
use Rattle.proc_lease.specs.Sight.{SeenFits, seen_by}

-- Of each, all mappings lie inside objects that are where they are looked up.
abbrev pub AllSeenFit : TablesView → Type 0
AllSeenFit t = All (λ row. IfSome row.process (λ process. SeenFits (seen_by process t.shared))) t.rows
