use Rattle.std.proofs.Common.{◌≡◌, ◌∙◌, ℕ, List, None, Option, sym, ap, subst}
use Rattle.std.specs.Prelude.{IfSome, ◌<◌, length}
use Rattle.std.specs.Option.{option_map}
use Rattle.group_kernel.specs.Held.{pid_at, seen}
use Rattle.group_kernel.specs.Readiness.{is_ready_row, next_in}
use Rattle.group_kernel.proofs.PlacesFound.{next_is, next_within}
use Rattle.group_kernel.proofs.ReadyRows.{ready_rows}
use Rattle.run_defs.specs.Legal.{next_pid}
use Rattle.group_kernel.proofs.group_tables.GroupTables.next_ready.Goals as goal

pub returns-clause-within : goal.returns-clause-within
returns-clause-within c =
    subst (λ (o : Option ℕ). IfSome o (λ place. place < length c.args.self.now.rows.items)) (sym c.first_ready.ensures) (next_within (is_ready_row (seen c.args.self.now)) c.args.taken c.args.self.now.rows.items)

pub returns-clause-next : goal.returns-clause-next
returns-clause-next c s leases stands valid served only =
    ap (next_pid c.args.taken) (ready_rows (seen c.args.self.now) leases s stands valid served only)
    ∙ sym (next_is (is_ready_row (seen c.args.self.now)) c.args.taken c.args.self.now.rows.items)
    ∙ ap (option_map (pid_at (seen c.args.self.now))) (sym c.first_ready.ensures)
