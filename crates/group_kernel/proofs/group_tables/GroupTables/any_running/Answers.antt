use Rattle.std.proofs.Common.{◌≡◌, ◌∙◌, ap}
use Rattle.std.specs.List.{list_any}
use Rattle.group_kernel.specs.Held.{seen}
use Rattle.group_kernel.specs.Placed.{is_running_row}
use Rattle.group_kernel.proofs.RowsFound.{any_runs}
use Rattle.group_kernel.proofs.group_tables.GroupTables.any_running.Goals as goal

pub returns : goal.returns
returns c leases g stands =
    c.any_runs.ensures ∙ ap (list_any is_running_row) c.deref.ensures.value
    ∙ any_runs (seen c.args.self.now) leases g stands
