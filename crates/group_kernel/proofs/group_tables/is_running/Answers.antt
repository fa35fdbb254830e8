use Rattle.std.proofs.Common.{true, false, ◌≡◌, sym, ap}
use Rattle.group_defs.specs.Group.{is_running}
use Rattle.group_defs.specs.declared.frame.ProcState.{ProcState}
use Rattle.group_kernel.specs.Held.{public_row}
use Rattle.group_kernel.specs.Placed.{is_running_row}
use Rattle.group_kernel.proofs.group_tables.is_running.Goals as goal

pub returns-in-Running : goal.returns-in-Running
unfolding is_running_row
returns-in-Running c = sym (ap (λ (s : ProcState). is_running (record (public_row c.args.row.now) { state = s })) c.in-Running.is)

pub returns-in-Ended : goal.returns-in-Ended
unfolding is_running_row
returns-in-Ended c = sym (ap (λ (s : ProcState). is_running (record (public_row c.args.row.now) { state = s })) c.in-Ended.is)
