use Rattle.group_kernel.specs.Held.{pid_at, seen, with_process}
use Rattle.std.proofs.Common.{Some}
use Rattle.group_kernel.proofs.TablesKept.{end_same, ended_same, ok_gives, put_same}
use Rattle.group_kernel.proofs.group_tables.GroupTables.put_back.Goals as goal

pub end-requires-clause-ends : goal.end-requires-clause-ends
end-requires-clause-ends c =
    let (comes, same, alike) = ok_gives _ c.step-process.result.1 c.in-Ok.came c.in-Ok.is c.step-process.ensures.ends c.in-Ends.status c.in-Ends.is in
    end_same (seen c.args.self.now) (seen c.step-process.new.self) same c.args.place c.in-Ends.status c.args.process c.step-process.result.0 alike comes

pub returns-in-GoesOn-clause-step : goal.returns-in-GoesOn-clause-step
returns-in-GoesOn-clause-step c = λ not_whole.
    put_same (with_process (seen c.args.self.now) (pid_at (seen c.args.self.now) c.args.place) (Some c.args.process)) (seen c.args.self.now) (seen c.step-process.new.self) _ c.step-process.ensures.rows c.args.place c.step-process.result.0 c.put_process-in-GoesOn.ensures
    (ok_gives _ c.step-process.result.1 c.in-Ok.came c.in-Ok.is c.step-process.ensures.goes_on c.in-GoesOn.is)

pub returns-in-Ends-clause-step : goal.returns-in-Ends-clause-step
returns-in-Ends-clause-step c = λ not_whole.
    let (comes, same, alike) = ok_gives _ c.step-process.result.1 c.in-Ok.came c.in-Ok.is c.step-process.ensures.ends c.in-Ends.status c.in-Ends.is in
    ended_same (seen c.args.self.now) (seen c.step-process.new.self) _ same c.args.place c.args.process c.step-process.result.0 alike c.end.ensures
