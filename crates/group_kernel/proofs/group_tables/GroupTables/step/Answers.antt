use Rattle.std.proofs.Common.{List, Some, subst, sym}
use Rattle.std.proofs.lemmas.Result.{IfOk-weaker}
use Rattle.group_kernel.specs.Held.{pid_at, seen, with_process}
use Rattle.group_kernel.specs.Leases.{IsSameProcess}
use Rattle.group_kernel.specs.SameTables.{IsSameTables}
use Rattle.group_kernel.specs.Stepping.{HasEnded, HasStepped}
use Rattle.group_kernel.specs.Steps.{ComesToEnd, MakesStep}
use Rattle.group_kernel.specs.declared.row.Row.{Row}
use Rattle.group_kernel.proofs.KeptRows.{kept_rows}
use Rattle.group_kernel.proofs.StepsMade.{ends_here, goes_on}
use Rattle.shadow_chains.specs.Entries.{number_of}
use Rattle.shadow_chains.specs.declared.entry.Entry.{Entry}
use Rattle.tables.specs.Rising.{Rise}
use Rattle.tables.specs.Rows.{Rows}
use Rattle.group_kernel.proofs.group_tables.GroupTables.step.Goals as goal

pub returns-clause-goes_on : goal.returns-clause-goes_on
returns-clause-goes_on c =
    let now = c.step_on-end.new in
    let shared = c.replace-shared.ensures.value in
    let t = seen c.args.self.now in
    let pid = pid_at t c.args.place in
    let kept = kept_rows c.args.self.now.rows.items c.args.place c.index_mut.result.now now.fds c.index_mut.ensures.value c.step_on-end.ensures.fds in
    IfOk-weaker c.step_on-end.result _ _
    (λ end goes is. subst (λ (rows : List Row). MakesStep (with_process t pid (Some c.args.process)) (with_process (record t { rows = rows; shared = now.memory.shared; io = now.io }) pid (Some now.memory.process)) pid) (sym kept)
    (goes_on t c.args.place c.index_mut.result.now c.args.process now.memory.process now.memory.shared now.io c.requires.within c.requires.files c.index_mut.ensures.value
    c.step_on-end.ensures.private_rise (subst (λ (s : Rows Entry). Rise number_of s.entries) shared c.step_on-end.ensures.shared_rise)
    (subst (λ (s : Rows Entry). HasStepped c.index_mut.result.now.fds.entries c.args.self.now.io now.io c.args.process now.memory.process s now.memory.shared) shared (goes is))))
    c.step_on-end.ensures.goes_on

pub returns-clause-ends : goal.returns-clause-ends
returns-clause-ends c =
    let now = c.step_on-end.new in
    let shared = c.replace-shared.ensures.value in
    let t = seen c.args.self.now in
    let pid = pid_at t c.args.place in
    let kept = kept_rows c.args.self.now.rows.items c.args.place c.index_mut.result.now now.fds c.index_mut.ensures.value c.step_on-end.ensures.fds in
    IfOk-weaker c.step_on-end.result _ _
    (λ end ended status is. subst (λ (rows : List Row). ComesToEnd (with_process t pid (Some c.args.process)) pid status × IsSameTables t (record t { rows = rows; shared = now.memory.shared; io = now.io }) × IsSameProcess c.args.process now.memory.process) (sym kept)
    (ends_here t c.args.place c.index_mut.result.now c.args.process now.memory.process now.memory.shared now.io c.requires.within c.requires.files c.index_mut.ensures.value status
    (subst (λ (s : Rows Entry). HasEnded c.index_mut.result.now.fds.entries c.args.self.now.io now.io c.args.process now.memory.process s now.memory.shared status) shared (ended status is))))
    c.step_on-end.ensures.ends
