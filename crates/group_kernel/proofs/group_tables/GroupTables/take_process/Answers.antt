use Rattle.std.proofs.Common.{Option, None, ap, ◌∙◌}
use Rattle.group_kernel.specs.Held.{pid_at, seen, with_process}
use Rattle.proc_lease.specs.declared.process.Process.{Process}
use Rattle.group_kernel.proofs.RowPlaces.{row_set}
use Rattle.group_kernel.proofs.group_tables.GroupTables.take_process.Goals as goal

pub returns-in-Some-clause-tables : goal.returns-in-Some-clause-tables
returns-in-Some-clause-tables c =
    row_set (seen c.args.self.now) c.args.place c.index_mut.result.now c.replace.new.dest c.index_mut.ensures.value c.requires.rise c.requires.within
    ∙ ap (λ (o : Option Process). with_process (seen c.args.self.now) (pid_at (seen c.args.self.now) c.args.place) o) c.replace.ensures.after

pub returns-in-None-clause-tables : goal.returns-in-None-clause-tables
returns-in-None-clause-tables c =
    row_set (seen c.args.self.now) c.args.place c.index_mut.result.now c.replace.new.dest c.index_mut.ensures.value c.requires.rise c.requires.within
    ∙ ap (λ (o : Option Process). with_process (seen c.args.self.now) (pid_at (seen c.args.self.now) c.args.place) o) c.replace.ensures.after
