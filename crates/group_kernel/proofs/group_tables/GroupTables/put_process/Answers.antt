use Rattle.std.proofs.Common.{Some}
use Rattle.group_kernel.specs.Held.{seen}
use Rattle.group_kernel.proofs.RowPlaces.{row_set}
use Rattle.group_kernel.proofs.group_tables.GroupTables.put_process.Goals as goal

pub returns : goal.returns
returns c = row_set (seen c.args.self.now) c.args.place c.index_mut.result.now (Some c.args.process) c.index_mut.ensures.value c.requires.rise c.requires.within
