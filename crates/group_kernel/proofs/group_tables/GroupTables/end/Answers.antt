use Rattle.std.proofs.Common.{refl}
use Rattle.group_kernel.specs.Held.{seen}
use Rattle.group_kernel.proofs.EndMakesStep.{end_tells}
use Rattle.group_kernel.proofs.group_tables.GroupTables.end.Goals as goal

pub returns : goal.returns
returns c =
    end_tells (seen c.args.self.now) c.args.place c.args.process c.args.status c.index.result.now c.index_mut.result.now c.end_row-shared.new.row _ c.end_row-shared.result c.as_slice.result.now c.as_slice-2.result.now c.deref.result.now c.deref-2.result.now
    c.requires.within c.index.ensures c.index_mut.ensures.value c.end_row-shared.ensures.row c.end_row-shared.ensures.fds c.leave_rows.ensures c.end_row-shared.ensures.shared c.as_slice.ensures c.as_slice-2.ensures c.deref.ensures.value c.deref-2.ensures.value
    c.drop_objects.ensures c.drop_faces.ensures refl c.end_row-shared.ensures.left c.end_row-shared.ensures.exact c.requires.ends
