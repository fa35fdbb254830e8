use Rattle.group_kernel.proofs.RowCopies.{copy_is}
use Rattle.group_kernel.proofs.frames.copy_row.Goals as goal

pub returns : goal.returns
returns c =
    copy_is c.args.row.now c.regs_of-regs.result.pc c.regs_of-regs.result.x c.in_ok-maps_of.field-0 c.in_ok-list.field-0 c.regs_of-regs.ensures.pc c.regs_of-regs.ensures.x (c.in_ok-maps_of.ensures) (c.in_ok-list.ensures)
