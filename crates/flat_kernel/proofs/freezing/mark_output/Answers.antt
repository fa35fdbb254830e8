use Rattle.std.proofs.Common.{subst, sym}
use Rattle.ckpt_records.specs.Holds.{IsCheckpointed}
use Rattle.flat_kernel.proofs.BarrierLaws.{checkpointed_after}
use Rattle.flat_kernel.specs.Engine.{group_in}
use Rattle.flat_kernel.proofs.freezing.mark_output.Goals as goal

pub returns-clause-checkpointed : goal.returns-clause-checkpointed
returns-clause-checkpointed c = subst IsCheckpointed (sym c.move_mark.ensures.group) (checkpointed_after (group_in c.args.g.now) c.requires)
