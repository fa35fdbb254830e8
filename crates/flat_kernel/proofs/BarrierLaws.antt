-- A valid group is valid after a barrier, and may be a checkpoint's.
use Rattle.std.proofs.Common.{sym}
use Rattle.group_defs.specs.declared.frame.Frame.{Frame}
use Rattle.group_defs.specs.declared.frame.Out.{Out}
use Rattle.group_defs.specs.Built.{OnlyBuilt}
use Rattle.group_defs.specs.Group.{Group}
use Rattle.group_defs.specs.Output.{out_after_barrier}
use Rattle.group_defs.specs.Standing.{group_barrier, state_at}
use Rattle.group_laws.proofs.BarrierLaws.{barrier_position, barrier_valid}
use Rattle.ckpt_records.specs.Holds.{IsCheckpointed}
use Rattle.flat_kernel.specs.Engine.{IsRunnable}

built_with_out : (f : Frame) (out : Out) → OnlyBuilt f → OnlyBuilt (record f { out = out })
built_with_out f out b = record { one = b.one; alone = b.alone; files = b.files; pipes = b.pipes; pairs = b.pairs; opens = b.opens }

pub checkpointed_after : (g : Group) → IsRunnable g → IsCheckpointed (group_barrier g)
checkpointed_after g runs = record {
  valid = barrier_valid (state_at 0 g) 0 runs.valid;
  built = built_with_out g.frame (out_after_barrier g.frame.out) runs.built;
  all_marked = sym (barrier_position g.frame.out runs.valid.sound.frame.out);
}
