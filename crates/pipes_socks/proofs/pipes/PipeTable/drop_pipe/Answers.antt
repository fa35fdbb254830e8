use Rattle.std.proofs.Common.{arith}
use Rattle.pipes_socks.proofs.Held.{pipes_removed}
use Rattle.pipes_socks.proofs.pipes.PipeTable.drop_pipe.Goals as goal

pub invariant_of-self : goal.invariant_of-self
invariant_of-self c = (
  rw c.remove_in.ensures.items (pipes_removed c.self.inside.channels.items c.args.number c.self.invariant.0),
  omega (arith, c.remove_in.ensures.len, c.remove_in.ensures.capacity, c.self.invariant.1),
)
