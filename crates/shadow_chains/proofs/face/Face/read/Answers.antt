use Rattle.std.proofs.Common.{arith, length}
use Rattle.shadow_chains.proofs.Shown.{read_is}
use Rattle.shadow_chains.proofs.face.Face.read.Goals as goal

pub returns : goal.returns
returns c =
    let fits = rw (← c.self.view_is) at c.requires in
    rw (← c.self.view_is) (read_is _ c.self.inside.pages c.args.place (length c.args.into.now) c.read_all.new.into (omega arith) fits c.read_all.ensures)
