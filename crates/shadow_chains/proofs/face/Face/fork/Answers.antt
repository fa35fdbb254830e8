use Rattle.shadow_chains.proofs.Faces.{seal_flat, seal_set, copy_flat, copy_set}
use Rattle.shadow_chains.proofs.face.Face.fork.Goals as goal

pub returns-in_err-layers-clause-bytes : goal.returns-in_err-layers-clause-bytes
returns-in_err-layers-clause-bytes c = rw (← c.self.view_is) (seal_flat _ _ _ c.in_ok-seal.ensures.ok _ c.in_ok-seal.ensures.emptied _)

pub returns-in_err-layers-clause-touched : goal.returns-in_err-layers-clause-touched
returns-in_err-layers-clause-touched c = rw (← c.self.view_is) (seal_set _ _ _ _ _ _ c.in_ok-seal.ensures.ok c.self.invariant.since_fits c.in_ok-seal.ensures.emptied)

pub returns-clause-bytes : goal.returns-clause-bytes
returns-clause-bytes c = rw (← c.self.view_is) (seal_flat _ _ _ c.in_ok-seal.ensures.ok _ c.in_ok-seal.ensures.emptied _)

pub returns-clause-touched : goal.returns-clause-touched
returns-clause-touched c = rw (← c.self.view_is) (seal_set _ _ _ _ _ _ c.in_ok-seal.ensures.ok c.self.invariant.since_fits c.in_ok-seal.ensures.emptied)

pub returns-clause-copy_bytes : goal.returns-clause-copy_bytes
returns-clause-copy_bytes c = rw (← c.self.view_is) (copy_flat _ _ _ _ _ _ c.in_ok-seal.ensures.ok c.in_ok-layers.ensures c.new.ensures.pages)

pub returns-clause-copy_touched : goal.returns-clause-copy_touched
returns-clause-copy_touched c = rw (← c.self.view_is) (copy_set _ _ _ _ _ _ _ c.in_ok-seal.ensures.ok c.in_ok-layers.ensures c.new.ensures.pages c.self.invariant.since_fits)
