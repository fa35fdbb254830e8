use Rattle.shadow_chains.proofs.Faces.{seal_flat, seal_set}
use Rattle.shadow_chains.proofs.face.Face.prepare.Goals as goal

pub returns-in_err-spare-clause-bytes : goal.returns-in_err-spare-clause-bytes
returns-in_err-spare-clause-bytes c = rw (← c.self.view_is) (seal_flat _ _ _ c.in_ok-seal.ensures.ok _ c.in_ok-seal.ensures.emptied _)

pub returns-in_err-spare-clause-touched : goal.returns-in_err-spare-clause-touched
returns-in_err-spare-clause-touched c = rw (← c.self.view_is) (seal_set _ _ _ _ _ _ c.in_ok-seal.ensures.ok c.self.invariant.since_fits c.in_ok-seal.ensures.emptied)

pub returns-clause-bytes : goal.returns-clause-bytes
returns-clause-bytes c = rw (← c.self.view_is) (seal_flat _ _ _ c.in_ok-seal.ensures.ok _ c.in_ok-seal.ensures.emptied _)

pub returns-clause-touched : goal.returns-clause-touched
returns-clause-touched c = rw (← c.self.view_is) (seal_set _ _ _ _ _ _ c.in_ok-seal.ensures.ok c.self.invariant.since_fits c.in_ok-seal.ensures.emptied)
