use Rattle.std.proofs.Common.{refl}
use Rattle.shadow_chains.proofs.Joins.{sees_lowered, sees_flattened, same_bytes, same_base, same_set}
use Rattle.shadow_chains.proofs.face.Face.flatten.Goals as goal

pub returns-in_err-lower-clause-bytes : goal.returns-in_err-lower-clause-bytes
returns-in_err-lower-clause-bytes c = rw (← c.self.view_is) (same_bytes _ _ _ _ _ _ (sees_lowered _ _ _ _ _ c.lower.ensures.lowers) _)

pub returns-in_err-lower-clause-touched : goal.returns-in_err-lower-clause-touched
returns-in_err-lower-clause-touched c = rw (← c.self.view_is) (same_set _ _ _ _ _ _ (sees_lowered _ _ _ _ _ c.lower.ensures.lowers) _)

pub returns-clause-bytes : goal.returns-clause-bytes
returns-clause-bytes c =
    rw (← c.self.view_is) (same_bytes _ _ _ _ _ _ (sees_flattened _ _ _ _ _ _ _ c.lower.ensures.lowers c.in_ok-lower.ensures.ok c.flatten-flattened.ensures.alike c.len-self-inside.ensures.count) _)

pub returns-clause-base : goal.returns-clause-base
returns-clause-base c = rw (← c.self.view_is) (record {
  pages = refl;
  number = refl;
  bytes = same_base _ _ _ _ _ _ (sees_flattened _ _ _ _ _ _ _ c.lower.ensures.lowers c.in_ok-lower.ensures.ok c.flatten-flattened.ensures.alike c.len-self-inside.ensures.count) _;
})

pub returns-clause-touched : goal.returns-clause-touched
returns-clause-touched c =
    rw (← c.self.view_is) (same_set _ _ _ _ _ _ (sees_flattened _ _ _ _ _ _ _ c.lower.ensures.lowers c.in_ok-lower.ensures.ok c.flatten-flattened.ensures.alike c.len-self-inside.ensures.count) _)
