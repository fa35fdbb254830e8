use Rattle.shadow_chains.proofs.Joins.{alike_itself, alike_then}
use Rattle.shadow_chains.proofs.flattening.flatten_in.Goals as goal

pub loop-alloc-preserved : goal.loop-alloc-preserved
loop-alloc-preserved c = alike_then _ _ _ c.loop-alloc.invariant c.join_topmost.ensures.alike

pub returns-then-len-lt2-clause-alike : goal.returns-then-len-lt2-clause-alike
returns-then-len-lt2-clause-alike c = alike_itself _

pub returns-in_err-join_topmost-clause-alike : goal.returns-in_err-join_topmost-clause-alike
returns-in_err-join_topmost-clause-alike c = alike_then _ _ _ c.loop-alloc.invariant c.join_topmost.ensures.alike
