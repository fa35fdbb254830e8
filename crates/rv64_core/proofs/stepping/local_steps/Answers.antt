use Rattle.std.proofs.Common.{◌≡◌, arith}
use Rattle.rv64_core.proofs.StepsLaws.{none_made, one_more_made, the_same_made, as_many_made}
use Rattle.rv64_core.proofs.stepping.local_steps.Goals as goal

pub loop-made-init : goal.loop-made-init
loop-made-init g c = none_made _ _ _ _

pub returns-in-Shared-clause-after : goal.returns-in-Shared-clause-after
returns-in-Shared-clause-after g c =
    the_same_made _ _ _ _ _ _ _ _ _ _ _ c.loop-made.invariant c.in-Shared.ensures.leaves.1 c.in-Shared.ensures.leaves.2 c.in-Shared.ensures.lands

pub returns-in-NoMemory-clause-after : goal.returns-in-NoMemory-clause-after
returns-in-NoMemory-clause-after g c =
    the_same_made _ _ _ _ _ _ _ _ _ _ _ c.loop-made.invariant c.in-NoMemory.ensures.leaves.1 c.in-NoMemory.ensures.leaves.2 c.in-NoMemory.ensures.lands

pub loop-made-preserved : goal.loop-made-preserved
loop-made-preserved g c =
    one_more_made _ _ _ _ _ _ _ _ _ _ _ c.loop-made.invariant c.in-Stepped.ensures.leaves c.in-Stepped.ensures.lands

pub returns-clause-after : goal.returns-clause-after
returns-clause-after g c =
    let all : c.loop-made.made ≡ c.args.n = omega arith in
    as_many_made _ _ _ _ c.loop-made.made c.args.n _ _ _ all c.loop-made.invariant
