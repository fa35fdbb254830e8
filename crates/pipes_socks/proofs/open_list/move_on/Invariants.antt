use Rattle.std.proofs.Common.{◌≡◌, ◌++◌, vec_len}
use Rattle.pipes_socks.specs.Carried.{carried_by}
use Rattle.pipes_socks.proofs.open_list.move_on.Given as goal

abbrev pub invariant-loop-rest : goal.invariant-loop-rest
invariant-loop-rest l = l.numbers.items ++ carried_by l.rest.items ≡ l.initial.numbers.items ++ carried_by l.initial.rest.items

abbrev pub decreases-loop-rest : goal.decreases-loop-rest
decreases-loop-rest l = vec_len l.rest
