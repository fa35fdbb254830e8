use Rattle.std.proofs.Common.{length}
use Rattle.command_words.proofs.SaidLaws.{Read}
use Rattle.command_words.proofs.said.said_by.Given as goal

abbrev pub invariant-loop-rest : goal.invariant-loop-rest
invariant-loop-rest l = Read l.fn.words l.said l.rest

abbrev pub decreases-loop-rest : goal.decreases-loop-rest
decreases-loop-rest l = length l.rest
