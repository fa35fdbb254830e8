use Rattle.std.proofs.Common.{sym, ap, ◌∙◌, Bool, ℕ, List, [], ◌∷◌}
use Rattle.std.specs.Prelude.{if◌then◌else◌}
use Rattle.flat_kernel.proofs.WaitLaws.{ended_not_ready, ready_is}
use Rattle.flat_kernel.proofs.turns.is_ready.Goals as goal

pub returns-then-g-clause-ready : goal.returns-then-g-clause-ready
returns-then-g-clause-ready c standing = ready_is c.args.g.now c.if-g.true standing c.is_waiting.result (sym (c.is_waiting.ensures standing))

pub returns-else-g-clause-ready : goal.returns-else-g-clause-ready
returns-else-g-clause-ready c standing =
    ended_not_ready c.args.g.now c.if-g.false standing ∙ ap (λ (b : Bool). let l : List ℕ = if b then c.args.g.now.fixed.pid ∷ [] else [] in l) (sym c.if-g.false)
