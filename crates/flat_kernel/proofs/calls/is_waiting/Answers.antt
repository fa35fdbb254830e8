use Rattle.std.proofs.Common.{sym, ◌∙◌}
use Rattle.flat_kernel.proofs.WaitLaws.{waits_at_call, waits_nowhere_else, ended_waits_not}
use Rattle.flat_kernel.proofs.calls.is_waiting.Goals as goal
use Rattle.flat_kernel.proofs.calls.is_waiting.Goals.{then-g, else-g}

pub returns-then-is_at_call : goal.returns-then-is_at_call
returns-then-is_at_call c standing =
    elim c.if-g.branch [
      | then-g w ↦ c.must_wait.ensures ∙ sym (waits_at_call c.args.g.now w.if-g.true standing c.requires (w.is_at_call.ensures.0 (sym w.value-is ∙ c.if-is_at_call.true)))
      | else-g w ↦ absurd (cc)
    ]

pub returns-else-is_at_call : goal.returns-else-is_at_call
returns-else-is_at_call c standing =
    elim c.if-g.branch [
      | then-g w ↦ c.if-is_at_call.false ∙ sym (waits_nowhere_else c.args.g.now w.if-g.true standing (λ call. absurd (cc (w.is_at_call.ensures.1 call, w.value-is, c.if-is_at_call.false))))
      | else-g w ↦ c.if-is_at_call.false ∙ sym (ended_waits_not c.args.g.now w.if-g.false standing)
    ]
