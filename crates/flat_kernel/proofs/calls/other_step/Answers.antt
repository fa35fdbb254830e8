use Rattle.std.proofs.Common.{◌≡◌, OnOk, subst, ◌∙◌}
use Rattle.group_defs.specs.Group.{Group}
use Rattle.flat_kernel.specs.Engine.{group_in}
use Rattle.flat_kernel.proofs.CallLaws.{step_calls, step_ends}
use Rattle.flat_kernel.proofs.calls.other_step.Goals as goal

pub returns-then-is_at_call-clause-ok : goal.returns-then-is_at_call-clause-ok
returns-then-is_at_call-clause-ok c =
    let P : Group → Type 0 = λ h. OnOk c.call.result (group_in c.call.new.g ≡ h) in
    subst P (step_calls c.args.g.now c.requires.running (c.is_at_call.ensures.0 c.if-is_at_call.true)) c.call.ensures.ok

pub returns-clause-ok : goal.returns-clause-ok
returns-clause-ok c =
    c.end.ensures.gone ∙ step_ends c.args.g.now c.requires.running c.requires.runnable c.requires.other (λ call. absurd (cc (c.is_at_call.ensures.1 call, c.if-is_at_call.false)))
