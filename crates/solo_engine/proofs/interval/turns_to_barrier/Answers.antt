use Rattle.std.proofs.Common.{inl, inr, refl, ◌≡◌, ◌+◌, ◌≤◌, ◌∙◌, List, [], ◌∷◌, ◌++◌, subst, sym, ap, arith}
use Rattle.group_defs.specs.Output.{last_position}
use Rattle.group_defs.specs.declared.frame.Out.{Out}
use Rattle.run_defs.specs.declared.run.Mark.{Mark}
use Rattle.run_defs.specs.declared.run.Mark.TheVariants.{Turn}
use Rattle.flat_kernel.specs.Engine.{group_in}
use Rattle.solo_engine.specs.Interval.{StopsTurning}
use Rattle.solo_engine.proofs.Exits.{on_err}
use Rattle.solo_engine.proofs.Turning.{comes_over, stops_behind_take, stops_here, turns_more}
use Rattle.solo_engine.proofs.interval.turns_to_barrier.Goals.{then-made-since-via-then-made-since, then-made-since-via-else-made-since+then-not-is_ready}
use Rattle.solo_engine.proofs.interval.turns_to_barrier.Goals as goal

pub returns-in_err-push-clause-err : goal.returns-in_err-push-clause-err
returns-in_err-push-clause-err c =
    on_err c.from_residual.result _
    (subst (λ (l : List Mark). StopsTurning c.args.limits c.args.trace.now.items l (group_in c.args.g.now) c.args.made) (sym c.in_err-push.ensures.items)
    (stops_here c.one_trace_on_one_thread.ensures.rests c.args.limits c.args.trace.now.items c.loop-since.trace.items (group_in c.args.g.now) (group_in c.loop-since.g) c.args.made c.loop-since.since c.loop-since.invariant.turned))

pub returns-in_err-n-clause-err : goal.returns-in_err-n-clause-err
returns-in_err-n-clause-err c =
    on_err c.from_residual-in_err-n.result _
    (stops_behind_take c.one_trace_on_one_thread.ensures.rests c.args.limits c.args.trace.now.items c.loop-since.trace.items (group_in c.args.g.now) (group_in c.loop-since.g) c.args.made c.loop-since.since c.loop-since.invariant.turned
    c.loop-since.g.fixed.pid c.loop-since-test.true c.if-made-since.false c.if-not-is_ready.ensures.ready c.push.new.self.items c.in_ok-push.ensures.items)

pub returns-in_err-push-2-clause-err : goal.returns-in_err-push-2-clause-err
returns-in_err-push-2-clause-err c =
    on_err c.from_residual-in_err-push-2.result _
    (subst (λ (l : List Mark). StopsTurning c.args.limits c.args.trace.now.items l (group_in c.args.g.now) c.args.made) (sym c.in_err-push-2.ensures.items)
    (stops_behind_take c.one_trace_on_one_thread.ensures.rests c.args.limits c.args.trace.now.items c.loop-since.trace.items (group_in c.args.g.now) (group_in c.loop-since.g) c.args.made c.loop-since.since c.loop-since.invariant.turned
    c.loop-since.g.fixed.pid c.loop-since-test.true c.if-made-since.false c.if-not-is_ready.ensures.ready c.push.new.self.items c.in_ok-push.ensures.items))

pub loop-since-preserved : goal.loop-since-preserved
loop-since-preserved c =
    let out = c.output_is_the_groups.ensures in
    let next = c.turn.new.g in
    let now = c.loop-since.g in
    let grown : last_position (group_in next).frame.out ≤ last_position (group_in now).frame.out + 1048576 = omega (arith, c.in_ok-n.ensures.grown, ap last_position (out next), ap last_position (out now)) in
    let same_mark : (group_in next).frame.out.mark ≡ (group_in now).frame.out.mark = ap (λ (o : Out). o.mark) (out next) ∙ c.in_ok-n.ensures.same_marks.1 ∙ sym (ap (λ (o : Out). o.mark) (out now)) in
    record {
      turned = turns_more c.one_trace_on_one_thread.ensures.rests c.args.limits c.args.trace.now.items c.loop-since.trace.items (group_in c.args.g.now) (group_in now) c.args.made c.loop-since.since c.loop-since.invariant.turned
          now.fixed.pid c.loop-since-test.true c.if-made-since.false c.if-not-is_ready.ensures.ready c.in_ok-n.n (group_in next) c.in_ok-n.ensures.turn c.in_ok-n.ensures.group
          c.push-in-loop-since.new.self.items (c.in_ok-push-2.ensures.items ∙ ap (λ (l : List Mark). l ++ Turn 0 now.fixed.pid c.in_ok-n.n ∷ []) c.in_ok-push.ensures.items) grown same_mark;
      runnable = c.in_ok-n.ensures.runnable;
      fixed = c.in_ok-n.ensures.fixed ∙ c.loop-since.invariant.fixed;
      first = λ none. absurd (omega (arith, none));
    }

pub returns-then-made-since-clause-comes : goal.returns-then-made-since-clause-comes
returns-then-made-since-clause-comes c =
    comes_over c.args.limits c.args.trace.now.items c.loop-since.trace.items (group_in c.args.g.now) (group_in c.loop-since.g) c.args.made (c.args.made + c.loop-since.since) c.loop-since.since c.args.g.now.fixed.pid c.loop-since.invariant.turned refl c.loop-since.invariant.first c.requires.ready
    c.requires.made (elim c.then-made-since.branch [
      | then-made-since-via-then-made-since w ↦ inl w.if-made-since.true
      | then-made-since-via-else-made-since+then-not-is_ready w ↦ inr w.if-not-is_ready.ensures.ready
    ])
