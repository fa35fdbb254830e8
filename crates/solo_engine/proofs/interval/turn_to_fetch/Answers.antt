use Rattle.std.proofs.Common.{◌+◌, ◌∙◌, ◌∷◌, [], ◌++◌, List, subst, sym, ap}
use Rattle.run_defs.specs.declared.run.Mark.TheVariants.{Barrier, Fetch}
use Rattle.run_defs.specs.declared.run.Mark.{Mark}
use Rattle.group_defs.specs.Group.{Group}
use Rattle.flat_kernel.specs.Engine.{group_in}
use Rattle.solo_engine.specs.Interval.{StopsTurning}
use Rattle.solo_engine.proofs.Exits.{on_err}
use Rattle.solo_engine.proofs.Turning.{come_so_far}
use Rattle.solo_engine.proofs.interval.turn_to_fetch.Goals as goal

pub returns-in_err-reserve-clause-err : goal.returns-in_err-reserve-clause-err
returns-in_err-reserve-clause-err c =
    on_err c.from_residual-in_err-reserve.result _
    (subst (λ (l : List Mark). StopsTurning c.args.limits c.args.log.now.trace.items l (group_in c.args.engine.now.group) c.args.engine.now.made) (sym c.reserve.ensures.trace)
    (come_so_far c.args.limits c.args.log.now.trace.items c.turns_to_barrier.new.trace.items (group_in c.args.engine.now.group) (group_in c.turns_to_barrier.new.g) c.args.engine.now.made c.in_ok-made.made c.in_ok-made.ensures.comes))

pub returns-clause-fetched : goal.returns-clause-fetched
returns-clause-fetched c =
    let barrier = c.mark_output.ensures in
    record {
      marks = c.turns_to_barrier.new.trace.items;
      before = group_in c.turns_to_barrier.new.g;
      comes = c.in_ok-made.ensures.comes;
      trace_is = c.fetch.ensures.trace ∙ ap (λ (l : List Mark). (l ++ Barrier (c.args.engine.now.kept.epoch + 1) ∷ []) ++ Fetch (c.args.engine.now.kept.epoch + 1) ∷ []) c.reserve.ensures.trace;
      group_is = barrier.group;
      checkpointed = barrier.checkpointed;
      from_is = ap (λ (x : Group). x.frame.out.from) barrier.group ∙ c.in_ok-made.ensures.comes.turned.mark_is;
    }
