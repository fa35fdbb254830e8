use Rattle.std.proofs.Common.{◌≡◌, ◌∙◌, ◌<◌, ◌++◌, ◌∷◌, [], max, ℕ, List, true, false, Option, Some, None, refl, sym, ap, subst}
use Rattle.std.specs.Prelude.{IsTrue}
use Rattle.std.specs.Option.{option_map}
use Rattle.run_defs.specs.Legal.{is_idle}
use Rattle.run_defs.specs.declared.run.Mark.{Mark}
use Rattle.run_defs.specs.declared.run.Mark.TheVariants.{Take}
use Rattle.group_kernel.specs.Calls.{IsNoneTaken}
use Rattle.group_kernel.specs.Held.{pid_at, seen}
use Rattle.group_kernel.specs.View.{KernelView, progress_of}
use Rattle.group_kernel.specs.declared.row.Row.{Row}
use Rattle.group_kernel.proofs.LeaseCalls.{each_fits, is_here, next_at, none_by_next, not_over, order_of_log, out_is_valid, pids_rising, reserved_after, taken_seen, taken_stands}
use Rattle.group_kernel.proofs.RowPlaces.{pid_at_is}
use Rattle.group_kernel.proofs.kernel.Kernel.take.Goals as goal

pub is_full-requires : goal.is_full-requires
is_full-requires c = not_over _ (seen c.self.inside.tables) _ _ _ c.self.invariant

pub next_ready-requires-clause-fits : goal.next_ready-requires-clause-fits
next_ready-requires-clause-fits c = each_fits _ (seen c.self.inside.tables) _ _ _ c.self.invariant

pub next_ready-requires-clause-out : goal.next_ready-requires-clause-out
next_ready-requires-clause-out c = out_is_valid _ (seen c.self.inside.tables) _ _ _ c.self.invariant

pub returns-in_default-clause-none : goal.returns-in_default-clause-none
returns-in_default-clause-none c = (
  subst IsNoneTaken c.self.view_is
      (none_by_next _ (seen c.self.inside.tables) _ _ _ c.self.invariant (next_at _ (seen c.self.inside.tables) _ _ _ c.self.invariant c.next_ready.result c.next_ready.ensures.next
      ∙ ap (option_map (pid_at (seen c.self.inside.tables))) c.in_default.is)),
  refl,
)

pub reserve-requires-clause-order : goal.reserve-requires-clause-order
reserve-requires-clause-order c = order_of_log _ (seen c.self.inside.tables) _ _ _ c.self.invariant

pub invariant_of-self : goal.invariant_of-self
invariant_of-self c = reserved_after _ (seen c.self.inside.tables) _ _ _ c.self.invariant c.reserve.new.self _ c.reserve.ensures.numbers c.reserve.ensures.stays c.reserve.ensures.marks

pub take_process-requires-clause-rise : goal.take_process-requires-clause-rise
take_process-requires-clause-rise c = pids_rising _ (seen c.self.inside.tables) _ _ _ c.self.invariant

pub invariant_of-self-in-Some-take_process : goal.invariant_of-self-in-Some-take_process
invariant_of-self-in-Some-take_process c =
    taken_stands _ (seen c.self.inside.tables) _ _ _ c.self.invariant c.args.worker c.in-Some.place
    (subst (λ (v : KernelView). c.args.worker < max 1 v.limits.workers) (sym c.self.view_is) c.requires.worker)
    (subst (λ (v : KernelView). IsTrue (is_idle (progress_of v).leases c.args.worker)) (sym c.self.view_is) c.requires.idle)
    c.in-Some.ensures.within
    (next_at _ (seen c.self.inside.tables) _ _ _ c.self.invariant c.next_ready.result c.next_ready.ensures.next ∙ ap (option_map (pid_at (seen c.self.inside.tables))) c.in-Some.is)
    (sym c.is_full.ensures ∙ c.if-is_full.false)
    c.index.result.now.pid (ap (λ (row : Row). row.pid) c.index.ensures ∙ sym (pid_at_is (seen c.self.inside.tables) c.in-Some.place c.index.result.now c.in-Some.ensures.within))
    c.reserve.new.self c.take.new.self (seen c.take_process.new.self) _ c.reserve.ensures.numbers c.take.ensures.numbers c.take.ensures.left c.take_process.ensures.tables
    (c.take.ensures.marks ∙ ap (λ (l : List Mark). l ++ Take c.args.worker c.index.result.now.pid ∷ []) c.reserve.ensures.marks)

pub unreachable-requires : goal.unreachable-requires
unreachable-requires c =
    is_here _ (seen c.self.inside.tables) _ _ _ c.self.invariant c.args.worker c.in-Some.place
    (subst (λ (v : KernelView). c.args.worker < max 1 v.limits.workers) (sym c.self.view_is) c.requires.worker)
    (subst (λ (v : KernelView). IsTrue (is_idle (progress_of v).leases c.args.worker)) (sym c.self.view_is) c.requires.idle)
    c.in-Some.ensures.within
    (next_at _ (seen c.self.inside.tables) _ _ _ c.self.invariant c.next_ready.result c.next_ready.ensures.next ∙ ap (option_map (pid_at (seen c.self.inside.tables))) c.in-Some.is)
    (sym c.is_full.ensures ∙ c.if-is_full.false)
    (sym c.take_process.ensures.value ∙ c.in-None.is)

pub returns-clause-some : goal.returns-clause-some
returns-clause-some c =
    taken_seen _ (seen c.self.inside.tables) _ _ _ c.self.invariant c.args.worker c.in-Some.place
    (subst (λ (v : KernelView). c.args.worker < max 1 v.limits.workers) (sym c.self.view_is) c.requires.worker)
    (subst (λ (v : KernelView). IsTrue (is_idle (progress_of v).leases c.args.worker)) (sym c.self.view_is) c.requires.idle)
    c.in-Some.ensures.within
    (next_at _ (seen c.self.inside.tables) _ _ _ c.self.invariant c.next_ready.result c.next_ready.ensures.next ∙ ap (option_map (pid_at (seen c.self.inside.tables))) c.in-Some.is)
    (sym c.is_full.ensures ∙ c.if-is_full.false)
    c.index.result.now.pid (ap (λ (row : Row). row.pid) c.index.ensures ∙ sym (pid_at_is (seen c.self.inside.tables) c.in-Some.place c.index.result.now c.in-Some.ensures.within))
    _ c.self.view_is c.in-Some-take_process.process c.take.new.self.marks.items (sym c.take_process.ensures.value ∙ c.in-Some-take_process.is) c.in-Some-take_process.ensures.faces c.if-self.false
    (c.take.ensures.marks ∙ ap (λ (l : List Mark). l ++ Take c.args.worker c.index.result.now.pid ∷ []) c.reserve.ensures.marks)
