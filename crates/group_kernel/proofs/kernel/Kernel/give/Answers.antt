use Rattle.std.proofs.Common.{◌≡◌, ◌∙◌, ◌≤◌, ◌++◌, ◌∷◌, [], List, false, sym, ap, subst}
use Rattle.run_defs.specs.declared.run.Mark.{Mark}
use Rattle.run_defs.specs.declared.run.Mark.TheVariants.{Turn}
use Rattle.group_kernel.specs.Held.{seen}
use Rattle.group_kernel.specs.Leases.{IsLeased, MayGive}
use Rattle.group_kernel.specs.View.{KernelView}
use Rattle.group_kernel.specs.declared.log.Log.{Log}
use Rattle.group_kernel.proofs.LeaseCalls.{few_turns, given_sees, given_stands, has_place, order_of_log, out_is_valid, pids_rising, same_after}
use Rattle.group_kernel.proofs.kernel.Kernel.give.Goals as goal

pub reserve-requires-clause-order : goal.reserve-requires-clause-order
reserve-requires-clause-order c = order_of_log _ (seen c.self.inside.tables) _ _ _ c.self.invariant

pub place_of-requires : goal.place_of-requires
place_of-requires c = pids_rising _ (seen c.self.inside.tables) _ _ _ c.self.invariant

pub put_back-requires-clause-rise : goal.put_back-requires-clause-rise
put_back-requires-clause-rise c = pids_rising _ (seen c.self.inside.tables) _ _ _ c.self.invariant

pub put_back-requires-clause-fits : goal.put_back-requires-clause-fits
put_back-requires-clause-fits c =
    given_sees _ (seen c.self.inside.tables) _ _ _ c.self.invariant c.args.worker c.args.lease (subst (λ (v : KernelView). IsLeased v c.args.worker c.args.lease) (sym c.self.view_is) c.requires.leased)
    (subst (λ (v : KernelView). MayGive v.limits.quantum c.args.lease) (sym c.self.view_is) c.requires.may) c.in-Some.place c.in-Some.ensures.within c.in-Some.ensures.some

pub put_back-requires-clause-out : goal.put_back-requires-clause-out
put_back-requires-clause-out c = out_is_valid _ (seen c.self.inside.tables) _ _ _ c.self.invariant

pub invariant_of-self-in-Err : goal.invariant_of-self-in-Err
invariant_of-self-in-Err c =
    same_after _ (seen c.self.inside.tables) _ _ _ c.self.invariant c.reserve.new.self (seen c.put_back.new.self) _ false c.in-Err.ensures.tables c.reserve.ensures.numbers (c.reserve.ensures.kept c.self.invariant.room) c.reserve.ensures.marks

pub turn-requires-clause-few : goal.turn-requires-clause-few
turn-requires-clause-few c =
    subst (λ (l : Log). (l.turns ≤ 1000000) × (l.turns_since ≤ 10000)) (sym c.reserve.ensures.numbers) (few_turns _ (seen c.self.inside.tables) _ _ _ c.self.invariant)

pub invariant_of-self-in-Some : goal.invariant_of-self-in-Some
invariant_of-self-in-Some c =
    given_stands _ (seen c.self.inside.tables) _ _ _ c.self.invariant c.args.worker c.args.lease (subst (λ (v : KernelView). IsLeased v c.args.worker c.args.lease) (sym c.self.view_is) c.requires.leased)
    (subst (λ (v : KernelView). MayGive v.limits.quantum c.args.lease) (sym c.self.view_is) c.requires.may) c.in-Some.place c.in-Some.ensures.within c.in-Some.ensures.some
    c.reserve.new.self c.turn.new.self _ c.reserve.ensures.numbers c.turn.ensures.numbers c.turn.ensures.left
    (c.turn.ensures.marks ∙ ap (λ (l : List Mark). l ++ Turn c.args.worker c.args.lease.pid c.args.lease.done ∷ []) c.reserve.ensures.marks) (seen c.put_back.new.self) c.in_default.ensures.whole c.in_default.ensures.step

pub unreachable-requires : goal.unreachable-requires
unreachable-requires c =
    has_place _ (seen c.self.inside.tables) _ _ _ c.self.invariant c.args.worker c.args.lease (subst (λ (v : KernelView). IsLeased v c.args.worker c.args.lease) (sym c.self.view_is) c.requires.leased)
    (subst (λ (v : KernelView). MayGive v.limits.quantum c.args.lease) (sym c.self.view_is) c.requires.may) c.in-None.ensures.none
