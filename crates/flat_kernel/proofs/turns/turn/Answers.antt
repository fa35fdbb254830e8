use Rattle.std.proofs.Common.{◌+◌, ◌<◌, ◌^◌, sym, subst, arith}
use Rattle.group_defs.specs.declared.frame.Out.{Out}
use Rattle.group_defs.specs.Output.{last_position}
use Rattle.group_defs.specs.Valid.{OutValid}
use Rattle.flat_kernel.specs.Engine.{group_in}
use Rattle.flat_kernel.proofs.EngineLaws.{out_in, output_valid}
use Rattle.flat_kernel.proofs.KeptLaws.{Grew, Follows, other_follows}
use Rattle.flat_kernel.proofs.TurnLaws.{is_a_turn, turned_short, turned_whole}
use Rattle.flat_kernel.proofs.turns.turn.Goals as goal

follows : (c : goal.In_ok-other_step) → Follows c.args.g.now.out (group_in c.other_step.new.g)
follows c =
    let told = c.in_ok-n.ensures in
    let g = c.local_steps.new.g in
    subst (λ (out : Out). Follows out (group_in c.other_step.new.g)) told.stepped.out
    (other_follows g (group_in c.other_step.new.g) told.stepped.running told.stepped.runnable (told.stops c.if-n-quantum.true)
    (subst (λ (out : Out). last_position out + 1048576 < 2 ^ 63) (sym told.stepped.out) c.requires.room) c.in_ok-other_step.ensures.ok)

grew : (c : goal.In_ok-other_step) → Grew c.args.g.now.out c.other_step.new.g.out
grew c = subst (Grew c.args.g.now.out) (out_in c.other_step.new.g) (follows c).grew

pub returns-in_ok-other_step-clause-turn : goal.returns-in_ok-other_step-clause-turn
returns-in_ok-other_step-clause-turn c standing =
    let told = c.in_ok-n.ensures in
    is_a_turn c.args.quantum c.in_ok-n.n c.args.g.now c.local_steps.new.g told.stepped standing told.within told.stops

pub returns-in_ok-other_step-clause-group : goal.returns-in_ok-other_step-clause-group
returns-in_ok-other_step-clause-group c standing =
    turned_short c.args.quantum c.in_ok-n.n c.args.g.now c.local_steps.new.g c.in_ok-n.ensures.stepped standing (group_in c.other_step.new.g) c.if-n-quantum.true c.in_ok-other_step.ensures.ok

pub returns-in_ok-other_step-clause-runnable : goal.returns-in_ok-other_step-clause-runnable
returns-in_ok-other_step-clause-runnable c = (follows c).runnable

pub returns-in_ok-other_step-clause-grown : goal.returns-in_ok-other_step-clause-grown
unfolding OutValid
returns-in_ok-other_step-clause-grown c = let valid = output_valid c.args.g.now c.requires.runnable in omega (arith, (grew c).most, valid.1)

pub returns-in_ok-other_step-clause-same_marks : goal.returns-in_ok-other_step-clause-same_marks
returns-in_ok-other_step-clause-same_marks c = ((grew c).from, (grew c).mark)

pub returns-else-n-quantum-clause-turn : goal.returns-else-n-quantum-clause-turn
returns-else-n-quantum-clause-turn c standing =
    let told = c.in_ok-n.ensures in
    is_a_turn c.args.quantum c.in_ok-n.n c.args.g.now c.local_steps.new.g told.stepped standing told.within told.stops

pub returns-else-n-quantum-clause-group : goal.returns-else-n-quantum-clause-group
returns-else-n-quantum-clause-group c standing =
    turned_whole c.args.quantum c.in_ok-n.n c.args.g.now c.local_steps.new.g c.in_ok-n.ensures.stepped standing (omega (arith, c.in_ok-n.ensures.within, c.if-n-quantum.false))
