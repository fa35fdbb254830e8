use Rattle.flat_kernel.proofs.LocalLaws.{shared_ends, stepped_in, stops_in}
use Rattle.flat_kernel.proofs.turns.local_steps.Goals as goal

pub returns-in-Stepped-clause-stepped : goal.returns-in-Stepped-clause-stepped
returns-in-Stepped-clause-stepped c =
    let left = c.local_steps-made.new in
    stepped_in c.args.g.now c.requires.running c.requires.runnable left.regs left.space left.cache _ _ c.local_steps-made.ensures.after

pub returns-in-Shared-clause-stepped : goal.returns-in-Shared-clause-stepped
returns-in-Shared-clause-stepped c =
    let left = c.local_steps-made.new in
    stepped_in c.args.g.now c.requires.running c.requires.runnable left.regs left.space left.cache _ _ c.local_steps-made.ensures.after

pub returns-in-Shared-clause-stops : goal.returns-in-Shared-clause-stops
returns-in-Shared-clause-stops c =
    let left = c.local_steps-made.new in
    let stepped = stepped_in c.args.g.now c.requires.running c.requires.runnable left.regs left.space left.cache _ _ c.local_steps-made.ensures.after in
    λ _. stops_in c.args.g.now c.requires.running c.requires.runnable left.regs left.space left.cache stepped.runnable (shared_ends _ _ _ _ c.in-Shared.is c.local_steps-made.ensures.ends)
