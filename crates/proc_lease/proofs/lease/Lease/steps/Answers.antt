use Rattle.std.proofs.Common.{◌≡◌, ◌+◌, ◌-◌, arith}
use Rattle.proc_lease.specs.Private.{views_of}
use Rattle.proc_lease.proofs.Steps.{maps_stay, with_maps}
use Rattle.proc_lease.proofs.lease.Lease.steps.Goals as goal

pub returns-clause-maps : goal.returns-clause-maps
returns-clause-maps c = maps_stay c.local_steps-made.result.0 _ _ _ _ _ _ c.local_steps-made.ensures.after

pub returns-clause-steps : goal.returns-clause-steps
returns-clause-steps c =
    let old = c.args.self.now in
    let count : old.done + c.local_steps-made.result.0 - old.done ≡ c.local_steps-made.result.0 = omega arith in
    with_maps c.local_steps-made.result.0 (old.done + c.local_steps-made.result.0 - old.done) old.process.map.entries c.local_steps-made.new.space.map.entries old.process.regs (views_of old.process.faces.entries) c.local_steps-made.new.regs (views_of c.local_steps-made.new.space.faces.entries) count c.local_steps-made.ensures.after
