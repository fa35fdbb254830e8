use Rattle.std.proofs.Common.{sym, ◌∙◌}
use Rattle.proc_lease.proofs.Mapped.{not_private, nothing_here, private_here}
use Rattle.proc_lease.proofs.places.private_place.Goals as goal

pub returns-then-allows-clause-some : goal.returns-then-allows-clause-some
returns-then-allows-clause-some c = private_here c.args.map.now.entries c.args.right c.args.address c.in-Some.place c.in-Some.ensures (sym c.allows.ensures ∙ c.if-allows.true)

pub returns-in-None-clause-none : goal.returns-in-None-clause-none
returns-in-None-clause-none c = nothing_here c.args.map.now.entries c.args.right c.args.address c.in-None.ensures

pub returns-else-allows-clause-none : goal.returns-else-allows-clause-none
returns-else-allows-clause-none c = not_private c.args.map.now.entries c.args.right c.args.address c.in-Some.place c.in-Some.ensures (sym c.allows.ensures ∙ c.if-allows.false)
