use Rattle.std.proofs.Common.{sym, ◌∙◌, arith}
use Rattle.proc_lease.proofs.Rights.{is_spot, other_unable, place_small, unmapped_unable}
use Rattle.proc_lease.proofs.caller_memory.spot_at.Goals as goal

pub overflow_mul-result : goal.overflow_mul-result
overflow_mul-result c = let small = place_small c.args.map.now.entries c.args.address c.in-Some.place c.in-Some.ensures c.requires.each in omega (arith, small)

pub overflow_add-result : goal.overflow_add-result
overflow_add-result c = let small = place_small c.args.map.now.entries c.args.address c.in-Some.place c.in-Some.ensures c.requires.each in omega (arith, small)

pub returns-then-allows-clause-some : goal.returns-then-allows-clause-some
returns-then-allows-clause-some c = is_spot c.args.map.now.entries c.args.address c.in-Some.place c.in-Some.ensures c.requires.each c.args.right (sym c.allows.ensures ∙ c.if-allows.true)

pub returns-else-allows-clause-none : goal.returns-else-allows-clause-none
returns-else-allows-clause-none c = other_unable c.args.map.now.entries c.args.right c.args.address c.in-Some.place (omega arith) c.in-Some.ensures (sym c.allows.ensures ∙ c.if-allows.false)

pub returns-in-None-clause-none : goal.returns-in-None-clause-none
returns-in-None-clause-none c = unmapped_unable c.args.map.now.entries c.args.right c.args.address (omega arith) c.in-None.ensures
