use Rattle.std.proofs.Common.{◌≡◌, ◌-◌, ◌+◌, ◌^◌, ◌%◌, ◌&&◌, ◌∙◌, true, ap, sym, arith, rules}
use Rattle.proc_lease.specs.Sight.{is_able}
use Rattle.proc_lease.proofs.Rights.{able_none, able_split, unable_first}
use Rattle.proc_lease.proofs.Spots.{spot_able, when_none, when_some}
use Rattle.proc_lease.proofs.caller_memory.can_access.Goals as goal

pub returns-then-is_none : goal.returns-then-is_none
returns-then-is_none c =
    sym (c.loop-left.invariant ∙ unable_first c.args.map.now.entries c.args.right c.loop-left.address c.loop-left.left (omega arith) (when_none c.spot_at.result _ c.spot_at.ensures.none (search rules)))

pub loop-left-preserved : goal.loop-left-preserved
loop-left-preserved c =
    let maps = c.args.map.now.entries in
    let size = c.in_page-size.result in
    let able : is_able maps c.args.right c.loop-left.address size ≡ true =
    when_some c.spot_at.result _ _ c.spot_at.ensures.some (search rules) (λ s is. spot_able maps c.requires.each c.requires.apart c.args.right c.loop-left.address s.object s.place s.shared is size c.in_page-size.ensures.page) in
    c.loop-left.invariant
    ∙ able_split maps c.args.right c.loop-left.address size (c.loop-left.left - size) c.loop-left.left (omega arith)
    ∙ ap (λ t. t && is_able maps c.args.right ((c.loop-left.address + size) % 2 ^ 64) (c.loop-left.left - size)) able

pub returns : goal.returns
returns c = sym (c.loop-left.invariant ∙ able_none c.args.map.now.entries c.args.right c.loop-left.address c.loop-left.left (omega arith))
