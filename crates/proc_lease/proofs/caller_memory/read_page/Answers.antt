use Rattle.std.proofs.Common.{List, ℕ, Some, length, sym, ap, ◌∙◌, rules, arith}
use Rattle.proc_lease.specs.Sight.{seen_by}
use Rattle.proc_lease.proofs.Rights.{able_mapped}
use Rattle.proc_lease.proofs.Spots.{inside_private, inside_public, read_private, read_public}
use Rattle.proc_lease.proofs.caller_memory.read_page.Goals as goal

pub read_from-requires-clause-inside : goal.read_from-requires-clause-inside
read_from-requires-clause-inside c =
    let s = c.in-Some.spot in
    inside_public (seen_by c.args.process.now c.args.shared.now) c.requires.fits c.args.right c.args.address s.object s.place s.shared c.in-Some.ensures.some (length c.args.into.now) c.requires.within (search rules)

pub read_from-requires-else-spot-clause-inside : goal.read_from-requires-else-spot-clause-inside
read_from-requires-else-spot-clause-inside c =
    let s = c.in-Some.spot in
    inside_private (seen_by c.args.process.now c.args.shared.now) c.requires.fits c.args.right c.args.address s.object s.place s.shared c.in-Some.ensures.some (length c.args.into.now) c.requires.within (search rules)

pub unreachable-requires : goal.unreachable-requires
unreachable-requires c = able_mapped c.args.process.now.map.entries c.args.right c.args.address (length c.args.into.now) (omega arith) c.requires.some c.requires.able c.in-None.ensures.none

pub returns-then-spot : goal.returns-then-spot
returns-then-spot c =
    let s = c.in-Some.spot in
    read_public (seen_by c.args.process.now c.args.shared.now) c.requires.fits c.args.right c.args.address s.object s.place s.shared c.in-Some.ensures.some (length c.args.into.now) c.requires.within (search rules) ∙ ap (λ (l : List ℕ). Some l) (sym c.read_from.ensures)

pub returns-else-spot : goal.returns-else-spot
returns-else-spot c =
    let s = c.in-Some.spot in
    read_private (seen_by c.args.process.now c.args.shared.now) c.requires.fits c.args.right c.args.address s.object s.place s.shared c.in-Some.ensures.some (length c.args.into.now) c.requires.within (search rules) ∙ ap (λ (l : List ℕ). Some l) (sym c.read_from-else-spot.ensures)
