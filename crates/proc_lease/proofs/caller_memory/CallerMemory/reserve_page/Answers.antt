use Rattle.std.proofs.Common.{arith, rules}
use Rattle.std.proofs.lemmas.Result.{on_ok_weaker}
use Rattle.proc_lease.specs.Sight.{seen_by}
use Rattle.proc_lease.proofs.Ready.{kept_private, kept_public, private_ready, public_ready, ready_private, ready_public}
use Rattle.proc_lease.proofs.Rights.{able_mapped}
use Rattle.proc_lease.proofs.Spots.{inside_private, inside_public, isnt_private, not_public}
use Rattle.proc_lease.proofs.caller_memory.CallerMemory.reserve_page.Goals as goal

pub reserve_at-requires-clause-inside : goal.reserve_at-requires-clause-inside
reserve_at-requires-clause-inside c =
    let s = c.in-Some.spot in
    let m = c.args.self.now in
    inside_public (seen_by m.process m.shared) m.fits 2 c.args.address s.object s.place s.shared c.in-Some.ensures.some c.args.n c.requires.within (search rules)

pub reserve_at-requires-else-spot-clause-inside : goal.reserve_at-requires-else-spot-clause-inside
reserve_at-requires-else-spot-clause-inside c =
    let s = c.in-Some.spot in
    let m = c.args.self.now in
    inside_private (seen_by m.process m.shared) m.fits 2 c.args.address s.object s.place s.shared c.in-Some.ensures.some c.args.n c.requires.within (search rules)

pub unreachable-requires : goal.unreachable-requires
unreachable-requires c = able_mapped c.args.self.now.process.map.entries 2 c.args.address c.args.n (omega arith) c.requires.some c.requires.able c.in-None.ensures.none

pub returns-then-spot-clause-kept : goal.returns-then-spot-clause-kept
returns-then-spot-clause-kept c at ready =
    let m = c.args.self.now in
    kept_public m.process.faces.entries m.shared.entries c.reserve_at.new.faces.entries m.process.map.entries at c.reserve_at.ensures.ready ready

pub returns-then-spot-clause-ok : goal.returns-then-spot-clause-ok
returns-then-spot-clause-ok c =
    let s = c.in-Some.spot in
    let m = c.args.self.now in
    on_ok_weaker c.reserve_at.result (λ h. public_ready m.process.faces.entries c.reserve_at.new.faces.entries m.process.map.entries m.fits.each m.fits.apart c.args.address s.object s.place s.shared c.in-Some.ensures.some c.args.n c.requires.within h) c.reserve_at.ensures.ok

pub returns-then-spot-clause-succeeds : goal.returns-then-spot-clause-succeeds
returns-then-spot-clause-succeeds c all =
    let s = c.in-Some.spot in
    let m = c.args.self.now in
    c.reserve_at.ensures.succeeds (ready_public m.process.faces.entries m.shared.entries m.process.map.entries m.fits.each m.fits.apart c.args.address s.object s.place s.shared c.in-Some.ensures.some c.args.n c.requires.within all
    (isnt_private (seen_by m.process m.shared) m.fits 2 c.args.address s.object s.place s.shared c.in-Some.ensures.some c.args.n c.requires.within (search rules)))

pub returns-else-spot-clause-kept : goal.returns-else-spot-clause-kept
returns-else-spot-clause-kept c at ready =
    let m = c.args.self.now in
    kept_private m.process.faces.entries m.shared.entries c.reserve_at-else-spot.new.faces.entries m.process.map.entries at c.reserve_at-else-spot.ensures.ready ready

pub returns-else-spot-clause-ok : goal.returns-else-spot-clause-ok
returns-else-spot-clause-ok c =
    let s = c.in-Some.spot in
    let m = c.args.self.now in
    on_ok_weaker c.reserve_at-else-spot.result (λ h. private_ready c.reserve_at-else-spot.new.faces.entries m.shared.entries m.process.map.entries m.fits.each m.fits.apart c.args.address s.object s.place s.shared c.in-Some.ensures.some c.args.n c.requires.within h) c.reserve_at-else-spot.ensures.ok

pub returns-else-spot-clause-succeeds : goal.returns-else-spot-clause-succeeds
returns-else-spot-clause-succeeds c all =
    let s = c.in-Some.spot in
    let m = c.args.self.now in
    c.reserve_at-else-spot.ensures.succeeds (ready_private m.process.faces.entries m.shared.entries m.process.map.entries m.fits.each m.fits.apart c.args.address s.object s.place s.shared c.in-Some.ensures.some c.args.n c.requires.within all
    (not_public (seen_by m.process m.shared) m.fits 2 c.args.address s.object s.place s.shared c.in-Some.ensures.some c.args.n c.requires.within (search rules)))
