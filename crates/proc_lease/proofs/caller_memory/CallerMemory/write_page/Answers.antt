use Rattle.std.proofs.Common.{◌≡◌, List, length, refl, sym, ap, subst, ◌∙◌, arith, rules}
use Rattle.proc_lease.specs.Sight.{SeenFits, seen_by}
use Rattle.proc_lease.proofs.Ready.{kept_private, kept_public, ok_given, ready_able, ready_private, ready_public}
use Rattle.proc_lease.proofs.Spots.{inside_private, inside_public, isnt_private, leave_private, leave_public, not_public, seen_with, store_private, store_public, stored_fits}
use Rattle.proc_lease.specs.Private.{ObjectView, PrivateFits, stored_into, views_of}
use Rattle.proc_lease.proofs.Stores.{stored_fits as private_fits}
use Rattle.proc_lease.proofs.caller_memory.CallerMemory.write_page.Goals as goal

pub write_to-requires-clause-inside : goal.write_to-requires-clause-inside
write_to-requires-clause-inside c =
    let s = c.in-Some.spot in
    let m = c.args.self.now in
    inside_public (seen_by m.process m.shared) m.fits 2 c.args.address s.object s.place s.shared c.in-Some.ensures.some (length c.args.bytes.now) c.requires.within (search rules)

pub write_to-requires-else-spot-clause-inside : goal.write_to-requires-else-spot-clause-inside
write_to-requires-else-spot-clause-inside c =
    let s = c.in-Some.spot in
    let m = c.args.self.now in
    inside_private (seen_by m.process m.shared) m.fits 2 c.args.address s.object s.place s.shared c.in-Some.ensures.some (length c.args.bytes.now) c.requires.within (search rules)

pub unreachable-requires : goal.unreachable-requires
unreachable-requires c =
    let m = c.args.self.now in
    ready_able m.process.faces.entries m.shared.entries m.process.map.entries c.args.address (length c.args.bytes.now) (omega arith) c.requires.some c.requires.ready c.in-None.ensures.none

pub invariant_of-self : goal.invariant_of-self
invariant_of-self c =
    let s = c.in-Some.spot in
    let m = c.args.self.now in
    let t = seen_by m.process m.shared in
    let n = length c.args.bytes.now in
    let ready = ready_public m.process.faces.entries m.shared.entries m.process.map.entries m.fits.each m.fits.apart c.args.address s.object s.place s.shared c.in-Some.ensures.some n c.requires.within c.requires.ready
    (isnt_private t m.fits 2 c.args.address s.object s.place s.shared c.in-Some.ensures.some n c.requires.within (search rules)) in
    let put_there = ok_given c.write_to.result _ (c.write_to.ensures.succeeds ready) c.write_to.ensures.ok in
    let public : stored_into t.public t.maps c.args.address c.args.bytes.now ≡ views_of c.write_to.new.faces.entries =
    store_public t m.fits 2 c.args.address s.object s.place s.shared c.in-Some.ensures.some n c.requires.within (search rules) c.args.bytes.now refl ∙ sym put_there in
    let private : stored_into t.private t.maps c.args.address c.args.bytes.now ≡ t.private =
    leave_private t m.fits 2 c.args.address s.object s.place s.shared c.in-Some.ensures.some n c.requires.within (search rules) c.args.bytes.now refl in
    record {
      fits = subst (λ (l : List ObjectView). SeenFits (record { private = t.private; public = l; maps = t.maps })) public
          (subst (λ (l : List ObjectView). SeenFits (record { private = l; public = stored_into t.public t.maps c.args.address c.args.bytes.now; maps = t.maps })) private
          (stored_fits t c.args.address c.args.bytes.now m.fits));
    }

pub invariant_of-self-else-spot : goal.invariant_of-self-else-spot
invariant_of-self-else-spot c =
    let s = c.in-Some.spot in
    let m = c.args.self.now in
    let t = seen_by m.process m.shared in
    let n = length c.args.bytes.now in
    let ready = ready_private m.process.faces.entries m.shared.entries m.process.map.entries m.fits.each m.fits.apart c.args.address s.object s.place s.shared c.in-Some.ensures.some n c.requires.within c.requires.ready
    (not_public t m.fits 2 c.args.address s.object s.place s.shared c.in-Some.ensures.some n c.requires.within (search rules)) in
    let put_there = ok_given c.write_to-else-spot.result _ (c.write_to-else-spot.ensures.succeeds ready) c.write_to-else-spot.ensures.ok in
    let private : stored_into t.private t.maps c.args.address c.args.bytes.now ≡ views_of c.write_to-else-spot.new.faces.entries =
    store_private t m.fits 2 c.args.address s.object s.place s.shared c.in-Some.ensures.some n c.requires.within (search rules) c.args.bytes.now refl ∙ sym put_there in
    let public : stored_into t.public t.maps c.args.address c.args.bytes.now ≡ t.public =
    leave_public t m.fits 2 c.args.address s.object s.place s.shared c.in-Some.ensures.some n c.requires.within (search rules) c.args.bytes.now refl in
    let mine : PrivateFits (views_of c.write_to-else-spot.new.faces.entries) t.maps = subst (λ (l : List ObjectView). PrivateFits l t.maps) private (private_fits t.private t.maps c.args.address c.args.bytes.now m.process.fits) in
    let all : SeenFits (seen_with (views_of c.write_to-else-spot.new.faces.entries) t.public t.maps) =
    subst (λ (l : List ObjectView). SeenFits (seen_with l t.public t.maps)) private
    (subst (λ (l : List ObjectView). SeenFits (seen_with (stored_into t.private t.maps c.args.address c.args.bytes.now) l t.maps)) public
    (stored_fits t c.args.address c.args.bytes.now m.fits)) in
    ((mine, tt), (all, tt))

pub returns-then-spot-clause-stored : goal.returns-then-spot-clause-stored
returns-then-spot-clause-stored c =
    let s = c.in-Some.spot in
    let m = c.args.self.now in
    let t = seen_by m.process m.shared in
    let n = length c.args.bytes.now in
    let ready = ready_public m.process.faces.entries m.shared.entries m.process.map.entries m.fits.each m.fits.apart c.args.address s.object s.place s.shared c.in-Some.ensures.some n c.requires.within c.requires.ready
    (isnt_private t m.fits 2 c.args.address s.object s.place s.shared c.in-Some.ensures.some n c.requires.within (search rules)) in
    let put_there = ok_given c.write_to.result _ (c.write_to.ensures.succeeds ready) c.write_to.ensures.ok in
    let public : views_of c.write_to.new.faces.entries ≡ stored_into t.public t.maps c.args.address c.args.bytes.now =
    put_there ∙ sym (store_public t m.fits 2 c.args.address s.object s.place s.shared c.in-Some.ensures.some n c.requires.within (search rules) c.args.bytes.now refl) in
    let private : t.private ≡ stored_into t.private t.maps c.args.address c.args.bytes.now =
    sym (leave_private t m.fits 2 c.args.address s.object s.place s.shared c.in-Some.ensures.some n c.requires.within (search rules) c.args.bytes.now refl) in
    ap (λ (l : List ObjectView). seen_with t.private l t.maps) public ∙ ap (λ (l : List ObjectView). seen_with l (stored_into t.public t.maps c.args.address c.args.bytes.now) t.maps) private

pub returns-then-spot-clause-kept : goal.returns-then-spot-clause-kept
returns-then-spot-clause-kept c at ready =
    let m = c.args.self.now in
    kept_public m.process.faces.entries m.shared.entries c.write_to.new.faces.entries m.process.map.entries at c.write_to.ensures.ready ready

pub returns-else-spot-clause-stored : goal.returns-else-spot-clause-stored
returns-else-spot-clause-stored c =
    let s = c.in-Some.spot in
    let m = c.args.self.now in
    let t = seen_by m.process m.shared in
    let n = length c.args.bytes.now in
    let ready = ready_private m.process.faces.entries m.shared.entries m.process.map.entries m.fits.each m.fits.apart c.args.address s.object s.place s.shared c.in-Some.ensures.some n c.requires.within c.requires.ready
    (not_public t m.fits 2 c.args.address s.object s.place s.shared c.in-Some.ensures.some n c.requires.within (search rules)) in
    let put_there = ok_given c.write_to-else-spot.result _ (c.write_to-else-spot.ensures.succeeds ready) c.write_to-else-spot.ensures.ok in
    let private : views_of c.write_to-else-spot.new.faces.entries ≡ stored_into t.private t.maps c.args.address c.args.bytes.now =
    put_there ∙ sym (store_private t m.fits 2 c.args.address s.object s.place s.shared c.in-Some.ensures.some n c.requires.within (search rules) c.args.bytes.now refl) in
    let public : t.public ≡ stored_into t.public t.maps c.args.address c.args.bytes.now =
    sym (leave_public t m.fits 2 c.args.address s.object s.place s.shared c.in-Some.ensures.some n c.requires.within (search rules) c.args.bytes.now refl) in
    ap (λ (l : List ObjectView). seen_with l t.public t.maps) private ∙ ap (λ (l : List ObjectView). seen_with (stored_into t.private t.maps c.args.address c.args.bytes.now) l t.maps) public

pub returns-else-spot-clause-kept : goal.returns-else-spot-clause-kept
returns-else-spot-clause-kept c at ready =
    let m = c.args.self.now in
    kept_private m.process.faces.entries m.shared.entries c.write_to-else-spot.new.faces.entries m.process.map.entries at c.write_to-else-spot.ensures.ready ready
