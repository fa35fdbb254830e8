use Rattle.std.proofs.Common.{◌≡◌, ◌++◌, ◌∙◌, ap, length, true, false, rules}
use Rattle.proc_lease.specs.Sight.{SeenObjects, cells_seen, is_able, seen_by, with_stored_in}
use Rattle.proc_lease.proofs.Ready.{unable_unready}
use Rattle.proc_lease.proofs.Rights.{able_any}
use Rattle.proc_lease.proofs.SeenStores.{seen_stored}
use Rattle.proc_lease.specs.Private.{memory_of, views_of}
use Rattle.proc_lease.proofs.caller_memory.CallerMemoryUserMem.copy_out.Goals as goal

pub returns-then-not-can_access-clause-fault : goal.returns-then-not-can_access-clause-fault
returns-then-not-can_access-clause-fault c fault =
    let m = c.args.self.now in
    let able : is_able m.process.map.entries 2 c.args.to (length c.args.bytes.now) ≡ false = search rules in
    able_any (memory_of (views_of m.process.faces.entries ++ views_of m.shared.entries)) m.process.map.entries 2 c.args.to (length c.args.bytes.now) ∙ able

pub returns-then-not-can_access-clause-ready : goal.returns-then-not-can_access-clause-ready
returns-then-not-can_access-clause-ready c all =
    let m = c.args.self.now in
    let able : is_able m.process.map.entries 2 c.args.to (length c.args.bytes.now) ≡ false = search rules in
    unable_unready m.process.faces.entries m.shared.entries m.process.map.entries c.args.to (length c.args.bytes.now) able all

pub returns-in-Ok-clause-can : goal.returns-in-Ok-clause-can
returns-in-Ok-clause-can c =
    let m = c.args.self.now in
    let able : is_able m.process.map.entries 2 c.args.to (length c.args.bytes.now) ≡ true = search rules in
    able_any (memory_of (views_of m.process.faces.entries ++ views_of m.shared.entries)) m.process.map.entries 2 c.args.to (length c.args.bytes.now) ∙ able

pub returns-in-Ok-clause-ok : goal.returns-in-Ok-clause-ok
returns-in-Ok-clause-ok c =
    let m = c.args.self.now in
    ap cells_seen (c.write_all.ensures.stored ∙ ap (λ (t : SeenObjects). with_stored_in t c.args.to c.args.bytes.now) c.in-Ok.ensures.same)
    ∙ seen_stored (seen_by m.process m.shared) c.args.to c.args.bytes.now m.fits
