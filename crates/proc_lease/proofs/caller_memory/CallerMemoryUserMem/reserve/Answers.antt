use Rattle.std.proofs.Common.{◌≡◌, ◌++◌, ◌∙◌, true, false, rules}
use Rattle.proc_lease.specs.Sight.{is_able}
use Rattle.proc_lease.proofs.Rights.{able_any}
use Rattle.proc_lease.specs.Private.{memory_of, views_of}
use Rattle.proc_lease.proofs.caller_memory.CallerMemoryUserMem.reserve.Goals as goal

pub returns-then-not-can_access-clause-fault : goal.returns-then-not-can_access-clause-fault
returns-then-not-can_access-clause-fault c fault =
    let m = c.args.self.now in
    let able : is_able m.process.map.entries 2 c.args.to c.args.n ≡ false = search rules in
    able_any (memory_of (views_of m.process.faces.entries ++ views_of m.shared.entries)) m.process.map.entries 2 c.args.to c.args.n ∙ able

pub returns-in-Ok-clause-can : goal.returns-in-Ok-clause-can
returns-in-Ok-clause-can c =
    let m = c.args.self.now in
    let able : is_able m.process.map.entries 2 c.args.to c.args.n ≡ true = search rules in
    able_any (memory_of (views_of m.process.faces.entries ++ views_of m.shared.entries)) m.process.map.entries 2 c.args.to c.args.n ∙ able
