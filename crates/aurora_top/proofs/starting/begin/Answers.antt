use Rattle.std.proofs.Common.{subst, sym}
use Rattle.aurora_top.specs.Starting.{IsBegun}
use Rattle.aurora_top.proofs.Reasons.{by_count}
use Rattle.aurora_top.proofs.starting.begin.Goals as goal

pub returns-in-Err-clause-err : goal.returns-in-Err-clause-err
returns-in-Err-clause-err g c = λ words command asks same. c.in-Err.ensures.err words command (g.O.Sink.view c.args.out.now) asks same

pub returns-then-not-is_within-clause-err : goal.returns-then-not-is_within-clause-err
returns-then-not-is_within-clause-err g c = λ words command asks same.
    let before = g.D.Disk.view c.args.disk.now in
    let files = g.F.Files.view c.args.files.now in
    by_count words before (g.D.Disk.view c.first_origin.new.disk) files (g.F.Files.view c.first_origin.new.files) (g.O.Sink.view c.args.out.now) command
    c.in-Ok.origin c.taken.result asks (subst (λ b. IsBegun b before files c.in-Ok.origin) (sym same) c.in-Ok.ensures.ok) c.taken.ensures
    (λ within. let e = c.if-not-is_within.ensures.1 within in cc)
