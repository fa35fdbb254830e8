use Rattle.aurora_top.proofs.Reasons.{begun_held, by_restoring, by_wear}
use Rattle.aurora_top.proofs.starting.held_origin.Goals as goal

pub returns-in-Err-clause-err : goal.returns-in-Err-clause-err
returns-in-Err-clause-err g c = λ words files files' sink asks.
    rw (c.end_restoring.ensures)
    (by_restoring words (g.D.Disk.view c.args.disk.now) (g.D.Disk.view c.restore.new.disk) files files' sink c.in-Err.refused
    c.in-Err.ensures.outcome c.in-Err.ensures.cause asks)

pub returns-then-not-is_unworn-clause-err : goal.returns-then-not-is_unworn-clause-err
returns-then-not-is_unworn-clause-err g c = λ words files files' sink asks.
    by_wear words (g.D.Disk.view c.args.disk.now) (g.D.Disk.view c.restore.new.disk) files files' sink c.in-Ok.origin c.in-Ok.ensures.sound c.in-Ok.ensures.outcome
    (λ unworn. let e = c.if-not-is_unworn.ensures.1 unworn in cc)
    asks

pub returns-clause-ok : goal.returns-clause-ok
returns-clause-ok g c = λ files.
    begun_held (g.D.Disk.view c.args.disk.now) files c.in-Ok.origin c.in-Ok.ensures.sound c.in-Ok.ensures.outcome (c.is_unworn.ensures.0 c.if-not-is_unworn.false)
