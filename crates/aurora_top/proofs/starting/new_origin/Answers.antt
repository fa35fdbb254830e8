use Rattle.group_boot.specs.declared.manifest.LoadRefused.TheVariants as loads
use Rattle.aurora_top.proofs.Reasons.{by_loading, by_opening}
use Rattle.aurora_top.proofs.starting.new_origin.Goals as goal

pub returns-in-Err-clause-err : goal.returns-in-Err-clause-err
returns-in-Err-clause-err g c = λ words sink asks.
    let files = g.F.Files.view c.args.files.now in
    rw (c.end_opening.ensures)
    (by_opening words (g.D.Disk.view c.args.disk.now) (g.D.Disk.view c.unused_gates.new.disk) files files sink c.args.manifest.now
    c.in-Err.refused c.in-Err.ensures.err asks)

pub returns-in-Err-load-clause-err : goal.returns-in-Err-load-clause-err
returns-in-Err-load-clause-err g c = λ words sink asks.
    rw (c.end_loading.ensures)
    (by_loading words (g.D.Disk.view c.args.disk.now) (g.D.Disk.view c.unused_gates.new.disk) (g.F.Files.view c.args.files.now)
    (g.F.Files.view c.load.new.files) sink c.args.manifest.now c.in-Err-load.refused (λ r told. (c.in-Ok.ensures.ok r told).0)
    c.in-Err-load.ensures.err asks)

pub returns-in-Err-flat_origin-clause-err : goal.returns-in-Err-flat_origin-clause-err
returns-in-Err-flat_origin-clause-err g c = λ words sink asks.
    by_loading words (g.D.Disk.view c.args.disk.now) (g.D.Disk.view c.unused_gates.new.disk) (g.F.Files.view c.args.files.now)
    (g.F.Files.view c.load.new.files) sink c.args.manifest.now loads.NoMemory (λ r told. (c.in-Ok.ensures.ok r told).0) tt asks
