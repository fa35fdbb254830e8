use Rattle.aurora_top.proofs.Finishing.{complete_law, usage_law}
use Rattle.aurora_top.proofs.solo.aurora_solo.Goals as goal

pub returns-clause-complete : goal.returns-clause-complete
returns-clause-complete g c = λ unhindered.
    let e = c.run_command.result in
    complete_law c.args.words.now (g.D.Disk.view c.args.disk) (g.D.Disk.view e.disk) (g.F.Files.view c.args.files) (g.F.Files.view e.files) (g.O.Sink.view c.args.out) (g.O.Sink.view e.out) c.one_held.ensures unhindered
    e.opened_at e.origin_epoch e.trace e.acks e.end c.run_command.ensures.answer

pub returns-clause-usage : goal.returns-clause-usage
returns-clause-usage g c =
    let e = c.run_command.result in
    usage_law c.args.words.now (g.D.Disk.view c.args.disk) (g.D.Disk.view e.disk) (g.F.Files.view c.args.files) (g.F.Files.view e.files) (g.O.Sink.view c.args.out) (g.O.Sink.view e.out)
    e.opened_at e.origin_epoch e.trace e.acks e.end c.run_command.ensures.answer
