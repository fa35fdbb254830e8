use Rattle.std.proofs.Common.{List, [], subst, sym}
use Rattle.run_defs.specs.declared.run.AckMark.{AckMark}
use Rattle.run_defs.specs.declared.run.Mark.{Mark}
use Rattle.ckpt_records.specs.Parts.{group_of}
use Rattle.sls_core.specs.Answers.{IsSoloRun}
use Rattle.flat_kernel.specs.Engine.{group_in}
use Rattle.sls_core.specs.Safe.{run_of}
use Rattle.sls_core.specs.declared.run.Run.{Run}
use Rattle.sls_core.specs.declared.run.RunAnswer.TheVariants.{NoMemory}
use Rattle.solo_engine.proofs.Beginning.{ends_unbegun, knows_kept, origin_checkpointed}
use Rattle.solo_engine.proofs.solo.run_solo.Goals as goal

pub returns-in-Err : goal.returns-in-Err
returns-in-Err g c =
    let o = c.args.origin in
    let disk = g.D.Disk.view c.args.disk in
    let out = g.O.Sink.view c.args.out in
    let s = c.start_laws.ensures (group_of o.parts) o.epoch (origin_checkpointed disk.blocks o c.requires.origin) c.requires.unworn.epoch_is c.requires.unworn.numbers.position in
    let none = ends_unbegun c.args.limits disk.blocks o disk out s c.requires.origin c.requires.held c.requires.count c.requires.only in
    let logged = subst (λ (t : List Mark). IsSoloRun (run_of c.args.limits (group_of o.parts) o.epoch t) disk.moment c.new-log.result.acks.items disk disk out out NoMemory) (sym c.new-log.ensures.trace)
    (subst (λ (a : List AckMark). IsSoloRun (run_of c.args.limits (group_of o.parts) o.epoch []) disk.moment a disk disk out out NoMemory) (sym c.new-log.ensures.acks) none) in
    record { run = subst (λ (r : Run g.row.D.Denot g.row.O.Denot). IsSoloRun (run_of c.args.limits (group_of o.parts) o.epoch r.trace) disk.moment r.acks disk (g.D.Disk.view r.disk) out (g.O.Sink.view r.out) r.answer) (sym c.ended.ensures) logged }

pub run_to_end-disk-requires-clause-kept : goal.run_to_end-disk-requires-clause-kept
run_to_end-disk-requires-clause-kept g c =
    let disk = g.D.Disk.view c.args.disk in
    knows_kept disk.blocks c.args.origin disk.reading c.in-Ok.engine.kept (group_in c.in-Ok.engine.group) c.requires.origin c.requires.held c.in-Ok.ensures.kept c.in-Ok.ensures.group
