use Rattle.std.proofs.Common.{◌≤◌, inl, inr, refl, ◌∙◌, subst, sym}
use Rattle.ckpt_records.specs.Parts.{group_of}
use Rattle.command_words.specs.Words.{named_command}
use Rattle.aurora_top.specs.declared.ending.Ending.{Ending}
use Rattle.aurora_top.specs.Answers.{IsRefusal, IsRunEnding}
use Rattle.aurora_top.specs.Opening.{IsOpening}
use Rattle.aurora_top.proofs.Answering.{opened_between, was_run}
use Rattle.aurora_top.proofs.OpeningLaws.{opened_law, unwritten_then}
use Rattle.aurora_top.proofs.Reasons.{refused_at_origin, starts, told_opening}
use Rattle.aurora_top.proofs.solo.run_command.Goals as goal

pub run_solo-run-requires-clause-only : goal.run_solo-run-requires-clause-only
run_solo-run-requires-clause-only g c = λ r told image left.
    let reads = c.begin.ensures.reads in
    c.in-Ok.ensures.opened.only r (sym reads.reading ∙ told) image (reads.no_more image left)

pub returns-in-Err-clause-answer : goal.returns-in-Err-clause-answer
returns-in-Err-clause-answer g c =
    let before = g.D.Disk.view c.args.disk in
    let opened = g.D.Disk.view c.open.new.disk in
    let files = g.F.Files.view c.args.files in
    let out = g.O.Sink.view c.args.out in
    let un = c.in-Err.ensures.err in
    inl (subst (λ (e : Ending g.row.F.Denot g.row.D.Denot g.row.O.Denot g.row.S.Denot). IsRefusal c.args.words.now before (g.D.Disk.view e.disk) files (g.F.Files.view e.files) out (g.O.Sink.view e.out) e.opened_at e.origin_epoch e.trace e.acks e.end)
    (sym c.refuse.ensures.told) (record {
      why = un.why files files out;
      opened = subst (λ at. IsOpening c.in-Err.end at before opened) (sym c.moment-opened_at.ensures) un.opening;
      unwritten = un.unwritten;
      unput = record { count = refl; bytes = refl };
      no_origin = refl;
      unlogged = refl;
      unacked = refl;
    }))

pub returns-in-Err-begin-clause-answer : goal.returns-in-Err-begin-clause-answer
returns-in-Err-begin-clause-answer g c =
    let words = c.args.words.now in
    let before = g.D.Disk.view c.args.disk in
    let opened = g.D.Disk.view c.open.new.disk in
    let after = g.D.Disk.view c.begin.new.disk in
    let files = g.F.Files.view c.args.files in
    let files' = g.F.Files.view c.begin.new.files in
    let out = g.O.Sink.view c.args.out in
    let command = named_command c.in-Ok.opened.0 in
    let at = c.in-Ok.opened.1 in
    let asks = c.in-Ok.ensures.asks in
    let is = c.in-Ok.ensures.opened in
    let reads = c.begin.ensures.reads in
    let why = refused_at_origin words before opened after files command asks is.unwritten files' out c.in-Err-begin.end c.in-Err-begin.ensures.err in
    inl (subst (λ (e : Ending g.row.F.Denot g.row.D.Denot g.row.O.Denot g.row.S.Denot). IsRefusal words before (g.D.Disk.view e.disk) files (g.F.Files.view e.files) out (g.O.Sink.view e.out) e.opened_at e.origin_epoch e.trace e.acks e.end)
    (sym c.refuse-in-Err-begin.ensures.told) (record {
      why = why;
      opened = told_opening words before after files files' out command at c.in-Err-begin.end asks why (opened_law before opened after at is reads);
      unwritten = unwritten_then before opened after at is reads (g.met.D.Disk.fewer_later c.open.new.disk);
      unput = record { count = refl; bytes = refl };
      no_origin = refl;
      unlogged = refl;
      unacked = refl;
    }))

pub returns-clause-answer : goal.returns-clause-answer
returns-clause-answer g c =
    let words = c.args.words.now in
    let before = g.D.Disk.view c.args.disk in
    let opened = g.D.Disk.view c.open.new.disk in
    let after = g.D.Disk.view c.begin.new.disk in
    let files = g.F.Files.view c.args.files in
    let out = g.O.Sink.view c.args.out in
    let command = named_command c.in-Ok.opened.0 in
    let at = c.in-Ok.opened.1 in
    let asks = c.in-Ok.ensures.asks in
    let is = c.in-Ok.ensures.opened in
    let reads = c.begin.ensures.reads in
    let origin = c.in-Ok-begin.origin in
    let run = c.run_solo-run.result in
    inr (subst (λ (e : Ending g.row.F.Denot g.row.D.Denot g.row.O.Denot g.row.S.Denot). IsRunEnding words before (g.D.Disk.view e.disk) files out (g.O.Sink.view e.out) e.opened_at e.origin_epoch e.trace e.acks e.end)
    (sym c.finish.ensures.told)
    (was_run words before after (g.D.Disk.view run.disk) files out (g.O.Sink.view run.out) at command (group_of origin.parts) origin.epoch run.trace run.acks run.answer
    (starts words before opened after files command asks is.unwritten origin c.in-Ok-begin.ensures.ok) c.in-Ok-begin.ensures.within
    (opened_law before opened after at is reads) (unwritten_then before opened after at is reads (g.met.D.Disk.fewer_later c.open.new.disk)) c.run_solo-run.ensures.run))

pub returns-clause-opened : goal.returns-clause-opened
returns-clause-opened g c =
    let before = g.D.Disk.view c.args.disk in
    let opened = g.D.Disk.view c.open.new.disk in
    let after = g.D.Disk.view c.begin.new.disk in
    let at = c.in-Ok.opened.1 in
    let run = c.run_solo-run.result in
    subst (λ (e : Ending g.row.F.Denot g.row.D.Denot g.row.O.Denot g.row.S.Denot). (before.moment ≤ e.opened_at) × (e.opened_at ≤ (g.D.Disk.view e.disk).moment)) (sym c.finish.ensures.told)
    (opened_between _ before after (g.D.Disk.view run.disk) (g.O.Sink.view c.args.out) (g.O.Sink.view run.out) at run.acks run.answer (opened_law before opened after at c.in-Ok.ensures.opened c.begin.ensures.reads) c.run_solo-run.ensures.run)
