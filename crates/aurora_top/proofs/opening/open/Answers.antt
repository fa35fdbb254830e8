use Rattle.std.proofs.Common.{inl, refl, subst, sym}
use Rattle.ckpt_records.specs.Origin.{HasSize}
use Rattle.command_words.specs.Words.{named_command}
use Rattle.aurora_top.proofs.OpeningLaws.{none_synced, unwritten_by}
use Rattle.aurora_top.proofs.opening.open.Goals as goal

pub returns-in-Ok-clause-limits : goal.returns-in-Ok-clause-limits
returns-in-Ok-clause-limits g c = c.words_spell_one_command.ensures.limits c.args.words.now (named_command c.in-Some.command) (sym c.in-Some.ensures)

pub returns-in-Ok-clause-opened : goal.returns-in-Ok-clause-opened
returns-in-Ok-clause-opened g c =
    let before = g.D.Disk.view c.args.disk.now in
    let e = c.sync.ensures in
    record {
      at_is = c.moment.ensures;
      unwritten = unwritten_by before (g.D.Disk.view c.sync.new.self) e.blocks e.reading e.writes e.faults.later e.no_more e.time (g.met.D.Disk.fewer_later c.args.disk.now) (none_synced before (g.D.Disk.view c.sync.new.self) c.in-Ok.ensures.commits);
      time = e.time;
      only = c.in-Ok.ensures.only;
    }

pub returns-in-Err-clause-err : goal.returns-in-Err-clause-err
returns-in-Err-clause-err g c =
    let before = g.D.Disk.view c.args.disk.now in
    let e = c.sync.ensures in
    record {
      why = λ files files' out. (named_command c.in-Some.command, record { spelled = sym c.in-Some.ensures; size = subst HasSize c.blocks-blocks.ensures (c.has_size.ensures.0 c.if-not-has_size.false) }, c.in-Err.ensures.faults.cause refl);
      opening = inl refl;
      unwritten = unwritten_by before (g.D.Disk.view c.sync.new.self) e.blocks e.reading e.writes e.faults.later e.no_more e.time (g.met.D.Disk.fewer_later c.args.disk.now) (λ none. c.in-Err.ensures.commits_err);
      later = e.time.later;
    }
