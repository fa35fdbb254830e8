-- What a call answers, and what stands then.
use Rattle.std.specs.Prelude.{◌≡◌, ℕ, List, []}
use Rattle.dev_traits.specs.Disk.{DiskView}
use Rattle.dev_traits.specs.Outside.{FilesView, SinkView, TakesNothing}
use Rattle.run_defs.specs.declared.run.AckMark.{AckMark}
use Rattle.group_defs.specs.Group.{Group}
use Rattle.run_defs.specs.declared.run.Mark.{Mark}
use Rattle.group_defs.specs.Output.{last_position}
use Rattle.sls_core.specs.Answers.{IsSoloRun}
use Rattle.sls_core.specs.Safe.{IsUnwritten, last_acked, last_group, run_of}
use Rattle.ckpt_records.specs.Origin.{IsWithin}
use Rattle.sls_core.specs.declared.run.RunAnswer.{RunAnswer}
use Rattle.aurora_top.specs.Beginnings.{CanBegin}
use Rattle.aurora_top.specs.Ending.{end_for}
use Rattle.aurora_top.specs.Opening.{IsOpening}
use Rattle.aurora_top.specs.Refusals.{Refused}
use Rattle.command_words.specs.declared.words.Command.{Command}
use Rattle.command_words.specs.declared.end.End.{End}

-- The command was refused before its run: nothing was logged, written or put.
pub record IsRefusal (words : List (List ℕ)) (disk disk' : DiskView) (files files' : FilesView) (out out' : SinkView) (opened_at origin_epoch : ℕ) (trace : List Mark) (acks : List AckMark) (end : End) : Type 0 where
  pub why : Refused words disk disk' files files' out end
  pub opened : IsOpening end opened_at disk disk'
  pub unwritten : IsUnwritten disk disk'
  pub unput : TakesNothing out out'
  pub no_origin : origin_epoch ≡ 0
  pub unlogged : trace ≡ []
  pub unacked : acks ≡ []

-- The command was run: from its first group or from the group that the disk held, within its limits.
pub record IsRunEnding (words : List (List ℕ)) (disk disk' : DiskView) (files : FilesView) (out out' : SinkView)
    (opened_at origin_epoch : ℕ) (trace : List Mark) (acks : List AckMark) (end : End) : Type 0 where
  pub command : Command (List ℕ)
  pub start : Group
  pub begins : CanBegin words disk files command start origin_epoch
  pub within : IsWithin out start.frame.out
  pub answer : RunAnswer
  -- its trace, its disk whenever that stops, its output, and why it ended
  pub run : IsSoloRun (run_of command.limits start origin_epoch trace) opened_at acks disk disk' out out' answer
  -- the last acknowledged epoch, the turns and the last position are told where it ended by itself
  pub end_is : end ≡ end_for answer (last_acked (run_of command.limits start origin_epoch trace)) (run_of command.limits start origin_epoch trace).now.turns
      (last_position (last_group (run_of command.limits start origin_epoch trace)).frame.out)
