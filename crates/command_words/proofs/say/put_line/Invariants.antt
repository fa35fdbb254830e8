use Rattle.std.proofs.Common.{drop}
use Rattle.command_words.specs.Put.{line_with}
use Rattle.command_words.proofs.Saying.{HasBegun}
use Rattle.command_words.proofs.say.put_line.Given as goal

abbrev pub invariant-loop-text : goal.invariant-loop-text
invariant-loop-text g l = HasBegun (line_with (drop l.text-index l.fields) l.last) (line_with l.fields l.last) (g.S.Sink.view l.initial.say) (g.S.Sink.view l.say)
