use Rattle.command_words.proofs.say.put_end.Goals as goal

pub returns-in-SinkStrange : goal.returns-in-SinkStrange
returns-in-SinkStrange g c = rw (c.in-SinkStrange.is) c.put_line-in-SinkStrange.ensures
