use Rattle.group_defs.specs.Valid.{OutValid}
use Rattle.solo_engine.proofs.solo.start_laws.Goals as goal

pub returns : goal.returns
unfolding OutValid
returns c = λ start origin checkpointed few near.
    let limits = c.args._limits in
    let out = checkpointed.valid.sound.frame.out.positions in
    record {
      every = c.requires.every.0;
      turns = c.requires.turns.1;
      checkpointed = checkpointed;
      epoch = few;
      position = near;
      rests = c.one_trace_on_one_thread.ensures.rests start origin limits;
      epochs = c.marks_follow_marks.ensures.epochs start origin limits;
      parts = c.output_only_grows.ensures.parts start limits;
      lets_out = c.output_only_grows.ensures.lets_out start origin limits out.0 out.1;
      legal = c.one_trace_on_one_thread.ensures.legal start origin limits;
      prefix = λ marks so_far. c.one_trace_on_one_thread.ensures.goes_on start origin limits marks out.0 checkpointed.all_marked c.requires.every.0 so_far;
    }
