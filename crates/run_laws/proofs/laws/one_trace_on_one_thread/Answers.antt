use Rattle.run_laws.proofs.RestLaws.{rests_follow, solo_legal}
use Rattle.run_laws.proofs.SoloLaws.{follows, one_trace}
use Rattle.run_laws.proofs.WholeTraces.{is_prefix, so_far_of}
use Rattle.run_laws.proofs.laws.one_trace_on_one_thread.Goals as goal

pub returns-clause-one : goal.returns-clause-one
returns-clause-one c = one_trace

pub returns-clause-follows : goal.returns-clause-follows
returns-clause-follows c = follows

pub returns-clause-legal : goal.returns-clause-legal
returns-clause-legal c = solo_legal

pub returns-clause-so_far : goal.returns-clause-so_far
returns-clause-so_far c = so_far_of

pub returns-clause-goes_on : goal.returns-clause-goes_on
returns-clause-goes_on c = is_prefix

pub returns-clause-rests : goal.returns-clause-rests
returns-clause-rests c = rests_follow
