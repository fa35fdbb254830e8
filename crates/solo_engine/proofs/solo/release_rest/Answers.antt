use Rattle.std.proofs.Common.{◌≤◌, subst, sym}
use Rattle.std.specs.Prelude.{OnErr, OnOk}
use Rattle.group_defs.specs.Output.{last_position}
use Rattle.group_defs.specs.declared.frame.Out.{Out}
use Rattle.solo_engine.specs.Interval.{ReleasesPart, ReleasesRest}
use Rattle.solo_engine.proofs.solo.release_rest.Goals as goal

pub release-requires-clause-first : goal.release-requires-clause-first
release-requires-clause-first g c = subst (λ (o : Out). o.from ≤ (g.O.Sink.view c.args.out.now).count) (c.output_is_the_groups.ensures c.args.group.now) c.requires.first

pub release-requires-clause-last : goal.release-requires-clause-last
release-requires-clause-last g c = subst (λ (o : Out). (g.O.Sink.view c.args.out.now).count ≤ last_position o) (c.output_is_the_groups.ensures c.args.group.now) c.requires.last

pub returns-clause-ok : goal.returns-clause-ok
returns-clause-ok g c = subst (λ (o : Out). OnOk c.release.result (ReleasesRest o (g.O.Sink.view c.args.out.now) (g.O.Sink.view c.release.new.out))) (sym (c.output_is_the_groups.ensures c.args.group.now)) c.release.ensures.ok

pub returns-clause-err : goal.returns-clause-err
returns-clause-err g c = subst (λ (o : Out). OnErr c.release.result (ReleasesPart o (g.O.Sink.view c.args.out.now) (g.O.Sink.view c.release.new.out))) (sym (c.output_is_the_groups.ensures c.args.group.now)) c.release.ensures.err
