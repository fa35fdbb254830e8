use Rattle.dev_traits.specs.Since.{weaker, started}
use Rattle.ckpt_chain.specs.Slot.{gate_place}
use Rattle.commit_gate.specs.Commit.{IsBeforeLaid, IsTornAt, touched}
use Rattle.std.proofs.Common.{ℕ, [], ◌∷◌, subst}
use Rattle.dev_traits.specs.Commits.{wrote, unchanged}
use Rattle.dev_traits.specs.Disk.{Torn, CommitsBy}
use Rattle.commit_gate.proofs.Told.{at_both, closing_changes_nothing}
use Rattle.commit_gate.proofs.Stages.{at_rest, torn_since, closing}
use Rattle.commit_gate.proofs.states.close_gate.Goals as goal

pub returns-then-close-clause-images : goal.returns-then-close-clause-images
returns-then-close-clause-images g c =
    let v = g.D.Disk.view c.args.disk.now in
    let w = g.D.Disk.view c.write_at.new.self in
    let start = v.reading in
    let torn = subst (λ (p : ℕ). Torn p 1 v w) c.gate_at.ensures c.write_at.ensures.torn in
    weaker v w (IsTornAt (gate_place c.args.target) 1 start) (IsBeforeLaid start c.args.target c.args.close []) (λ image t. closing start c.args.target c.args.close image c.if-close.true t)
    (torn_since v w c.requires.only (gate_place c.args.target) 1 torn c.write_at.ensures.time)

pub returns-clause-images : goal.returns-clause-images
returns-clause-images g c =
    let v = g.D.Disk.view c.args.disk.now in
    started v (IsBeforeLaid v.reading c.args.target c.args.close []) (at_rest v v c.requires.only (touched c.args.target c.args.close []))

pub returns-then-close-clause-commits : goal.returns-then-close-clause-commits
returns-then-close-clause-commits g c =
    let v = g.D.Disk.view c.args.disk.now in
    let w = g.D.Disk.view c.write_at.new.self in
    at_both c.write_at.result (CommitsBy (wrote c.gate_at.result (0 ∷ [])) v w) (CommitsBy unchanged v w) (CommitsBy unchanged v w) c.write_at.ensures.commits c.write_at.ensures.commits_err
    (λ told. closing_changes_nothing c.args.target v w (subst (λ (p : ℕ). CommitsBy (wrote p (0 ∷ [])) v w) c.gate_at.ensures told)) (λ told. told)
