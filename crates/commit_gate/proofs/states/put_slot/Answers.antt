use Rattle.std.proofs.Common.{length}
use Rattle.dev_traits.specs.Since.{goes_on}
use Rattle.commit_gate.specs.Commit.{IsTornAt}
use Rattle.commit_gate.proofs.Stages.{torn_since, torn_now}
use Rattle.commit_gate.proofs.states.put_slot.Goals as goal

pub returns-in_err-write_at-clause-images : goal.returns-in_err-write_at-clause-images
returns-in_err-write_at-clause-images g c =
    torn_since (g.D.Disk.view c.args.disk.now) (g.D.Disk.view c.write_at.new.self) c.requires.only c.args.place (length c.args.bytes.now) c.write_at.ensures.torn c.write_at.ensures.time

pub returns-clause-images : goal.returns-clause-images
returns-clause-images g c =
    let u = g.D.Disk.view c.args.disk.now in
    let v = g.D.Disk.view c.write_at.new.self in
    let w = g.D.Disk.view c.sync.new.self in
    let n = length c.args.bytes.now in
    goes_on u v w (IsTornAt c.args.place n u.reading) (torn_since u v c.requires.only c.args.place n c.write_at.ensures.torn c.write_at.ensures.time) c.sync.ensures.time
    (λ image left. torn_now u v c.requires.only c.args.place n c.write_at.ensures.torn image (c.sync.ensures.no_more image left))
