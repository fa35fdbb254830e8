use Rattle.dev_traits.specs.Since.{started, goes_on}
use Rattle.commit_gate.specs.Commit.{IsBeforeLaid}
use Rattle.commit_gate.proofs.states.Closed.laid.Goals as goal

pub returns-clause-images : goal.returns-clause-images
returns-clause-images g c =
    let v = g.D.Disk.view c.args.self.disk in
    let w = g.D.Disk.view c.sync.new.self in
    let s = g.D.Disk.view c.args.self.start.value in
    let P = IsBeforeLaid s.reading c.args.self.target c.args.self.close c.args.self.written in
    goes_on v v w P (started v P (λ image left. c.args.self.since image (g.met.D.Disk.fewer_later c.args.self.disk s.moment v.moment image c.args.self.later left))) c.sync.ensures.time
    (λ image left. c.args.self.since image (g.met.D.Disk.fewer_later c.args.self.disk s.moment v.moment image c.args.self.later (c.sync.ensures.no_more image left)))

pub returns-then-is_err-clause-images_err : goal.returns-then-is_err-clause-images_err
returns-then-is_err-clause-images_err g c =
    let v = g.D.Disk.view c.args.self.disk in
    let w = g.D.Disk.view c.sync.new.self in
    let s = g.D.Disk.view c.args.self.start.value in
    let P = IsBeforeLaid s.reading c.args.self.target c.args.self.close c.args.self.written in
    goes_on v v w P (started v P (λ image left. c.args.self.since image (g.met.D.Disk.fewer_later c.args.self.disk s.moment v.moment image c.args.self.later left))) c.sync.ensures.time
    (λ image left. c.args.self.since image (g.met.D.Disk.fewer_later c.args.self.disk s.moment v.moment image c.args.self.later (c.sync.ensures.no_more image left)))
