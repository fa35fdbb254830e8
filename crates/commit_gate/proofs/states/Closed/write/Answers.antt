use Rattle.std.proofs.Common.{◌*◌, ◌≤◌, ℕ, List, subst, sym, arith}
use Rattle.dev_traits.specs.Disk.{Torn}
use Rattle.commit_gate.specs.Commit.{IsBeforeLaid}
use Rattle.commit_gate.proofs.Stages.{block_since, block_only}
use Rattle.commit_gate.proofs.states.Closed.write.Goals as goal

pub invariant_of-self : goal.invariant_of-self
invariant_of-self g c =
    let self = c.args.self.now in
    let v = g.D.Disk.view self.disk in
    let w = g.D.Disk.view c.write_at.new.self in
    let s = g.D.Disk.view self.start.value in
    let torn = subst (λ (n : ℕ). Torn (4096 * c.args.block) n v w) c.requires.whole c.write_at.ensures.torn in
    let since = block_since s v w self.target self.close self.written c.args.block (λ image left. g.met.D.Disk.fewer_later self.disk s.moment v.moment image self.later left) self.since self.later torn c.write_at.ensures.time in
    record {
      sized = subst (λ (n : ℕ). (16 ≤ n) × (n ≤ 1048576)) (sym c.write_at.ensures.blocks) self.sized;
      later = omega (arith, self.later, c.write_at.ensures.time.later);
      since = λ image left. subst (λ (l : List ℕ). IsBeforeLaid s.reading self.target self.close l image) (sym c.add.ensures) (since image left);
    }

pub invariant_of-self-else-is_err : goal.invariant_of-self-else-is_err
invariant_of-self-else-is_err g c =
    let self = c.args.self.now in
    let v = g.D.Disk.view self.disk in
    let w = g.D.Disk.view c.write_at.new.self in
    let s = g.D.Disk.view self.start.value in
    let torn = subst (λ (n : ℕ). Torn (4096 * c.args.block) n v w) c.requires.whole c.write_at.ensures.torn in
    let since = block_since s v w self.target self.close self.written c.args.block (λ image left. g.met.D.Disk.fewer_later self.disk s.moment v.moment image self.later left) self.since self.later torn c.write_at.ensures.time in
    record {
      sized = subst (λ (n : ℕ). (16 ≤ n) × (n ≤ 1048576)) (sym c.write_at.ensures.blocks) self.sized;
      later = omega (arith, self.later, c.write_at.ensures.time.later);
      since = λ image left. subst (λ (l : List ℕ). IsBeforeLaid s.reading self.target self.close l image) (sym c.add.ensures) (since image left);
    }

pub returns-then-is_err-clause-images : goal.returns-then-is_err-clause-images
returns-then-is_err-clause-images g c =
    let self = c.args.self.now in
    let v = g.D.Disk.view self.disk in
    let w = g.D.Disk.view c.write_at.new.self in
    let s = g.D.Disk.view self.start.value in
    let torn = subst (λ (n : ℕ). Torn (4096 * c.args.block) n v w) c.requires.whole c.write_at.ensures.torn in
    block_only s v w self.target self.close self.written c.args.block (λ image left. g.met.D.Disk.fewer_later self.disk s.moment v.moment image self.later left) self.since self.later torn c.write_at.ensures.time

pub returns-clause-images : goal.returns-clause-images
returns-clause-images g c =
    let self = c.args.self.now in
    let v = g.D.Disk.view self.disk in
    let w = g.D.Disk.view c.write_at.new.self in
    let s = g.D.Disk.view self.start.value in
    let torn = subst (λ (n : ℕ). Torn (4096 * c.args.block) n v w) c.requires.whole c.write_at.ensures.torn in
    block_only s v w self.target self.close self.written c.args.block (λ image left. g.met.D.Disk.fewer_later self.disk s.moment v.moment image self.later left) self.since self.later torn c.write_at.ensures.time
