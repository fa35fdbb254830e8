use Rattle.std.proofs.Common.{◌≡◌, ◌-◌, refl, ◌<◌, ◌≤◌, ◌⊎◌, ℕ, List, Some, ap, sym, ◌∙◌, arith, inl, inr, rules}
use Rattle.ckpt_chain.specs.Slot.{num_at}
use Rattle.ckpt_chain.specs.Chain.{block, link, chain_at}
use Rattle.ckpt_chain.specs.Reads.{no_reads, reads_on}
use Rattle.ckpt_chain.proofs.Walk.{follows, broken, too_long, ended, more_payload, in_disk_more, in_disk_none, with_nothing}
use Rattle.ckpt_chain.proofs.stream.walk.Goals as goal
use Rattle.ckpt_chain.proofs.stream.walk.Goals.{then-at-lt2-via-then-at-lt2, then-at-lt2-via-else-at-lt2+then-at-count}

pub returns-then-at-lt2-clause-bytes : goal.returns-then-at-lt2-clause-bytes
returns-then-at-lt2-clause-bytes g c = λ image told.
    let out : (c.loop.at < 2) ⊎ (c.blocks-count.result ≤ c.loop.at) =
    elim c.then-at-lt2.branch [ then-at-lt2-via-then-at-lt2 w ↦ inl w.if-at-lt2.true | then-at-lt2-via-else-at-lt2+then-at-count w ↦ inr w.if-at-count.true ] in
    rw (← c.blocks-count.ensures) (broken image c.blocks-count.result c.args.links c.loop.counter c.loop.at c.args.first c.loop.blocks.items c.loop-test.true out (c.loop.invariant.chain image told))

pub loop-preserved : goal.loop-preserved
loop-preserved g c = record {
  bytes = λ image told.
      let is_block : c.in_ok-block.block ≡ block image c.loop.at = c.in_ok-block.ensures.bytes image (c.loop.invariant.disk.reading ∙ told) in
      more_payload image c.loop.bytes.items c.loop.blocks.items c.extend_from_slice.new.self.items c.push.new.self.items c.in_ok-block.block c.loop.at (c.loop.invariant.bytes image told) is_block (search rules) (search rules);
  chain = λ image told.
      let is_block : c.in_ok-block.block ≡ block image c.loop.at = c.in_ok-block.ensures.bytes image (c.loop.invariant.disk.reading ∙ told) in
      let next : c.u64_at-at.result ≡ link image c.loop.at = c.u64_at-at.ensures ∙ ap (λ (x : List ℕ). num_at x 0) is_block in
      rw (c.in_ok-push.ensures.items, next) (follows image c.blocks-count.result c.args.links c.loop.counter c.loop.at c.loop.blocks.items (chain_at image c.blocks-count.result c.args.links c.args.first) c.loop-test.true c.if-at-lt2.false c.if-at-count.false (c.loop.invariant.chain image told));
  links = search rules;
  range = rw c.in_ok-push.ensures.items (in_disk_more c.blocks-count.result c.loop.at c.loop.blocks.items c.loop.invariant.range c.if-at-lt2.false c.if-at-count.false);
  disk = reads_on _ _ _ c.loop.invariant.disk c.in_ok-block.ensures.disk;
}

pub returns-then-at-ne0-clause-bytes : goal.returns-then-at-ne0-clause-bytes
returns-then-at-ne0-clause-bytes g c = λ image told.
    rw (← c.blocks-count.ensures) (too_long image c.blocks-count.result c.args.links c.loop.counter c.loop.at c.args.first c.loop.blocks.items c.loop-test.false c.if-at-ne0.true (c.loop.invariant.chain image told))

pub returns-clause-bytes : goal.returns-clause-bytes
returns-clause-bytes g c = λ image told.
    rw (← c.blocks-count.ensures) (ended image c.blocks-count.result c.args.links c.loop.counter c.loop.at c.args.first c.loop.blocks.items c.loop.bytes.items c.loop-test.false c.if-at-ne0.false (c.loop.invariant.bytes image told) (c.loop.invariant.chain image told))

pub returns-clause-always : goal.returns-clause-always
returns-clause-always g c = rw (← c.blocks-count.ensures) (omega (arith, c.loop.invariant.links, c.loop-test.false), c.loop.invariant.range)

pub loop-init : goal.loop-init
loop-init g c = record {
  bytes = λ image told. search rules;
  chain = λ image told. let e : c.args.links - 0 ≡ c.args.links = omega arith in rw (c.new-blocks.ensures.items, e) (with_nothing (chain_at image c.blocks-count.result c.args.links c.args.first));
  links = search rules;
  range = rw c.new-blocks.ensures.items (in_disk_none c.blocks-count.result);
  disk = no_reads _;
}
