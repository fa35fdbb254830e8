use Rattle.std.proofs.Common.{◌≡◌, ◌+◌, ◌*◌, ◌∷◌, ◌++◌, ℕ, List, [], refl, sym, ap, ◌∙◌, subst, arith, length, take, Some}
use Rattle.std.proofs.lemmas.List.{take_more, take_all}
use Rattle.lists.specs.Bytes.{put}
use Rattle.dev_traits.specs.Commits.{OpenCommit, nothing_written, wrote}
use Rattle.dev_traits.specs.Disk.{Puts, CommitsBy}
use Rattle.dev_traits.specs.Since.{started, weaker}
use Rattle.commit_gate.specs.Commit.{IsBeforeLaid}
use Rattle.commit_gate.specs.Whole.{numbers, with_blocks}
use Rattle.commit_gate.specs.Phases.{Goes, Within, gathered, stays}
use Rattle.commit_gate.specs.declared.whole.Block.{Block}
use Rattle.commit_gate.proofs.Phases.{goes_goes, goes_fails, fails_weaker, told_by, silent_by, quiet, quiet_silent, ended_of, block_gathered, with_blocks-more, read_same, read_then, no_call, one_call, placed_at, within_more, before_at, on_ok_at, on_err_at, or_false}
use Rattle.commit_gate.proofs.whole.lay.Goals as goal

pub loop-block-init : goal.loop-block-init
loop-block-init g c =
    let closed = c.args.closed.now in
    let v = g.D.Disk.view closed.disk in
    let s = g.D.Disk.view closed.start.value in
    let within : Within (numbers c.args.blocks.now) closed.written = subst (λ (l : List ℕ). Within (numbers c.args.blocks.now) l) (sym c.requires.first) (λ i out. tt) in
    let P = IsBeforeLaid s.reading closed.target closed.close (numbers c.args.blocks.now) in
    let wider = before_at s.reading s.reading closed.target closed.target closed.close closed.close closed.written c.args.blocks.now refl refl refl within in
    record {
      start = refl;
      target = refl;
      close = refl;
      works = refl;
      within = within;
      laid = read_same (with_blocks []) v.reading (λ r. refl);
      goes = record {
        blocks = refl;
        images = started v P (λ image left. wider image (closed.since image (g.met.D.Disk.fewer_later closed.disk s.moment v.moment image closed.later left)));
        writes = no_call v.writes;
        faults = omega arith;
        told = λ e t. t;
        untold = λ e t. t;
      };
    }

pub loop-block-preserved : goal.loop-block-preserved
loop-block-preserved g c =
    let closed = c.loop-block.closed in
    let inv = c.loop-block.invariant in
    let first = c.args.closed.now in
    let all = c.args.blocks.now in
    let i = c.loop-block.block-index in
    let b = c.block-item.result in
    let u = g.D.Disk.view first.disk in
    let v = g.D.Disk.view closed.disk in
    let w = g.D.Disk.view c.write.new.self.disk in
    let start = (g.D.Disk.view closed.start.value).reading in
    let s = (g.D.Disk.view first.start.value).reading in
    let P = IsBeforeLaid s first.target first.close (numbers all) in
    let within = within_more all closed.written (b.number ∷ closed.written) i b c.loop-block-test.true c.block-item.is refl inv.within in
    let wider = before_at start s closed.target first.target closed.close first.close (b.number ∷ closed.written) all (ap (λ x. (g.D.Disk.view x.value).reading) inv.start) inv.target inv.close within in
    let placed = placed_at u.blocks all i b c.requires.placed c.loop-block-test.true c.block-item.is in
    let ok = on_ok_at c.write.result c.if-is_err.ensures.value c.write.ensures.ok in
    let puts = subst (λ (l : List ℕ). Puts (4096 * b.number) l v w) c.as_slice.ensures ok in
    let by = subst (λ (l : List ℕ). CommitsBy (wrote (4096 * b.number) l) v w) c.as_slice.ensures (on_ok_at c.write.result c.if-is_err.ensures.value c.write.ensures.commits) in
    let more : take (i + 1) all ≡ take i all ++ b ∷ [] = take_more all i b c.loop-block-test.true ∙ ap (λ (x : Block). take i all ++ x ∷ []) (sym c.block-item.is) in
    record {
      start = c.write.ensures.same.0 ∙ inv.start;
      target = c.write.ensures.same.1 ∙ inv.target;
      close = c.write.ensures.same.2 ∙ inv.close;
      works = c.write.ensures.failed ∙ or_false closed.failed _ c.if-is_err.ensures.value ∙ inv.works;
      within = within_more all closed.written c.write.new.self.written i b c.loop-block-test.true c.block-item.is c.write.ensures.written inv.within;
      laid = read_then (with_blocks (take i all)) (λ r. put r (4096 * b.number) b.bytes) (with_blocks (take (i + 1) all)) u.reading v.reading w.reading inv.laid puts
          (λ r is. sym (ap (λ (l : List Block). with_blocks l r) more ∙ with_blocks-more (take i all) b r));
      goes = goes_goes P i 1 nothing_written (gathered (take i all)) u v w inv.goes stays (gathered (take (i + 1) all))
          (record {
            blocks = c.write.ensures.blocks;
            images = weaker v w (IsBeforeLaid start closed.target closed.close (b.number ∷ closed.written)) P wider c.write.ensures.images;
            writes = c.write.ensures.writes ∙ one_call v.writes;
            faults = c.write.ensures.faults.later;
            told = λ e. told_by (wrote (4096 * b.number) b.bytes) v w by e e (gathered (take i all)) (gathered (take (i + 1) all))
                (ap (λ (o : OpenCommit). record { ended = e; now = Some o }) (block_gathered (take i all) b placed.least placed.whole ∙ ap (λ (l : List Block). gathered l) (sym more))) refl;
            untold = λ e. silent_by (wrote (4096 * b.number) b.bytes) v w by e refl;
          });
    }

pub returns-then-is_err-clause-same : goal.returns-then-is_err-clause-same
returns-then-is_err-clause-same g c =
    let closed = c.loop-block.closed in
    let inv = c.loop-block.invariant in (
      c.write.ensures.same.0 ∙ inv.start,
      c.write.ensures.same.1 ∙ inv.target,
      c.write.ensures.same.2 ∙ inv.close,
      within_more c.args.blocks.now closed.written c.write.new.self.written c.loop-block.block-index c.block-item.result c.loop-block-test.true c.block-item.is c.write.ensures.written inv.within,
    )

pub returns-then-is_err-clause-fails : goal.returns-then-is_err-clause-fails
returns-then-is_err-clause-fails g c =
    let closed = c.loop-block.closed in
    let inv = c.loop-block.invariant in
    let first = c.args.closed.now in
    let all = c.args.blocks.now in
    let i = c.loop-block.block-index in
    let b = c.block-item.result in
    let u = g.D.Disk.view first.disk in
    let v = g.D.Disk.view closed.disk in
    let w = g.D.Disk.view c.write.new.self.disk in
    let start = (g.D.Disk.view closed.start.value).reading in
    let s = (g.D.Disk.view first.start.value).reading in
    let P = IsBeforeLaid s first.target first.close (numbers all) in
    let within = within_more all closed.written (b.number ∷ closed.written) i b c.loop-block-test.true c.block-item.is refl inv.within in
    let wider = before_at start s closed.target first.target closed.close first.close (b.number ∷ closed.written) all (ap (λ x. (g.D.Disk.view x.value).reading) inv.start) inv.target inv.close within in
    let by = on_err_at c.write.result c.if-is_err.ensures.value c.write.ensures.commits_err in
    fails_weaker P P (λ image p. p) (i + 1) nothing_written u w (length all) (omega (arith, c.loop-block-test.true))
    (goes_fails P i 1 nothing_written (gathered (take i all)) u v w inv.goes
    (record {
      blocks = c.write.ensures.blocks;
      images = weaker v w (IsBeforeLaid start closed.target closed.close (b.number ∷ closed.written)) P wider c.write.ensures.images;
      writes = (1, omega arith, c.write.ensures.writes ∙ one_call v.writes);
      cause = c.write.ensures.faults.cause (sym c.if-is_err.ensures.value);
      told = λ e t. ended_of e (gathered (take i all)) w (quiet v w by e (gathered (take i all)) t);
      untold = quiet_silent v w by;
    }))

pub returns-clause-goes : goal.returns-clause-goes
returns-clause-goes g c =
    let all = c.args.blocks.now in
    let i = c.loop-block.block-index in
    let u = g.D.Disk.view c.args.closed.now.disk in
    let v = g.D.Disk.view c.loop-block.closed.disk in
    let P = IsBeforeLaid (g.D.Disk.view c.args.closed.now.start.value).reading c.args.closed.now.target c.args.closed.now.close (numbers all) in
    let end : i ≡ length all = omega (arith, c.loop-block-test.false, c.loop-block.auto.block-index-end) in
    let whole : take i all ≡ all = take_all i all c.loop-block-test.false in
    subst (λ (n : ℕ). Goes P n nothing_written stays (gathered all) u v) end (subst (λ (l : List Block). Goes P i nothing_written stays (gathered l) u v) whole c.loop-block.invariant.goes)
