use Rattle.std.proofs.Common.{◌≡◌, ◌+◌, ◌≤◌, ℕ, Bool, List, [], refl, sym, ap, ◌∙◌, subst, arith, length}
use Rattle.dev_traits.specs.Commits.{nothing_written, synced, unchanged}
use Rattle.dev_traits.specs.Counts.{one_more_if}
use Rattle.dev_traits.specs.Disk.{DiskView, CommitsBy}
use Rattle.dev_traits.specs.Since.{LeavesOnly, weaker}
use Rattle.ckpt_chain.specs.declared.slot.Slot.{Slot}
use Rattle.commit_gate.specs.Commit.{IsBeforeLaid}
use Rattle.commit_gate.specs.Whole.{numbers, with_blocks, begun, laid_on, closing}
use Rattle.commit_gate.specs.Phases.{Goes, HasFailed, gathered, stays}
use Rattle.commit_gate.specs.declared.whole.Block.{Block}
use Rattle.commit_gate.proofs.Phases.{goes_goes, goes_fails, goes_weaker, fails_weaker, told_by, silent_by, quiet, quiet_silent, ended_of, before_at, begun_reads, read_then, close_calls, no_call, on_ok_at, on_err_at}
use Rattle.commit_gate.proofs.whole.fill.Goals as goal

-- the commit has begun
begins : (target : Slot) (close : Bool) (blocks : List Block) (u v : DiskView) → v.blocks ≡ u.blocks → LeavesOnly u v (IsBeforeLaid u.reading target close []) → v.writes ≡ one_more_if close u.writes → u.faults ≤ v.faults → CommitsBy unchanged u v
    → Goes (IsBeforeLaid u.reading target close (numbers blocks)) (closing close) nothing_written stays nothing_written u v
begins target close blocks u v size images writes later commits = record {
  blocks = size;
  images = weaker u v (IsBeforeLaid u.reading target close []) (IsBeforeLaid u.reading target close (numbers blocks)) (before_at u.reading u.reading target target close close [] blocks refl refl refl (λ i out. tt)) images;
  writes = writes ∙ close_calls close u.writes;
  faults = later;
  told = λ l. quiet u v commits l nothing_written;
  untold = quiet_silent u v commits;
}

-- the blocks after it
goes_on : (target : Slot) (close : Bool) (blocks : List Block) (u s v w : DiskView) (t : Slot) (d : Bool) → s ≡ u → t ≡ target → d ≡ close
    → Goes (IsBeforeLaid u.reading target close (numbers blocks)) (closing close) nothing_written stays nothing_written u v
    → Goes (IsBeforeLaid s.reading t d (numbers blocks)) (length blocks) nothing_written stays (gathered blocks) v w
    → Goes (IsBeforeLaid u.reading target close (numbers blocks)) (closing close + length blocks) nothing_written stays (gathered blocks) u w
goes_on target close blocks u s v w t d start slot shuts first second =
    goes_goes (IsBeforeLaid u.reading target close (numbers blocks)) (closing close) (length blocks) nothing_written nothing_written u v w first stays (gathered blocks)
    (goes_weaker (IsBeforeLaid s.reading t d (numbers blocks)) (IsBeforeLaid u.reading target close (numbers blocks))
    (before_at s.reading u.reading t target d close (numbers blocks) blocks (ap (λ (x : DiskView). x.reading) start) slot shuts (λ i out. out)) (length blocks) nothing_written v w stays (gathered blocks) second)

pub returns-in-Err-clause-fails : goal.returns-in-Err-clause-fails
returns-in-Err-clause-fails g c =
    let u = g.D.Disk.view c.args.disk in
    let w = g.D.Disk.view c.in-Err.bad.disk in
    let e = c.in-Err.ensures in
    let all = c.args.blocks.now in
    let n = closing c.args.close in
    let Q = IsBeforeLaid u.reading c.args.target c.args.close [] in
    let P = IsBeforeLaid u.reading c.args.target c.args.close (numbers all) in
    fails_weaker Q P (before_at u.reading u.reading c.args.target c.args.target c.args.close c.args.close [] all refl refl refl (λ i out. tt)) n nothing_written u w (n + length all) (omega arith)
    (record {
      blocks = e.blocks_err;
      images = e.images_err;
      writes = (n, omega arith, e.writes_err ∙ close_calls c.args.close u.writes);
      cause = e.cause;
      told = λ l t. ended_of l nothing_written w (quiet u w e.commits_err l nothing_written t);
      untold = quiet_silent u w e.commits_err;
    })

pub returns-then-is_err-clause-fails : goal.returns-then-is_err-clause-fails
returns-then-is_err-clause-fails g c =
    let u = g.D.Disk.view c.args.disk in
    let closed = c.in-Ok.closed in
    let v = g.D.Disk.view closed.disk in
    let s = g.D.Disk.view closed.start.value in
    let w = g.D.Disk.view c.lay.new.closed.disk in
    let e = c.in-Ok.ensures in
    let all = c.args.blocks.now in
    let P = IsBeforeLaid u.reading c.args.target c.args.close (numbers all) in
    let first = begins c.args.target c.args.close all u v e.blocks e.images e.writes e.later e.commits in
    let wider = before_at s.reading u.reading closed.target c.args.target closed.close c.args.close (numbers all) all (ap (λ d. (g.D.Disk.view d).reading) e.begun.0) e.begun.1 e.begun.2 (λ i out. out) in
    let second = fails_weaker (IsBeforeLaid s.reading closed.target closed.close (numbers all)) P wider (length all) nothing_written v w (length all) (omega arith) (on_err_at c.lay.result c.if-is_err.ensures.value c.lay.ensures.fails) in
    subst (λ d. HasFailed P (closing c.args.close + length all) nothing_written u (g.D.Disk.view d)) (sym c.give_up.ensures)
    (goes_fails P (closing c.args.close) (length all) nothing_written nothing_written u v w first second)

pub returns-in-Err-laid-clause-fails : goal.returns-in-Err-laid-clause-fails
returns-in-Err-laid-clause-fails g c =
    let u = g.D.Disk.view c.args.disk in
    let closed = c.in-Ok.closed in
    let v = g.D.Disk.view closed.disk in
    let full = c.lay.new.closed in
    let w = g.D.Disk.view full.disk in
    let z = g.D.Disk.view c.in-Err-laid.bad.disk in
    let e = c.in-Ok.ensures in
    let f = c.in-Err-laid.ensures in
    let same = c.lay.ensures.same in
    let all = c.args.blocks.now in
    let n = closing c.args.close + length all in
    let P = IsBeforeLaid u.reading c.args.target c.args.close (numbers all) in
    let first = begins c.args.target c.args.close all u v e.blocks e.images e.writes e.later e.commits in
    let so_far = goes_on c.args.target c.args.close all u (g.D.Disk.view closed.start.value) v w closed.target closed.close (ap (λ d. g.D.Disk.view d) e.begun.0) e.begun.1 e.begun.2 first (on_ok_at c.lay.result c.if-is_err.ensures.value c.lay.ensures.goes) in
    let start = (g.D.Disk.view full.start.value).reading in
    let wider = before_at start u.reading full.target c.args.target full.close c.args.close full.written all (ap (λ x. (g.D.Disk.view x.value).reading) same.0 ∙ ap (λ d. (g.D.Disk.view d).reading) e.begun.0) (same.1 ∙ e.begun.1) (same.2 ∙ e.begun.2) same.3 in
    fails_weaker P P (λ image p. p) (n + 0) nothing_written u z n (omega arith)
    (goes_fails P n 0 nothing_written (gathered all) u w z so_far
    (record {
      blocks = f.blocks_err;
      images = weaker w z (IsBeforeLaid start full.target full.close full.written) P wider f.images_err;
      writes = (0, omega arith, f.writes_err ∙ no_call w.writes);
      cause = f.cause;
      told = λ l t. ended_of l (gathered all) z (quiet w z f.commits_err l (gathered all) t);
      untold = quiet_silent w z f.commits_err;
    }))

pub returns-in-Ok-laid-clause-goes : goal.returns-in-Ok-laid-clause-goes
returns-in-Ok-laid-clause-goes g c =
    let u = g.D.Disk.view c.args.disk in
    let closed = c.in-Ok.closed in
    let v = g.D.Disk.view closed.disk in
    let full = c.lay.new.closed in
    let w = g.D.Disk.view full.disk in
    let z = g.D.Disk.view c.in-Ok-laid.laid.disk in
    let e = c.in-Ok.ensures in
    let f = c.in-Ok-laid.ensures in
    let same = c.lay.ensures.same in
    let all = c.args.blocks.now in
    let n = closing c.args.close + length all in
    let P = IsBeforeLaid u.reading c.args.target c.args.close (numbers all) in
    let first = begins c.args.target c.args.close all u v e.blocks e.images e.writes e.later e.commits in
    let so_far = goes_on c.args.target c.args.close all u (g.D.Disk.view closed.start.value) v w closed.target closed.close (ap (λ d. g.D.Disk.view d) e.begun.0) e.begun.1 e.begun.2 first (on_ok_at c.lay.result c.if-is_err.ensures.value c.lay.ensures.goes) in
    let start = (g.D.Disk.view full.start.value).reading in
    let wider = before_at start u.reading full.target c.args.target full.close c.args.close full.written all (ap (λ x. (g.D.Disk.view x.value).reading) same.0 ∙ ap (λ d. (g.D.Disk.view d).reading) e.begun.0) (same.1 ∙ e.begun.1) (same.2 ∙ e.begun.2) same.3 in
    let still : n + 0 ≡ n = omega arith in
    subst (λ (k : ℕ). Goes P k nothing_written stays (gathered all) u z) still
    (goes_goes P n 0 nothing_written (gathered all) u w z so_far stays (gathered all)
    (record {
      blocks = f.same.2;
      images = weaker w z (IsBeforeLaid start full.target full.close full.written) P wider f.images;
      writes = f.writes ∙ no_call w.writes;
      faults = f.later;
      told = λ l. told_by synced w z f.commits l l (gathered all) (gathered all) refl refl;
      untold = λ l. silent_by synced w z f.commits l refl;
    }))

pub returns-in-Ok-laid-clause-laid : goal.returns-in-Ok-laid-clause-laid
returns-in-Ok-laid-clause-laid g c =
    let u = g.D.Disk.view c.args.disk in
    let v = g.D.Disk.view c.in-Ok.closed.disk in
    let z = g.D.Disk.view c.in-Ok-laid.laid.disk in
    let all = c.args.blocks.now in
    read_then (begun c.args.target c.args.close) (with_blocks all) (laid_on c.args.target c.args.close all) u.reading v.reading z.reading (begun_reads c.args.target c.args.close u v c.in-Ok.ensures.closed)
    (c.in-Ok-laid.ensures.same.1 ∙ on_ok_at c.lay.result c.if-is_err.ensures.value c.lay.ensures.laid) (λ r is. refl)
