use Rattle.std.proofs.Common.{◌≡◌, ◌⊎◌, ◌+◌, ◌*◌, ◌∷◌, ◌++◌, inl, inr, ⊎_elim, ℕ, Bool, List, [], Option, sym, ap, ◌∙◌, arith, length}
use Rattle.std.specs.Option.{ForSome}
use Rattle.lists.specs.Bytes.{SameOutside}
use Rattle.dev_traits.specs.Commits.{OpenCommit, Commit, nothing_written}
use Rattle.dev_traits.specs.Disk.{DiskView}
use Rattle.dev_traits.specs.Since.{LeavesOnly, goes_then, weaker}
use Rattle.ckpt_chain.specs.Slot.{gate_place}
use Rattle.ckpt_chain.specs.declared.slot.Slot.{Slot}
use Rattle.ckpt_chain.specs.declared.slot.SlotBody.{SlotBody}
use Rattle.commit_gate.specs.Commit.{IsBeforeLaid, IsTornAt, PassesOver, touched}
use Rattle.commit_gate.specs.Whole.{numbers, laid_on, finished, IsBeforeBodied, IsDuring, StepsInOrder, InOrderToBody, FailsInOrder, Reads, closing, AddsCommit, AddsNone}
use Rattle.commit_gate.specs.Phases.{Goes, HasFailed, GatesLast, gathered, whole_commit, stays, IsSlotOpening}
use Rattle.commit_gate.specs.declared.whole.Block.{Block}
use Rattle.commit_gate.proofs.Phases.{goes_goes, goes_fails, goes_weaker, fails_weaker, read_then}
use Rattle.commit_gate.proofs.During.{during_early, during_opening, body_step, gate_step, opening_steps, finishes}
use Rattle.commit_gate.proofs.whole.commit.Goals as goal

-- the disk at the call
module _ (target : Slot) (close : Bool) (blocks : List Block) (body : SlotBody) (u : DiskView) where
  abbrev P : List ℕ → Type 0
  P = IsDuring target close blocks body u.reading

  abbrev early : List ℕ → Type 0
  early = IsBeforeLaid u.reading target close (numbers blocks)

  abbrev ends : List Commit → List Commit
  ends e = e ++ whole_commit blocks body ∷ []

  fails_early : (w : DiskView) → HasFailed early (closing close + length blocks) nothing_written u w → HasFailed P (closing close + length blocks + 2) nothing_written u w
  fails_early w fails =
      fails_weaker early P (during_early target close blocks body u.reading) (closing close + length blocks) nothing_written u w (closing close + length blocks + 2) (omega arith) fails

  module _ (v w : DiskView) (slot : Slot) (same : slot ≡ target) (laid : Reads (laid_on target close blocks) u v)
      (first : Goes early (closing close + length blocks) nothing_written stays (gathered blocks) u v) where
    begun_part : Goes P (closing close + length blocks) nothing_written stays (gathered blocks) u v
    begun_part =
        goes_weaker early P (during_early target close blocks body u.reading) (closing close + length blocks) nothing_written u v stays (gathered blocks) first

    opening : (image : List ℕ) → IsSlotOpening slot body v.reading image → P image
    opening = during_opening target close blocks body u.reading v.reading slot laid same

    fails_late : HasFailed (IsSlotOpening slot body v.reading) 2 (gathered blocks) v w → HasFailed P (closing close + length blocks + 2) nothing_written u w
    fails_late fails =
        goes_fails P (closing close + length blocks) 2 nothing_written (gathered blocks) u v w begun_part
        (fails_weaker (IsSlotOpening slot body v.reading) P opening 2 (gathered blocks) v w 2 (omega arith) fails)

    goes_whole : Goes (IsSlotOpening slot body v.reading) 2 (gathered blocks) ends nothing_written v w → Goes P (closing close + length blocks + 2) nothing_written ends nothing_written u w
    goes_whole goes =
        goes_goes P (closing close + length blocks) 2 nothing_written (gathered blocks) u v w begun_part ends nothing_written
        (goes_weaker (IsSlotOpening slot body v.reading) P opening 2 (gathered blocks) v w ends nothing_written goes)

    laying : (image : List ℕ) → early image → ForSome u.reading (λ r. SameOutside (touched target close (numbers blocks)) r image ⊎ IsBeforeBodied target close blocks r image)
    laying image before r is = inl (before r is)

    writing : (image : List ℕ) → IsTornAt (gate_place slot + 8) 32 v.reading image → ForSome u.reading (λ r. SameOutside (touched target close (numbers blocks)) r image ⊎ IsBeforeBodied target close blocks r image)
    writing image torn r is = inr (body_step target close blocks body u.reading v.reading slot laid same image torn r is)

    -- what isn't left since the blocks were laid was left before
    not_since : PassesOver v w → (image : List ℕ) → w.left u.moment image → w.left v.moment image ⊎ early image
    not_since over image left = ⊎_elim (λ old. inr (first.images.each image old)) (λ now. inl now) (over.since u.moment image first.images.later left)

    in_order : LeavesOnly v w (IsSlotOpening slot body v.reading) → PassesOver v w → GatesLast slot body v w → StepsInOrder target close blocks body u w
    in_order leaves over last = record {
      laid = v.moment;
      bodied = last.bodied;
      first = first.images.later;
      second = last.first;
      last = last.last;
      since_laid = λ image left. opening_steps target close blocks body u.reading v.reading slot laid same image (leaves.each image left);
      since_bodied = λ image left. gate_step target close blocks body u.reading v.reading slot laid same image (last.since image left);
      until_laid = not_since over;
      until_bodied = λ image left.
          ⊎_elim (λ now. inl now) (λ old. inr (⊎_elim (λ at_start. laying image (first.images.each image at_start)) (writing image) old)) (last.until u.moment image first.images.later left);
    }

    to_body : LeavesOnly v w (IsTornAt (gate_place slot + 8) 32 v.reading) → PassesOver v w → InOrderToBody target close blocks u w
    to_body leaves over = record {
      laid = v.moment;
      first = first.images.later;
      last = leaves.later;
      images = weaker u w (λ image. early image ⊎ IsTornAt (gate_place slot + 8) 32 v.reading image) _ (λ image either. ⊎_elim (laying image) (writing image) either)
          (goes_then u v w early (IsTornAt (gate_place slot + 8) 32 v.reading) first.images leaves);
      since_laid = λ image left. body_step target close blocks body u.reading v.reading slot laid same image (leaves.each image left);
      until_laid = not_since over;
    }

    fails_in_order : LeavesOnly v w (IsSlotOpening slot body v.reading) → PassesOver v w → LeavesOnly v w (IsTornAt (gate_place slot + 8) 32 v.reading) ⊎ GatesLast slot body v w → FailsInOrder target close blocks body u w
    fails_in_order leaves over (inl torn) = inr (inl (to_body torn over))
    fails_in_order leaves over (inr last) = inr (inr (in_order leaves over last))

-- the commits, from the open one that the disk told
adds_none : (P : List ℕ → Type 0) (n : ℕ) (u w : DiskView) → HasFailed P n nothing_written u w → AddsNone u w
adds_none P n u w fails = record {
  told = λ none. fails.told u.commits.ended (inl (ap (λ (o : Option OpenCommit). record { ended = u.commits.ended; now = o }) none));
  untold = λ none. let is = ap (λ (o : Option OpenCommit). record { ended = u.commits.ended; now = o }) none in fails.untold u.commits.ended is ∙ sym is;
}

adds_one : (P : List ℕ → Type 0) (n : ℕ) (blocks : List Block) (body : SlotBody) (u w : DiskView) → Goes P n nothing_written (λ e. e ++ whole_commit blocks body ∷ []) nothing_written u w → AddsCommit blocks body u w
adds_one P n blocks body u w goes = record {
  told = λ none. goes.told u.commits.ended (inl (ap (λ (o : Option OpenCommit). record { ended = u.commits.ended; now = o }) none));
  untold = λ none. let is = ap (λ (o : Option OpenCommit). record { ended = u.commits.ended; now = o }) none in goes.untold u.commits.ended is ∙ sym is;
}

pub returns-in-Err : goal.returns-in-Err
returns-in-Err g c =
    let u = g.D.Disk.view c.args.disk in
    let fails = c.in-Err.ensures.fails in
    let all = fails_early c.args.target c.args.close c.args.blocks.now c.args.body u (g.D.Disk.view c.in-Err.bad.disk) fails in
    record {
      done = tt;
      only = tt;
      blocks = tt;
      blocks_err = all.blocks;
      images = tt;
      images_err = all.images;
      order = tt;
      order_err = inl fails.images;
      commits = tt;
      commits_err = adds_none _ _ _ _ all;
      writes = tt;
      writes_err = all.writes;
      later = tt;
      cause = all.cause;
    }

pub returns-in-Err-open_gate : goal.returns-in-Err-open_gate
returns-in-Err-open_gate g c =
    let u = g.D.Disk.view c.args.disk in
    let v = g.D.Disk.view c.in-Ok.laid.disk in
    let w = g.D.Disk.view c.in-Err-open_gate.bad.disk in
    let e = c.in-Ok.ensures in
    let blocks = c.args.blocks.now in
    let fails = c.in-Err-open_gate.ensures.fails blocks in
    let all = fails_late c.args.target c.args.close blocks c.args.body u v w c.in-Ok.laid.target e.target e.laid e.goes fails in
    record {
      done = tt;
      only = tt;
      blocks = tt;
      blocks_err = all.blocks;
      images = tt;
      images_err = all.images;
      order = tt;
      order_err = fails_in_order c.args.target c.args.close blocks c.args.body u v w c.in-Ok.laid.target e.target e.laid e.goes fails.images c.in-Err-open_gate.ensures.time_err c.in-Err-open_gate.ensures.order_err;
      commits = tt;
      commits_err = adds_none _ _ _ _ all;
      writes = tt;
      writes_err = all.writes;
      later = tt;
      cause = all.cause;
    }

pub returns-in-Ok-open_gate : goal.returns-in-Ok-open_gate
returns-in-Ok-open_gate g c =
    let u = g.D.Disk.view c.args.disk in
    let v = g.D.Disk.view c.in-Ok.laid.disk in
    let w = g.D.Disk.view c.in-Ok-open_gate.disk in
    let e = c.in-Ok.ensures in
    let d = c.in-Ok-open_gate.ensures in
    let target = c.args.target in
    let close = c.args.close in
    let blocks = c.args.blocks.now in
    let body = c.args.body in
    let slot = c.in-Ok.laid.target in
    let size : ForSome u.reading (λ r. length r ≡ 4096 * u.blocks) = λ r is. g.met.D.Disk.image_size c.args.disk u.moment r (g.met.D.Disk.reading_left c.args.disk r is) in
    let all = goes_whole target close blocks body u v w slot e.target e.laid e.goes (d.goes blocks) in
    record {
      done = read_then (laid_on target close blocks) (finished slot [] body) (finished target blocks body) u.reading v.reading w.reading e.laid d.done
          (finishes target close blocks body u.reading u.blocks c.requires.placed c.requires.sized.0 size c.requires.gate slot e.target);
      only = d.only;
      blocks = all.blocks;
      blocks_err = tt;
      images = all.images;
      images_err = tt;
      order = in_order target close blocks body u v w slot e.target e.laid e.goes (d.goes blocks).images d.time d.order;
      order_err = tt;
      commits = adds_one _ _ _ _ _ _ all;
      commits_err = tt;
      writes = all.writes;
      writes_err = tt;
      later = all.faults;
      cause = tt;
    }
