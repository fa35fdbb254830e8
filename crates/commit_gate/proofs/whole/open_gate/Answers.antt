use Rattle.std.proofs.Common.{◌≡◌, ◌+◌, ◌≤◌, ◌∷◌, ◌++◌, inl, inr, ⊎_elim, ℕ, List, [], ap, sym, ◌∙◌, subst, refl, arith}
use Rattle.dev_traits.specs.Counts.{one_more}
use Rattle.lists.specs.Bytes.{put, SameOutside}
use Rattle.dev_traits.specs.Commits.{Commit, nothing_written}
use Rattle.dev_traits.specs.Since.{LeavesOnly, weaker}
use Rattle.dev_traits.specs.Disk.{DiskView, CommitsBy, Puts}
use Rattle.ckpt_chain.specs.Slot.{gate_place, body_bytes}
use Rattle.ckpt_chain.specs.declared.slot.Slot.{Slot}
use Rattle.ckpt_chain.specs.declared.slot.SlotBody.{SlotBody}
use Rattle.commit_gate.specs.Commit.{IsTornAt, PassesOver, put_down}
use Rattle.commit_gate.specs.Whole.{finished}
use Rattle.commit_gate.specs.Phases.{IsSlotOpening, Goes, GatesLast, gathered, whole_commit, stays}
use Rattle.commit_gate.specs.declared.whole.Block.{Block}
use Rattle.commit_gate.proofs.Phases.{goes_goes, goes_fails, told_by, silent_by, failed_told, failed_silent, body_gathered, gate_gathered, with_body, read_then, one_call}
use Rattle.commit_gate.proofs.whole.open_gate.Goals as goal

-- a torn gate over the body
over : (t s : Slot) (body : SlotBody) (u v : DiskView) → t ≡ s → Puts (gate_place s + 8) (body_bytes body) u v → (image : List ℕ) → IsTornAt (gate_place t) 1 v.reading image → IsSlotOpening s body u.reading image
over t s body u v same puts image torn =
    inr (λ r is. subst (λ (x : Slot). SameOutside ((gate_place x, 1) ∷ []) r image) same (torn r (puts ∙ is)))

pub returns-in-Err-clause-fails : goal.returns-in-Err-clause-fails
returns-in-Err-clause-fails g c held =
    let t = c.args.laid.target in
    let u = g.D.Disk.view c.args.laid.disk in
    let w = g.D.Disk.view c.in-Err.bad.disk in
    let e = c.in-Err.ensures in
    let P = IsSlotOpening t c.args.body u.reading in
    record {
      blocks = e.blocks_err;
      images = weaker u w (IsTornAt (gate_place t + 8) 32 u.reading) P (λ image torn. inl torn) e.images_err;
      writes = (1, omega arith, e.writes_err ∙ one_call u.writes);
      cause = e.cause;
      told = λ l. failed_told (gate_place t + 8) (body_bytes c.args.body) u w e.commits_err l (gathered held);
      untold = failed_silent (gate_place t + 8) (body_bytes c.args.body) u w e.commits_err;
    }

-- the body is down
body_down : (t : Slot) (body : SlotBody) (held : List Block) (u v : DiskView) → v.blocks ≡ u.blocks → LeavesOnly u v (IsTornAt (gate_place t + 8) 32 u.reading) → v.writes ≡ one_more u.writes → u.faults ≤ v.faults
    → CommitsBy (put_down (gate_place t + 8) (body_bytes body)) u v → Goes (IsSlotOpening t body u.reading) 1 (gathered held) stays (with_body held body) u v
body_down t body held u v blocks images writes later commits = record {
  blocks = blocks;
  images = weaker u v (IsTornAt (gate_place t + 8) 32 u.reading) (IsSlotOpening t body u.reading) (λ image torn. inl torn) images;
  writes = writes ∙ one_call u.writes;
  faults = later;
  told = λ l. told_by (put_down (gate_place t + 8) (body_bytes body)) u v commits l l (gathered held) (with_body held body) (body_gathered t held body l) refl;
  untold = λ l. silent_by (put_down (gate_place t + 8) (body_bytes body)) u v commits l refl;
}

pub returns-in-Err-gate-clause-fails : goal.returns-in-Err-gate-clause-fails
returns-in-Err-gate-clause-fails g c held =
    let t = c.args.laid.target in
    let s = c.in-Ok.bodied.target in
    let body = c.args.body in
    let u = g.D.Disk.view c.args.laid.disk in
    let v = g.D.Disk.view c.in-Ok.bodied.disk in
    let w = g.D.Disk.view c.in-Err-gate.bad.disk in
    let d = c.in-Ok.ensures in
    let e = c.in-Err-gate.ensures in
    let P = IsSlotOpening t body u.reading in
    goes_fails P 1 1 (gathered held) (with_body held body) u v w (body_down t body held u v d.same.1 d.images d.writes d.later d.commits)
    (record {
      blocks = e.blocks_err;
      images = weaker v w (IsTornAt (gate_place s) 1 v.reading) P (over s t body u v d.same.0 d.put) e.images_err;
      writes = (1, omega arith, e.writes_err ∙ one_call v.writes);
      cause = e.cause;
      told = λ l. failed_told (gate_place s) (1 ∷ []) v w e.commits_err l (with_body held body);
      untold = failed_silent (gate_place s) (1 ∷ []) v w e.commits_err;
    })

pub returns-clause-goes : goal.returns-clause-goes
returns-clause-goes g c held =
    let t = c.args.laid.target in
    let s = c.in-Ok.bodied.target in
    let body = c.args.body in
    let u = g.D.Disk.view c.args.laid.disk in
    let v = g.D.Disk.view c.in-Ok.bodied.disk in
    let w = g.D.Disk.view c.in-Ok-gate.opened.disk in
    let d = c.in-Ok.ensures in
    let e = c.in-Ok-gate.ensures in
    let P = IsSlotOpening t body u.reading in
    let ends = λ (l : List Commit). l ++ whole_commit held body ∷ [] in
    let all = goes_goes P 1 1 (gathered held) (with_body held body) u v w (body_down t body held u v d.same.1 d.images d.writes d.later d.commits) ends nothing_written
    (record {
      blocks = e.same;
      images = weaker v w (IsTornAt (gate_place s) 1 v.reading) P (over s t body u v d.same.0 d.put) e.images;
      writes = e.writes ∙ one_call v.writes;
      faults = e.later;
      told = λ l. told_by (put_down (gate_place s) (1 ∷ [])) v w e.commits l (ends l) (with_body held body) nothing_written (gate_gathered s held body l) refl;
      untold = λ l. silent_by (put_down (gate_place s) (1 ∷ [])) v w e.commits l refl;
    }) in
    subst (λ x. Goes P 2 (gathered held) ends nothing_written u (g.D.Disk.view x)) (sym c.into_disk.ensures.same) all

pub returns-clause-done : goal.returns-clause-done
unfolding finished
returns-clause-done g c =
    let t = c.args.laid.target in
    let u = g.D.Disk.view c.args.laid.disk in
    let v = g.D.Disk.view c.in-Ok.bodied.disk in
    let gate = subst (λ (x : Slot). Puts (gate_place x) (1 ∷ []) v (g.D.Disk.view c.in-Ok-gate.opened.disk)) c.in-Ok.ensures.same.0 c.in-Ok-gate.ensures.put in
    read_then (λ r. put r (gate_place t + 8) (body_bytes c.args.body)) (λ r. put r (gate_place t) (1 ∷ [])) (finished t [] c.args.body) u.reading v.reading (g.D.Disk.view c.into_disk.result).reading
    c.in-Ok.ensures.put (ap (λ x. (g.D.Disk.view x).reading) c.into_disk.ensures.same ∙ gate) (λ r is. refl)

-- the gate is written over the body
gates_last : (t s : Slot) (body : SlotBody) (u v w : DiskView) → t ≡ s → LeavesOnly u v (IsTornAt (gate_place s + 8) 32 u.reading) → Puts (gate_place s + 8) (body_bytes body) u v
    → LeavesOnly v w (IsTornAt (gate_place t) 1 v.reading) → PassesOver v w → GatesLast s body u w
gates_last t s body u v w same first puts leaves over = record {
  bodied = v.moment;
  first = first.later;
  last = leaves.later;
  since = λ image left r is. subst (λ (x : Slot). SameOutside ((gate_place x, 1) ∷ []) r image) same (leaves.each image left r (puts ∙ is));
  until = λ moment image le left. ⊎_elim (λ old. inr (first.before moment image le old)) (λ now. inl now) (over.since moment image (omega (arith, le, first.later)) left);
}

pub returns-in-Err-clause-order_err : goal.returns-in-Err-clause-order_err
returns-in-Err-clause-order_err g c = inl c.in-Err.ensures.images_err

pub returns-in-Err-gate-clause-order_err : goal.returns-in-Err-gate-clause-order_err
returns-in-Err-gate-clause-order_err g c =
    let d = c.in-Ok.ensures in
    let e = c.in-Err-gate.ensures in
    inr (gates_last c.in-Ok.bodied.target c.args.laid.target c.args.body _ _ _ d.same.0 d.images d.put e.images_err e.time_err)

pub returns-clause-order : goal.returns-clause-order
returns-clause-order g c =
    let d = c.in-Ok.ensures in
    let e = c.in-Ok-gate.ensures in
    let u = g.D.Disk.view c.args.laid.disk in
    subst (λ x. GatesLast c.args.laid.target c.args.body u (g.D.Disk.view x)) (sym c.into_disk.ensures.same)
    (gates_last c.in-Ok.bodied.target c.args.laid.target c.args.body _ _ _ d.same.0 d.images d.put e.images e.time)
