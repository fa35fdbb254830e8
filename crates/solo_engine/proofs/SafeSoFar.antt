-- What a run has done so far, as its trace grows, its disk is written, and its output is released.
use Rattle.std.proofs.Common.{◌≡◌, inl, inr, ⊎_elim, ℕ, ◌+◌, ◌≤◌, List, [], ◌∷◌, ◌++◌, length, take, Some, refl, sym, ap, subst, ◌∙◌, arith, append-nil, append_assoc}
use Rattle.std.specs.List.{filter_map, AllByRecursion}
use Rattle.std.proofs.lemmas.List.{map-append}
use Rattle.std.proofs.lemmas.List.Elements.{filter_map-append}
use Rattle.std.proofs.lemmas.List.Sums.{fold-append}
use Rattle.dev_traits.specs.Disk.{DiskView, LeftNow}
use Rattle.dev_traits.specs.Since.{LeavesOnly}
use Rattle.dev_traits.specs.Outside.{SinkView, Takes}
use Rattle.dev_traits.specs.SinkLaws.{takes_both}
use Rattle.group_defs.specs.Group.{Group}
use Rattle.run_defs.specs.Marks.{acked_epoch}
use Rattle.run_defs.specs.Progress.{IsGroupOf, Progress, after_mark, mark_of, progress_after, progress_at}
use Rattle.run_defs.specs.declared.run.AckMark.{AckMark}
use Rattle.run_defs.specs.declared.run.Limits.{Limits}
use Rattle.run_defs.specs.declared.run.Mark.{Mark}
use Rattle.run_defs.specs.declared.run.Mark.TheVariants.{Ack}
use Rattle.run_laws.specs.EpochGroups.{EpochsHaveGroups}
use Rattle.run_laws.specs.OutputBetween.{OutputHasParts}
use Rattle.ckpt_chain.specs.declared.slot.Slot.{Slot}
use Rattle.ckpt_records.specs.Holds.{Holds, HoldsAt}
use Rattle.ckpt_records.specs.Newest.{NewestCheckpoint, nothing, checkpoint, HasNewest, epoch_after}
use Rattle.ckpt_records.specs.declared.meta.PagePlace.{PagePlace}
use Rattle.page_flusher.specs.CommitPlan.{HasNewestOrNext}
use Rattle.sls_core.specs.Safe.{AreAcks, HoldsEpoch, HoldsLastAcknowledged, HoldsOne, IsReleasedInTime, NeverFall, Released, RunSoFar, Safe, last_acked, output_of, run_of}
use Rattle.tables.proofs.Ordered.{each_append, each_both, each_weaker}

-- ---- the trace grows

abbrev pub longer : RunSoFar → List Mark → RunSoFar
longer run more = record run { trace = run.trace ++ more; now = progress_after run.limits.quantum run.now more }

pub run_longer : (limits : Limits) (start : Group) (origin : ℕ) (trace more trace' : List Mark) → trace' ≡ trace ++ more → run_of limits start origin trace' ≡ longer (run_of limits start origin trace) more
run_longer limits start origin trace more trace' is =
    ap (run_of limits start origin) is
    ∙ ap (λ (r : Progress). record (run_of limits start origin (trace ++ more)) { now = r }) (fold-append (after_mark limits.quantum) (progress_at origin start) trace more)

pub longer_twice : (run : RunSoFar) (a b : List Mark) → longer (longer run a) b ≡ longer run (a ++ b)
longer_twice run a b =
    ap (λ (t : List Mark). record run { trace = t; now = progress_after run.limits.quantum (progress_after run.limits.quantum run.now a) b }) (append_assoc run.trace a b)
    ∙ ap (λ (r : Progress). record run { trace = run.trace ++ (a ++ b); now = r }) (sym (fold-append (after_mark run.limits.quantum) run.now a b))

-- what stands is what the trace says
abbrev pub IsNow : RunSoFar → Type 0
IsNow run = run.now ≡ progress_after run.limits.quantum (progress_at run.origin_epoch run.start) run.trace

pub now_longer : (run : RunSoFar) (more : List Mark) → IsNow run → IsNow (longer run more)
now_longer run more is =
    ap (λ (r : Progress). progress_after run.limits.quantum r more) is
    ∙ sym (fold-append (after_mark run.limits.quantum) (progress_at run.origin_epoch run.start) run.trace more)

-- what is kept is nothing, or of the run's last acknowledged epoch
pub record IsLastBarrier (run : RunSoFar) (acks : List AckMark) (epoch : ℕ) (g : Group) : Type 0 where
  pub group_is : IsGroupOf run.now epoch g
  pub fetched : epoch ≤ run.now.fetched
  pub last : last_acked run ≡ epoch
  pub none_above : AllByRecursion (λ (a : AckMark). a.epoch ≤ epoch) acks

abbrev pub IsNewestOfRun : RunSoFar → List AckMark → NewestCheckpoint → Type 0
IsNewestOfRun run acks nothing = (run.origin_epoch ≡ 0) × (last_acked run ≡ 0) × (acks ≡ [])
IsNewestOfRun run acks (checkpoint epoch g pages metas slot) = IsLastBarrier run acks epoch g

-- the group of a barrier that a commit brings to the disk
pub record IsCommitting (run : RunSoFar) (epoch : ℕ) (h : Group) : Type 0 where
  pub fetched : epoch ≤ run.now.fetched
  pub group_is : IsGroupOf run.now epoch h

module _ (run : RunSoFar) (epochs : EpochsHaveGroups run.start run.origin_epoch run.limits) (more : List Mark) (later : run.now.fetched ≤ (longer run more).now.fetched) where
  holds_longer : (image : List ℕ) (epoch : ℕ) → HoldsEpoch run image epoch → HoldsEpoch (longer run more) image epoch
  holds_longer image epoch h = record { fetched = omega (arith, h.fetched, later); group = h.group; group_is = epochs.later run.now more epoch h.group h.group_is; held = h.held }

  one_longer : (image : List ℕ) → HoldsOne run image → HoldsOne (longer run more) image
  one_longer image (inl (epoch, h)) = inl (epoch, holds_longer image epoch h)
  one_longer image (inr none) = inr none

  pub safe_longer : (at : ℕ) (acks : List AckMark) (before after : DiskView) → Safe run at acks before after → Safe (longer run more) at acks before after
  safe_longer at acks before after s = record {
    acknowledged = each_weaker
        (λ (a : AckMark). (image : List ℕ) → after.left a.at image → (epoch : ℕ) × (a.epoch ≤ epoch) × HoldsEpoch run image epoch)
        (λ (a : AckMark). (image : List ℕ) → after.left a.at image → (epoch : ℕ) × (a.epoch ≤ epoch) × HoldsEpoch (longer run more) image epoch)
        acks (λ a held image left. let one = held image left in (one.0, one.1, holds_longer image one.0 one.2)) s.acknowledged;
    opened = λ image left. one_longer image (s.opened image left);
    entered = λ t image le left. ⊎_elim (λ now. inl now) (λ one. inr (one_longer image one)) (s.entered t image le left);
  }

  pub kept_longer : (acks : List AckMark) (kept : NewestCheckpoint) → last_acked (longer run more) ≡ last_acked run → IsNewestOfRun run acks kept → IsNewestOfRun (longer run more) acks kept
  kept_longer acks nothing same by = (by.0, same ∙ by.1, by.2)
  kept_longer acks (checkpoint epoch g pages metas slot) same by = record {
    group_is = epochs.later run.now more epoch g by.group_is;
    fetched = omega (arith, by.fetched, later);
    last = same ∙ by.last;
    none_above = by.none_above;
  }

  -- once a commit is acknowledged
  pub safe_acked : (epoch at : ℕ) (acks : List AckMark) (before after : DiskView) (h : Group) → Safe run at acks before after → IsCommitting run epoch h
      → ((image : List ℕ) → LeftNow after image → Holds image epoch h) → Safe (longer run more) at (acks ++ record { epoch = epoch; at = after.moment } ∷ []) before after
  safe_acked epoch at acks before after h safe c held =
      let s = safe_longer at acks before after safe in record {
        acknowledged = each_append (λ (a : AckMark). (image : List ℕ) → after.left a.at image → (e : ℕ) × (a.epoch ≤ e) × HoldsEpoch (longer run more) image e) acks (record { epoch = epoch; at = after.moment } ∷ []) s.acknowledged
            ((λ image left. (epoch, omega arith, holds_longer image epoch (record { fetched = c.fetched; group = h; group_is = c.group_is; held = held image left }))), tt);
        opened = s.opened;
        entered = s.entered;
      }

-- ---- images during a commit

holds_some : (image : List ℕ) (epoch : ℕ) (g : Group) (pages : List PagePlace) (metas : List ℕ) (slot : Slot) → HoldsAt image epoch g pages metas slot → Holds image epoch g
holds_some image epoch g pages metas slot at = record { pages = pages; metas = metas; slot = slot; at = at }

kept_one : (run : RunSoFar) (acks : List AckMark) (epoch : ℕ) (g : Group) (pages : List PagePlace) (metas : List ℕ) (slot : Slot) (image : List ℕ) → IsLastBarrier run acks epoch g → HoldsAt image epoch g pages metas slot → HoldsEpoch run image epoch
kept_one run acks epoch g pages metas slot image by at = record { fetched = by.fetched; group = g; group_is = by.group_is; held = holds_some image epoch g pages metas slot at }

-- what keeps what the run keeps holds one of its epochs, and the last acknowledged one
pub kept_holds : (run : RunSoFar) (acks : List AckMark) (kept : NewestCheckpoint) (image : List ℕ) → IsNewestOfRun run acks kept → HasNewest image kept → HoldsOne run image
kept_holds run acks nothing image by keeps = inr (by.0, keeps)
kept_holds run acks (checkpoint epoch g pages metas slot) image by keeps = inl (epoch, kept_one run acks epoch g pages metas slot image by keeps)

pub kept_last : (run : RunSoFar) (acks : List AckMark) (kept : NewestCheckpoint) (image : List ℕ) → IsNewestOfRun run acks kept → HasNewest image kept → HoldsLastAcknowledged run image
kept_last run acks nothing image by keeps = inr (by.1, keeps)
kept_last run acks (checkpoint epoch g pages metas slot) image by keeps =
    inl (g, subst (λ (e : ℕ). IsGroupOf run.now e g) (sym by.last) by.group_is, subst (λ (e : ℕ). Holds image e g) (sym by.last) (holds_some image epoch g pages metas slot keeps))

module _ (run : RunSoFar) (acks : List AckMark) (h : Group) where
  new_one : (epoch : ℕ) (image : List ℕ) → IsCommitting run epoch h → (pages : List PagePlace) × (metas : List ℕ) × (slot : Slot) × HoldsAt image epoch h pages metas slot → HoldsEpoch run image epoch
  new_one epoch image c (pages, metas, slot, at) = record { fetched = c.fetched; group = h; group_is = c.group_is; held = holds_some image epoch h pages metas slot at }

  one_during : (kept : NewestCheckpoint) (image : List ℕ) → IsNewestOfRun run acks kept → IsCommitting run (epoch_after kept) h → HasNewestOrNext kept h image → HoldsOne run image
  one_during kept image by c (inl keeps) = kept_holds run acks kept image by keeps
  one_during kept image by c (inr (pages, metas, at)) = inl (epoch_after kept, new_one (epoch_after kept) image c (pages, metas, _, at))

  -- ... also since an acknowledgement
  abbrev AckHeld : AckMark → List ℕ → Type 0
  AckHeld a image = (epoch : ℕ) × (a.epoch ≤ epoch) × HoldsEpoch run image epoch

  ack_during : (epoch : ℕ) (g : Group) (pages : List PagePlace) (metas : List ℕ) (slot : Slot) (a : AckMark) (image : List ℕ) → IsLastBarrier run acks epoch g → IsCommitting run (epoch + 1) h → a.epoch ≤ epoch
      → HasNewestOrNext (checkpoint epoch g pages metas slot) h image → AckHeld a image
  ack_during epoch g pages metas slot a image by c le (inl keeps) = (epoch, le, kept_one run acks epoch g pages metas slot image by keeps)
  ack_during epoch g pages metas slot a image by c le (inr (pages', metas', at)) = (epoch + 1, omega (arith, le), new_one (epoch + 1) image c (pages', metas', _, at))

-- ---- moments

pub first_before : (from to : ℕ) (acks : List AckMark) → NeverFall from acks to → from ≤ to
first_before from to [] fall = fall
first_before from to (a ∷ acks) fall = omega (arith, fall.0, first_before a.at to acks fall.1)

each_before : (from to : ℕ) (acks : List AckMark) → NeverFall from acks to → AllByRecursion (λ (a : AckMark). a.at ≤ to) acks
each_before from to [] fall = tt
each_before from to (a ∷ acks) fall = (first_before a.at to acks fall.1, each_before a.at to acks fall.1)

never_later : (from to to' : ℕ) (acks : List AckMark) → NeverFall from acks to → to ≤ to' → NeverFall from acks to'
never_later from to to' [] fall later = omega (arith, fall, later)
never_later from to to' (a ∷ acks) fall later = (fall.0, never_later a.at to to' acks fall.1 later)

never_more : (from to to' epoch : ℕ) (acks : List AckMark) → NeverFall from acks to → to ≤ to' → NeverFall from (acks ++ record { epoch = epoch; at = to' } ∷ []) to'
never_more from to to' epoch [] fall later = (omega (arith, fall, later), omega arith)
never_more from to to' epoch (a ∷ acks) fall later = (fall.0, never_more a.at to to' epoch acks fall.1 later)

pub acks_longer : (run : RunSoFar) (more : List Mark) (at : ℕ) (acks : List AckMark) (before after : DiskView) → filter_map acked_epoch more ≡ [] → AreAcks run at acks before after → AreAcks (longer run more) at acks before after
acks_longer run more at acks before after none are = record {
  epochs = are.epochs ∙ sym (filter_map-append acked_epoch run.trace more ∙ ap (λ (l : List ℕ). filter_map acked_epoch run.trace ++ l) none ∙ append-nil (filter_map acked_epoch run.trace));
  opening = are.opening;
  moments = are.moments;
}

pub acks_later : (run : RunSoFar) (at : ℕ) (acks : List AckMark) (before after after' : DiskView) → after.moment ≤ after'.moment → AreAcks run at acks before after → AreAcks run at acks before after'
acks_later run at acks before after after' later are = record { epochs = are.epochs; opening = are.opening; moments = never_later at after.moment after'.moment acks are.moments later }

-- an acknowledgement more
pub acks_more : (run : RunSoFar) (epoch at : ℕ) (acks : List AckMark) (before after : DiskView) → AreAcks run at acks before after
    → AreAcks (longer run (Ack epoch ∷ [])) at (acks ++ record { epoch = epoch; at = after.moment } ∷ []) before after
acks_more run epoch at acks before after are = record {
  epochs = map-append (λ (a : AckMark). a.epoch) acks (record { epoch = epoch; at = after.moment } ∷ []) ∙ ap (λ (l : List ℕ). l ++ epoch ∷ []) are.epochs
      ∙ sym (filter_map-append acked_epoch run.trace (Ack epoch ∷ []));
  opening = are.opening;
  moments = never_more at after.moment after.moment epoch acks are.moments (omega arith);
}

-- ---- a commit

module _ (run : RunSoFar) (acks : List AckMark) (before after after' : DiskView) (at : ℕ) (safe : Safe run at acks before after) (are : AreAcks run at acks before after)
    (kept : NewestCheckpoint) (by : IsNewestOfRun run acks kept) (h : Group) (c : IsCommitting run (epoch_after kept) h) (leaves : LeavesOnly after after' (HasNewestOrNext kept h)) where
  opened_before : at ≤ after.moment
  opened_before = first_before at after.moment acks are.moments

  abbrev Held : AckMark → Type 0
  Held a = (image : List ℕ) → after'.left a.at image → AckHeld run acks h a image

  acks_safe : (kept : NewestCheckpoint) → IsNewestOfRun run acks kept → IsCommitting run (epoch_after kept) h → LeavesOnly after after' (HasNewestOrNext kept h) → AllByRecursion Held acks
  acks_safe nothing by c leaves = subst (AllByRecursion Held) (sym by.2) tt
  acks_safe (checkpoint epoch g pages metas slot) by c leaves =
      each_both (λ (a : AckMark). (image : List ℕ) → after.left a.at image → AckHeld run acks h a image) (λ (a : AckMark). (a.epoch ≤ epoch) × (a.at ≤ after.moment)) Held acks
      (λ a old here image left. ⊎_elim (old image) (ack_during run acks h epoch g pages metas slot a image by c here.0) (leaves.before a.at image here.1 left)) safe.acknowledged
      (each_both (λ (a : AckMark). a.epoch ≤ epoch) (λ (a : AckMark). a.at ≤ after.moment) (λ (a : AckMark). (a.epoch ≤ epoch) × (a.at ≤ after.moment)) acks (λ a x y. (x, y)) by.none_above (each_before at after.moment acks are.moments))

  pub safe_during : Safe run at acks before after'
  safe_during = record {
    acknowledged = acks_safe kept by c leaves;
    opened = λ image left. ⊎_elim (safe.opened image) (one_during run acks h kept image by c) (leaves.before at image opened_before left);
    entered = λ t image le left.
        ⊎_elim (safe.entered t image le) (λ here. inr (one_during run acks h kept image by c here)) (leaves.before t image (omega (arith, le, are.opening, opened_before)) left);
  }

pub acks_below : (run : RunSoFar) (acks : List AckMark) (kept : NewestCheckpoint) → IsNewestOfRun run acks kept → AllByRecursion (λ (a : AckMark). a.epoch ≤ epoch_after kept) acks
acks_below run acks nothing by = subst (AllByRecursion (λ (a : AckMark). a.epoch ≤ 1)) (sym by.2) tt
acks_below run acks (checkpoint epoch g pages metas slot) by = each_weaker (λ (a : AckMark). a.epoch ≤ epoch) (λ (a : AckMark). a.epoch ≤ epoch + 1) acks (λ a le. omega (arith, le)) by.none_above

-- the checkpoint that was committed is kept
pub kept_acked : (run : RunSoFar) (epochs : EpochsHaveGroups run.start run.origin_epoch run.limits) (epoch at : ℕ) (acks : List AckMark) (h : Group) → IsCommitting run epoch h → AllByRecursion (λ (a : AckMark). a.epoch ≤ epoch) acks
    → IsLastBarrier (longer run (Ack epoch ∷ [])) (acks ++ record { epoch = epoch; at = at } ∷ []) epoch h
kept_acked run epochs epoch at acks h c below = record {
  group_is = c.group_is;
  fetched = c.fetched;
  last = refl;
  none_above = each_append (λ (a : AckMark). a.epoch ≤ epoch) acks (record { epoch = epoch; at = at } ∷ []) below (omega arith, tt);
}

-- ---- the output

-- the output of the trace up to this position was taken, from the count at the start on
pub record Reached (run : RunSoFar) (before after : SinkView) (to : ℕ) : Type 0 where
  pub first : run.start.frame.out.from ≤ before.count
  pub least : before.count ≤ to
  pub there : to ≤ run.start.frame.out.from + length run.now.output
  pub taken : Takes (output_of run before.count to) before after

module _ (run : RunSoFar) (parts : OutputHasParts run.start run.limits) where
  pub reached_longer : (more : List Mark) (before after : SinkView) (to : ℕ) → Reached run before after to → Reached (longer run more) before after to
  reached_longer more before after to r = record {
    first = r.first;
    least = r.least;
    there = omega (arith, r.there, parts.longer run.now more);
    taken = subst (λ (l : List ℕ). Takes l before after) (sym (parts.stays run.now more before.count to r.there)) r.taken;
  }

  -- of the bytes that follow, up to a further position, the first m were taken too
  pub reached_more : (before after after' : SinkView) (to last m : ℕ) (bytes : List ℕ) → Reached run before after to → to ≤ last → last ≤ run.start.frame.out.from + length run.now.output
      → output_of run to last ≡ bytes → m ≤ length bytes → Takes (take m bytes) after after' → Reached run before after' (to + m)
  reached_more before after after' to last m bytes r up there is le taken =
      let size = parts.size run.now to last (omega (arith, r.first, r.least)) there in
      let within : to + m ≤ last = omega (arith, le, up, ap length is, size) in
      let whole : output_of run before.count to ++ take m bytes ≡ output_of run before.count (to + m) =
      ap (λ (l : List ℕ). output_of run before.count to ++ take m l) (sym is) ∙ parts.joins run.now before.count to last m r.first r.least within in
      record {
        first = r.first;
        least = omega (arith, r.least);
        there = omega (arith, within, there);
        taken = subst (λ (l : List ℕ). Takes l before after') whole (takes_both (output_of run before.count to) (take m bytes) before after after' r.taken taken);
      }

-- what was reached is what a run may have released
pub released : (run : RunSoFar) (before after : SinkView) (to mark : ℕ) → Reached run before after to → mark_of run.now (last_acked run) ≡ Some mark → to ≤ mark → IsReleasedInTime run to → Released run before after
released run before after to mark r is le prompt = record { to = to; mark = mark; mark_is = is; least = r.least; most = le; prompt = prompt; taken = r.taken }
