-- What a stop leaves of a disk over its opening.
use Rattle.std.proofs.Common.{◌≡◌, inl, inr, ⊎_elim, ℕ, ◌≤◌, List, refl, ◌∙◌, subst, arith, ◌⊎◌, Option, Some, None, ap, sym}
use Rattle.dev_traits.specs.Commits.{Commits, OpenCommit, ended_by_sync, nothing_written, synced, unchanged, untold}
use Rattle.dev_traits.specs.Disk.{CommitsBy, DiskView, LeftNow, NoMore, Passes}
use Rattle.ckpt_chain.specs.Reads.{OnlyReads}
use Rattle.sls_core.specs.Safe.{HasNoneBegun, IsUnwritten}
use Rattle.aurora_top.specs.Opening.{IsOpenedAt}
use Rattle.aurora_top.specs.Starting.{IsOpened}

-- a later moment allows no image that an earlier one doesn't
abbrev pub FewerLater : DiskView → Type 0
FewerLater v = (t u : ℕ) (image : List ℕ) → t ≤ u → v.left u image → v.left t image

-- ---- no commit is told

-- a sync ends no commit where none has begun
synced_none : (c : Commits) → (c.now ≡ None) ⊎ (c.now ≡ Some nothing_written) → synced c ≡ c
synced_none c none = ⊎_elim (λ is. ap (ended_by_sync c.ended) is ∙ ap made (sym is)) (λ is. ap (ended_by_sync c.ended) is ∙ ap made (sym is)) none
  where
    made : Option OpenCommit → Commits
    made now = record { ended = c.ended; now = now }

pub none_synced : (before after : DiskView) → CommitsBy synced before after → HasNoneBegun before → CommitsBy unchanged before after
none_synced before after (inl is) none = inl (is ∙ synced_none before.commits none)
none_synced before after (inr is) none = inr is

pub unchanged_then : (a b c : DiskView) → CommitsBy unchanged a b → CommitsBy unchanged b c → CommitsBy unchanged a c
unchanged_then a b c (inl x) (inl y) = inl (y ∙ x)
unchanged_then a b c (inl x) (inr y) = inr (y ∙ ap untold x)
unchanged_then a b c (inr x) (inl y) = inr (y ∙ x)
unchanged_then a b c (inr x) (inr y) = inr (y ∙ ap untold x)

pub none_after : (a b : DiskView) → HasNoneBegun a → CommitsBy unchanged a b → HasNoneBegun b
none_after a b none (inl same) = subst (λ (c : Commits). (c.now ≡ None) ⊎ (c.now ≡ Some nothing_written)) (sym same) none
none_after a b none (inr same) = inl (ap (λ (c : Commits). c.now) same)

-- ---- a call that writes nothing

pub unwritten_by : (before after : DiskView) → after.blocks ≡ before.blocks → after.reading ≡ before.reading → after.writes ≡ before.writes
    → before.faults ≤ after.faults → NoMore before after → Passes before after → FewerLater before → (HasNoneBegun before → CommitsBy unchanged before after) → IsUnwritten before after
unwritten_by before after blocks reading writes faults no_more time fewer commits = record {
  blocks = blocks;
  reading = reading;
  writes = writes;
  later = faults;
  left = λ t image le left. ⊎_elim (λ l. l) (λ here. fewer t before.moment image le (no_more image here)) (time.since t image le left);
  commits = commits;
}

pub unwritten_itself : (v : DiskView) → IsUnwritten v v
unwritten_itself v = record { blocks = refl; reading = refl; writes = refl; later = omega arith; left = λ t image le left. left; commits = λ none. inl refl }

-- the opening: a sync that answered Ok, and reads behind it
module _ (before synced after : DiskView) (at : ℕ) (is : IsOpened at before synced) (reads : OnlyReads synced after) where
  pub unwritten_then : FewerLater synced → IsUnwritten before after
  unwritten_then fewer = record {
    blocks = reads.blocks ∙ is.unwritten.blocks;
    reading = reads.reading ∙ is.unwritten.reading;
    writes = reads.writes ∙ is.unwritten.writes;
    later = omega (arith, is.unwritten.later, reads.faults);
    left = λ t image le left.
        let before_synced : t ≤ synced.moment = omega (arith, le, is.time.later) in
        is.unwritten.left t image le
        (⊎_elim (λ l. l) (λ here. fewer t synced.moment image before_synced (reads.no_more image here)) (reads.time.since t image before_synced left));
    commits = λ none. unchanged_then before synced after (is.unwritten.commits none) reads.commits;
  }

  now : (image : List ℕ) → after.left synced.moment image → LeftNow synced image
  now image left = ⊎_elim (λ l. l) (λ here. reads.no_more image here) (reads.time.since synced.moment image (omega arith) left)

  pub opened_law : IsOpenedAt at before after
  opened_law = record {
    not_before = omega (arith, is.at_is, is.time.later);
    not_after = omega (arith, is.at_is, reads.time.later);
    opened = λ r told image left. is.only r (is.unwritten.reading ∙ told) image (now image (subst (λ (t : ℕ). after.left t image) is.at_is left));
    entered = λ r told t image le left.
        ⊎_elim
        (λ earlier. ⊎_elim (λ l. inl l) (λ here. inr (is.only r (is.unwritten.reading ∙ told) image here)) (is.time.since t image le earlier))
        (λ here. inr (is.only r (is.unwritten.reading ∙ told) image (reads.no_more image here)))
        (reads.time.since t image (omega (arith, le, is.time.later)) left);
  }
