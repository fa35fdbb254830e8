-- The write calls of commits, and what whole commits make of a disk.
use Rattle.std.proofs.Common.{◌≡◌, inl, inr, ℕ, zero, suc, ◌+◌, ◌≤◌, Bool, true, false, List, [], ◌∷◌, ◌++◌, map, length, Option, Some, None, refl, sym, ap, ◌∙◌, subst, arith, append-nil, append_assoc}
use Rattle.std.specs.List.{filter_map, sum_by}
use Rattle.std.specs.Option.{option_map}
use Rattle.std.proofs.lemmas.List.{map-append}
use Rattle.std.proofs.lemmas.List.Elements.{filter_map-append}
use Rattle.std.proofs.lemmas.List.Sums.{fold-append, sum_by-append, sum_by-cons}
use Rattle.dev_traits.specs.Commits.{Commit, nothing_written}
use Rattle.dev_traits.specs.Disk.{DiskView, OnlyReading}
use Rattle.group_defs.specs.Group.{Group}
use Rattle.run_defs.specs.Progress.{IsGroupOf, group_of_epoch}
use Rattle.run_defs.specs.declared.run.AckMark.{AckMark}
use Rattle.run_defs.specs.declared.run.Mark.{Mark}
use Rattle.run_defs.specs.declared.run.Mark.TheVariants.{Barrier, Fetch}
use Rattle.run_laws.specs.EpochGroups.{EpochsHaveGroups}
use Rattle.ckpt_records.specs.Cost.{calls_for, cost_of}
use Rattle.commit_gate.specs.CallLaws.{calls_then}
use Rattle.commit_gate.specs.Whole.{AddsCommit, AddsNone, Reads, UpTo, calls_more, closing, write_calls}
use Rattle.commit_gate.specs.declared.whole.Block.{Block}
use Rattle.sls_core.specs.Answers.{calls_of_epoch, fetched_epoch, writes_allowed}
use Rattle.sls_core.specs.Committed.{AreCommitsOf, IsCommitOf, IsOnlyCommitted, TellsAcknowledged, TellsFirst, TellsMore, WholeCommit, calls_of, image_after, images_after, told_commit}
use Rattle.sls_core.specs.Safe.{HasNoneBegun, RunSoFar}
use Rattle.solo_engine.proofs.SafeSoFar.{longer}

-- ---- the calls of one commit

calls_within : (calls count : ℕ) → calls_more calls count ≤ count + calls
unfolding calls_more
calls_within zero count = omega arith
calls_within (suc calls) count = omega (arith, calls_within calls count)

one_closing : (close : Bool) → closing close ≤ 1
one_closing true = omega arith
one_closing false = omega arith

-- a commit whose blocks are those of a group
pub committed_calls : (g : Group) (close : Bool) (blocks : List Block) (before after : ℕ) → length blocks ≤ cost_of g → after ≡ calls_more (write_calls close blocks) before → after ≤ before + calls_for g
committed_calls g close blocks before after size is = omega (arith, size, is, calls_within (write_calls close blocks) before, one_closing close)

pub failed_calls : (g : Group) (close : Bool) (blocks : List Block) (before after : ℕ) → length blocks ≤ cost_of g → UpTo (write_calls close blocks) before after → after ≤ before + calls_for g
failed_calls g close blocks before after size up = omega (arith, size, up.1, up.2, calls_within up.0 before, one_closing close)

-- ---- the calls that a trace allows

abbrev calls_in : Option Group → ℕ
calls_in o = elim o [ None ↦ 0 | Some g ↦ calls_for g ]

sums_rise : (f g : ℕ → ℕ) (es : List ℕ) → ((e : ℕ) → f e ≤ g e) → sum_by f es ≤ sum_by g es
sums_rise f g [] rise = omega arith
sums_rise f g (e ∷ es) rise = omega (arith, sum_by-cons f e es, sum_by-cons g e es, rise e, sums_rise f g es rise)

module _ (run : RunSoFar) (epochs : EpochsHaveGroups run.start run.origin_epoch run.limits) where
  calls_rise : (more : List Mark) (epoch : ℕ) → calls_of_epoch run epoch ≤ calls_of_epoch (longer run more) epoch
  calls_rise more epoch = by_group (group_of_epoch run.now epoch) refl
    where
      by_group : (o : Option Group) → group_of_epoch run.now epoch ≡ o → calls_of_epoch run epoch ≤ calls_of_epoch (longer run more) epoch
      by_group None is = omega (arith, ap calls_in is)
      by_group (Some h) is = omega (arith, ap calls_in is, ap calls_in (epochs.later run.now more epoch h is))

  sums_more : (more : List Mark) → writes_allowed run + sum_by (calls_of_epoch (longer run more)) (filter_map fetched_epoch more) ≤ writes_allowed (longer run more)
  sums_more more =
      let calls = calls_of_epoch (longer run more) in
      let old = filter_map fetched_epoch run.trace in
      let new = filter_map fetched_epoch more in
      omega (arith, sums_rise (calls_of_epoch run) calls old (calls_rise more), ap (sum_by calls) (filter_map-append fetched_epoch run.trace more), sum_by-append calls old new)

  -- marks more allow no fewer
  pub allowed_longer : (more : List Mark) → writes_allowed run ≤ writes_allowed (longer run more)
  allowed_longer more = omega (arith, sums_more more)

  -- a barrier and its fetch allow those of its group
  pub allowed_fetched : (epoch : ℕ) (h : Group) → IsGroupOf (longer run (Barrier epoch ∷ Fetch epoch ∷ [])).now epoch h → writes_allowed run + calls_for h ≤ writes_allowed (longer run (Barrier epoch ∷ Fetch epoch ∷ []))
  allowed_fetched epoch h is =
      let behind = Barrier epoch ∷ Fetch epoch ∷ [] in
      omega (arith, sums_more behind, sum_by-cons (calls_of_epoch (longer run behind)) epoch [], ap calls_in is)

  -- ---- what whole commits make

  commit_longer : (more : List Mark) (count : ℕ) (reading : Option (List ℕ)) (epoch : ℕ) (c : WholeCommit) → IsCommitOf run count reading epoch c → IsCommitOf (longer run more) count reading epoch c
  commit_longer more count reading epoch c is = record {
    group = is.group;
    group_is = epochs.later run.now more epoch is.group is.group_is;
    pages = is.pages;
    metas = is.metas;
    listed = is.listed;
    metas_are = is.metas_are;
    uses = is.uses;
    one_each = is.one_each;
    once = is.once;
    placed = is.placed;
    few = is.few;
    format = is.format;
    epoch_is = is.epoch_is;
    first_is = is.first_is;
    length_is = is.length_is;
    beside = is.beside;
    closed = is.closed;
    held = is.held;
  }

  commits_longer : (more : List Mark) (count : ℕ) (reading : Option (List ℕ)) (acks : List AckMark) (commits : List WholeCommit) → AreCommitsOf run count reading acks commits → AreCommitsOf (longer run more) count reading acks commits
  commits_longer more count reading [] [] are = tt
  commits_longer more count reading [] (c ∷ commits) are = absurd are
  commits_longer more count reading (a ∷ acks) [] are = absurd are
  commits_longer more count reading (a ∷ acks) (c ∷ commits) are =
      (commit_longer more count reading a.epoch c are.0, commits_longer more count (option_map (λ r. image_after r c) reading) acks commits are.1)

  pub committed_longer : (more : List Mark) (acks : List AckMark) (before after : DiskView) → IsOnlyCommitted run acks before after → IsOnlyCommitted (longer run more) acks before after
  committed_longer more acks before after o = record {
    commits = o.commits;
    each = commits_longer more before.blocks before.reading acks o.commits o.each;
    writes = o.writes;
    reads = o.reads;
    only = o.only;
    told = o.told;
    none_under_way = o.none_under_way;
  }

map_none : (o : Option (List ℕ)) → o ≡ option_map (images_after []) o
map_none None = refl
map_none (Some r) = refl

map_then : (f g h : List ℕ → List ℕ) → ((r : List ℕ) → g (f r) ≡ h r) → (o : Option (List ℕ)) → option_map g (option_map f o) ≡ option_map h o
map_then f g h same None = refl
map_then f g h same (Some r) = ap (λ (x : List ℕ). Some x) (same r)

pub none_committed : (run : RunSoFar) (disk : DiskView) → OnlyReading disk → IsOnlyCommitted run [] disk disk
unfolding calls_more
none_committed run disk only = record {
  commits = [];
  each = tt;
  writes = refl;
  reads = map_none disk.reading;
  only = only;
  told = record { told = λ now. ([], [], refl, sym (append-nil disk.commits.ended), inr refl); untold = λ none. refl };
  none_under_way = λ none. none;
}

-- ---- the commits that a disk tells

told_and_untold : (v : DiskView) → v.commits.now ≡ None → v.commits.now ≡ Some nothing_written → ⊥
told_and_untold v none now = absurd (let both : Some nothing_written ≡ None = sym now ∙ none in cc)

-- those acknowledged, and no other
pub tells_alone : (run : RunSoFar) (acks : List AckMark) (before after : DiskView) → IsOnlyCommitted run acks before after → TellsAcknowledged run acks [] before after
tells_alone run acks before after o = record {
  commits = o.commits;
  each = o.each;
  behind_is = tt;
  told = subst (λ (l : List WholeCommit). TellsMore l before after) (sym (append-nil o.commits)) o.told;
  one = inl refl;
}

-- a commit that failed ended none
tells_none : (commits : List WholeCommit) (before mid after : DiskView) → TellsMore commits before mid → (HasNoneBegun before → HasNoneBegun mid) → AddsNone mid after → TellsMore commits before after
tells_none commits before mid after t quiet none_ended = record {
  told = λ now. by_now (t.told now) (quiet (inr now));
  untold = λ none. none_ended.untold (ap (λ x. x.now) (t.untold none) ∙ none) ∙ t.untold none;
}
  where
    by_now : TellsFirst commits before mid → HasNoneBegun mid → TellsFirst commits before after
    by_now (first, others, all, ended, which) (inl none) =
        let same = none_ended.untold none in
        (first, others, all, ap (λ x. x.ended) same ∙ ended, inl (ap (λ x. x.now) same ∙ none))
    by_now (first, others, all, ended, inl none) (inr now) = absurd (told_and_untold mid none now)
    by_now (first, others, all, ended, inr none) (inr now) = (first, others, all, none_ended.told now ∙ ended, inr none)

pub tells_failed : (run : RunSoFar) (acks : List AckMark) (before mid after : DiskView) → IsOnlyCommitted run acks before mid → AddsNone mid after → TellsAcknowledged run acks [] before after
tells_failed run acks before mid after o none_ended = record {
  commits = o.commits;
  each = o.each;
  behind_is = tt;
  told = subst (λ (l : List WholeCommit). TellsMore l before after) (sym (append-nil o.commits)) (tells_none o.commits before mid after o.told o.none_under_way none_ended);
  one = inl refl;
}

-- ---- one commit more

module _ (run : RunSoFar) (a : AckMark) (c : WholeCommit) where
  one_commit : (count : ℕ) (reading : Option (List ℕ)) (acks : List AckMark) (commits : List WholeCommit) → AreCommitsOf run count reading acks commits → IsCommitOf run count (option_map (images_after commits) reading) a.epoch c
      → AreCommitsOf run count reading (acks ++ a ∷ []) (commits ++ c ∷ [])
  one_commit count reading [] [] are is = (subst (λ (o : Option (List ℕ)). IsCommitOf run count o a.epoch c) (sym (map_none reading)) is, tt)
  one_commit count reading [] (d ∷ commits) are is = absurd are
  one_commit count reading (b ∷ acks) [] are is = absurd are
  one_commit count reading (b ∷ acks) (d ∷ commits) are is = (
    are.0,
    one_commit count (option_map (λ r. image_after r d) reading) acks commits are.1
        (subst (λ (o : Option (List ℕ)). IsCommitOf run count o a.epoch c) (sym (map_then (λ r. image_after r d) (images_after commits) (images_after (d ∷ commits)) (λ r. refl) reading)) is),
  )

  none_after : (mid after : DiskView) → AddsCommit c.blocks c.body mid after → HasNoneBegun mid → HasNoneBegun after
  none_after mid after adds (inl none) = inl (ap (λ x. x.now) (adds.untold none) ∙ none)
  none_after mid after adds (inr now) = elim (adds.told now) [ inl one ↦ inr (ap (λ x. x.now) one) | inr less ↦ inl (ap (λ x. x.now) less) ]

  tells_one : (commits : List WholeCommit) (before mid after : DiskView) → TellsMore commits before mid → (HasNoneBegun before → HasNoneBegun mid) → AddsCommit c.blocks c.body mid after → TellsMore (commits ++ c ∷ []) before after
  tells_one commits before mid after t quiet adds = record {
    told = λ now. by_now (t.told now) (quiet (inr now));
    untold = λ none. adds.untold (ap (λ x. x.now) (t.untold none) ∙ none) ∙ t.untold none;
  }
    where
      by_now : TellsFirst commits before mid → HasNoneBegun mid → TellsFirst (commits ++ c ∷ []) before after
      by_now (first, others, all, ended, which) (inl none) =
          let same = adds.untold none in
          (first, others ++ c ∷ [], ap (λ (l : List WholeCommit). l ++ c ∷ []) all ∙ append_assoc first others (c ∷ []), ap (λ x. x.ended) same ∙ ended, inl (ap (λ x. x.now) same ∙ none))
      by_now (first, others, all, ended, inl none) (inr now) = absurd (told_and_untold mid none now)
      by_now (first, others, all, ended, inr none) (inr now) =
          let whole : commits ≡ first = all ∙ ap (λ (l : List WholeCommit). first ++ l) none ∙ append-nil first in
          let held : mid.commits.ended ≡ before.commits.ended ++ map told_commit commits = ended ∙ ap (λ (l : List WholeCommit). before.commits.ended ++ map told_commit l) (sym whole) in
          elim (adds.told now) [
            | inl one ↦ (
              commits ++ c ∷ [],
              [],
              sym (append-nil (commits ++ c ∷ [])),
              ap (λ x. x.ended) one ∙ ap (λ (l : List Commit). l ++ told_commit c ∷ []) held ∙ append_assoc before.commits.ended (map told_commit commits) (told_commit c ∷ [])
                  ∙ ap (λ (l : List Commit). before.commits.ended ++ l) (sym (map-append told_commit commits (c ∷ []))),
              inr refl,
            )
            | inr less ↦ (commits, c ∷ [], refl, ap (λ x. x.ended) less ∙ held, inl (ap (λ x. x.now) less))
          ]

  pub committed_more : (acks : List AckMark) (before mid after : DiskView) → IsOnlyCommitted run acks before mid → IsCommitOf run before.blocks mid.reading a.epoch c → after.writes ≡ calls_more (write_calls c.closes c.blocks) mid.writes
      → Reads (λ r. image_after r c) mid after → OnlyReading after → AddsCommit c.blocks c.body mid after → IsOnlyCommitted run (acks ++ a ∷ []) before after
  committed_more acks before mid after o is writes reads only adds =
      let calls = write_calls c.closes c.blocks in record {
        commits = o.commits ++ c ∷ [];
        each = one_commit before.blocks before.reading acks o.commits o.each (subst (λ (x : Option (List ℕ)). IsCommitOf run before.blocks x a.epoch c) o.reads is);
        writes = writes ∙ ap (calls_more calls) o.writes ∙ calls_then (calls_of o.commits) calls before.writes
            ∙ ap (λ (n : ℕ). calls_more n before.writes) (sym (sum_by-append (λ x. write_calls x.closes x.blocks) o.commits (c ∷ []) ∙ omega (arith, sum_by-cons (λ x. write_calls x.closes x.blocks) c [])));
        reads = reads ∙ ap (option_map (λ r. image_after r c)) o.reads
            ∙ map_then (images_after o.commits) (λ r. image_after r c) (images_after (o.commits ++ c ∷ [])) (λ r. sym (fold-append image_after r o.commits (c ∷ []))) before.reading;
        only = only;
        told = tells_one o.commits before mid after o.told o.none_under_way adds;
        none_under_way = λ none. none_after mid after adds (o.none_under_way none);
      }
