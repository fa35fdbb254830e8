-- The start of a run, as the engine has it.
use Rattle.std.proofs.Common.{◌≡◌, inl, inr, ℕ, ◌+◌, ◌-◌, ◌≤◌, ◌∙◌, List, [], ◌++◌, length, take, Option, Some, None, refl, ap, subst, sym, arith, length-drop}
use Rattle.std.specs.Option.{ForSome, option_map}
use Rattle.std.proofs.lemmas.List.{take_all}
use Rattle.dev_traits.specs.Disk.{DiskView, LeftNow, OnlyReading}
use Rattle.dev_traits.specs.Outside.{SinkView, Takes}
use Rattle.dev_traits.specs.SinkLaws.{takes_none}
use Rattle.group_defs.specs.Group.{Group}
use Rattle.group_defs.specs.Output.{last_position}
use Rattle.run_defs.specs.Progress.{group_of_epoch}
use Rattle.run_defs.specs.declared.run.AckMark.{AckMark}
use Rattle.run_defs.specs.declared.run.Limits.{Limits}
use Rattle.run_defs.specs.declared.run.Mark.{Mark}
use Rattle.ckpt_chain.specs.Chain.{Has}
use Rattle.ckpt_chain.specs.Slot.{newest, other}
use Rattle.ckpt_records.specs.Holds.{HoldsAt, IsCheckpointed, block_numbers}
use Rattle.ckpt_records.specs.Newest.{HasNewest, NewestCheckpoint, nothing, checkpoint, epoch_after, target_after, used_by}
use Rattle.ckpt_records.specs.Origin.{IsOrigin, IsOriginOf, IsWithin}
use Rattle.ckpt_records.specs.Parts.{group_of}
use Rattle.ckpt_records.specs.declared.origin.Origin.{Origin}
use Rattle.page_flusher.specs.KeptBlocks.{DescribesOrigin, Describes, DescribesGates}
use Rattle.page_flusher.specs.declared.kept.KeptBlocks.{KeptBlocks}
use Rattle.sls_core.specs.Answers.{IsSoloRun}
use Rattle.sls_core.specs.Safe.{run_of}
use Rattle.sls_core.specs.declared.run.RunAnswer.TheVariants.{NoMemory, SinkFault}
use Rattle.solo_engine.specs.Interval.{IsNewestAtStart, IsStart, ReleasesPart, ReleasesRest, rest_of}
use Rattle.solo_engine.proofs.Intervals.{HasRun, IsQuiet, IsRunAtRest, RunHere, answered_quiet}
use Rattle.solo_engine.proofs.ReleasedInTime.{covered_first, in_time_at_start}
use Rattle.solo_engine.proofs.SafeSoFar.{IsNewestOfRun, Reached, kept_holds, kept_last, reached_more, released}
use Rattle.solo_engine.proofs.WriteLaws.{none_committed, tells_alone}

-- What is known of a disk and of an output when a run begins.
pub record IsBegun (limits : Limits) (start : Group) (origin : ℕ) (disk : DiskView) (out : SinkView) : Type 0 where
  pub starts : IsStart limits start origin
  pub only : OnlyReading disk
  pub kept : NewestCheckpoint
  pub next : epoch_after kept ≡ origin + 1
  pub first : IsNewestAtStart start kept
  pub keeps : ForSome disk.reading (λ r. HasNewest r kept)
  pub least : start.frame.out.from ≤ out.count
  pub most : out.count ≤ last_position start.frame.out

abbrev pub begins : (limits : Limits) (start : Group) (k : KeptBlocks) (disk : DiskView) (out : SinkView) → IsStart limits start k.epoch → OnlyReading disk → (kept : (x : NewestCheckpoint) × Describes k x × IsNewestAtStart start x × ForSome disk.reading (λ r. HasNewest r x))
    → start.frame.out.from ≤ out.count → out.count ≤ last_position start.frame.out → IsBegun limits start k.epoch disk out
begins limits start k disk out s only kept least most = record { starts = s; only = only; kept = kept.0; next = kept.1.epoch; first = kept.2; keeps = kept.3; least = least; most = most }

abbrev pub first_here : Limits → Group → ℕ → DiskView → SinkView → SinkView → RunHere
first_here limits start origin disk out out' = record { run = run_of limits start origin []; acks = []; disk0 = disk; disk = disk; out0 = out; out = out' }

-- nothing is logged yet
pub at_none : (P : List Mark → List AckMark → Type 0) (trace : List Mark) (acks : List AckMark) → (trace ≡ []) × (acks ≡ []) → P [] [] → P trace acks
at_none P trace acks none p = subst (λ (t : List Mark). P t acks) (sym none.0) (subst (λ (a : List AckMark). P [] a) (sym none.1) p)

module _ (limits : Limits) (start : Group) (origin : ℕ) (disk : DiskView) (out : SinkView) (b : IsBegun limits start origin disk out) where
  kept_first : (kept : NewestCheckpoint) → epoch_after kept ≡ origin + 1 → IsNewestAtStart start kept → IsNewestOfRun (run_of limits start origin []) [] kept
  kept_first nothing next first = let same : 1 ≡ origin + 1 = next in let zero : origin ≡ 0 = omega (arith, same) in (zero, zero, refl)
  kept_first (checkpoint e h pages metas slot) next first =
      let same : e + 1 ≡ origin + 1 = next in
      let at : e ≡ origin = omega (arith, same) in
      record {
        group_is = ap (λ (n : ℕ). group_of_epoch (run_of limits start origin []).now n) at ∙ b.starts.epochs.first [] ∙ ap (λ (x : Group). Some x) (sym first);
        fetched = omega (arith, at);
        last = sym at;
        none_above = tt;
      }

  kept_is : IsNewestOfRun (run_of limits start origin []) [] b.kept
  kept_is = kept_first b.kept b.next b.first

  keeps_now : (r : List ℕ) → disk.reading ≡ Some r → (image : List ℕ) → LeftNow disk image → HasNewest image b.kept
  keeps_now r told image left = subst (λ (i : List ℕ). HasNewest i b.kept) (sym (b.only r told image left)) (b.keeps r told)

  reaches : last_position start.frame.out ≡ start.frame.out.from + length start.frame.out.bytes
  reaches = b.starts.lets_out.reaches [] (run_of limits start origin []).now b.starts.rests.begin

  reached_none : Reached (run_of limits start origin []) out out out.count
  reached_none = record {
    first = b.least;
    least = omega arith;
    there = omega (arith, b.most, reaches);
    taken = subst (λ (l : List ℕ). Takes l out out) (sym (b.starts.parts.none (run_of limits start origin []).now out.count)) (takes_none out);
  }

  reached_first : (out' : SinkView) (m : ℕ) → m ≤ length (rest_of start.frame.out out) → Takes (take m (rest_of start.frame.out out)) out out' → Reached (run_of limits start origin []) out out' (out.count + m)
  reached_first out' m le taken =
      reached_more (run_of limits start origin []) b.starts.parts out out out' out.count (last_position start.frame.out) m (rest_of start.frame.out out) reached_none b.most
      (omega (arith, reaches)) (b.starts.parts.begun origin [] out.count) le taken

  rest_size : out.count + length (rest_of start.frame.out out) ≡ start.frame.out.mark
  rest_size = omega (arith, b.least, b.most, b.starts.checkpointed.all_marked, length-drop (out.count - start.frame.out.from) start.frame.out.bytes)

  quiet_first : (out' : SinkView) (m : ℕ) → m ≤ length (rest_of start.frame.out out) → Takes (take m (rest_of start.frame.out out)) out out' → IsQuiet (first_here limits start origin disk out out')
  quiet_first out' m le taken = record {
    safe = record {
      blocks = refl;
      writes = omega arith;
      safe = λ r told. record {
        acknowledged = tt;
        opened = λ image left. kept_holds (run_of limits start origin []) [] b.kept image kept_is (keeps_now r told image left);
        entered = λ t image le left. inl left;
      };
      acked = record { epochs = refl; opening = omega arith; moments = omega arith };
      released = released (run_of limits start origin []) out out' (out.count + m) start.frame.out.mark (reached_first out' m le taken) (ap (option_map (λ (x : Group). x.frame.out.mark)) (b.starts.epochs.first [])) (omega (arith, le, rest_size))
          (in_time_at_start limits start origin (out.count + m));
      told = ([], tells_alone (run_of limits start origin []) [] disk disk (none_committed (run_of limits start origin []) disk b.only));
      unfetched = λ none. record { blocks = refl; reading = refl; writes = refl; later = omega arith; left = λ t image le left. left; commits = λ none. inl refl };
    };
    current = λ r told image left. kept_last (run_of limits start origin []) [] b.kept image kept_is (keeps_now r told image left);
    none_given_up = none_committed (run_of limits start origin []) disk b.only;
  }

  -- the output failed at once
  pub unreleased_first : (out' : SinkView) → ReleasesPart start.frame.out out out' → HasRun (first_here limits start origin disk out out') SinkFault
  unreleased_first out' r =
      let q = quiet_first out' r.part.0 (omega (arith, r.part.1)) r.part.2 in
      answered_quiet (first_here limits start origin disk out out') b.starts SinkFault refl b.starts.rests.begin.so_far q r.rose (λ e. absurd e)

  -- want of memory at once
  pub unbegun : HasRun (first_here limits start origin disk out out) NoMemory
  unbegun = let q = quiet_first out 0 (omega arith) (takes_none out) in answered_quiet (first_here limits start origin disk out out) b.starts NoMemory refl b.starts.rests.begin.so_far q tt (λ e. absurd e)

-- it is at rest once the first release is done
pub rests_first : (limits : Limits) (start : Group) (k : KeptBlocks) (disk : DiskView) (out : SinkView) (b : IsBegun limits start k.epoch disk out) → Describes k b.kept → ForSome disk.reading (λ r. DescribesGates k r)
    → (out' : SinkView) → ReleasesRest start.frame.out out out' → IsRunAtRest (first_here limits start k.epoch disk out out') start k 0
rests_first limits start k disk out b knows gates out' r =
    let n = length (rest_of start.frame.out out) in
    let all : Takes (take n (rest_of start.frame.out out)) out out' = subst (λ (l : List ℕ). Takes l out out') (sym (take_all n (rest_of start.frame.out out) (omega arith))) r.taken in
    let q = quiet_first limits start k.epoch disk out b out' n (omega arith) all in
    let far = rest_size limits start k.epoch disk out b in
    record {
      has = record { group = refl; made_is = refl; since_is = refl };
      stands = b.starts.rests.begin;
      last_is = refl;
      fetched_is = refl;
      begins = omega arith;
      checkpointed = b.starts.checkpointed;
      position = omega (arith, b.starts.position);
      epochs = omega (arith, b.starts.epoch);
      within = omega arith;
      safe = q.safe;
      none_given_up = q.none_given_up;
      disk_faults = omega arith;
      out_faults = r.faults;
      gates = gates;
      kept = b.kept;
      knows = knows;
      keeps = b.keeps;
      kept_is = kept_is limits start k.epoch disk out b;
      group_is = b.starts.epochs.first [];
      reached = subst (λ (m : ℕ). Reached (run_of limits start k.epoch []) out out' m) far (reached_first limits start k.epoch disk out b out' n (omega arith) all);
      out_at = omega (arith, r.taken.count, far);
      covered = covered_first limits start k.epoch;
    }

-- ---- what an origin's disk keeps

-- of a kept checkpoint, or of nothing, what the origin's placement says
record IsKeptFor (o : Origin) (reading : Option (List ℕ)) : Type 0 where
  kept : NewestCheckpoint
  next : epoch_after kept ≡ o.epoch + 1
  used : used_by kept ≡ o.placement.metas ++ block_numbers o.placement.pages
  target : target_after kept ≡ other o.placement.slot
  first : IsNewestAtStart (group_of o.parts) kept
  keeps : ForSome reading (λ r. HasNewest r kept)

no_held : (o : Origin) (r : List ℕ) → o.epoch ≡ 0 → IsOriginOf r o → newest r ≡ None
no_held o r zero (inl held) = absurd (omega (arith, zero, held.0))
no_held o r zero (inr none) = none.1

is_held : (o : Origin) (r : List ℕ) → 1 ≤ o.epoch → IsOriginOf r o → HoldsAt r o.epoch (group_of o.parts) o.placement.pages o.placement.metas o.placement.slot
is_held o r some (inl held) = held.1.held
is_held o r some (inr none) = absurd (omega (arith, some, none.0))

kept_for : (count : ℕ) (o : Origin) (reading : Option (List ℕ)) → IsOrigin count o → ForSome reading (λ r. IsOriginOf r o) → IsKeptFor o reading
kept_for count o reading (inl new) of = record {
  kept = nothing;
  next = omega (arith, new.epoch);
  used = sym (ap (λ (l : List ℕ). l ++ block_numbers o.placement.pages) new.no_metas ∙ ap block_numbers new.no_pages);
  target = ap other (sym new.slot);
  first = tt;
  keeps = λ r told. no_held o r new.epoch (of r told);
}
kept_for count o reading (inr sound) of = record {
  kept = checkpoint o.epoch (group_of o.parts) o.placement.pages o.placement.metas o.placement.slot;
  next = refl;
  used = refl;
  target = refl;
  first = refl;
  keeps = λ r told. is_held o r sound.epoch (of r told);
}

pub knows_kept : (count : ℕ) (o : Origin) (reading : Option (List ℕ)) (k : KeptBlocks) (g : Group) → IsOrigin count o → ForSome reading (λ r. IsOriginOf r o) → DescribesOrigin o k → g ≡ group_of o.parts
    → (x : NewestCheckpoint) × Describes k x × IsNewestAtStart g x × ForSome reading (λ r. HasNewest r x)
knows_kept count o reading k g origin of known same =
    let f = kept_for count o reading origin of in
    let lists : k.used ≡ used_by f.kept = known.used ∙ sym f.used in (
      f.kept,
      record {
        epoch = f.next ∙ ap (λ (n : ℕ). n + 1) (sym known.epoch);
        used = λ b. ((λ has. subst (Has b) lists has), (λ has. subst (Has b) (sym lists) has));
        target = f.target ∙ sym known.target;
      },
      subst (λ (x : Group). IsNewestAtStart x f.kept) (sym same) f.first,
      f.keeps,
    )

-- the group of an origin may be a checkpoint's
pub origin_checkpointed : (count : ℕ) (o : Origin) → IsOrigin count o → IsCheckpointed (group_of o.parts)
origin_checkpointed count o (inl new) = new.group
origin_checkpointed count o (inr sound) = sound.group

-- memory ran out before the run began
pub ends_unbegun : (limits : Limits) (count : ℕ) (o : Origin) (disk : DiskView) (out : SinkView) → IsStart limits (group_of o.parts) o.epoch → IsOrigin count o → ForSome disk.reading (λ r. IsOriginOf r o) → IsWithin out o.parts.frame.out → OnlyReading disk
    → IsSoloRun (run_of limits (group_of o.parts) o.epoch []) disk.moment [] disk disk out out NoMemory
ends_unbegun limits count o disk out s origin of within only =
    let f = kept_for count o disk.reading origin of in
    unbegun limits (group_of o.parts) o.epoch disk out (record { starts = s; only = only; kept = f.kept; next = f.next; first = f.first; keeps = f.keeps; least = within.0; most = within.1 })
