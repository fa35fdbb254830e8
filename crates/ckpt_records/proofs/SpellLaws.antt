-- What is read is spelled so, what is spelled so is read, and what is written is spelled so.
use Rattle.std.proofs.Common.{◌≡◌, ◌⊎◌, inl, inr, ℕ, ◌+◌, ◌^◌, ◌<◌, ◌≤◌, List, [], ◌∷◌, length, Some, None, refl, sym, ap, subst, ◌∙◌, arith}
use Rattle.std.specs.Prelude.{All}
use Rattle.std.specs.List.{AllByRecursion, Any}
use Rattle.std.proofs.lemmas.List.Elements.{All-from_recursion, recursion_from_All}
use Rattle.ckpt_chain.specs.Slot.{IsFormat}
use Rattle.group_defs.specs.Order.{ListsRise}
use Rattle.group_defs.specs.declared.frame.Frame.{Frame}
use Rattle.group_defs.specs.declared.frame.ObjectRec.{ObjectRec}
use Rattle.descriptors.specs.declared.opens.Open.{Open}
use Rattle.descriptors.specs.declared.opens.OpenKind.{OpenKind}
use Rattle.descriptors.specs.declared.opens.OpenKind.TheVariants as kinds
use Rattle.pipes_socks.specs.declared.streams.Message.{Message}
use Rattle.pipes_socks.specs.declared.streams.Pair.{Pair}
use Rattle.ckpt_records.specs.declared.meta.PagePlace.{PagePlace}
use Rattle.ckpt_records.specs.declared.meta.PageRun.{PageRun}
use Rattle.ckpt_records.specs.Fits as fits
use Rattle.ckpt_records.specs.Spelling.{listed_runs, run_record, record_bytes}
use Rattle.ckpt_records.specs.Reading.{record_at}
use Rattle.ckpt_records.specs.Runs.{RunEnds, pages_of_runs}
use Rattle.ckpt_records.specs.Listed.{IsRunPlace, IsRunBefore, RunsValid}
use Rattle.ckpt_records.specs.Spells.{Spells, IsOrderly, IsPagePlace, IsPageBefore, PagesRise}
use Rattle.ckpt_records.proofs.CodecLaws.{IsBytes, some_is}
use Rattle.tables.proofs.Ordered.{IsOrdered, each_weaker, ordered_of_pairs, pairs_of_ordered}
use Rattle.ckpt_records.proofs.PartLaws.{record_takes, record_again, frame_pair}
use Rattle.ckpt_records.proofs.PlaceLaws.{runs_placed, placed_runs, runs_ordered, ordered_runs}
use Rattle.ckpt_records.proofs.RunLaws.{HasPages, listed_cover, listed_some, listed_apart, listed_again}

-- ---- what is spelled is read

read_again : (format : ℕ) (bytes : List ℕ) (blocks : ℕ) (f : Frame) (pages : List PagePlace) → Spells format bytes blocks f pages → record_at format bytes ≡ Some (f, listed_runs format pages)
read_again format bytes blocks f pages s = ap (record_at format) s.spelled ∙ record_again format s.known f (listed_runs format pages) s.fits

pub unspelled : (format : ℕ) (bytes : List ℕ) (blocks : ℕ) (f : Frame) (pages : List PagePlace) → record_at format bytes ≡ None → Spells format bytes blocks f pages → ⊥
unspelled format bytes blocks f pages none s = let e = read_again format bytes blocks f pages s in cc

same_record : (format : ℕ) (bytes : List ℕ) (blocks : ℕ) (g f : Frame) (runs : List PageRun) (pages : List PagePlace) → record_at format bytes ≡ Some (g, runs) → Spells format bytes blocks f pages → (g ≡ f) × (runs ≡ listed_runs format pages)
same_record format bytes blocks g f runs pages found s =
    let both = some_is (frame_pair g runs) (frame_pair f (listed_runs format pages)) (sym found ∙ read_again format bytes blocks f pages s) in
    (ap (λ (x : Frame × List PageRun). x.0) both, ap (λ (x : Frame × List PageRun). x.1) both)

pub same_pages : (format : ℕ) (bytes : List ℕ) (blocks : ℕ) (g f : Frame) (runs : List PageRun) (pages : List PagePlace) → record_at format bytes ≡ Some (g, runs) → Spells format bytes blocks f pages → (g ≡ f) × (pages_of_runs runs ≡ pages)
same_pages format bytes blocks g f runs pages found s =
    let same = same_record format bytes blocks g f runs pages found s in
    (same.0, ap pages_of_runs same.1 ∙ listed_cover format s.known pages)

-- ---- the runs that are listed

listed_of : (format : ℕ) (bytes : List ℕ) (blocks : ℕ) (f : Frame) (pages : List PagePlace) → Spells format bytes blocks f pages → RunsValid format blocks f.objects (listed_runs format pages)
unfolding PagesRise
listed_of format bytes blocks f pages s =
    let some = listed_some format s.known pages in
    let cover = sym (listed_cover format s.known pages) in
    let rising : IsOrdered IsPageBefore pages = ordered_of_pairs IsPageBefore pages s.orderly.rising in
    let placed : AllByRecursion (IsPagePlace f blocks) pages = recursion_from_All (IsPagePlace f blocks) pages s.orderly.placed in
    record {
      rising = pairs_of_ordered IsRunBefore (listed_runs format pages) (ordered_runs (listed_runs format pages) some (subst (IsOrdered IsPageBefore) cover rising));
      placed = placed_runs f blocks (listed_runs format pages) some (subst (AllByRecursion (IsPagePlace f blocks)) cover placed);
      apart = listed_apart format pages;
    }

pub not_listed : (format : ℕ) (bytes : List ℕ) (blocks : ℕ) (g f : Frame) (runs : List PageRun) (pages : List PagePlace) → record_at format bytes ≡ Some (g, runs) → (ListsRise g → RunsValid format blocks g.objects runs → ⊥) → Spells format bytes blocks f pages → ⊥
not_listed format bytes blocks g f runs pages found never s =
    let same = same_record format bytes blocks g f runs pages found s in
    never (subst ListsRise (sym same.0) s.orderly.lists) (subst (λ (h : Frame). RunsValid format blocks h.objects runs) (sym same.0) (subst (RunsValid format blocks f.objects) (sym same.1) (listed_of format bytes blocks f pages s)))

has_pages : (objects : List ObjectRec) (blocks : ℕ) (runs : List PageRun) → AllByRecursion (IsRunPlace objects blocks) runs → AllByRecursion HasPages runs
has_pages objects blocks runs each = each_weaker (IsRunPlace objects blocks) HasPages runs (λ r h. h.0) each

pub found_record : (format : ℕ) (bytes : List ℕ) (blocks : ℕ) (f : Frame) (runs : List PageRun) → IsFormat format → IsBytes bytes → record_at format bytes ≡ Some (f, runs) → ListsRise f → RunsValid format blocks f.objects runs → Spells format bytes blocks f (pages_of_runs runs)
unfolding PagesRise
found_record format bytes blocks f runs known ok found lists listed =
    let t = record_takes format known bytes (f, runs) ok found in
    let ones : AllByRecursion (λ r. format ≡ 1 → r.count ≡ 1) runs = each_weaker (fits.RunFits format) (λ r. format ≡ 1 → r.count ≡ 1) runs (λ r h. h.1.1.0.1) t.1.1.1.1.1.1.1.1.1.1 in
    let again = sym (listed_again format known runs ones (has_pages f.objects blocks runs listed.placed) listed.apart) in
    record {
      known = known;
      spelled = t.0 ∙ ap (run_record format f) again;
      fits = subst (fits.RunRecordFits format f) again t.1;
      orderly = record {
        lists = lists;
        rising = pairs_of_ordered IsPageBefore (pages_of_runs runs) (runs_ordered runs (ordered_of_pairs IsRunBefore runs listed.rising));
        placed = All-from_recursion (IsPagePlace f blocks) (pages_of_runs runs) (runs_placed f blocks runs listed.placed);
      };
    }

-- the ends of runs are numbers of 64 bits
run_ends : (objects : List ObjectRec) (blocks : ℕ) (r : PageRun) → blocks < 2 ^ 64 → All fits.ObjectInRange objects → IsRunPlace objects blocks r → RunEnds r
run_ends objects blocks r small range h =
    let (i, o, lt, is, own) = h.3 in
    let object : fits.ObjectInRange o = subst fits.ObjectInRange is (range i o lt) in
    (omega (arith, own.1, object.1), omega (arith, h.2, small))

pub ends_fit : (format : ℕ) (bytes : List ℕ) (blocks : ℕ) (f : Frame) (runs : List PageRun) → IsFormat format → IsBytes bytes → record_at format bytes ≡ Some (f, runs) → blocks < 2 ^ 64 → RunsValid format blocks f.objects runs → AllByRecursion RunEnds runs
ends_fit format bytes blocks f runs known ok found small listed =
    let t = record_takes format known bytes (f, runs) ok found in
    each_weaker (IsRunPlace f.objects blocks) RunEnds runs (λ r h. run_ends f.objects blocks r small (All-from_recursion fits.ObjectInRange f.objects t.1.1.1.0.1) h) listed.placed

-- ---- what is written

kind_fits : (k : OpenKind) → fits.KindRange k → fits.HasEnd k → fits.KindFits k
kind_fits kinds.Nothing range one = tt
kind_fits kinds.Outside range one = tt
kind_fits (kinds.File t) range one = range
kind_fits (kinds.PipeRead t) range one = range
kind_fits (kinds.PipeWrite t) range one = range
kind_fits (kinds.PairEnd t e) range one = (range.0, one)

open_fits : (os : List Open) → AllByRecursion fits.OpenRange os → AllByRecursion (λ o. fits.HasEnd o.kind) os → AllByRecursion fits.OpenFits os
open_fits [] range ends = tt
open_fits (o ∷ os) range ends = ((range.0.0, (kind_fits o.kind range.0.1.0 ends.0, range.0.1.1)), open_fits os range.1 ends.1)

no_first : {A : Type 0} (format : ℕ) → format ≡ 2 → format ≡ 1 → A
no_first format second first = absurd (omega (arith, second, first))

messages_fit : (ms : List Message) → fits.ListFits fits.MessageInRange ms → fits.ListFits (fits.MessageFits 2) ms
messages_fit ms range = (range.0, each_weaker fits.MessageInRange (fits.MessageFits 2) ms (λ m h. (h.0, (h.1, no_first 2 refl))) range.1)

pair_fits : (p : Pair) → fits.PairInRange p → fits.PairFits 2 p
pair_fits p range = (range.0, (messages_fit p.to0 range.1.0, messages_fit p.to1 range.1.1))

run_fits : (r : PageRun) → fits.RunInRange r → fits.RunFits 2 r
run_fits r range = (range.0, (range.1.0, ((range.1.1.0, no_first 2 refl), range.1.1.1)))

pub written_record : (bytes : List ℕ) (f : Frame) (pages : List PagePlace) → bytes ≡ record_bytes 2 f pages → fits.RecordRange f (listed_runs 2 pages) → fits.IsInForm f
    → (blocks : ℕ) → IsOrderly blocks f pages → Spells 2 bytes blocks f pages
written_record bytes f pages is range form blocks orderly =
    let mark = form.all_marked in
    let out : fits.OutFits f.out = record { mark = mark; end = omega (arith, mark, range.0.1.0.1.0) } in
    let pairs : fits.ListFits (fits.PairFits 2) f.pairs = (range.1.0.1.0.0, each_weaker fits.PairInRange (fits.PairFits 2) f.pairs pair_fits range.1.0.1.0.1) in
    let opens : fits.ListFits fits.OpenFits f.opens = (range.1.0.1.1.0, open_fits f.opens range.1.0.1.1.1 form.ends) in
    let runs : fits.ListFits (fits.RunFits 2) (listed_runs 2 pages) = (range.1.1.1.0, each_weaker fits.RunInRange (fits.RunFits 2) (listed_runs 2 pages) run_fits range.1.1.1.1) in
    record {
      known = inr refl;
      spelled = is;
      fits = (range.0.0, (out, (range.0.1.1.0, (range.0.1.1.1, (range.1.0.0, (pairs, (opens, (range.1.1.0, runs))))))));
      orderly = orderly;
    }

-- no bytes are the record of two frames or lists
pub spells_once : (format : ℕ) (bytes : List ℕ) (blocks : ℕ) (f g : Frame) (pages others : List PagePlace) → Spells format bytes blocks f pages → Spells format bytes blocks g others → (f ≡ g) × (pages ≡ others)
spells_once format bytes blocks f g pages others s t =
    let same = same_pages format bytes blocks f g (listed_runs format pages) others (read_again format bytes blocks f pages s) t in
    (same.0, sym (listed_cover format s.known pages) ∙ same.1)
