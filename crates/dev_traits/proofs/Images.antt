-- The image that a stop within a call leaves, and that it is one of those allowed.
use Rattle.std.proofs.Common.{◌≡◌, ◌⊎◌, inl, inr, ⊎_elim, ℕ, zero, suc, ◌+◌, ◌-◌, ◌*◌, ◌<◌, ◌≤◌, true, false, List, [], ◌∷◌, length, drop, replicate, get_or, slice_range, refl, sym, ◌∙◌, subst, arith, length-take}
use Rattle.std.proofs.lemmas.List.{length-replicate, drop-drop}
use Rattle.lists.specs.Bytes.{put, SameOutside, same_itself, put_same, length-put, AreBytes}
use Rattle.dev_traits.specs.declared.mem.record.Call.{Call}
use Rattle.dev_traits.specs.declared.mem.record.Call.TheVariants.{Read, Write, Sync}
use Rattle.dev_traits.specs.declared.mem.record.Fill.{Fill}
use Rattle.dev_traits.specs.declared.mem.record.Fill.TheVariants.{Old, New, Byte}
use Rattle.dev_traits.specs.Record.{Event, read_call, write_call, sync_call, reading_of, settled_of, pending_of, ranges_of, IsStopOf, HadLeft, LeftSince, fill_put, filled, within_call, image_in, events_onto, IsCallWithin}
use Rattle.dev_traits.specs.RecordLaws.{more_ranges, fewer_since}
use Rattle.dev_traits.proofs.Stops.{same_first}

-- each write lies in the disk
abbrev pub AllFit : ℕ → List Event → Type 0
AllFit size [] = Unit {0}
AllFit size (read_call ∷ older) = AllFit size older
AllFit size (write_call place bytes done ∷ older) = (place + length bytes ≤ size) × AllFit size older
AllFit size (sync_call done ∷ older) = AllFit size older

pub onto_fits : (size : ℕ) (written : List ℕ) (older : List Event) (calls : List Call) → AllFit size older → ((k : ℕ) (d : Call) → k < length calls → IsCallWithin size (length written) (get_or calls k d)) → AllFit size (events_onto written older calls)
onto_fits size written older [] fit within = fit
onto_fits size written older (Read ∷ calls) fit within = onto_fits size written (read_call ∷ older) calls fit (λ k d lt. within (suc k) d (omega arith))
onto_fits size written older (Write place from n done ∷ calls) fit within =
    let here = within zero Read (omega arith) in
    let short : length (slice_range written from (from + n)) ≤ n = omega (arith, length-take (from + n - from) (drop from written)) in
    onto_fits size written (write_call place (slice_range written from (from + n)) done ∷ older) calls (omega (arith, here.0, short), fit) (λ k d lt. within (suc k) d (omega arith))
onto_fits size written older (Sync done ∷ calls) fit within = onto_fits size written (sync_call done ∷ older) calls fit (λ k d lt. within (suc k) d (omega arith))

rest_fits : (size : ℕ) (e : Event) (older : List Event) → AllFit size (e ∷ older) → AllFit size older
rest_fits size read_call older fit = fit
rest_fits size (write_call place bytes done) older fit = fit.1
rest_fits size (sync_call done) older fit = fit

pub drop_fits : (size n : ℕ) (events : List Event) → AllFit size events → AllFit size (drop n events)
drop_fits size zero events fit = fit
drop_fits size (suc n) [] fit = fit
drop_fits size (suc n) (e ∷ older) fit = drop_fits size n older (rest_fits size e older fit)

pending_fits : (size : ℕ) (events : List Event) → AllFit size events → AllFit size (pending_of events)
pending_fits size [] fit = fit
pending_fits size (read_call ∷ older) fit = pending_fits size older fit
pending_fits size (write_call place bytes done ∷ older) fit = (fit.0, pending_fits size older fit.1)
pending_fits size (sync_call true ∷ older) fit = tt
pending_fits size (sync_call false ∷ older) fit = pending_fits size older fit

reading_size : (start : List ℕ) (events : List Event) → AllFit (length start) events → length (reading_of start events) ≡ length start
reading_size start [] fit = refl
reading_size start (read_call ∷ older) fit = reading_size start older fit
reading_size start (write_call place bytes true ∷ older) fit =
    let before = reading_size start older fit.1 in
    length-put (reading_of start older) place bytes (omega (arith, fit.0, before)) ∙ before
reading_size start (write_call place bytes false ∷ older) fit = reading_size start older fit.1
reading_size start (sync_call done ∷ older) fit = reading_size start older fit

settled_size : (start : List ℕ) (events : List Event) → AllFit (length start) events → length (settled_of start events) ≡ length start
settled_size start [] fit = refl
settled_size start (read_call ∷ older) fit = settled_size start older fit
settled_size start (write_call place bytes done ∷ older) fit = settled_size start older fit.1
settled_size start (sync_call true ∷ older) fit = reading_size start older fit
settled_size start (sync_call false ∷ older) fit = settled_size start older fit

fill_same : (fill : Fill) (place : ℕ) (bytes image : List ℕ) → place + length bytes ≤ length image → SameOutside ((place, length bytes) ∷ []) image (fill_put fill place bytes image)
fill_same Old place bytes image fits = same_itself ((place, length bytes) ∷ []) image
fill_same New place bytes image fits = put_same image place bytes fits
fill_same (Byte b) place bytes image fits =
    let n = length-replicate (length bytes) b in
    subst (λ (k : ℕ). SameOutside ((place, k) ∷ []) image (put image place (replicate (length bytes) b))) n (put_same image place (replicate (length bytes) b) (omega (arith, n, fits)))

filled_same : (fill : Fill) (settled : List ℕ) (events : List Event) → AllFit (length settled) events → SameOutside (ranges_of events) settled (filled fill settled events)
filled_same fill settled [] fit = same_itself [] settled
filled_same fill settled (read_call ∷ older) fit = filled_same fill settled older fit
filled_same fill settled (write_call place bytes done ∷ older) fit =
    let before = filled_same fill settled older fit.1 in
    same_first (place, length bytes) (ranges_of older) settled (filled fill settled older) (fill_put fill place bytes (filled fill settled older)) before (fill_same fill place bytes (filled fill settled older) (omega (arith, fit.0, before.size)))
filled_same fill settled (sync_call done ∷ older) fit = filled_same fill settled older fit

within_fits : (size : ℕ) (events : List Event) → AllFit size events → AllFit size (within_call events)
within_fits size [] fit = fit
within_fits size (read_call ∷ older) fit = fit
within_fits size (write_call place bytes done ∷ older) fit = fit
within_fits size (sync_call done ∷ older) fit = fit

pub image_same : (fill : Fill) (start : List ℕ) (events : List Event) → AllFit (length start) events → IsStopOf start [] (within_call events) (image_in fill start events)
image_same fill start events fit =
    let within = within_fits (length start) events fit in
    filled_same fill (settled_of start (within_call events)) (pending_of (within_call events))
    (subst (λ (n : ℕ). AllFit n (pending_of (within_call events))) (sym (settled_size start (within_call events) within)) (pending_fits (length start) (within_call events) within))

pub image_size : (fill : Fill) (start : List ℕ) (events : List Event) → AllFit (length start) events → length (image_in fill start events) ≡ length start
image_size fill start events fit = (image_same fill start events fit).size ∙ settled_size start (within_call events) (within_fits (length start) events fit)

-- an earlier stop is one of those that were left
module _ (blocks : ℕ) (start : List ℕ) (lost : List (ℕ × ℕ)) (image : List ℕ) where
  was_left : (n : ℕ) (events : List Event) → n ≤ length events → IsStopOf start [] (drop n events) image → IsStopOf start [] events image ⊎ HadLeft start events (length events - n) image
  was_left zero events le here = inl here
  was_left (suc n) [] le here = absurd (omega arith)
  was_left (suc n) (e ∷ older) le here =
      let t : length (e ∷ older) - suc n ≡ length older - n = omega arith in
      let before = was_left n older (omega (arith, le)) here in
      inr (omega arith, ⊎_elim (λ now. inl now) (λ had. inr (subst (λ (k : ℕ). HadLeft start older k image) (sym t) had)) before)

  since_there : (n t : ℕ) (events : List Event) → n ≤ length events → t ≤ length events - n → (length image ≡ 4096 * blocks) × AreBytes image → IsStopOf start [] (drop n events) image → LeftSince blocks start lost events t image
  since_there n t events le early whole here =
      fewer_since blocks start lost events t (length events - n) image early
      (whole, ⊎_elim (λ now. inl (more_ranges lost (ranges_of (pending_of events)) (settled_of start events) image now)) (λ had. inr had) (was_left n events le here))

  drop_step : (n : ℕ) (events : List Event) → drop 1 (drop n events) ≡ drop (n + 1) events
  drop_step n events = drop-drop 1 n events

  within_cases : (events : List Event) → (within_call events ≡ events) ⊎ (within_call events ≡ drop 1 events)
  within_cases [] = inl refl
  within_cases (read_call ∷ older) = inr refl
  within_cases (write_call place bytes done ∷ older) = inl refl
  within_cases (sync_call done ∷ older) = inr refl

  pub left_within : (events : List Event) (call : ℕ) → 1 ≤ call → call ≤ length events → (length image ≡ 4096 * blocks) × AreBytes image → IsStopOf start [] (within_call (drop (length events - call) events)) image → LeftSince blocks start lost events (call - 1) image
  left_within events call some le whole here = elim (within_cases (drop (length events - call) events)) [
    | inl same ↦ since_there (length events - call) (call - 1) events (omega arith) (omega arith) whole (subst (λ (l : List Event). IsStopOf start [] l image) same here)
    | inr one ↦ since_there (length events - call + 1) (call - 1) events (omega arith) (omega arith) whole (subst (λ (l : List Event). IsStopOf start [] l image) (one ∙ drop_step (length events - call) events) here)
  ]
