-- The events of a record, call by call.
use Rattle.std.proofs.Common.{◌≡◌, ◌⊎◌, inl, inr, ℕ, zero, suc, ◌+◌, ◌-◌, ◌<◌, ◌≤◌, Bool, true, false, if◌then◌else◌, Result, Ok, Err, IsOk, is_ok, List, [], ◌∷◌, ◌++◌, length, take, drop, get_or, slice_range, refl, sym, ap, subst, ◌∙◌, arith, length-append, length-drop, length-take}
use Rattle.std.proofs.lemmas.Bool.{cases_lt, false≢true}
use Rattle.std.proofs.lemmas.List.{take_more, drop_at, take-append-le, drop-append-le, get_or_append_left, get_or-append_right, take-append-drop}
use Rattle.dev_traits.specs.declared.mem.record.Call.{Call}
use Rattle.dev_traits.specs.declared.mem.record.Call.TheVariants.{Read, Write, Sync}
use Rattle.dev_traits.specs.Record.{Event, read_call, write_call, sync_call, is_settling, after_event, reading_of, settled_of, pending_of, event_of, events_onto, IsCallWithin, IsRecord, RecordView}

pub onto_push : (written : List ℕ) (older : List Event) (calls : List Call) (call : Call) → events_onto written older (calls ++ call ∷ []) ≡ event_of written call ∷ events_onto written older calls
onto_push written older [] call = refl
onto_push written older (c ∷ calls) call = onto_push written (event_of written c ∷ older) calls call

-- one call more
pub onto_take : (written : List ℕ) (calls : List Call) (i : ℕ) (d : Call) → i < length calls → events_onto written [] (take (i + 1) calls) ≡ event_of written (get_or calls i d) ∷ events_onto written [] (take i calls)
onto_take written calls i d lt = ap (events_onto written []) (take_more calls i d lt) ∙ onto_push written [] (take i calls) (get_or calls i d)

-- some calls, and then some more
pub onto_append : (written : List ℕ) (older : List Event) (calls more : List Call) → events_onto written older (calls ++ more) ≡ events_onto written (events_onto written older calls) more
onto_append written older [] more = refl
onto_append written older (c ∷ calls) more = onto_append written (event_of written c ∷ older) calls more

-- how many there are
pub length-onto : (written : List ℕ) (older : List Event) (calls : List Call) → length (events_onto written older calls) ≡ length calls + length older
length-onto written older [] = omega arith
length-onto written older (c ∷ calls) = omega (arith, length-onto written (event_of written c ∷ older) calls)

-- what stands before the newest calls
pub drop-onto : (written : List ℕ) (older : List Event) (calls : List Call) → drop (length calls) (events_onto written older calls) ≡ older
drop-onto written older [] = refl
drop-onto written older (c ∷ calls) =
    let rest : drop (length calls) (events_onto written (event_of written c ∷ older) calls) ≡ event_of written c ∷ older = drop-onto written (event_of written c ∷ older) calls in
    drop_one (length calls) (events_onto written (event_of written c ∷ older) calls) (event_of written c) older rest
  where
    drop_one : (n : ℕ) (events : List Event) (e : Event) (rest : List Event) → drop n events ≡ e ∷ rest → drop (suc n) events ≡ rest
    drop_one zero [] e rest is = cc
    drop_one zero (x ∷ events) e rest is = cc
    drop_one (suc n) [] e rest is = cc
    drop_one (suc n) (x ∷ events) e rest is = drop_one n events e rest is

-- the first calls
pub onto_first : (written : List ℕ) (calls : List Call) (n : ℕ) → n ≤ length calls → drop (length (events_onto written [] calls) - n) (events_onto written [] calls) ≡ events_onto written [] (take n calls)
onto_first written calls n le =
    let parts : events_onto written [] calls ≡ events_onto written (events_onto written [] (take n calls)) (drop n calls) = ap (events_onto written []) (sym (take-append-drop n calls)) ∙ onto_append written [] (take n calls) (drop n calls) in
    let size : length (events_onto written [] calls) - n ≡ length (drop n calls) = omega (arith, length-onto written [] calls, length-drop n calls) in
    ap (λ (k : ℕ). drop k (events_onto written [] calls)) size
    ∙ ap (λ (l : List Event). drop (length (drop n calls)) l) parts
    ∙ drop-onto written (events_onto written [] (take n calls)) (drop n calls)

-- bytes that are added change no earlier call
piece_same : (written more : List ℕ) (from n : ℕ) → from + n ≤ length written → slice_range (written ++ more) from (from + n) ≡ slice_range written from (from + n)
piece_same written more from n le =
    ap (take (from + n - from)) (drop-append-le from written more (omega arith))
    ∙ take-append-le (from + n - from) (drop from written) more (omega (arith, length-drop from written))

event_same : (size : ℕ) (written more : List ℕ) (call : Call) → IsCallWithin size (length written) call → event_of (written ++ more) call ≡ event_of written call
event_same size written more Read within = refl
event_same size written more (Write place from n done) within = ap (λ (l : List ℕ). write_call place l done) (piece_same written more from n within.1)
event_same size written more (Sync done) within = refl

pub onto_same : (size : ℕ) (written more : List ℕ) (older : List Event) (calls : List Call) → ((k : ℕ) (d : Call) → k < length calls → IsCallWithin size (length written) (get_or calls k d)) → events_onto (written ++ more) older calls ≡ events_onto written older calls
onto_same size written more older [] within = refl
onto_same size written more older (c ∷ calls) within =
    ap (λ (e : Event). events_onto (written ++ more) (e ∷ older) calls) (event_same size written more c (within zero c (omega arith)))
    ∙ onto_same size written more (event_of written c ∷ older) calls (λ k d lt. within (suc k) d (omega arith))

-- and the new call has them
pub new_piece : (written bytes : List ℕ) → slice_range (written ++ bytes) (length written) (length written + length bytes) ≡ bytes
new_piece written bytes =
    ap (take (length written + length bytes - length written)) (drop_at written bytes (length written) refl)
    ∙ ap (λ (k : ℕ). take k bytes) (omega arith)
    ∙ take_full bytes
  where
    take_full : (l : List ℕ) → take (length l) l ≡ l
    take_full [] = refl
    take_full (x ∷ l) = ap (λ (r : List ℕ). x ∷ r) (take_full l)

within_more : (size used more : ℕ) (call : Call) → IsCallWithin size used call → IsCallWithin size (used + more) call
within_more size used more Read within = tt
within_more size used more (Write place from n done) within = (within.0, omega (arith, within.1))
within_more size used more (Sync done) within = tt

abbrev shown : ℕ → ℕ → List Event → RecordView
shown size room events = record { size = size; room = room; events = events }

-- A record with one call more. `more` are the bytes that it adds.
module _ (size room : ℕ) (calls calls' : List Call) (written written' more : List ℕ) (call : Call) (call_room byte_room call_room' byte_room' : ℕ)
    (is : IsRecord size room calls written call_room byte_room) (value : RecordView) (shows : shown size room (events_onto written [] calls) ≡ value)
    (free : length value.events < value.room) where
  pub free_calls : length calls < room
  free_calls =
      let e : length (events_onto written [] calls) < room = subst (λ (v : RecordView). length v.events < v.room) (sym shows) free in
      omega (arith, length-onto written [] calls, e)

  module _ (pushed : calls' ≡ calls ++ call ∷ []) (extended : written' ≡ written ++ more) where
    each : (k : ℕ) (d : Call) → IsCallWithin size (length written + length more) call → k ≤ length calls → (k < length calls) ⊎ (length calls ≤ k) → IsCallWithin size (length written + length more) (get_or (calls ++ call ∷ []) k d)
    each k d here le (inl lt) =
        subst (λ (c : Call). IsCallWithin size (length written + length more) c) (sym (get_or_append_left calls (call ∷ []) d k lt)) (within_more size (length written) (length more) (get_or calls k d) (is.within k d lt))
    each k d here le (inr ge) =
        let at : k - length calls ≡ 0 = omega arith in
        subst (λ (c : Call). IsCallWithin size (length written + length more) c) (sym (get_or-append_right calls (call ∷ []) (length calls) k d refl ge ∙ ap (λ (j : ℕ). get_or (call ∷ []) j d) at)) here

    pub keeps : length more ≤ 4096 → IsCallWithin size (length written + length more) call → call_room ≤ call_room' → byte_room ≤ byte_room' → IsRecord size room calls' written' call_room' byte_room'
    keeps few here le_calls le_bytes =
        let n : length calls' ≡ length calls + 1 = omega (arith, ap length pushed, length-append calls (call ∷ [])) in
        let m : length written' ≡ length written + length more = ap length extended ∙ length-append written more in
        let lt = free_calls in
        record {
          few = omega (arith, n, lt);
          short = omega (arith, n, m, is.short, few);
          room_for_calls = omega (arith, is.room_for_calls, le_calls);
          room_for_bytes = omega (arith, is.room_for_bytes, le_bytes);
          within = λ k d k_lt.
              subst (λ (used : ℕ). IsCallWithin size used (get_or calls' k d)) (sym m)
              (subst (λ (l : List Call). IsCallWithin size (length written + length more) (get_or l k d)) (sym pushed) (each k d here (omega (arith, n, k_lt)) (cases_lt k (length calls))));
        }

    pub shows_more : (event : Event) → event_of (written ++ more) call ≡ event → shown size room (events_onto written' [] calls') ≡ shown value.size value.room (event ∷ value.events)
    shows_more event means =
        let events : events_onto written' [] calls' ≡ event ∷ events_onto written [] calls =
        ap (λ (w : List ℕ). events_onto w [] calls') extended
        ∙ ap (events_onto (written ++ more) []) pushed
        ∙ onto_push (written ++ more) [] calls call
        ∙ ap (λ (e : Event). e ∷ events_onto (written ++ more) [] calls) means
        ∙ ap (λ (l : List Event). event ∷ l) (onto_same size written more [] calls is.within) in
        let P : RecordView → Type 0 = λ v. shown size room (events_onto written' [] calls') ≡ shown v.size v.room (event ∷ v.events) in
        subst P shows (ap (shown size room) events)

-- what a push or an extension that answered Ok made
pub made : {X E : Type 0} (r : Result (Unit {0}) E) (a b new : List X) → IsOk r → new ≡ (if is_ok r then a else b) → new ≡ a
made (Ok x) a b new ok is = is
made (Err e) a b new ok is = absurd (false≢true ok)

-- the call up to which all is settled
settling_reads : (e : Event) (bytes : List ℕ) → is_settling e ≡ true → after_event e bytes ≡ bytes
settling_reads read_call bytes is = refl
settling_reads (write_call place written done) bytes is = absurd (false≢true is)
settling_reads (sync_call done) bytes is = refl

module _ (written : List ℕ) (calls : List Call) (i : ℕ) (d : Call) (lt : i < length calls) where
  newest : Event
  newest = event_of written (get_or calls i d)

  so_far : List Event
  so_far = events_onto written [] (take i calls)

  drop_all : (l : List Call) (n : ℕ) → length l ≤ n → drop n l ≡ []
  drop_all [] zero le = refl
  drop_all [] (suc n) le = refl
  drop_all (x ∷ l) zero le = absurd (omega arith)
  drop_all (x ∷ l) (suc n) le = drop_all l n (omega arith)

  pub settled_here : (start : List ℕ) → is_settling (event_of written (get_or calls i d)) ≡ true → settled_of start (events_onto written [] (take (i + 1) calls)) ≡ reading_of start (events_onto written [] (take (i + 1) calls))
  unfolding newest so_far
  settled_here start is =
      let e = onto_take written calls i d lt in
      ap (settled_of start) e
      ∙ ap (λ (b : Bool). if b then reading_of start so_far else settled_of start so_far) is
      ∙ sym (settling_reads newest (reading_of start so_far) is)
      ∙ sym (ap (reading_of start) e)

  pub nothing_pending : is_settling (event_of written (get_or calls i d)) ≡ true → pending_of (events_onto written [] (take (i + 1) calls)) ≡ events_onto written [] (drop (i + 1) (take (i + 1) calls))
  unfolding newest so_far
  nothing_pending is =
      ap pending_of (onto_take written calls i d lt)
      ∙ ap (λ (b : Bool). if b then [] else newest ∷ pending_of so_far) is
      ∙ sym (ap (events_onto written []) (drop_all (take (i + 1) calls) (i + 1) (omega (arith, length-take (i + 1) calls))))

  pub settled_before : (start : List ℕ) (synced : ℕ) → is_settling (event_of written (get_or calls i d)) ≡ false
      → settled_of start (events_onto written [] (take i calls)) ≡ reading_of start (events_onto written [] (take synced calls))
      → settled_of start (events_onto written [] (take (i + 1) calls)) ≡ reading_of start (events_onto written [] (take synced calls))
  unfolding newest so_far
  settled_before start synced is before =
      ap (settled_of start) (onto_take written calls i d lt)
      ∙ ap (λ (b : Bool). if b then reading_of start so_far else settled_of start so_far) is
      ∙ before

  pub one_pending : (synced : ℕ) → synced ≤ i → is_settling (event_of written (get_or calls i d)) ≡ false
      → pending_of (events_onto written [] (take i calls)) ≡ events_onto written [] (drop synced (take i calls))
      → pending_of (events_onto written [] (take (i + 1) calls)) ≡ events_onto written [] (drop synced (take (i + 1) calls))
  unfolding newest so_far
  one_pending synced le is before =
      ap pending_of (onto_take written calls i d lt)
      ∙ ap (λ (b : Bool). if b then [] else newest ∷ pending_of so_far) is
      ∙ ap (λ (l : List Event). newest ∷ l) before
      ∙ sym (onto_push written [] (drop synced (take i calls)) (get_or calls i d))
      ∙ sym (ap (events_onto written []) (ap (drop synced) (take_more calls i d lt) ∙ drop-append-le synced (take i calls) (get_or calls i d ∷ []) (omega (arith, length-take i calls))))
