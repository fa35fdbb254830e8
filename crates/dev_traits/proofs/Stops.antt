-- What a stop leaves of a disk in memory, call by call.
use Rattle.std.proofs.Common.{◌≡◌, ◌⊎◌, inl, inr, ⊎_elim, ℕ, zero, suc, ◌+◌, ◌-◌, ◌*◌, ◌<◌, ◌≤◌, Bool, true, false, ◌||◌, ◌==◌, Some, List, [], ◌∷◌, ◌++◌, length, take, drop, slice_index, refl, sym, ◌∙◌, ap, subst, arith, length-take, length-drop}
use Rattle.std.proofs.lemmas.Bool.{cases_lt, false≢true, le-leb}
use Rattle.std.proofs.lemmas.List.{get_or-take, get_or-drop}
use Rattle.std.specs.List.{list_any}
use Rattle.lists.specs.Bytes.{SameOutside, IsOutside, put, same_all, length-put, put_below, put_within, put_above, put_same, AreBytes, are_bytes, byte_below}
use Rattle.dev_traits.specs.Disk.{Passes, Torn}
use Rattle.dev_traits.specs.RecordLaws.{one_more_range}
use Rattle.dev_traits.specs.Record.{Event, write_call, sync_call, IsStopOf, LeftSince, reading_of, settled_of, pending_of, ranges_of, told_view, is_refused, RecordView, Notes, NotesWrite}

-- a change in one more range
pub same_first : (x : ℕ × ℕ) (ranges : List (ℕ × ℕ)) (a b c : List ℕ) → SameOutside ranges a b → SameOutside (x ∷ []) b c → SameOutside (x ∷ ranges) a c
same_first x ranges a b c first second = record { size = second.size ∙ first.size; each = λ i out. second.each i (out.0, tt) ∙ first.each i out.1 }

-- bytes put into bytes
pub put_bytes : (old : List ℕ) (place : ℕ) (bytes : List ℕ) → place + length bytes ≤ length old → AreBytes old → AreBytes bytes → AreBytes (put old place bytes)
put_bytes old place bytes fits a b = are_bytes (put old place bytes) (λ i there. at i (cases_lt i place) (cases_lt i (place + length bytes)))
  where
    at : (i : ℕ) → (i < place) ⊎ (place ≤ i) → (i < place + length bytes) ⊎ (place + length bytes ≤ i) → slice_index (put old place bytes) i < 256
    at i (inl lt) far = subst (λ (n : ℕ). n < 256) (sym (put_below old place bytes fits i lt)) (byte_below old a i)
    at i (inr le) (inl lt) =
        let e : place + (i - place) ≡ i = omega arith in
        subst (λ (n : ℕ). n < 256) (sym (subst (λ (k : ℕ). slice_index (put old place bytes) k ≡ slice_index bytes (i - place)) e (put_within old place bytes fits (i - place) (omega arith)))) (byte_below bytes b (i - place))
    at i (inr le) (inr far) = subst (λ (n : ℕ). n < 256) (sym (put_above old place bytes fits i far)) (byte_below old a i)

-- An image with any bytes in one more range, and one without them.
module _ (settled : List ℕ) (ranges : List (ℕ × ℕ)) (place size : ℕ) (fits : place + size ≤ length settled) (bytes : AreBytes settled)
    (image : List ℕ) (image_bytes : AreBytes image) (same : SameOutside ((place, size) ∷ ranges) settled image) where
  middle : List ℕ
  middle = take size (drop place settled)

  length-middle : length middle ≡ size
  unfolding middle
  length-middle = omega (arith, length-take size (drop place settled), length-drop place settled)

  middle_at : (i : ℕ) → i < size → slice_index middle i ≡ slice_index settled (place + i)
  unfolding middle
  middle_at i lt = get_or-take size (drop place settled) i 0 lt ∙ get_or-drop place settled i 0

  middle_bytes : AreBytes middle
  middle_bytes = are_bytes middle (λ i lt. subst (λ (n : ℕ). n < 256) (sym (middle_at i (omega (arith, lt, length-middle)))) (byte_below settled bytes (place + i)))

  -- the image, with the settled bytes in the range
  was : List ℕ
  was = put image place middle

  room : place + length middle ≤ length image
  room = omega (arith, same.size, length-middle, fits)

  in_range : (i : ℕ) → place ≤ i → i < place + size → slice_index was i ≡ slice_index settled i
  unfolding was
  in_range i le lt =
      let at : place + (i - place) ≡ i = omega arith in
      let here = put_within image place middle room (i - place) (omega (arith, length-middle)) ∙ middle_at (i - place) (omega arith) in
      subst (λ (k : ℕ). slice_index (put image place middle) k ≡ slice_index settled k) at here

  out_range : (i : ℕ) → (i < place) ⊎ (place + size ≤ i) → slice_index was i ≡ slice_index image i
  unfolding was
  out_range i (inl lt) = put_below image place middle room i lt
  out_range i (inr le) = put_above image place middle room i (omega (arith, length-middle))

  agrees : (i : ℕ) → IsOutside ranges i → (i < place) ⊎ (place ≤ i) → (i < place + size) ⊎ (place + size ≤ i) → slice_index was i ≡ slice_index settled i
  agrees i out (inl lt) b = out_range i (inl lt) ∙ same.each i (inl lt, out)
  agrees i out (inr le) (inl lt) = in_range i le lt
  agrees i out (inr le) (inr far) = out_range i (inr far) ∙ same.each i (inr far, out)

  length-was : length was ≡ length image
  unfolding was
  length-was = length-put image place middle room

  pub torn : (old : List ℕ) × AreBytes old × SameOutside ranges settled old × SameOutside ((place, size) ∷ []) old image
  unfolding was
  torn = (
    was,
    put_bytes image place middle room image_bytes middle_bytes,
    record { size = length-was ∙ same.size; each = λ i out. agrees i out (cases_lt i place) (cases_lt i (place + size)) },
    record { size = sym length-was; each = λ i out. sym (out_range i out.0) },
  )

module _ (blocks : ℕ) (start : List ℕ) where
  pub now_only : (lost : List (ℕ × ℕ)) (events : List Event) (image : List ℕ) → LeftSince blocks start lost events (length events) image → IsStopOf start lost events image
  now_only lost events image (whole, inl here) = here
  now_only lost [] image (whole, inr had) = absurd had
  now_only lost (e ∷ older) image (whole, inr had) = absurd (omega (arith, had.0))

  module _ (faults writes faults' writes' : ℕ) (bytes bytes' : List ℕ) where
    -- a call that isn't recorded
    pub passes_lost : (more lost : List (ℕ × ℕ)) (events : List Event) → Passes (told_view blocks faults writes start bytes lost events) (told_view blocks faults' writes' start bytes' (more ++ lost) events)
    passes_lost more lost events = record {
      later = omega arith;
      since = λ t image le left. ⊎_elim (λ here. inr (left.0, inl here)) (λ had. inl (left.0, inr had)) left.1;
      kept = λ t image le left. (left.0, ⊎_elim (λ here. inl (weaker image here)) (λ had. inr had) left.1);
    }
      where
        weaker : (image : List ℕ) → IsStopOf start lost events image → IsStopOf start (more ++ lost) events image
        weaker image here = go more
          where
            go : (more : List (ℕ × ℕ)) → SameOutside ((more ++ lost) ++ ranges_of (pending_of events)) (settled_of start events) image
            go [] = here
            go (x ∷ more) = one_more_range x ((more ++ lost) ++ ranges_of (pending_of events)) (settled_of start events) image (go more)

    -- one that is
    pub passes_one : (e : Event) (events : List Event) → Passes (told_view blocks faults writes start bytes [] events) (told_view blocks faults' writes' start bytes' [] (e ∷ events))
    passes_one e events = record {
      later = omega arith;
      since = λ t image le left. ⊎_elim (λ here. inr (left.0, inl here)) (λ had. inl (left.0, had.1)) left.1;
      kept = λ t image le left. (left.0, inr (le, left.1));
    }

    -- what a stop leaves of them
    pub torn_recorded : (place : ℕ) (written : List ℕ) (done : Bool) (events : List Event) → length (settled_of start events) ≡ 4096 * blocks → AreBytes (settled_of start events) → place + length written ≤ 4096 * blocks
        → Torn place (length written) (told_view blocks faults writes start bytes [] events) (told_view blocks faults' writes' start bytes' [] (write_call place written done ∷ events))
    torn_recorded place written done events sized fit within image = (
      λ left.
          let parts = torn (settled_of start events) (ranges_of (pending_of events)) place (length written) (omega (arith, sized, within)) fit image left.0.1 (now_only [] (write_call place written done ∷ events) image left) in
          (parts.0, ((parts.2.size ∙ sized, parts.1), inl parts.2), parts.3, left.0.1),
      λ torn. ((torn.2.size ∙ torn.1.0.0, torn.3), inl (same_first (place, length written) (ranges_of (pending_of events)) (settled_of start events) torn.0 image (now_only [] events torn.0 torn.1) torn.2)),
    )

    pub torn_lost : (place size : ℕ) (lost : List (ℕ × ℕ)) (events : List Event) → length (settled_of start events) ≡ 4096 * blocks → AreBytes (settled_of start events) → place + size ≤ 4096 * blocks
        → Torn place size (told_view blocks faults writes start bytes lost events) (told_view blocks faults' writes' start bytes' ((place, size) ∷ lost) events)
    torn_lost place size lost events sized fit within image = (
      λ left.
          let parts = torn (settled_of start events) (lost ++ ranges_of (pending_of events)) place size (omega (arith, sized, within)) fit image left.0.1 (now_only ((place, size) ∷ lost) events image left) in
          (parts.0, ((parts.2.size ∙ sized, parts.1), inl parts.2), parts.3, left.0.1),
      λ torn. ((torn.2.size ∙ torn.1.0.0, torn.3), inl (same_first (place, size) (lost ++ ranges_of (pending_of events)) (settled_of start events) torn.0 image (now_only lost events torn.0 torn.1) torn.2)),
    )

-- not refused, there is room
pub free_if : (room : ℕ) (failing : List ℕ) (calls : ℕ) → is_refused room failing calls ≡ false → calls < room
free_if room failing calls is = at (cases_lt calls room)
  where
    at : (calls < room) ⊎ (room ≤ calls) → calls < room
    at (inl lt) = lt
    at (inr le) = absurd (false≢true (sym is ∙ ap (λ (b : Bool). b || list_any (λ (k : ℕ). k == calls + 1) failing) (le-leb room calls le)))

-- Over one call, as the record notes it.
module _ (blocks : ℕ) (start : List ℕ) (old new : RecordView) where
  -- a call after which a stop leaves what it left before
  pub noted_no_less : (lost : List (ℕ × ℕ)) (e : Event) → Notes e old new → ((image : List ℕ) → IsStopOf start lost old.events image → IsStopOf start lost (e ∷ old.events) image)
      → (image : List ℕ) → LeftSince blocks start lost old.events (length old.events) image → LeftSince blocks start lost new.events (length new.events) image
  noted_no_less lost e (inl (lt, is)) quiet image left =
      let P : RecordView → Type 0 = λ v. LeftSince blocks start lost v.events (length v.events) image in
      subst P (sym is) (left.0, inl (quiet image (now_only blocks start lost old.events image left)))
  noted_no_less lost e (inr (full, is)) quiet image left =
      let P : RecordView → Type 0 = λ v. LeftSince blocks start lost v.events (length v.events) image in
      subst P (sym is) left

  -- a sync that answers Ok
  pub noted_only : (lost : List (ℕ × ℕ)) (bytes r : List ℕ) → Notes (sync_call true) old new → length old.events < old.room → lost ≡ [] → bytes ≡ reading_of start old.events → Some bytes ≡ Some r
      → (image : List ℕ) → LeftSince blocks start lost new.events (length new.events) image → image ≡ r
  noted_only lost bytes r (inl (lt, is)) free none reads some image left =
      let P : RecordView → Type 0 = λ v. LeftSince blocks start lost v.events (length v.events) image in
      let here = now_only blocks start lost (sync_call true ∷ old.events) image (subst P is left) in
      let e : bytes ≡ r = cc in
      same_all (reading_of start old.events) image (subst (λ (l : List (ℕ × ℕ)). SameOutside (l ++ []) (reading_of start old.events) image) none here) ∙ sym reads ∙ e
  noted_only lost bytes r (inr (full, is)) free none reads some image left = absurd (omega (arith, full, free))

  module _ (place : ℕ) (written : List ℕ) (done : Bool) (lost lost' : List (ℕ × ℕ)) (unlost : length old.events < old.room → lost ≡ []) where
    -- a write
    pub noted_torn : (faults writes faults' writes' : ℕ) (bytes bytes' : List ℕ) → NotesWrite place written done old new lost lost'
        → length (settled_of start old.events) ≡ 4096 * blocks → AreBytes (settled_of start old.events) → place + length written ≤ 4096 * blocks
        → Torn place (length written) (told_view blocks faults writes start bytes lost old.events) (told_view blocks faults' writes' start bytes' lost' new.events)
    noted_torn faults writes faults' writes' bytes bytes' (inl (lt, is, same)) sized fit within =
        let none = unlost lt in
        let P : RecordView → Type 0 = λ v. Torn place (length written) (told_view blocks faults writes start bytes lost old.events) (told_view blocks faults' writes' start bytes' lost' v.events) in
        let Q : List (ℕ × ℕ) → Type 0 = λ l. Torn place (length written) (told_view blocks faults writes start bytes l old.events) (told_view blocks faults' writes' start bytes' l (write_call place written done ∷ old.events)) in
        let R : List (ℕ × ℕ) → Type 0 = λ l. Torn place (length written) (told_view blocks faults writes start bytes lost old.events) (told_view blocks faults' writes' start bytes' l (write_call place written done ∷ old.events)) in
        subst P (sym is) (subst R (sym same) (subst Q (sym none) (torn_recorded blocks start faults writes faults' writes' bytes bytes' place written done old.events sized fit within)))
    noted_torn faults writes faults' writes' bytes bytes' (inr (full, is, more)) sized fit within =
        let P : RecordView → Type 0 = λ v. Torn place (length written) (told_view blocks faults writes start bytes lost old.events) (told_view blocks faults' writes' start bytes' lost' v.events) in
        let R : List (ℕ × ℕ) → Type 0 = λ l. Torn place (length written) (told_view blocks faults writes start bytes lost old.events) (told_view blocks faults' writes' start bytes' l old.events) in
        subst P (sym is) (subst R (sym more) (torn_lost blocks start faults writes faults' writes' bytes bytes' place (length written) lost old.events sized fit within))

-- A write that answered Ok, where there was room: what stays true of the disk.
module _ (blocks place : ℕ) (start bytes written : List ℕ) (old new : RecordView) (lost lost' : List (ℕ × ℕ)) (notes : NotesWrite place written true old new lost lost')
    (free : length old.events < old.room) (unlost : length old.events < old.room → lost ≡ []) (fits : place + length written ≤ length bytes) where
  pub wrote_events : (new.size ≡ old.size) × (new.events ≡ write_call place written true ∷ old.events) × (lost' ≡ [])
  wrote_events = elim notes [
    | inl (lt, is, same) ↦ (ap (λ (v : RecordView). v.size) is, ap (λ (v : RecordView). v.events) is, same ∙ unlost lt)
    | inr (full, is, more) ↦ absurd (omega (arith, full, free))
  ]

  pub wrote_reads : bytes ≡ reading_of start old.events → put bytes place written ≡ reading_of start new.events
  wrote_reads reads = ap (λ (l : List ℕ). put l place written) reads ∙ sym (ap (reading_of start) wrote_events.1)

  pub wrote_settled : AreBytes (settled_of start old.events) → AreBytes (settled_of start new.events)
  wrote_settled fit = subst (λ (l : List Event). AreBytes (settled_of start l)) (sym wrote_events.1) fit

  pub wrote_apart : SameOutside (ranges_of (pending_of old.events)) (settled_of start old.events) bytes → SameOutside (ranges_of (pending_of new.events)) (settled_of start new.events) (put bytes place written)
  wrote_apart apart =
      subst (λ (l : List Event). SameOutside (ranges_of (pending_of l)) (settled_of start l) (put bytes place written)) (sym wrote_events.1)
      (same_first (place, length written) (ranges_of (pending_of old.events)) (settled_of start old.events) bytes (put bytes place written) apart (put_same bytes place written fits))
