-- The face of an object of a new disk: of its layer's pages, those that aren't all zero were written into a face of zeros.
use Rattle.std.proofs.Common.{◌≡◌, ◌∙◌, ◌⊎◌, inl, inr, ℕ, zero, suc, ◌+◌, ◌-◌, ◌*◌, ◌/◌, ◌%◌, ◌<◌, ◌≤◌, ◌==◌, ◌&&◌, ◌++◌, Bool, true, false, not, is_some, List, [], ◌∷◌, map, length, get_or, take, drop, replicate, Option, Some, None, Result, Ok, Err, refl, sym, ap, subst, arith, length-append, append-nil, take_at, drop_at, drop-drop}
use Rattle.std.proofs.lemmas.Bool.{and_parts, cases_lt, eq-eqb, eqb-true, ne_eqb}
use Rattle.std.proofs.lemmas.Bool.Decides.{nat_tests}
use Rattle.std.proofs.lemmas.List.{ext_get_or, get_or-replicate, get_or_append_left, get_or-append_right, get_or_default, length-replicate}
use Rattle.std.proofs.lemmas.List.Elements.{All-append, All-cons, All-nil, filter-append, recursion_from_All}
use Rattle.std.proofs.lemmas.List.FromFn.{get_or-map-range_with_len, length-map-range_with_len}
use Rattle.std.specs.Prelude.{IfOk, if◌then◌else◌, nat_lt}
use Rattle.std.specs.List.{AllByRecursion, filter, flat_map, list_all, range_with_len}
use Rattle.ckpt_records.specs.Parts.{object_bytes, page_in}
use Rattle.group_kernel.specs.NewFaces.{AreWhole}
use Rattle.group_kernel.specs.Starting.{IsFirstFace, is_nonzero_in}
use Rattle.group_kernel.proofs.AddedLast.{below_next, take_next}
use Rattle.lists.specs.Bytes.{length-put, put, put_within}
use Rattle.mem_objects.specs.Pages.{IsZero, PageNumbersRise, Pages, PutsPage, page_number_at, page_of}
use Rattle.shadow_chains.specs.Chain.{byte_at, byte_of, first_of_two, flat, page_set, top_page, whole_page, with_range}
use Rattle.shadow_chains.specs.Entries.{entry_with}
use Rattle.shadow_chains.specs.Faces.{FaceView, SameBase, touched}
use Rattle.shadow_chains.specs.Own.{Brings, Wrote}
use Rattle.shadow_chains.proofs.Flat.{flat_is, flat_zeros, get_or-flat, set_is, set_none}
use Rattle.shadow_chains.proofs.Tops.{two_none}
use Rattle.shadow_chains.proofs.Writes.{wrote_one}
use Rattle.tables.proofs.Ordered.{IsOrdered, each_filter, ordered_of_pairs}
use Rattle.tables.specs.Rising.{Rise}

abbrev pub all_zero : List ℕ → Bool
all_zero bytes = list_all (λ b. b == 0) bytes

-- ---- the pages of an object in a row

shifted : (k : ℕ) (xs : List ℕ) → take 4096 (drop (4096 * k) (drop 4096 xs)) ≡ take 4096 (drop (4096 * suc k) xs)
shifted k xs = ap (take 4096) (drop-drop (4096 * k) 4096 xs ∙ ap (λ (n : ℕ). drop n xs) (omega arith))

module _ (f : ℕ → List ℕ) (whole : (k : ℕ) → length (f k) ≡ 4096) where
  row_len : (a n : ℕ) → length (flat_map f (range_with_len a n)) ≡ 4096 * n
  row_len a zero = refl
  row_len a (suc n) = omega (arith, length-append (f a) (flat_map f (range_with_len (a + 1) n)), whole a, row_len (a + 1) n)

  row_at : (a n k : ℕ) → k < n → take 4096 (drop (4096 * k) (flat_map f (range_with_len a n))) ≡ f (a + k)
  row_at a zero k lt = absurd (omega (arith, lt))
  row_at a (suc n) zero lt = take_at (f a) (flat_map f (range_with_len (a + 1) n)) 4096 (whole a) ∙ ap f (omega arith)
  row_at a (suc n) (suc k) lt =
      let rest = flat_map f (range_with_len (a + 1) n) in
      let at : a + 1 + k ≡ a + suc k = omega arith in
      sym (shifted k (f a ++ rest)) ∙ ap (λ (ys : List ℕ). take 4096 (drop (4096 * k) ys)) (drop_at (f a) rest 4096 (whole a)) ∙ row_at (a + 1) n k (omega (arith, lt)) ∙ ap f at

  row_byte : (a n i : ℕ) → i < 4096 * n → get_or (flat_map f (range_with_len a n)) i 0 ≡ get_or (f (a + i / 4096)) (i % 4096) 0
  row_byte a zero i lt = absurd (omega (arith, lt))
  row_byte a (suc n) i lt = by_page (cases_lt i 4096) (λ behind. row_byte (a + 1) n (i - 4096) (omega (arith, lt, behind)))
    where
      by_page : (i < 4096) ⊎ (4096 ≤ i) → (4096 ≤ i → get_or (flat_map f (range_with_len (a + 1) n)) (i - 4096) 0 ≡ get_or (f (a + 1 + (i - 4096) / 4096)) ((i - 4096) % 4096) 0) → get_or (f a ++ flat_map f (range_with_len (a + 1) n)) i 0 ≡ get_or (f (a + i / 4096)) (i % 4096) 0
      by_page (inl here) rest =
          let first : a ≡ a + i / 4096 = omega (arith, here) in
          let place : i ≡ i % 4096 = omega (arith, here) in
          get_or_append_left (f a) (flat_map f (range_with_len (a + 1) n)) 0 i (omega (arith, here, whole a)) ∙ ap (λ (k : ℕ). get_or (f k) i 0) first ∙ ap (λ (j : ℕ). get_or (f (a + i / 4096)) j 0) place
      by_page (inr behind) rest =
          let page : a + 1 + (i - 4096) / 4096 ≡ a + i / 4096 = omega (arith, behind) in
          let place : (i - 4096) % 4096 ≡ i % 4096 = omega (arith, behind) in
          get_or-append_right (f a) (flat_map f (range_with_len (a + 1) n)) 4096 i 0 (whole a) behind ∙ rest behind
          ∙ ap (λ (k : ℕ). get_or (f k) ((i - 4096) % 4096) 0) page ∙ ap (λ (j : ℕ). get_or (f (a + i / 4096)) j 0) place

-- ---- an object's bytes

whole_in : (layer : Pages) → AllByRecursion (λ (s : ℕ × List ℕ). length s.1 ≡ 4096) layer → (page : ℕ) → length (page_in layer page) ≡ 4096
whole_in [] whole page = length-replicate {A = ℕ} 4096 0
whole_in ((p, bytes) ∷ rest) whole page = by_test (p == page) (whole_in rest whole.1 page)
  where
    shown : Option (List ℕ) → List ℕ
    shown o = elim o [ Some bs ↦ bs | None ↦ replicate 4096 0 ]

    by_test : (b : Bool) → length (page_in rest page) ≡ 4096 → length (shown (if b then Some bytes else page_of rest page)) ≡ 4096
    by_test true ih = whole.0
    by_test false ih = ih

page_byte : (o : Option (List ℕ)) (k : ℕ) → k < 4096 → get_or (elim o [ Some bytes ↦ bytes | None ↦ replicate 4096 0 ]) k 0 ≡ byte_of o k
page_byte None k lt = get_or-replicate 4096 k 0 0 lt
page_byte (Some bytes) k lt = refl

module _ (layer : Pages) (whole : AreWhole layer) where
  each_whole : (page : ℕ) → length (page_in layer page) ≡ 4096
  each_whole page = whole_in layer (recursion_from_All (λ (s : ℕ × List ℕ). length s.1 ≡ 4096) layer whole) page

  pub object_size : (n : ℕ) → length (object_bytes n layer) ≡ 4096 * n
  unfolding object_bytes
  object_size n = row_len (page_in layer) each_whole 0 n

  object_page : (n k : ℕ) → k < n → take 4096 (drop (4096 * k) (object_bytes n layer)) ≡ page_in layer k
  unfolding object_bytes
  object_page n k lt = row_at (page_in layer) each_whole 0 n k lt ∙ ap (page_in layer) (omega arith)

  pub object_flat : (n : ℕ) → object_bytes n layer ≡ flat (layer ∷ []) n
  unfolding object_bytes byte_at
  object_flat n =
      flat_is (layer ∷ []) n (object_bytes n layer) (object_size n) (λ i lt.
      let page : 0 + i / 4096 ≡ i / 4096 = omega arith in
      row_byte (page_in layer) each_whole 0 n i lt ∙ ap (λ (k : ℕ). get_or (page_in layer k) (i % 4096) 0) page ∙ page_byte (page_of layer (i / 4096)) (i % 4096) (omega arith))

-- one page more is whole
pub whole_next : (layer : Pages) (i : ℕ) (page : ℕ × List ℕ) → i < length layer → page ≡ get_or layer i page → AreWhole (take i layer) → length page.1 ≡ 4096 → AreWhole (take (i + 1) layer)
whole_next layer i page lt here before size =
    subst AreWhole (sym (take_next layer i page lt))
    (All-append (λ (s : ℕ × List ℕ). length s.1 ≡ 4096) (take i layer) (get_or layer i page ∷ []) before
    (All-cons (λ (s : ℕ × List ℕ). length s.1 ≡ 4096) (get_or layer i page) [] (ap (λ (s : ℕ × List ℕ). length s.1) (sym here) ∙ size) (All-nil (λ (s : ℕ × List ℕ). length s.1 ≡ 4096))))

-- ---- the pages that are kept of it

zeros_byte : (bytes : List ℕ) (k : ℕ) → all_zero bytes ≡ true → get_or bytes k 0 ≡ 0
zeros_byte [] k zeros = refl
zeros_byte (b ∷ bytes) zero zeros = let e : (b == 0) ≡ true = (and_parts (b == 0) (all_zero bytes) zeros).0 in eqb-true b 0 e
zeros_byte (b ∷ bytes) (suc k) zeros = zeros_byte bytes k (and_parts (b == 0) (all_zero bytes) zeros).1

zeros_zero : (n : ℕ) → all_zero (replicate n 0) ≡ true
zeros_zero zero = refl
zeros_zero (suc n) = zeros_zero n

pub zero_is : (bytes : List ℕ) → IsZero bytes → all_zero bytes ≡ true
unfolding IsZero
zero_is [] zeros = refl
zero_is (b ∷ bytes) zeros = let e : (b == 0) ≡ true = eq-eqb b 0 zeros.0 in rw e (zero_is bytes zeros.1)

pub is_zero_of : (bytes : List ℕ) → all_zero bytes ≡ true → IsZero bytes
unfolding IsZero
is_zero_of [] zeros = tt
is_zero_of (b ∷ bytes) zeros = (eqb-true b 0 (and_parts (b == 0) (all_zero bytes) zeros).0, is_zero_of bytes (and_parts (b == 0) (all_zero bytes) zeros).1)

abbrev IsRising : Pages → Type 0
IsRising layer = IsOrdered (λ (a b : ℕ × List ℕ). a.0 < b.0) layer

-- nothing of a page that is all zero
abbrev nonzero_of : Option (List ℕ) → Option (List ℕ)
nonzero_of None = None
nonzero_of (Some bytes) = if all_zero bytes then None else Some bytes

none_above : (layer : Pages) (page : ℕ) → AllByRecursion (λ (s : ℕ × List ℕ). page < s.0) layer → page_of layer page ≡ None
none_above [] page above = refl
none_above ((p, bytes) ∷ rest) page above =
    let test : (p == page) ≡ false = grind (arith, nat_tests, above.0) in
    rw test (none_above rest page above.1)

none_below : (layer : Pages) (page : ℕ) → AllByRecursion (λ (s : ℕ × List ℕ). s.0 < page) layer → page_of layer page ≡ None
none_below [] page below = refl
none_below ((p, bytes) ∷ rest) page below =
    let test : (p == page) ≡ false = grind (arith, nat_tests, below.0) in
    rw test (none_below rest page below.1)

module _ (pages : ℕ) where
  abbrev pub is_kept : ℕ × List ℕ → Bool
  is_kept s = nat_lt s.0 pages && not (all_zero s.1)

  abbrev pub kept : Pages → Pages
  kept layer = filter is_kept layer

  kept_page : (layer : Pages) → IsRising layer → (page : ℕ) → page < pages → page_of (kept layer) page ≡ nonzero_of (page_of layer page)
  kept_page [] rise page lt = refl
  kept_page ((p, bytes) ∷ rest) rise page lt = by_tests (p == page) (nat_lt p pages) (all_zero bytes) refl refl refl (kept_page rest rise.1 page lt)
    where
      gone : (p == page) ≡ true → page_of rest page ≡ None
      gone same = none_above rest page (subst (λ (n : ℕ). AllByRecursion (λ (s : ℕ × List ℕ). n < s.0) rest) (eqb-true p page same) rise.0)

      by_tests : (same small zeros : Bool) → (p == page) ≡ same → nat_lt p pages ≡ small → all_zero bytes ≡ zeros → page_of (kept rest) page ≡ nonzero_of (page_of rest page)
          → page_of (if small && not zeros then (p, bytes) ∷ kept rest else kept rest) page ≡ nonzero_of (if same then Some bytes else page_of rest page)
      by_tests true true true a b c ih = ih ∙ ap nonzero_of (gone a) ∙ rw c refl
      by_tests true true false a b c ih = rw (a, c) refl
      by_tests true false zeros a b c ih = absurd (let same : p ≡ page = eqb-true p page a in grind (arith, nat_tests, same, lt, b))
      by_tests false true true a b c ih = ih
      by_tests false true false a b c ih = rw a ih
      by_tests false false zeros a b c ih = ih

-- ---- a page written behind the others

page_behind : (a : Pages) (page : ℕ) (bytes : List ℕ) (q : ℕ) → page_of (a ++ (page, bytes) ∷ []) q ≡ first_of_two (page_of a q) (if page == q then Some bytes else None)
page_behind [] page bytes q = refl
page_behind ((p, b) ∷ rest) page bytes q = by_test (p == q) (page_behind rest page bytes q)
  where
    by_test : (t : Bool) → page_of (rest ++ (page, bytes) ∷ []) q ≡ first_of_two (page_of rest q) (if page == q then Some bytes else None)
        → (if t then Some b else page_of (rest ++ (page, bytes) ∷ []) q) ≡ first_of_two (if t then Some b else page_of rest q) (if page == q then Some bytes else None)
    by_test true ih = refl
    by_test false ih = ih

-- all bytes of a list are put
put_all : (old bytes : List ℕ) → length bytes ≡ length old → put old 0 bytes ≡ bytes
put_all old bytes size =
    let fits : 0 + length bytes ≤ length old = omega (arith, size) in
    ext_get_or 0 (put old 0 bytes) bytes (length-put old 0 bytes fits ∙ sym size) (λ i lt.
    let at : 0 + i ≡ i = omega arith in
    ap (λ (k : ℕ). get_or (put old 0 bytes) k 0) (sym at) ∙ put_within old 0 bytes fits i (omega (arith, lt, length-put old 0 bytes fits, size)))

module _ (a : Pages) (page : ℕ) (bytes : List ℕ) (none : page_of a page ≡ None) (size : length bytes ≡ 4096) where
  below_is : top_page ([] ++ a ∷ []) page ≡ None
  below_is = none

  whole_below : whole_page (top_page ([] ++ a ∷ []) page) ≡ replicate 4096 0
  whole_below = ap whole_page below_is

  brings : Brings a (a ++ (page, bytes) ∷ []) page (top_page ([] ++ a ∷ []) page) 0 bytes
  unfolding PutsPage
  brings = record {
    whole = ap length whole_below ∙ length-replicate {A = ℕ} 4096 0;
    puts = λ q. page_behind a page bytes q ∙ by_test q (page == q) refl;
  }
    where
      put_is : put (whole_page (top_page ([] ++ a ∷ []) page)) 0 bytes ≡ bytes
      put_is = ap (λ (l : List ℕ). put l 0 bytes) whole_below ∙ put_all (replicate 4096 0) bytes (size ∙ sym (length-replicate {A = ℕ} 4096 0))

      by_test : (q : ℕ) (t : Bool) → (page == q) ≡ t → first_of_two (page_of a q) (if t then Some bytes else None) ≡ (if t then Some (put (whole_page (top_page ([] ++ a ∷ []) page)) 0 bytes) else page_of a q)
      by_test q true is =
          ap (λ (o : Option (List ℕ)). first_of_two o (Some bytes)) (ap (page_of a) (sym (eqb-true page q is)) ∙ none) ∙ ap (λ (l : List ℕ). Some l) (sym put_is)
      by_test q false is = two_none (page_of a q)

  written : Wrote [] a (a ++ (page, bytes) ∷ []) (4096 * page) bytes
  written = wrote_one [] a (a ++ (page, bytes) ∷ []) (4096 * page) page 0 bytes brings (omega (arith, size)) (omega (arith, size)) (omega arith)

-- ---- the loop over the layer's pages

-- the face has these pages that are kept
pub record IsFaceUpTo (pages : ℕ) (layer : Pages) (f : FaceView) : Type 0 where
  pub pages_are : f.pages ≡ pages
  pub bytes : f.bytes ≡ flat (kept pages layer ∷ []) pages
  pub set : touched f ≡ page_set (kept pages layer ∷ []) pages
  pub base : f.base ≡ None
  pub base_bytes : f.base_bytes ≡ replicate (4096 * pages) 0

pub none_written : (pages : ℕ) (f : FaceView) → f.pages ≡ pages → f.bytes ≡ replicate (4096 * pages) 0 → f.base ≡ None → f.base_bytes ≡ replicate (4096 * pages) 0 → touched f ≡ replicate pages false → IsFaceUpTo pages [] f
none_written pages f size bytes base below set = record {
  pages_are = size;
  bytes = bytes ∙ flat_zeros ([] ∷ []) pages (λ p. refl);
  set = set ∙ set_none ([] ∷ []) pages (λ p. refl);
  base = base;
  base_bytes = below;
}

rises : (layer : Pages) → PageNumbersRise layer → Rise (λ (s : ℕ × List ℕ). s.0) layer
unfolding PageNumbersRise Rise
rises layer rise i j d less lt =
    let at : (k : ℕ) → k < length layer → page_number_at layer k ≡ (get_or layer k d).0 = λ k within. ap (λ (s : ℕ × List ℕ). s.0) (get_or_default layer k (0, []) d within) in
    omega (arith, rise i j less lt, at i (omega (arith, less, lt)), at j lt)

module _ (pages : ℕ) (layer : Pages) (i : ℕ) (slot : ℕ × List ℕ) (f : FaceView) (lt : i < length layer) (here : slot ≡ get_or layer i slot) (before : IsFaceUpTo pages (take i layer) f) where
  kept_next : kept pages (take (i + 1) layer) ≡ kept pages (take i layer) ++ kept pages (slot ∷ [])
  kept_next = ap (kept pages) (take_next layer i slot lt ∙ ap (λ (s : ℕ × List ℕ). take i layer ++ s ∷ []) (sym here)) ∙ filter-append (is_kept pages) (take i layer) (slot ∷ [])

  pub page_skipped : is_kept pages slot ≡ false → IsFaceUpTo pages (take (i + 1) layer) f
  page_skipped skipped =
      let none : kept pages (slot ∷ []) ≡ [] = ap (λ (b : Bool). if b then slot ∷ [] else []) skipped in
      let same : kept pages (take i layer) ≡ kept pages (take (i + 1) layer) = sym (kept_next ∙ ap (λ (l : Pages). kept pages (take i layer) ++ l) none ∙ append-nil (kept pages (take i layer))) in
      record {
        pages_are = before.pages_are;
        bytes = before.bytes ∙ ap (λ (l : Pages). flat (l ∷ []) pages) same;
        set = before.set ∙ ap (λ (l : Pages). page_set (l ∷ []) pages) same;
        base = before.base;
        base_bytes = before.base_bytes;
      }

  none_yet : PageNumbersRise layer → page_of (kept pages (take i layer)) slot.0 ≡ None
  none_yet rise =
      let below = subst (λ (x : ℕ × List ℕ). AllByRecursion (λ (s : ℕ × List ℕ). s.0 < x.0) (take i layer)) (sym here) (below_next (λ (s : ℕ × List ℕ). s.0) layer i slot lt (rises layer rise)) in
      none_below (kept pages (take i layer)) slot.0 (each_filter (λ (s : ℕ × List ℕ). s.0 < slot.0) (is_kept pages) (take i layer) below)

  pub page_written : (new : FaceView) → PageNumbersRise layer → is_kept pages slot ≡ true → slot.0 < pages → length slot.1 ≡ 4096 → new.bytes ≡ put f.bytes (4096 * slot.0) slot.1 → touched new ≡ with_range (touched f) (4096 * slot.0) (length slot.1) → SameBase f new
      → IsFaceUpTo pages (take (i + 1) layer) new
  page_written new rise is small size bytes set base =
      let one : kept pages (slot ∷ []) ≡ slot ∷ [] = ap (λ (b : Bool). if b then slot ∷ [] else []) is in
      let same : kept pages (take i layer) ++ (slot.0, slot.1) ∷ [] ≡ kept pages (take (i + 1) layer) = sym (kept_next ∙ ap (λ (l : Pages). kept pages (take i layer) ++ l) one) in
      let wrote = written (kept pages (take i layer)) slot.0 slot.1 (none_yet rise) size in
      let room : 4096 * slot.0 + length slot.1 ≤ 4096 * pages = omega (arith, small, size) in
      record {
        pages_are = base.pages ∙ before.pages_are;
        bytes = bytes ∙ ap (λ (l : List ℕ). put l (4096 * slot.0) slot.1) before.bytes ∙ sym (wrote.seen pages room) ∙ ap (λ (l : Pages). flat (l ∷ []) pages) same;
        set = set ∙ ap (λ (l : List Bool). with_range l (4096 * slot.0) (length slot.1)) before.set ∙ sym (wrote.marked 0 pages room) ∙ ap (λ (l : Pages). page_set (l ∷ []) pages) same;
        base = base.number ∙ before.base;
        base_bytes = base.bytes ∙ before.base_bytes;
      }

-- which pages are kept
pub kept_by : (pages : ℕ) (page : ℕ × List ℕ) → page.0 < pages → (IsZero page.1 → ⊥) → is_kept pages page ≡ true
kept_by pages page small some = by_test (all_zero page.1) refl
  where
    below : nat_lt page.0 pages ≡ true
    below = grind (arith, nat_tests, small)

    by_test : (b : Bool) → all_zero page.1 ≡ b → is_kept pages page ≡ true
    by_test true zeros = absurd (some (is_zero_of page.1 zeros))
    by_test false is = ap (λ (b : Bool). b && not (all_zero page.1)) below ∙ ap not is

pub skipped_by_zeros : (pages : ℕ) (page : ℕ × List ℕ) → IsZero page.1 → is_kept pages page ≡ false
skipped_by_zeros pages page zeros = either (nat_lt page.0 pages) (zero_is page.1 zeros)
  where
    either : (b : Bool) → all_zero page.1 ≡ true → (b && not (all_zero page.1)) ≡ false
    either true is = ap not is
    either false is = refl

pub skipped_by_number : (pages : ℕ) (page : ℕ × List ℕ) → pages ≤ page.0 → is_kept pages page ≡ false
skipped_by_number pages page past =
    let above : nat_lt page.0 pages ≡ false = grind (arith, nat_tests, past) in
    ap (λ (b : Bool). b && not (all_zero page.1)) above

-- ---- all of them

module _ (pages : ℕ) (layer : Pages) (rise : PageNumbersRise layer) (whole : AreWhole layer) (f : FaceView) (all : IsFaceUpTo pages layer f) where
  layer_rises : IsRising layer
  unfolding Rise
  layer_rises = ordered_of_pairs (λ (a b : ℕ × List ℕ). a.0 < b.0) layer (rises layer rise)

  kept_is : (p : ℕ) → p < pages → page_of (kept pages layer) p ≡ nonzero_of (page_of layer p)
  kept_is p lt = kept_page pages layer layer_rises p lt

  byte_same : (o : Option (List ℕ)) (k : ℕ) → byte_of o k ≡ byte_of (nonzero_of o) k
  byte_same None k = refl
  byte_same (Some bytes) k = by_test (all_zero bytes) refl
    where
      by_test : (b : Bool) → all_zero bytes ≡ b → get_or bytes k 0 ≡ byte_of (if b then None else Some bytes) k
      by_test true zeros = zeros_byte bytes k zeros
      by_test false some = refl

  bytes_are : f.bytes ≡ object_bytes pages layer
  unfolding byte_at
  bytes_are =
      all.bytes
      ∙ sym (flat_is (kept pages layer ∷ []) pages (object_bytes pages layer) (object_size layer whole pages) (λ i lt.
      let within : i / 4096 < pages = omega (arith, lt) in
      ap (λ (l : List ℕ). get_or l i 0) (object_flat layer whole pages) ∙ get_or-flat (layer ∷ []) pages i lt ∙ byte_same (page_of layer (i / 4096)) (i % 4096)
      ∙ ap (λ (o : Option (List ℕ)). byte_of o (i % 4096)) (sym (kept_is (i / 4096) within))))

  some_shown : (o : Option (List ℕ)) → not (all_zero (elim o [ Some bytes ↦ bytes | None ↦ replicate 4096 0 ])) ≡ is_some (nonzero_of o)
  some_shown None = ap not (zeros_zero 4096)
  some_shown (Some bytes) = by_test (all_zero bytes)
    where
      by_test : (b : Bool) → not b ≡ is_some (if b then None else Some bytes)
      by_test true = refl
      by_test false = refl

  set_shown : map (is_nonzero_in (object_bytes pages layer)) (range_with_len 0 pages) ≡ page_set (kept pages layer ∷ []) pages
  set_shown =
      set_is (kept pages layer ∷ []) pages (map (is_nonzero_in (object_bytes pages layer)) (range_with_len 0 pages)) (length-map-range_with_len (is_nonzero_in (object_bytes pages layer)) 0 pages) (λ p lt.
      get_or-map-range_with_len (is_nonzero_in (object_bytes pages layer)) 0 pages p p false lt (omega arith)
      ∙ ap (λ (l : List ℕ). not (all_zero l)) (object_page layer whole pages p lt) ∙ some_shown (page_of layer p)
      ∙ ap (λ (o : Option (List ℕ)). is_some o) (sym (kept_is p lt)))

  pub first_of_zeros : (number : ℕ) → IsFirstFace 0 (number, object_bytes pages layer) (entry_with number f)
  first_of_zeros number = record {
    number = refl;
    bytes = bytes_are;
    size = object_size layer whole pages ∙ ap (λ (n : ℕ). 4096 * n) (sym all.pages_are);
    base = all.base;
    base_bytes = all.base_bytes ∙ ap (λ (n : ℕ). replicate (4096 * n) 0) (sym all.pages_are);
    set = all.set ∙ sym set_shown ∙ ap (λ (n : ℕ). map (is_nonzero_in (object_bytes pages layer)) (range_with_len 0 n)) (sym all.pages_are);
  }

-- ---- the face of an object over its own bytes

pub first_over : (epoch pages number : ℕ) (layer : Pages) (f : FaceView) → (epoch == 0) ≡ false → AreWhole layer → f.pages ≡ pages → f.bytes ≡ flat (layer ∷ []) pages → f.base ≡ Some number → f.base_bytes ≡ flat (layer ∷ []) pages → touched f ≡ replicate pages false
    → IsFirstFace epoch (number, object_bytes pages layer) (entry_with number f)
first_over epoch pages number layer f later whole size bytes base below set = record {
  number = refl;
  bytes = bytes ∙ sym (object_flat layer whole pages);
  size = object_size layer whole pages ∙ ap (λ (n : ℕ). 4096 * n) (sym size);
  base = rw later base;
  base_bytes = rw later (below ∙ sym (object_flat layer whole pages));
  set = rw later (set ∙ ap (λ (n : ℕ). replicate n false) (sym size));
}

pub first_over_ok : {E : Type 0} (epoch pages number : ℕ) (layer : Pages) (r : Result FaceView E) → (epoch ≡ 0 → ⊥) → AreWhole layer → IfOk r (λ f. f.pages ≡ pages) → IfOk r (λ f. f.bytes ≡ flat (layer ∷ []) pages) → IfOk r (λ f. f.base ≡ Some number)
    → IfOk r (λ f. f.base_bytes ≡ flat (layer ∷ []) pages) → IfOk r (λ f. touched f ≡ replicate pages false) → IfOk r (λ f. IsFirstFace epoch (number, object_bytes pages layer) (entry_with number f))
first_over_ok epoch pages number layer (Ok f) later whole size bytes base below set = first_over epoch pages number layer f (ne_eqb epoch 0 later) whole size bytes base below set
first_over_ok epoch pages number layer (Err e) later whole size bytes base below set = tt

pub first_of_new : {E : Type 0} (epoch number : ℕ) (bytes : List ℕ) (r : Result FaceView E) → epoch ≡ 0 → IfOk r (λ f. (n : ℕ) → IsFirstFace 0 (n, bytes) (entry_with n f)) → IfOk r (λ f. IsFirstFace epoch (number, bytes) (entry_with number f))
first_of_new epoch number bytes (Ok f) is each = subst (λ (n : ℕ). IsFirstFace n (number, bytes) (entry_with number f)) (sym is) (each number)
first_of_new epoch number bytes (Err e) is each = tt
