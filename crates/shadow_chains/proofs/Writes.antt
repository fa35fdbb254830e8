-- A write of many pieces, and what is ready.
use Rattle.std.proofs.Common.{◌≡◌, ◌⊎◌, ◌∙◌, inl, inr, ℕ, ◌+◌, ◌*◌, ◌/◌, ◌%◌, ◌<◌, ◌≤◌, List, [], ◌∷◌, ◌++◌, length, get_or, take, drop, Some, None, Option, is_some, IsSome, Bool, true, false, refl, sym, ap, subst, arith, length-append, ◌-◌}
use Rattle.std.proofs.lemmas.List.{get_or_past, length-take-le, drop-take, take-append-drop, take-take, length-drop}
use Rattle.std.proofs.lemmas.Bool.{cases_lt}
use Rattle.lists.specs.Bytes.{put}
use Rattle.mem_objects.specs.Pages.{Pages, page_of}
use Rattle.shadow_chains.specs.Chain.{covers, top_page, first_of_two, flat, page_set, with_range, HasRange, IsSubset}
use Rattle.shadow_chains.specs.Own.{Brings, Own, IsReady, AllReady, StaysReady, Wrote}
use Rattle.shadow_chains.proofs.Flat.{covers_zero, flat_brings, set_brings, put_put, put_none, mark_mark, mark_none, length-flat, length-page_set, get_or-page_set, covers_means, covers_where}

pub wrote_none : (ls : List Pages) (own : Pages) (place : ℕ) → Wrote ls own own place []
wrote_none ls own place = record {
  seen = λ n fits. sym (put_none (flat (ls ++ own ∷ []) n) place (omega (arith, length-flat (ls ++ own ∷ []) n)));
  marked = λ s n fits. sym (mark_none (page_set (drop s ls ++ own ∷ []) n) place);
}

pub wrote_more : (ls : List Pages) (a b c : Pages) (place page at : ℕ) (xs ys : List ℕ) → Wrote ls a b place xs → Brings b c page (top_page (ls ++ b ∷ []) page) at ys → 0 < length ys → at + length ys ≤ 4096 → 4096 * page + at ≡ place + length xs → Wrote ls a c place (xs ++ ys)
wrote_more ls a b c place page at xs ys wrote brings positive fits here = record {
  seen = λ n room.
      let both : length (xs ++ ys) ≡ length xs + length ys = length-append xs ys in
      let inside : page < n = omega arith in
      flat_brings ls b c page at ys brings fits n inside
      ∙ ap (λ (k : ℕ). put (flat (ls ++ b ∷ []) n) k ys) here
      ∙ ap (λ (l : List ℕ). put l (place + length xs) ys) (wrote.seen n (omega arith))
      ∙ put_put (flat (ls ++ a ∷ []) n) xs ys place (omega (arith, length-flat (ls ++ a ∷ []) n));
  marked = λ s n room.
      let both : length (xs ++ ys) ≡ length xs + length ys = length-append xs ys in
      let inside : page < n = omega arith in
      set_brings ls b c page at ys brings fits n s inside positive
      ∙ ap (λ (k : ℕ). with_range (page_set (drop s ls ++ b ∷ []) n) k (length ys)) here
      ∙ ap (λ (l : List Bool). with_range l (place + length xs) (length ys)) (wrote.marked s n (omega arith))
      ∙ mark_mark (page_set (drop s ls ++ a ∷ []) n) place (length xs) (length ys) positive
      ∙ ap (λ (k : ℕ). with_range (page_set (drop s ls ++ a ∷ []) n) place k) (sym both);
}

pub wrote_one : (ls : List Pages) (a c : Pages) (place page at : ℕ) (ys : List ℕ) → Brings a c page (top_page (ls ++ a ∷ []) page) at ys → 0 < length ys → at + length ys ≤ 4096 → 4096 * page + at ≡ place → Wrote ls a c place ys
wrote_one ls a c place page at ys brings positive fits here = wrote_more ls a a c place page at [] ys (wrote_none ls a place) brings positive fits (omega arith)

-- readiness as page_set
two_some : (x y : Option (List ℕ)) → is_some (first_of_two x y) ≡ true → IsSome x ⊎ IsSome y
two_some None y some = inr some
two_some (Some x) y some = inl refl

some_two : (x y : Option (List ℕ)) → IsSome x ⊎ IsSome y → is_some (first_of_two x y) ≡ true
some_two None y (inl never) = absurd (cc)
some_two None y (inr some) = some
some_two (Some x) y either = refl

pub ready_from : (own : Own) (n p : ℕ) → p < n → get_or (page_set (own.room ∷ own.pages ∷ []) n) p false ≡ true → IsReady own p
unfolding IsReady
ready_from own n p lt marked = two_some (page_of own.pages p) (page_of own.room p) (sym (get_or-page_set (own.room ∷ own.pages ∷ []) n p lt) ∙ marked)

pub ready_to : (own : Own) (n p : ℕ) → p < n → IsReady own p → get_or (page_set (own.room ∷ own.pages ∷ []) n) p false ≡ true
unfolding IsReady
ready_to own n p lt ready = get_or-page_set (own.room ∷ own.pages ∷ []) n p lt ∙ some_two (page_of own.pages p) (page_of own.room p) ready

pub all_ready : (own : Own) (n place k : ℕ) → place + k ≤ 4096 * n → HasRange (page_set (own.room ∷ own.pages ∷ []) n) place k → AllReady own place k
unfolding HasRange AllReady
all_ready own n place k fits marked p here = let means = covers_means place k p here in ready_from own n p (omega arith) (marked p here)

pub all_in_range : (own : Own) (n place k : ℕ) → place + k ≤ 4096 * n → AllReady own place k → HasRange (page_set (own.room ∷ own.pages ∷ []) n) place k
unfolding HasRange AllReady
all_in_range own n place k fits ready p here = let means = covers_means place k p here in ready_to own n p (omega arith) (ready p here)

pub stays_subset : (old new : Own) (n : ℕ) → StaysReady old new → IsSubset (page_set (old.room ∷ old.pages ∷ []) n) (page_set (new.room ∷ new.pages ∷ []) n)
unfolding IsSubset StaysReady
stays_subset old new n stays p marked = elim (cases_lt p n) [
  | inl lt ↦ ready_to new n p lt (stays p (ready_from old n p lt marked))
  | inr ge ↦ absurd (let past = get_or_past (page_set (old.room ∷ old.pages ∷ []) n) p false (omega (arith, length-page_set (old.room ∷ old.pages ∷ []) n)) in cc)
]

pub ready_here : (old now : Own) (place n page at done : ℕ) → AllReady old place n → StaysReady old now → at < 4096 → done < n → 4096 * page + at ≡ place + done → IsReady now page
unfolding AllReady StaysReady
ready_here old now place n page at done all stays small lt here = stays page (all page (covers_where place n page (omega arith) (omega arith) (omega arith)))

take_front : (i k : ℕ) (xs : List ℕ) → take i (take (i + k) xs) ≡ take i xs
take_front i k xs = take-take i (i + k) xs (omega arith)

pub take_piece : (xs : List ℕ) (i k : ℕ) → take i xs ++ take (i + k - i) (drop i xs) ≡ take (i + k) xs
take_piece xs i k =
    let e : i + k - i ≡ k = omega arith in
    rw e (
    ap (λ (l : List ℕ). take i xs ++ l) (sym (drop-take i k xs))
    ∙ ap (λ (l : List ℕ). l ++ drop i (take (i + k) xs)) (sym (take_front i k xs))
    ∙ take-append-drop i (take (i + k) xs))

-- the step of the loop over pieces
pub wrote_step : (ls : List Pages) (a b c : Pages) (place page at done k : ℕ) (bytes ys : List ℕ) → Wrote ls a b place (take done bytes) → Brings b c page (top_page (ls ++ b ∷ []) page) at ys → ys ≡ take (done + k - done) (drop done bytes) → length ys ≡ k → 0 < k → at + k ≤ 4096 → done + k ≤ length bytes → 4096 * page + at ≡ place + done → Wrote ls a c place (take (done + k) bytes)
wrote_step ls a b c place page at done k bytes ys wrote brings is size positive fits room here =
    let front : length (take done bytes) ≡ done = length-take-le done bytes (omega arith) in
    subst (λ (l : List ℕ). Wrote ls a c place l) (ap (λ (l : List ℕ). take done bytes ++ l) is ∙ take_piece bytes done k)
    (wrote_more ls a b c place page at (take done bytes) ys wrote brings (omega arith) (omega arith) (omega arith))

-- the pages of a range
pub range_ready : (own : Own) (place n : ℕ) → ((p : ℕ) → place / 4096 ≤ p → p < (place + n + 4095) / 4096 → IsReady own p) → AllReady own place n
unfolding AllReady
range_ready own place n each p covered = let means = covers_means place n p covered in each p (omega arith) (omega arith)

pub range_all : (own : Own) (place n : ℕ) → 0 < n → AllReady own place n → (p : ℕ) → place / 4096 ≤ p → p < (place + n + 4095) / 4096 → IsReady own p
unfolding AllReady
range_all own place n positive all p from below = all p (covers_where place n p (omega arith) (omega arith) positive)

pub hold_more : (old new : Own) (first i : ℕ) → ((p : ℕ) → first ≤ p → p < i → IsReady old p) → StaysReady old new → IsReady new i → (p : ℕ) → first ≤ p → p < i + 1 → IsReady new p
unfolding StaysReady
hold_more old new first i each stays here p from below = elim (cases_lt p i) [
  | inl lt ↦ stays p (each p from lt)
  | inr ge ↦ let e : i ≡ p = omega arith in subst (λ (q : ℕ). IsReady new q) e here
]

pub wrote_empty : (ls : List Pages) (own : Pages) (place : ℕ) (bytes : List ℕ) → length bytes ≡ 0 → Wrote ls own own place bytes
wrote_empty ls own place [] e = wrote_none ls own place
wrote_empty ls own place (x ∷ xs) e = absurd (omega arith)

pub stays_at : (old new : Own) (p : ℕ) → StaysReady old new → IsReady old p → IsReady new p
unfolding StaysReady
stays_at old new p stays ready = stays p ready

pub length_piece : (xs : List ℕ) (i k : ℕ) → i + k ≤ length xs → length (take (i + k - i) (drop i xs)) ≡ k
length_piece xs i k fits = omega (arith, length-take-le (i + k - i) (drop i xs) (omega (arith, length-drop i xs)))

-- a range of no bytes
pub ready_nowhere : (own : Own) (place n : ℕ) → n ≡ 0 → AllReady own place n
unfolding AllReady
ready_nowhere own place n none p covered =
    let never : covers place n p ≡ false = ap (λ (k : ℕ). covers place k p) none ∙ covers_zero place p in absurd (cc)

-- the pages of a range, counted without a sum that could wrap
pub pages_of_range : (place n p : ℕ) → p < (place + n + 4095) / 4096 → p < place / 4096 + n / 4096 + (place % 4096 + n % 4096 + 4095) / 4096
pages_of_range place n p lt = omega arith

pub pages_in_range : (place n p : ℕ) → p < place / 4096 + n / 4096 + (place % 4096 + n % 4096 + 4095) / 4096 → p < (place + n + 4095) / 4096
pages_in_range place n p lt = omega arith
