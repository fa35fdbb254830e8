-- What the pages of a layer say of the bytes of its object.
use Rattle.std.proofs.Common.{◌≡◌, ◌⊎◌, inl, inr, ℕ, zero, suc, ◌+◌, ◌*◌, ◌<◌, ◌≤◌, ◌==◌, ◌&&◌, Bool, true, false, cond, not, is_some, List, [], ◌∷◌, ◌++◌, map, length, take, drop, replicate, if◌then◌else◌, Option, Some, None, refl, sym, ap, ap₂, ◌∙◌, arith, length-append, take_at, drop_at, drop-drop, eq-or-lt_of_le}
use Rattle.std.specs.List.{filter, flat_map, list_all, range_with_len, AllByRecursion}
use Rattle.std.proofs.lemmas.Bool.{false≢true}
use Rattle.std.proofs.lemmas.Bool.Decides.{nat_tests}
use Rattle.std.proofs.lemmas.List.{length-replicate}
use Rattle.std.proofs.lemmas.List.Elements.{All-from_recursion, recursion_from_All}
use Rattle.lists.specs.Bytes.{AreBytes}
use Rattle.mem_objects.specs.Pages.{Pages, page_of, IsZero}
use Rattle.restore_group.specs.Layers.{IsPage}
use Rattle.ckpt_records.specs.Parts.{page_in, object_bytes}
use Rattle.tables.proofs.Ordered.{IsOrdered, each_weaker, each_always, each_flat, each_in_range}

-- ---- one page

abbrev pub all_zero : List ℕ → Bool
all_zero bytes = list_all (λ b. b == 0) bytes

-- whether the layer has the page
abbrev pub has : Pages → ℕ → Bool
has layer page = is_some (page_of layer page)

abbrev bytes_or_zeros : Option (List ℕ) → List ℕ
bytes_or_zeros found = elim found [ Some bytes ↦ bytes | None ↦ replicate 4096 0 ]

-- a whole page, not all zero just where it is there
pub record IsSeen (there : Bool) (bytes : List ℕ) : Type 0 where
  pub whole : length bytes ≡ 4096
  pub in_range : AreBytes bytes
  pub shown : not (all_zero bytes) ≡ there

and_both : (a b : Bool) → (a && b) ≡ true → (a ≡ true) × (b ≡ true)
and_both true b both = (refl, both)
and_both false b both = absurd (false≢true both)

is_zero : (n : ℕ) → (n == 0) ≡ true → n ≡ 0
is_zero n said = grind (arith, nat_tests)

each_zero : (bytes : List ℕ) → all_zero bytes ≡ true → AllByRecursion (λ b. b ≡ 0) bytes
each_zero [] said = tt
each_zero (b ∷ bytes) said = let both = and_both (b == 0) (all_zero bytes) said in (is_zero b both.0, each_zero bytes both.1)

not_true : (b : Bool) → (b ≡ true → ⊥) → not b ≡ true
not_true true never = absurd (never refl)
not_true false never = refl

zeros_zero : (n : ℕ) → all_zero (replicate n 0) ≡ true
zeros_zero zero = refl
zeros_zero (suc n) = zeros_zero n

zeros_small : (n : ℕ) → AllByRecursion (λ b. b < 256) (replicate n 0)
zeros_small zero = tt
zeros_small (suc n) = (omega arith, zeros_small n)

zeros_seen : IsSeen false (replicate 4096 0)
unfolding AreBytes
zeros_seen = record { whole = length-replicate {A = ℕ} 4096 0; in_range = All-from_recursion (λ b. b < 256) (replicate 4096 0) (zeros_small 4096); shown = ap not (zeros_zero 4096) }

page_seen : (bytes : List ℕ) → IsPage bytes → IsSeen true bytes
unfolding IsZero
page_seen bytes page = record { whole = page.whole; in_range = page.in_range; shown = not_true (all_zero bytes) (λ said. page.not_zero (each_zero bytes said)) }

either_seen : (test : Bool) (bytes : List ℕ) (rest : Option (List ℕ)) → IsSeen true bytes → IsSeen (is_some rest) (bytes_or_zeros rest)
    → IsSeen (is_some (if test then Some bytes else rest)) (bytes_or_zeros (if test then Some bytes else rest))
either_seen true bytes rest one two = one
either_seen false bytes rest one two = two

abbrev pub ArePages : Pages → Type 0
ArePages layer = AllByRecursion (λ l. IsPage l.1) layer

pub seen_in : (layer : Pages) → ArePages layer → (page : ℕ) → IsSeen (has layer page) (page_in layer page)
seen_in [] pages page = zeros_seen
seen_in ((p, bytes) ∷ layer) pages page = either_seen (p == page) bytes (page_of layer page) (page_seen bytes pages.0) (seen_in layer pages.1 page)

-- ---- the pages of an object in a row

shifted : (k : ℕ) (xs : List ℕ) → take 4096 (drop (4096 * k) (drop 4096 xs)) ≡ take 4096 (drop (4096 * suc k) xs)
shifted k xs = ap (take 4096) (drop-drop (4096 * k) 4096 xs ∙ ap (λ (n : ℕ). drop n xs) (omega arith))

row_len : (f : ℕ → List ℕ) → ((k : ℕ) → length (f k) ≡ 4096) → (a n : ℕ) → length (flat_map f (range_with_len a n)) ≡ 4096 * n
row_len f whole a zero = refl
row_len f whole a (suc n) = omega (arith, length-append (f a) (flat_map f (range_with_len (a + 1) n)), whole a, row_len f whole (a + 1) n)

row_at : (f : ℕ → List ℕ) → ((k : ℕ) → length (f k) ≡ 4096) → (a n k : ℕ) → k < n → take 4096 (drop (4096 * k) (flat_map f (range_with_len a n))) ≡ f (a + k)
row_at f whole a zero k lt = absurd (omega (arith, lt))
row_at f whole a (suc n) zero lt = take_at (f a) (flat_map f (range_with_len (a + 1) n)) 4096 (whole a) ∙ ap f (omega arith)
row_at f whole a (suc n) (suc k) lt =
    let rest = flat_map f (range_with_len (a + 1) n) in
    let at : a + 1 + k ≡ a + suc k = omega arith in
    sym (shifted k (f a ++ rest)) ∙ ap (λ (ys : List ℕ). take 4096 (drop (4096 * k) ys)) (drop_at (f a) rest 4096 (whole a)) ∙ row_at f whole (a + 1) n k (omega (arith, lt)) ∙ ap f at

module _ (layer : Pages) (pages : ArePages layer) where
  whole_page : (k : ℕ) → length (page_in layer k) ≡ 4096
  whole_page k = let seen = seen_in layer pages k in seen.whole

  pub object_len : (n : ℕ) → length (object_bytes n layer) ≡ 4096 * n
  unfolding object_bytes
  object_len n = row_len (page_in layer) whole_page 0 n

  small_page : (k : ℕ) → AllByRecursion (λ b. b < 256) (page_in layer k)
  unfolding AreBytes
  small_page k = let seen = seen_in layer pages k in recursion_from_All (λ b. b < 256) (page_in layer k) seen.in_range

  pub object_range : (n : ℕ) → AreBytes (object_bytes n layer)
  unfolding object_bytes AreBytes
  object_range n = All-from_recursion (λ b. b < 256) (object_bytes n layer) (each_flat (λ b. b < 256) (page_in layer) (range_with_len 0 n) (each_always (λ k. AllByRecursion (λ b. b < 256) (page_in layer k)) (range_with_len 0 n) small_page))

  pub object_page : (n k : ℕ) → k < n → take 4096 (drop (4096 * k) (object_bytes n layer)) ≡ page_in layer k
  unfolding object_bytes
  object_page n k lt = row_at (page_in layer) whole_page 0 n k lt ∙ ap (page_in layer) (omega arith)

-- ---- the numbers of the pages that are there

filter_same : (t u : ℕ → Bool) (xs : List ℕ) → AllByRecursion (λ k. t k ≡ u k) xs → filter t xs ≡ filter u xs
filter_same t u [] same = refl
filter_same t u (x ∷ xs) same = ap₂ (λ (b : Bool) (ys : List ℕ). cond b (x ∷ ys) ys) same.0 (filter_same t u xs same.1)

filter_none : (t : ℕ → Bool) (xs : List ℕ) → ((k : ℕ) → t k ≡ false) → filter t xs ≡ []
filter_none t [] never = refl
filter_none t (x ∷ xs) never = ap (λ (b : Bool). cond b (x ∷ filter t xs) (filter t xs)) (never x) ∙ filter_none t xs never

absent : (layer : Pages) (k : ℕ) → AllByRecursion (λ l. k < l.0) layer → has layer k ≡ false
absent [] k higher = refl
absent ((p, bytes) ∷ layer) k higher =
    let test : (p == k) ≡ false = grind (arith, higher.0) in
    ap (λ (b : Bool). is_some (if b then Some bytes else page_of layer k)) test ∙ absent layer k higher.1

abbrev pub IsRising : Pages → Type 0
IsRising layer = IsOrdered (λ a b. a.0 < b.0) layer

abbrev AreWithin : ℕ → ℕ → Pages → Type 0
AreWithin a n layer = AllByRecursion (λ l. (a ≤ l.0) × (l.0 < a + n)) layer

abbrev Kept : ℕ → ℕ → Pages → Type 0
Kept a n layer = filter (has layer) (range_with_len a n) ≡ map (λ l. l.0) layer

-- a layer within one number fewer from the next one on
narrower : (a n : ℕ) (layer : Pages) → AllByRecursion (λ l. a < l.0) layer → AreWithin a (suc n) layer → AreWithin (a + 1) n layer
narrower a n [] higher within = tt
narrower a n (l ∷ layer) higher within = ((omega (arith, higher.0), omega (arith, within.0.1)), narrower a n layer higher.1 within.1)

kept_step : (a n p : ℕ) (bytes : List ℕ) (layer : Pages) → IsRising ((p, bytes) ∷ layer) → AreWithin a (suc n) ((p, bytes) ∷ layer) → ((rest : Pages) → IsRising rest → AreWithin (a + 1) n rest → Kept (a + 1) n rest)
    → (a ≡ p) ⊎ (a < p) → Kept a (suc n) ((p, bytes) ∷ layer)
kept_step a n p bytes layer rising within more (inl same) =
    let all : Pages = (p, bytes) ∷ layer in
    let range = range_with_len (a + 1) n in
    let test : (p == a) ≡ true = grind (arith, same) in
    let there : has all a ≡ true = ap (λ (b : Bool). is_some (if b then Some bytes else page_of layer a)) test in
    let higher : AllByRecursion (λ l. a < l.0) layer = each_weaker (λ l. p < l.0) (λ l. a < l.0) layer (λ l lt. omega (arith, lt, same)) rising.0 in
    let skips : filter (has all) range ≡ filter (has layer) range = filter_same (has all) (has layer) range
    (each_weaker (λ k. (a + 1 ≤ k) × (k < a + 1 + n)) (λ k. has all k ≡ has layer k) range
    (λ k h. let other : (p == k) ≡ false = grind (arith, h.0, same) in ap (λ (b : Bool). is_some (if b then Some bytes else page_of layer k)) other) (each_in_range (a + 1) n)) in
    ap (λ (b : Bool). cond b (a ∷ filter (has all) range) (filter (has all) range)) there
    ∙ ap₂ (λ (x : ℕ) (ys : List ℕ). x ∷ ys) same (skips ∙ more layer rising.1 (narrower a n layer higher within.1))
kept_step a n p bytes layer rising within more (inr later) =
    let all : Pages = (p, bytes) ∷ layer in
    let range = range_with_len (a + 1) n in
    let higher : AllByRecursion (λ l. a < l.0) all = (later, each_weaker (λ l. p < l.0) (λ l. a < l.0) layer (λ l lt. omega (arith, lt, later)) rising.0) in
    ap (λ (b : Bool). cond b (a ∷ filter (has all) range) (filter (has all) range)) (absent all a higher) ∙ more all rising (narrower a n all higher within)

kept : (a n : ℕ) (layer : Pages) → IsRising layer → AreWithin a n layer → Kept a n layer
kept a n [] rising within = filter_none (has []) (range_with_len a n) (λ k. refl)
kept a zero (l ∷ layer) rising within = absurd (omega (arith, within.0.0, within.0.1))
kept a (suc n) ((p, bytes) ∷ layer) rising within = kept_step a n p bytes layer rising within (kept (a + 1) n) (eq-or-lt_of_le within.0.0)

-- The pages of the object that aren't all zero are those that the layer has.
pub shown_numbers : (n : ℕ) (layer : Pages) → ArePages layer → IsRising layer → AllByRecursion (λ l. l.0 < n) layer
    → filter (λ k. not (all_zero (take 4096 (drop (4096 * k) (object_bytes n layer))))) (range_with_len 0 n) ≡ map (λ l. l.0) layer
shown_numbers n layer pages rising within =
    let range = range_with_len 0 n in
    let seen : ℕ → Bool = λ k. not (all_zero (take 4096 (drop (4096 * k) (object_bytes n layer)))) in
    filter_same seen (has layer) range
    (each_weaker (λ k. (0 ≤ k) × (k < 0 + n)) (λ k. seen k ≡ has layer k) range
    (λ k h. let facts = seen_in layer pages k in ap (λ (bytes : List ℕ). not (all_zero bytes)) (object_page layer pages n k (omega (arith, h.1))) ∙ facts.shown) (each_in_range 0 n))
    ∙ kept 0 n layer rising (each_weaker (λ l. l.0 < n) (λ l. (0 ≤ l.0) × (l.0 < 0 + n)) layer (λ l lt. (omega arith, omega (arith, lt))) within)
