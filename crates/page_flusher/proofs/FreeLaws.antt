-- Free blocks: how many there are, and those that are taken one after another.
use Rattle.std.proofs.Common.{◌≡◌, ◌≢◌, inl, inr, ℕ, zero, suc, ◌+◌, ◌-◌, ◌<◌, ◌≤◌, ◌==◌, ◌||◌, not, Bool, true, false, List, [], ◌∷◌, length, length-append, refl, sym, ap, ◌∙◌, arith, ◌++◌, subst}
use Rattle.std.specs.Prelude.{◌↔◌, IsTrue, cond}
use Rattle.std.specs.List.{AllByRecursion, count_by, range_with_len}
use Rattle.std.proofs.lemmas.Bool.{cases_eq, cases_lt}
use Rattle.std.proofs.lemmas.List.Elements.{All-from_recursion}
use Rattle.std.proofs.lemmas.List.Folds.{list_any_at}
use Rattle.std.proofs.lemmas.List.Sums.{sum_by-cons}
use Rattle.block_alloc.specs.Free.{MayBeFree, free_count, is_free, with_used, IsLeastFree}
use Rattle.ckpt_chain.specs.Chain.{Has}
use Rattle.ckpt_records.specs.Cost.{free_blocks, is_used}
use Rattle.std.proofs.lemmas.List.{get_or-set_same, get_or-set_other, get_or_past, length-set}
use Rattle.ckpt_chain.specs.MemberLaws.{all_has, in_left, in_right, place_of}
use Rattle.tables.proofs.Ordered.{each_append, each_weaker, ordered_append, ordered_of_pairs, pairs_of_ordered}
use Rattle.page_flusher.specs.Taking.{AreTaken}

-- ---- whether a block is in use

has_used : (used : List ℕ) (b : ℕ) → Has b used → is_used used b ≡ true
has_used used b has = let (i, lt, at) = place_of b used has in list_any_at (λ u. u == b) used i 0 lt (grind (arith, at 0))

used_has : (used : List ℕ) (b : ℕ) → is_used used b ≡ true → Has b used
used_has [] b is = absurd (cc)
used_has (u ∷ used) b is = elim (cases_eq u b) [
  | inl same ↦ inl same
  | inr other ↦ let test : (u == b) ≡ false = grind (arith, other) in inr (used_has used b (ap (λ (t : Bool). t || is_used used b) (sym test) ∙ is))
]

not_has : (used : List ℕ) (b : ℕ) → AllByRecursion (λ u. u ≢ b) used → Has b used → ⊥
not_has used b all has = all_has (λ u. u ≢ b) b used (All-from_recursion (λ u. u ≢ b) used all) has refl

none_is : (used : List ℕ) (b : ℕ) → (Has b used → ⊥) → AllByRecursion (λ u. u ≢ b) used
none_is [] b none = tt
none_is (u ∷ used) b none = ((λ e. none (inl e)), none_is used b (λ has. none (inr has)))

-- ---- flags

abbrev one_if : Bool → ℕ
one_if flag = cond flag 1 0

abbrev one_by : (ℕ → Bool) → ℕ → ℕ
one_by p b = cond (p b) 1 0

-- one fewer is free once a free block is taken
count_taken : (flags : List Bool) (block : ℕ) → IsTrue (is_free flags block) → free_count (with_used flags block) + 1 ≡ free_count flags
count_taken [] block free = absurd (let e = free in cc)
count_taken (x ∷ xs) zero free = grind (arith, sum_by-cons one_if x xs, sum_by-cons one_if false xs, ap one_if free)
count_taken (x ∷ xs) (suc n) free = grind (arith, sum_by-cons one_if x xs, sum_by-cons one_if x (with_used xs n), count_taken xs n free)

pub count_none : (flags : List Bool) → ((block : ℕ) → is_free flags block ≡ false) → free_count flags ≡ 0
count_none [] none = refl
count_none (x ∷ xs) none = grind (arith, sum_by-cons one_if x xs, ap one_if (none 0), count_none xs (λ b. none (suc b)))

-- flags that say what a test says of the numbers from one on
count_tested : (flags : List Bool) (a : ℕ) (p : ℕ → Bool) → ((i : ℕ) → i < length flags → is_free flags i ≡ p (a + i)) → free_count flags ≡ count_by p (range_with_len a (length flags))
count_tested [] a p same = refl
count_tested (x ∷ xs) a p same =
    let here : a + 0 ≡ a = omega arith in
    let later : free_count xs ≡ count_by p (range_with_len (a + 1) (length xs)) = count_tested xs (a + 1) p (λ i lt. let next : a + suc i ≡ a + 1 + i = omega arith in same (suc i) (omega (arith, lt)) ∙ ap p next) in
    omega (arith, sum_by-cons one_if x xs, sum_by-cons (one_by p) a (range_with_len (a + 1) (length xs)), ap one_if (same 0 (omega arith) ∙ ap p here), later)

module _ (count : ℕ) (used blocks : List ℕ) (same : (b : ℕ) → Has b used ↔ Has b blocks) where
  -- behind the slots and on the disk a block is free where it isn't in use
  flag_is : (flags : List Bool) → ((b : ℕ) → IsTrue (is_free flags b) ↔ MayBeFree count used b) → (b : ℕ) → 2 ≤ b → b < count → is_free flags b ≡ not (is_used blocks b)
  flag_is flags are b low high = by_tests (is_free flags b) (is_used blocks b) refl refl
    where
      by_tests : (t u : Bool) → is_free flags b ≡ t → is_used blocks b ≡ u → t ≡ not u
      by_tests true true free is = absurd (not_has used b ((are b).0 free).unused ((same b).1 (used_has blocks b is)))
      by_tests true false free is = refl
      by_tests false true free is = refl
      by_tests false false free is =
          let on : IsTrue (is_free flags b) = (are b).1 (record { least = low; most = high; unused = none_is used b (λ has. let e : true ≡ false = sym (has_used blocks b ((same b).0 has)) ∙ is in cc) }) in
          absurd (let e : true ≡ false = sym on ∙ free in cc)

  no_slot : (flags : List Bool) → ((b : ℕ) → IsTrue (is_free flags b) ↔ MayBeFree count used b) → (b : ℕ) → b < 2 → is_free flags b ≡ false
  no_slot flags are b low = by_flag (is_free flags b) refl
    where
      by_flag : (t : Bool) → is_free flags b ≡ t → t ≡ false
      by_flag true is = absurd (omega (arith, low, ((are b).0 is).least))
      by_flag false is = refl

  pub free_count_is : (flags : List Bool) → length flags ≡ count → 2 ≤ count → ((b : ℕ) → IsTrue (is_free flags b) ↔ MayBeFree count used b) → free_count flags ≡ free_blocks count blocks
  free_count_is [] size least are = absurd (omega (arith, size, least))
  free_count_is (x ∷ []) size least are = absurd (omega (arith, size, least))
  free_count_is (x ∷ y ∷ rest) size least are =
      let p : ℕ → Bool = λ b. not (is_used blocks b) in
      let there = count_tested rest 2 p (λ i lt. let at : suc (suc i) ≡ 2 + i = omega arith in flag_is (x ∷ y ∷ rest) are (suc (suc i)) (omega arith) (omega (arith, lt, size)) ∙ ap p at) in
      let long : length rest ≡ count - 2 = omega (arith, size) in
      omega (arith, sum_by-cons one_if x (y ∷ rest), sum_by-cons one_if y rest, ap one_if (no_slot (x ∷ y ∷ rest) are 0 (omega arith)), ap one_if (no_slot (x ∷ y ∷ rest) are 1 (omega arith)), there, ap (λ (n : ℕ). count_by p (range_with_len 2 n)) long)

-- the other way round
across : (xs ys : List ℕ) → AllByRecursion (λ y. AllByRecursion (λ t. t < y) xs) ys → AllByRecursion (λ x. AllByRecursion (λ y. x < y) ys) xs
across [] ys all = tt
across (x ∷ xs) ys all =
    (each_weaker (λ y. AllByRecursion (λ t. t < y) (x ∷ xs)) (λ y. x < y) ys (λ y each. each.0) all, across xs ys (each_weaker (λ y. AllByRecursion (λ t. t < y) (x ∷ xs)) (λ y. AllByRecursion (λ t. t < y) xs) ys (λ y each. each.1) all))

-- ---- taking

-- what is taken isn't free any more
no_longer : (flags : List Bool) (b : ℕ) → is_free (with_used flags b) b ≡ false
no_longer flags b = elim (cases_lt b (length flags)) [
  | inl within ↦ get_or-set_same flags b false false within
  | inr past ↦ get_or_past (with_used flags b) b false (omega (arith, past, length-set flags b false))
]

-- what is free after a block is taken was free before, and is behind it
behind : (flags : List Bool) (taken b : ℕ) → IsLeastFree flags taken → IsTrue (is_free (with_used flags taken) b) → IsTrue (is_free flags b) × (taken < b)
behind flags taken b least on = elim (cases_eq b taken) [
  | inl same ↦ absurd (let e : true ≡ false = sym on ∙ ap (λ (k : ℕ). is_free (with_used flags taken) k) same ∙ no_longer flags taken in cc)
  | inr other ↦ let was : IsTrue (is_free flags b) = sym (get_or-set_other flags taken b false false other) ∙ on in
      elim (cases_lt b taken) [ inl below ↦ absurd (let e : true ≡ false = sym was ∙ least.least b below in cc) | inr above ↦ (was, omega (arith, above, other)) ]
]

taken_one : (flags : List Bool) (b : ℕ) → IsLeastFree flags b → AreTaken flags 1 (b ∷ []) (with_used flags b)
taken_one flags b least = record {
  size = refl;
  free = (least.free, tt);
  rising = pairs_of_ordered (λ m n. m < n) (b ∷ []) (tt, tt);
  left = λ k on. let was = behind flags b k least on in (was.0, (was.1, tt));
  others = λ k on. elim (cases_eq k b) [ inl same ↦ inl (inl (sym same)) | inr other ↦ inr (get_or-set_other flags b k false false other ∙ on) ];
  fewer = count_taken flags b least.free;
}

-- taken, and taken from the rest
pub taken_both : (a b c : List Bool) (m n : ℕ) (xs ys : List ℕ) → AreTaken a m xs b → AreTaken b n ys c → AreTaken a (m + n) (xs ++ ys) c
taken_both a b c m n xs ys first second = record {
  size = omega (arith, length-append xs ys, first.size, second.size);
  free = each_append (λ n. IsTrue (is_free a n)) xs ys first.free (each_weaker (λ n. IsTrue (is_free b n)) (λ n. IsTrue (is_free a n)) ys (λ n on. (first.left n on).0) second.free);
  rising = pairs_of_ordered (λ m n. m < n) (xs ++ ys) (ordered_append (λ m n. m < n) xs ys (ordered_of_pairs (λ m n. m < n) xs first.rising) (ordered_of_pairs (λ m n. m < n) ys second.rising)
      (across xs ys (each_weaker (λ n. IsTrue (is_free b n)) (λ n. AllByRecursion (λ t. t < n) xs) ys (λ n on. (first.left n on).1) second.free)));
  left = λ n on. let mid = second.left n on in let was = first.left n mid.0 in (was.0, each_append (λ t. t < n) xs ys was.1 mid.1);
  others = λ n on. elim (first.others n on) [
    | inl has ↦ inl (in_left n xs ys has)
    | inr mid ↦ elim (second.others n mid) [ inl has ↦ inl (in_right n xs ys has) | inr late ↦ inr late ]
  ];
  fewer = omega (arith, first.fewer, second.fewer);
}

pub one_taken : (old flags flags' : List Bool) (count : ℕ) (taken taken' : List ℕ) (b : ℕ) → AreTaken old count taken flags → IsLeastFree flags b → flags' ≡ with_used flags b → taken' ≡ taken ++ b ∷ [] → AreTaken old (count + 1) taken' flags'
one_taken old flags flags' count taken taken' b are least is more =
    subst (λ (l : List ℕ). AreTaken old (count + 1) l flags') (sym more)
    (subst (λ (l : List Bool). AreTaken old (count + 1) (taken ++ b ∷ []) l) (sym is) (taken_both old flags (with_used flags b) count 1 taken (b ∷ []) are (taken_one flags b least)))
