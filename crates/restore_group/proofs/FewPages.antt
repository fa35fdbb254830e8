-- How many pages a valid group has at most.
use Rattle.std.proofs.Common.{◌≡◌, ◌⊎◌, inl, inr, ℕ, zero, suc, ◌+◌, ◌*◌, ◌<◌, ◌≤◌, ◌==◌, Bool, true, false, cond, not, List, [], ◌∷◌, ◌++◌, length, length-append, map, refl, sym, ap, subst, ◌∙◌, arith}
use Rattle.std.specs.Prelude.{All, sum_by, ◌||◌}
use Rattle.std.specs.List.{filter, flat_map, list_any, AllByRecursion, AllZip}
use Rattle.std.proofs.lemmas.Bool.{false≢true}
use Rattle.std.proofs.lemmas.Bool.Decides.{nat_tests}
use Rattle.std.proofs.lemmas.List.{length-map}
use Rattle.std.proofs.lemmas.List.Sums.{sum_by-cons}
use Rattle.group_defs.specs.Objects.{HasFileObject, is_of_file, memory_objects_in}
use Rattle.group_defs.specs.Valid.{FrameIsSound}
use Rattle.group_defs.specs.declared.frame.Frame.{Frame}
use Rattle.group_defs.specs.declared.frame.ObjectRec.{ObjectRec}
use Rattle.group_files.specs.declared.named_files.FileRec.{FileRec}
use Rattle.ckpt_chain.specs.Chain.{Has}
use Rattle.ckpt_chain.specs.MemberLaws.{all_has, has_at}
use Rattle.ckpt_records.specs.Spells.{IsOrderly}
use Rattle.ckpt_records.specs.declared.meta.PagePlace.{PagePlace}
use Rattle.restore_group.specs.Layers.{shared_out}
use Rattle.restore_group.proofs.SharedOut.{AreOwn, IsLower, objects_rise, shared_all, shared_own}
use Rattle.tables.proofs.Ordered.{IsOrdered, each_weaker, each_both, each_always, each_map, each_filter, ordered_map, ordered_filter}

-- rising numbers from one up to below another
numbers_few : (k n : ℕ) (xs : List ℕ) → IsOrdered (λ (i j : ℕ). i < j) xs → AllByRecursion (λ x. (k ≤ x) × (x < n)) xs → k ≤ n → length xs + k ≤ n
numbers_few k n [] rise each le = omega (arith, le)
numbers_few k n (x ∷ xs) rise each le =
    let rest = numbers_few (x + 1) n xs rise.1 (each_both (λ y. x < y) (λ y. (k ≤ y) × (y < n)) (λ y. (x + 1 ≤ y) × (y < n)) xs (λ y above within. (omega (arith, above), within.1)) rise.0 each.1) (omega (arith, each.0.1)) in
    omega (arith, rest, each.0.0)

abbrev page_sum : List ObjectRec → ℕ
page_sum objects = sum_by (λ o. o.pages) objects

sum_more : (o : ObjectRec) (objects : List ObjectRec) → page_sum (o ∷ objects) ≡ o.pages + page_sum objects
sum_more o objects = sum_by-cons (λ (o : ObjectRec). o.pages) o objects

-- ---- objects in two by a test

sum_if : (b : Bool) (o : ObjectRec) (one two : List ObjectRec) → page_sum (cond b (o ∷ one) one) + page_sum (cond (not b) (o ∷ two) two) ≡ o.pages + (page_sum one + page_sum two)
sum_if true o one two = omega (arith, sum_more o one)
sum_if false o one two = omega (arith, sum_more o two)

sum_parted : (t : ObjectRec → Bool) (objects : List ObjectRec) → page_sum objects ≡ page_sum (filter t objects) + page_sum (filter (λ o. not (t o)) objects)
sum_parted t [] = refl
sum_parted t (o ∷ objects) = omega (arith, sum_more o objects, sum_if (t o) o (filter t objects) (filter (λ o. not (t o)) objects), sum_parted t objects)

each_cond : (P : ObjectRec → Type 0) (b : Bool) (o : ObjectRec) (rest : List ObjectRec) → (b ≡ true → P o) → AllByRecursion P rest → AllByRecursion P (cond b (o ∷ rest) rest)
each_cond P true o rest one each = (one refl, each)
each_cond P false o rest one each = each

each_kept : (P : ObjectRec → Type 0) (t : ObjectRec → Bool) (objects : List ObjectRec) → AllByRecursion (λ o. t o ≡ true → P o) objects → AllByRecursion P (filter t objects)
each_kept P t [] each = tt
each_kept P t (o ∷ objects) each = each_cond P (t o) o (filter t objects) each.0 (each_kept P t objects each.1)

each_passes : (t : ObjectRec → Bool) (objects : List ObjectRec) → AllByRecursion (λ o. t o ≡ true) (filter t objects)
each_passes t objects = each_kept (λ o. t o ≡ true) t objects (each_always (λ o. t o ≡ true → t o ≡ true) objects (λ o said. said))

each_has : (P : ObjectRec → Type 0) (objects : List ObjectRec) → ((o : ObjectRec) → Has o objects → P o) → AllByRecursion P objects
each_has P [] all = tt
each_has P (o ∷ objects) all = (all o (inl refl), each_has P objects (λ x has. all x (inr has)))

-- ---- objects of files

same_number : (m n : ℕ) → (m == n) ≡ true → m ≡ n
same_number m n said = grind (arith, nat_tests)

is_not : (b : Bool) → not b ≡ true → b ≡ false
is_not true said = absurd (false≢true said)
is_not false said = refl

or_rest : (a b : Bool) → a || b ≡ true → a ≡ false → b ≡ true
or_rest true b said false_is = absurd (false≢true (sym false_is))
or_rest false b said false_is = said

-- one number is at most one object's
one_number : (n most : ℕ) (objects : List ObjectRec) → IsOrdered IsLower objects → AllByRecursion (λ o. (n == o.number) ≡ true) objects → AllByRecursion (λ o. o.pages ≤ most) objects → page_sum objects ≤ most
one_number n most [] rise own sizes = omega arith
one_number n most (o ∷ []) rise own sizes = omega (arith, sum_more o [], sizes.0)
one_number n most (o ∷ p ∷ objects) rise own sizes = absurd (omega (arith, rise.0.0, same_number n o.number own.0, same_number n p.number own.1.0))

-- objects of so many pages at most, each a file's
file_sum : (most : ℕ) (files : List FileRec) (objects : List ObjectRec) → IsOrdered IsLower objects → AllByRecursion (λ o. is_of_file files o.number ≡ true) objects → AllByRecursion (λ o. o.pages ≤ most) objects
    → page_sum objects ≤ most * length files
unfolding is_of_file
file_sum most [] [] rise own sizes = omega arith
file_sum most [] (o ∷ objects) rise own sizes = absurd (false≢true own.0)
file_sum most (file ∷ files) objects rise own sizes =
    let mine : ObjectRec → Bool = λ o. file.object == o.number in
    let others : List ObjectRec = filter (λ o. not (mine o)) objects in
    let first = one_number file.object most (filter mine objects) (ordered_filter IsLower mine objects rise) (each_passes mine objects) (each_filter (λ o. o.pages ≤ most) mine objects sizes) in
    let left = each_both (λ o. not (mine o) ≡ true) (λ o. is_of_file (file ∷ files) o.number ≡ true) (λ o. is_of_file files o.number ≡ true) others (λ o other of_one. or_rest (mine o) (is_of_file files o.number) of_one (is_not (mine o) other))
    (each_passes (λ o. not (mine o)) objects) (each_filter (λ o. is_of_file (file ∷ files) o.number ≡ true) (λ o. not (mine o)) objects own) in
    let rest = file_sum most files others (ordered_filter IsLower (λ o. not (mine o)) objects rise) left (each_filter (λ o. o.pages ≤ most) (λ o. not (mine o)) objects sizes) in
    omega (arith, sum_parted mine objects, first, rest)

-- the file of an object
file_of : (files : List FileRec) (n : ℕ) → is_of_file files n ≡ true → (file : FileRec) × Has file files × (file.object ≡ n)
unfolding is_of_file
file_of [] n said = absurd (false≢true said)
file_of (file ∷ files) n said = by_test (file.object == n) refl said (file_of files n)
  where
    by_test : (b : Bool) → (file.object == n) ≡ b → b || is_of_file files n ≡ true → (is_of_file files n ≡ true → (f : FileRec) × Has f files × (f.object ≡ n)) → (f : FileRec) × Has f (file ∷ files) × (f.object ≡ n)
    by_test true is said rest = (file, inl refl, same_number file.object n is)
    by_test false is said rest = let (f, has, own) = rest said in (f, inr has, own)

above_has : (o p : ObjectRec) (objects : List ObjectRec) → AllByRecursion (IsLower o) objects → Has p objects → o.number < p.number
above_has o p [] above has = absurd has
above_has o p (q ∷ objects) above (inl is) = subst (λ (x : ObjectRec). o.number < x.number) is above.0
above_has o p (q ∷ objects) above (inr has) = above_has o p objects above.1 has

same_object : (objects : List ObjectRec) (a b : ObjectRec) → IsOrdered IsLower objects → Has a objects → Has b objects → a.number ≡ b.number → a ≡ b
same_object [] a b rise one two same = absurd one
same_object (o ∷ objects) a b rise (inl one) (inl two) same = sym one ∙ two
same_object (o ∷ objects) a b rise (inl one) (inr two) same = absurd (omega (arith, above_has o b objects rise.0 two, ap (λ (x : ObjectRec). x.number) one, same))
same_object (o ∷ objects) a b rise (inr one) (inl two) same = absurd (omega (arith, above_has o a objects rise.0 one, ap (λ (x : ObjectRec). x.number) two, same))
same_object (o ∷ objects) a b rise (inr one) (inr two) same = same_object objects a b rise.1 one two same

-- a file's object has 256 pages
file_size : (files : List FileRec) (objects : List ObjectRec) → IsOrdered IsLower objects → All (HasFileObject objects) files → (o : ObjectRec) → Has o objects → is_of_file files o.number ≡ true → o.pages ≤ 256
unfolding HasFileObject
file_size files objects rise there o has said =
    let (file, of_files, own) = file_of files o.number said in
    let (k, p, lt, at, is) = all_has (HasFileObject objects) file files there of_files in
    let same : p ≡ o = same_object objects p o rise (subst (λ (x : ObjectRec). Has x objects) at (has_at objects k p lt)) has (is.0 ∙ own) in
    omega (arith, is.1, ap (λ (x : ObjectRec). x.pages) same)

sum_few : (files : List FileRec) (objects : List ObjectRec) → IsOrdered IsLower objects → All (HasFileObject objects) files → length files ≤ 64 → page_sum (memory_objects_in files objects) ≤ 65536 → page_sum objects ≤ 81920
sum_few files objects rise there count memory =
    let mine : ObjectRec → Bool = λ o. is_of_file files o.number in
    let sizes = each_kept (λ o. o.pages ≤ 256) mine objects (each_has (λ o. mine o ≡ true → o.pages ≤ 256) objects (file_size files objects rise there)) in
    omega (arith, sum_parted mine objects, memory, count, file_sum 256 files (filter mine objects) (ordered_filter IsLower mine objects rise) (each_passes mine objects) sizes)

-- ---- the pages of objects

own_few : (o : ObjectRec) (shared : ℕ × List PagePlace) → AreOwn o shared → length shared.1 ≤ o.pages
own_few o shared own =
    let few = numbers_few 0 o.pages (map (λ (p : PagePlace). p.page) shared.1) (ordered_map (λ (j k : ℕ). j < k) (λ (p : PagePlace). p.page) shared.1 own.rising)
    (each_map (λ k. (0 ≤ k) × (k < o.pages)) (λ (p : PagePlace). p.page) shared.1 (each_weaker (λ p. p.page < o.pages) (λ p. (0 ≤ p.page) × (p.page < o.pages)) shared.1 (λ p lt. (omega arith, lt)) own.within)) (omega arith) in
    omega (arith, few, length-map shared.1 (λ (p : PagePlace). p.page))

shared_few : (objects : List ObjectRec) (shared : List (ℕ × List PagePlace)) → AllZip AreOwn objects shared → length (flat_map (λ s. s.1) shared) ≤ page_sum objects
shared_few [] [] own = omega arith
shared_few [] (s ∷ shared) own = absurd own
shared_few (o ∷ objects) [] own = absurd own
shared_few (o ∷ objects) (s ∷ shared) own = omega (arith, length-append s.1 (flat_map (λ (s : ℕ × List PagePlace). s.1) shared), sum_more o objects, own_few o s own.0, shared_few objects shared own.1)

pub pages_few : (f : Frame) (count : ℕ) (pages : List PagePlace) → FrameIsSound f → IsOrderly count f pages → length pages ≤ 81920
pages_few f count pages sound orderly =
    let listed = shared_few f.objects (shared_out f.objects pages) (shared_own f pages count orderly) in
    let most = sum_few f.files f.objects (objects_rise f pages count orderly) sound.files.there sound.files.count sound.objects.pages in
    omega (arith, listed, most, ap length (shared_all f pages count orderly))
