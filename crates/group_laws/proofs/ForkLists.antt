-- The copies that a fork makes: fresh numbers in rising order, one for each object.
use Rattle.std.proofs.Common.{◌≡◌, ◌⊎◌, inl, inr, ℕ, suc, ◌+◌, ◌<◌, ◌≤◌, Bool, List, [], ◌∷◌, ◌++◌, length, map, get_or, Some, refl, ap, ◌∙◌, subst, arith}
use Rattle.std.specs.Prelude.{All, AllPairs, Any, find, sum_by}
use Rattle.std.specs.List.{AllZip}
use Rattle.std.specs.Option.{option_or}
use Rattle.std.proofs.lemmas.Bool.{eq-eqb, ne_eqb}
use Rattle.std.proofs.lemmas.List.Elements.{All-cons, All-head, All-map, All-nil, All-tail, All-weaker}
use Rattle.std.proofs.lemmas.List.Folds.{find-append}
use Rattle.std.proofs.lemmas.List.Kept.{AllPairs-cons}
use Rattle.std.proofs.lemmas.List.Sums.{sum_by-cons}
use Rattle.group_defs.specs.Fork.{Copy, copies_from, fresh_number}
use Rattle.group_defs.specs.declared.frame.ObjectRec.{ObjectRec}
use Rattle.tables.specs.Rising.{Rise}
use Rattle.group_laws.proofs.Lists.{any_here, any_split, any_there}

-- Lists.
pub found_first : {X : Type 0} (t : X → Bool) (xs ys : List X) (x : X) → find t xs ≡ Some x → find t (xs ++ ys) ≡ Some x
found_first t xs ys x found = find-append t xs ys ∙ ap (λ o. option_or o (find t ys)) found

pub any_append_right : {X : Type 0} (P : X → Type 0) (xs ys : List X) → Any P ys → Any P (xs ++ ys)
any_append_right P [] ys any = any
any_append_right P (x ∷ xs) ys any = any_there P x (xs ++ ys) (any_append_right P xs ys any)

pub pairs_map : {X Y : Type 0} (R : Y → Y → Type 0) (f : X → Y) (xs : List X) → AllPairs (λ x y. R (f x) (f y)) xs → AllPairs R (map f xs)
pairs_map R f [] pairs = λ i j d lt lt'. absurd (omega (arith, lt'))
pairs_map {X} {Y} R f (x ∷ xs) pairs =
    AllPairs-cons R (f x) (map f xs) (All-map (R (f x)) f xs (λ k d lt. pairs 0 (suc k) d (omega arith) (omega (arith, lt)))) (pairs_map R f xs (λ i j d lt lt'. pairs (suc i) (suc j) d (omega (arith, lt)) (omega (arith, lt'))))

-- numbers below a bound, and then numbers from it on
pub rise_append : {X : Type 0} (n : X → ℕ) (k : ℕ) (xs ys : List X) → Rise n xs → Rise n ys → All (λ x. n x < k) xs → All (λ y. k ≤ n y) ys → Rise n (xs ++ ys)
unfolding Rise
rise_append n k [] ys rise rise' below from = rise'
rise_append {X} n k (x ∷ xs) ys rise rise' below from =
    AllPairs-cons (λ (y z : X). n y < n z) x (xs ++ ys)
    (appended xs ys (λ j d lt. rise 0 (suc j) d (omega arith) (omega (arith, lt))) (λ j d lt. let low = below 0 x (omega arith) in let high = from j d lt in omega (arith, low, high)))
    (rise_append n k xs ys (λ i j d lt lt'. rise (suc i) (suc j) d (omega (arith, lt)) (omega (arith, lt'))) rise' (All-tail (λ y. n y < k) x xs below) from)
  where
    appended : (zs ws : List X) → All (λ y. n x < n y) zs → All (λ y. n x < n y) ws → All (λ y. n x < n y) (zs ++ ws)
    appended [] ws a b = b
    appended (z ∷ zs) ws a b = All-cons (λ (y : X). n x < n y) z (zs ++ ws) (All-head (λ (y : X). n x < n y) z zs a) (appended zs ws (All-tail (λ (y : X). n x < n y) z zs a) b)

pub zip_append : {X Y : Type 0} (R : X → Y → Type 0) (xs : List X) (ys : List Y) (xs' : List X) (ys' : List Y) → AllZip R xs ys → AllZip R xs' ys' → AllZip R (xs ++ xs') (ys ++ ys')
zip_append R [] [] xs' ys' zip zip' = zip'
zip_append R [] (y ∷ ys) xs' ys' zip zip' = absurd zip
zip_append R (x ∷ xs) [] xs' ys' zip zip' = absurd zip
zip_append R (x ∷ xs) (y ∷ ys) xs' ys' zip zip' = (zip.0, zip_append R xs ys xs' ys' zip.1 zip')

pub zip_maps : {X Y Z : Type 0} (R : X → Y → Type 0) (f : Z → X) (g : Z → Y) (zs : List Z) → All (λ z. R (f z) (g z)) zs → AllZip R (map f zs) (map g zs)
zip_maps R f g [] all = tt
zip_maps R f g (z ∷ zs) all = (all 0 z (omega arith), zip_maps R f g zs (All-tail (λ x. R (f x) (g x)) z zs all))

-- what holds of each holds of what is there
pub there_all : {X : Type 0} (P : X → Type 0) (xs : List X) (x : X) → Any (λ y. y ≡ x) xs → All P xs → P x
there_all P xs x (k, y, lt, at, is) all = subst P is (subst P at (all k y lt))

-- Copies.
pub copies_length : (n : ℕ) (os : List ObjectRec) → length (copies_from n os) ≡ length os
unfolding copies_from
copies_length n [] = refl
copies_length n (o ∷ os) = let rest = copies_length (n + 1) os in omega (arith, rest)

pub record IsCopyOf (P : ObjectRec → Type 0) (n k : ℕ) (c : Copy) : Type 0 where
  pub old : P c.old
  pub from : n ≤ c.fresh
  pub below : c.fresh < n + k

pub copies_all : (P : ObjectRec → Type 0) (n : ℕ) (os : List ObjectRec) → All P os → All (IsCopyOf P n (length os)) (copies_from n os)
unfolding copies_from
copies_all P n [] all = All-nil (IsCopyOf P n 0)
copies_all P n (o ∷ os) all =
    All-cons (IsCopyOf P n (suc (length os))) (record { old = o; fresh = n }) (copies_from (n + 1) os) (record { old = All-head P o os all; from = omega arith; below = omega arith })
    (All-weaker (IsCopyOf P (n + 1) (length os)) (IsCopyOf P n (suc (length os))) (λ c is. let low = is.from in let high = is.below in record { old = is.old; from = omega (arith, low); below = omega (arith, high) }) (copies_from (n + 1) os) (copies_all P (n + 1) os (All-tail P o os all)))

pub copies_rise : (n : ℕ) (os : List ObjectRec) → Rise (λ c. c.fresh) (copies_from n os)
unfolding copies_from Rise
copies_rise n [] = λ i j d lt lt'. absurd (omega (arith, lt'))
copies_rise n (o ∷ os) =
    AllPairs-cons (λ (b c : Copy). b.fresh < c.fresh) (record { old = o; fresh = n }) (copies_from (n + 1) os)
    (All-weaker (IsCopyOf (λ x. Unit {0}) (n + 1) (length os)) (λ c. n < c.fresh) (λ c is. let low = is.from in omega (arith, low)) (copies_from (n + 1) os) (copies_all (λ x. Unit {0}) (n + 1) os (λ k d lt. tt)))
    (copies_rise (n + 1) os)

pub copy_there : (P : ObjectRec → Type 0) (n : ℕ) (os : List ObjectRec) → Any P os → Any (λ c. P c.old) (copies_from n os)
unfolding copies_from
copy_there P n [] (k, y, lt, is, p) = absurd (omega (arith, lt))
copy_there P n (o ∷ os) any = by_split (any_split P o os any) (copy_there P (n + 1) os)
  where
    by_split : P o ⊎ Any P os → (Any P os → Any (λ c. P c.old) (copies_from (n + 1) os)) → Any (λ c. P c.old) (record { old = o; fresh = n } ∷ copies_from (n + 1) os)
    by_split (inl p) more = any_here (λ (c : Copy). P c.old) (record { old = o; fresh = n }) (copies_from (n + 1) os) p
    by_split (inr rest) more = any_there (λ (c : Copy). P c.old) (record { old = o; fresh = n }) (copies_from (n + 1) os) (more rest)

-- each copy is found by its old number
pub fresh_is : (n : ℕ) (os : List ObjectRec) → Rise (λ o. o.number) os → All (λ c. fresh_number (copies_from n os) c.old.number ≡ c.fresh) (copies_from n os)
unfolding copies_from Rise
fresh_is n [] rise = λ k d lt. absurd (omega (arith, lt))
fresh_is n (o ∷ os) rise =
    let head : Copy = record { old = o; fresh = n } in
    let rest : List Copy = copies_from (n + 1) os in
    let above : All (λ x. o.number < x.number) os = λ k d lt. rise 0 (suc k) d (omega arith) (omega (arith, lt)) in
    All-cons (λ c. fresh_number (head ∷ rest) c.old.number ≡ c.fresh) head rest (rw (eq-eqb o.number o.number refl, fresh_number) refl)
    (λ k d lt. let up = (copies_all (λ x. o.number < x.number) (n + 1) os above k d lt).old in skip (get_or rest k d) (λ same. omega (arith, up, same)) (fresh_is (n + 1) os (λ i j e lt lt'. rise (suc i) (suc j) e (omega (arith, lt)) (omega (arith, lt'))) k d lt))
  where
    skip : (c : Copy) → (o.number ≡ c.old.number → ⊥) → fresh_number (copies_from (n + 1) os) c.old.number ≡ c.fresh → fresh_number (record { old = o; fresh = n } ∷ copies_from (n + 1) os) c.old.number ≡ c.fresh
    skip c other is = rw (ne_eqb o.number c.old.number other, fresh_number) is

pub copies_pages : (n : ℕ) (os : List ObjectRec) → sum_by (λ o. o.pages) (map (λ c. record c.old { number = c.fresh }) (copies_from n os)) ≡ sum_by (λ o. o.pages) os
unfolding copies_from
copies_pages n [] = refl
copies_pages n (o ∷ os) =
    let rest = copies_pages (n + 1) os in
    omega (arith, rest, sum_by-cons (λ (x : ObjectRec). x.pages) o os, sum_by-cons (λ (x : ObjectRec). x.pages) (record o { number = n }) (map (λ c. record c.old { number = c.fresh }) (copies_from (n + 1) os)))
