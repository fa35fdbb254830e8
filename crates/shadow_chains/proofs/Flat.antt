-- What a chain shows as bytes, place by place.
use Rattle.std.proofs.Common.{◌≡◌, ◌≢◌, ◌⊎◌, ◌∙◌, inl, inr, ℕ, ◌+◌, ◌-◌, ◌*◌, ◌/◌, ◌%◌, ◌<◌, ◌≤◌, List, [], ◌∷◌, ◌++◌, length, get_or, drop, replicate, Some, None, Option, is_some, Bool, true, false, eqb, ◌&&◌, ◌||◌, if◌then◌else◌, refl, sym, ap, subst, arith, length-append}
use Rattle.std.proofs.lemmas.List.{ext_get_or, get_or_past, get_or_append_left, get_or-append_right, get_or-replicate, length-replicate}
use Rattle.std.proofs.lemmas.List.FromFn.{length-map-range_with_len, get_or-map-range_with_len, fill_by_all}
use Rattle.std.proofs.lemmas.Bool.{cases_lt, cases_eq, cases_Bool}
use Rattle.std.proofs.lemmas.Bool.Decides.{nat_tests}
use Rattle.lists.specs.Bytes.{put, length-put, put_below, put_within, put_above}
use Rattle.mem_objects.specs.Pages.{Pages, PutsPage}
use Rattle.shadow_chains.specs.Chain.{top_page, first_of_two, byte_of, byte_at, flat, page_set, with_range, covers, whole_page, overlaid, byte_over}
use Rattle.shadow_chains.specs.Own.{Brings}
use Rattle.shadow_chains.proofs.Tops.{top_append, top_push}

pub length-flat : (ls : List Pages) (n : ℕ) → length (flat ls n) ≡ 4096 * n
unfolding flat
length-flat ls n = length-map-range_with_len (byte_at ls) 0 (4096 * n)

pub get_or-flat : (ls : List Pages) (n i : ℕ) → i < 4096 * n → get_or (flat ls n) i 0 ≡ byte_at ls i
unfolding flat
get_or-flat ls n i lt = get_or-map-range_with_len (byte_at ls) 0 (4096 * n) i i 0 lt (omega arith)

-- a list of that length with these bytes is what is seen
pub flat_is : (ls : List Pages) (n : ℕ) (bytes : List ℕ) → length bytes ≡ 4096 * n → ((i : ℕ) → i < 4096 * n → get_or bytes i 0 ≡ byte_at ls i) → bytes ≡ flat ls n
unfolding flat
flat_is ls n bytes size each = fill_by_all (byte_at ls) bytes (4096 * n) 0 size each

div_below : (i n : ℕ) → i < 4096 * n → i / 4096 < n
div_below i n lt = omega arith

-- chains with the same pages show the same
pub flat_same : (a b : List Pages) (n : ℕ) → ((p : ℕ) → p < n → top_page a p ≡ top_page b p) → flat a n ≡ flat b n
unfolding byte_at
flat_same a b n same = flat_is b n (flat a n) (length-flat a n) (λ i lt. get_or-flat a n i lt ∙ ap (λ o. byte_of o (i % 4096)) (same (i / 4096) (div_below i n lt)))

pub length-page_set : (ls : List Pages) (n : ℕ) → length (page_set ls n) ≡ n
unfolding page_set
length-page_set ls n = length-map-range_with_len (λ p. is_some (top_page ls p)) 0 n

pub get_or-page_set : (ls : List Pages) (n p : ℕ) → p < n → get_or (page_set ls n) p false ≡ is_some (top_page ls p)
unfolding page_set
get_or-page_set ls n p lt = get_or-map-range_with_len (λ q. is_some (top_page ls q)) 0 n p p false lt (omega arith)

pub set_is : (ls : List Pages) (n : ℕ) (ms : List Bool) → length ms ≡ n → ((p : ℕ) → p < n → get_or ms p false ≡ is_some (top_page ls p)) → ms ≡ page_set ls n
unfolding page_set
set_is ls n ms size each = fill_by_all (λ p. is_some (top_page ls p)) ms n false size each

pub set_same : (a b : List Pages) (n : ℕ) → ((p : ℕ) → p < n → is_some (top_page a p) ≡ is_some (top_page b p)) → page_set a n ≡ page_set b n
set_same a b n same = set_is b n (page_set a n) (length-page_set a n) (λ p lt. get_or-page_set a n p lt ∙ same p lt)

pub length-with_range : (ms : List Bool) (place n : ℕ) → length (with_range ms place n) ≡ length ms
unfolding with_range
length-with_range ms place n = length-map-range_with_len (λ p. get_or ms p false || covers place n p) 0 (length ms)

pub get_or-with_range : (ms : List Bool) (place n p : ℕ) → p < length ms → get_or (with_range ms place n) p false ≡ (get_or ms p false || covers place n p)
unfolding with_range
get_or-with_range ms place n p lt = get_or-map-range_with_len (λ q. get_or ms q false || covers place n q) 0 (length ms) p p false lt (omega arith)

-- a place in a page
pub split_place : (page at : ℕ) → at < 4096 → ((4096 * page + at) / 4096 ≡ page) × ((4096 * page + at) % 4096 ≡ at)
split_place page at lt = (omega arith, omega arith)

get_or-zeros : (n k z : ℕ) → get_or (replicate n z) k z ≡ z
get_or-zeros n k z = elim (cases_lt k n) [
  | inl lt ↦ get_or-replicate n k z z lt
  | inr ge ↦ get_or_past (replicate n z) k z (omega (arith, length-replicate n z))
]

byte_whole : (o : Option (List ℕ)) (k : ℕ) → get_or (whole_page o) k 0 ≡ byte_of o k
byte_whole None k = get_or-zeros 4096 k 0
byte_whole (Some page) k = refl

module _ (old : List ℕ) (place : ℕ) (bytes : List ℕ) (fits : place + length bytes ≤ length old) where
  pub put_out_of : (i : ℕ) → (i < place) ⊎ (place + length bytes ≤ i) → get_or (put old place bytes) i 0 ≡ get_or old i 0
  put_out_of i (inl lt) = put_below old place bytes fits i lt
  put_out_of i (inr le) = put_above old place bytes fits i le

  pub put_into : (i : ℕ) → place ≤ i → i < place + length bytes → get_or (put old place bytes) i 0 ≡ get_or bytes (i - place) 0
  put_into i le lt =
      let e : place + (i - place) ≡ i = omega arith in
      subst (λ (k : ℕ). get_or (put old place bytes) k 0 ≡ get_or bytes (i - place) 0) e (put_within old place bytes fits (i - place) (omega arith))

-- a put into a page inside a longer list, at a place of that page
module _ (all page : List ℕ) (from at : ℕ) (bytes : List ℕ) (whole : length page ≡ 4096) (fits : at + length bytes ≤ 4096) (in_all : from + 4096 ≤ length all)
    (same : (r : ℕ) → r < 4096 → get_or all (from + r) 0 ≡ get_or page r 0) where
  in_page : at + length bytes ≤ length page
  in_page = omega arith

  in_list : from + at + length bytes ≤ length all
  in_list = omega arith

  pub put_same_page : (r : ℕ) → r < 4096 → get_or (put all (from + at) bytes) (from + r) 0 ≡ get_or (put page at bytes) r 0
  put_same_page r lt = elim (cases_lt r at) [
    | inl below ↦ put_out_of all (from + at) bytes in_list (from + r) (inl (omega arith)) ∙ same r lt ∙ sym (put_out_of page at bytes in_page r (inl below))
    | inr from_at ↦ elim (cases_lt r (at + length bytes)) [
      | inl within ↦
          let e : from + r - (from + at) ≡ r - at = omega arith in
          put_into all (from + at) bytes in_list (from + r) (omega arith) (omega arith) ∙ ap (λ (k : ℕ). get_or bytes k 0) e ∙ sym (put_into page at bytes in_page r from_at within)
      | inr above ↦ put_out_of all (from + at) bytes in_list (from + r) (inr (omega arith)) ∙ same r lt ∙ sym (put_out_of page at bytes in_page r (inr above))
    ]
  ]

or_true : (b : Bool) → (b || true) ≡ true
or_true true = refl
or_true false = refl

or_false : (b : Bool) → (b || false) ≡ b
or_false true = refl
or_false false = refl

and_three : (a b c : Bool) → a ≡ true → b ≡ true → c ≡ true → (a && b && c) ≡ true
and_three a b c x y z = rw (x, y, z) refl

pub covers_where : (place n p : ℕ) → 4096 * p < place + n → place < 4096 * p + 4096 → 0 < n → covers place n p ≡ true
unfolding covers
covers_where place n p a b c = grind (arith, nat_tests)

pub covers_not : (place n p : ℕ) → (place + n ≤ 4096 * p) ⊎ (4096 * p + 4096 ≤ place) → covers place n p ≡ false
unfolding covers
covers_not place n p (inl a) = grind (arith, nat_tests)
covers_not place n p (inr b) = grind (arith, nat_tests)

covers_here : (page at n q : ℕ) → at + n ≤ 4096 → 0 < n → eqb page q ≡ true → covers (4096 * page + at) n q ≡ true
covers_here page at n q fits positive same =
    let e : page ≡ q = grind (arith, nat_tests) in covers_where (4096 * page + at) n q (omega arith) (omega arith) positive

covers_else : (page at n q : ℕ) → at + n ≤ 4096 → eqb page q ≡ false → covers (4096 * page + at) n q ≡ false
covers_else page at n q fits apart =
    let e : page ≢ q = grind (arith, nat_tests) in
    covers_not (4096 * page + at) n q (elim (cases_lt q page) [ inl lt ↦ inr (omega arith) | inr ge ↦ inl (omega arith) ])

-- One write in one page, over any chain.
module _ (ls : List Pages) (old new : Pages) (page at : ℕ) (bytes : List ℕ) (brings : Brings old new page (top_page (ls ++ old ∷ []) page) at bytes) (fits : at + length bytes ≤ 4096) where
  top_after : (q : ℕ) → top_page (ls ++ new ∷ []) q ≡ (if eqb page q then Some (put (whole_page (top_page (ls ++ old ∷ []) page)) at bytes) else top_page (ls ++ old ∷ []) q)
  unfolding PutsPage
  top_after q =
      top_push ls new q ∙ ap (λ o. first_of_two o (top_page ls q)) (brings.puts q)
      ∙ elim (cases_Bool (eqb page q)) [
        | inl same ↦ rw same refl
        | inr apart ↦ rw apart (sym (top_push ls old q))
      ]

  outside : (q page' r i : ℕ) → 4096 * q + r ≡ i → r < 4096 → q ≢ page' → (i < 4096 * page' + at) ⊎ (4096 * page' + at + length bytes ≤ i)
  outside q page' r i split small apart = elim (cases_lt q page') [ inl lt ↦ inl (omega arith) | inr ge ↦ inr (omega arith) ]

  -- the page's place among all bytes
  byte_put : (n : ℕ) → page < n → (i : ℕ) → i < 4096 * n → get_or (put (flat (ls ++ old ∷ []) n) (4096 * page + at) bytes) i 0 ≡ byte_at (ls ++ new ∷ []) i
  unfolding byte_at
  byte_put n inside i lt =
      let q = i / 4096 in
      let r = i % 4096 in
      let small : r < 4096 = omega arith in
      let split : 4096 * q + r ≡ i = omega arith in
      let all = flat (ls ++ old ∷ []) n in
      let size : length all ≡ 4096 * n = length-flat (ls ++ old ∷ []) n in
      let was = whole_page (top_page (ls ++ old ∷ []) page) in
      let same : (k : ℕ) → k < 4096 → get_or all (4096 * page + k) 0 ≡ get_or was k 0 =
      (λ k below.
      let parts = split_place page k below in
      get_or-flat (ls ++ old ∷ []) n (4096 * page + k) (omega arith)
      ∙ ap (λ (m : ℕ). byte_of (top_page (ls ++ old ∷ []) m) ((4096 * page + k) % 4096)) parts.0
      ∙ ap (λ (m : ℕ). byte_of (top_page (ls ++ old ∷ []) page) m) parts.1
      ∙ sym (byte_whole (top_page (ls ++ old ∷ []) page) k)) in
      elim (cases_eq q page) [
        | inl here ↦
            let yes : eqb page q ≡ true = grind (arith, nat_tests) in
            let place : 4096 * page + r ≡ i = omega arith in
            subst (λ (m : ℕ). get_or (put all (4096 * page + at) bytes) m 0 ≡ byte_of (top_page (ls ++ new ∷ []) q) r) place
            (put_same_page all was (4096 * page) at bytes brings.whole fits (omega arith) same r small
            ∙ sym (ap (λ (o : Option (List ℕ)). byte_of o r) (top_after q) ∙ rw yes refl))
        | inr apart ↦
            let no : eqb page q ≡ false = grind (arith, nat_tests) in
            let out : (i < 4096 * page + at) ⊎ (4096 * page + at + length bytes ≤ i) = outside q page r i split small apart in
            put_out_of all (4096 * page + at) bytes (omega arith) i out ∙ get_or-flat (ls ++ old ∷ []) n i lt
            ∙ sym (ap (λ (o : Option (List ℕ)). byte_of o r) (top_after q) ∙ rw no refl)
      ]

  pub flat_brings : (n : ℕ) → page < n → flat (ls ++ new ∷ []) n ≡ put (flat (ls ++ old ∷ []) n) (4096 * page + at) bytes
  flat_brings n inside =
      let room : 4096 * page + at + length bytes ≤ length (flat (ls ++ old ∷ []) n) = omega (arith, length-flat (ls ++ old ∷ []) n) in
      sym (flat_is (ls ++ new ∷ []) n (put (flat (ls ++ old ∷ []) n) (4096 * page + at) bytes) (length-put (flat (ls ++ old ∷ []) n) (4096 * page + at) bytes room ∙ length-flat (ls ++ old ∷ []) n) (byte_put n inside))

  some_after : (s q : ℕ) → 0 < length bytes → is_some (top_page (drop s ls ++ new ∷ []) q) ≡ (is_some (top_page (drop s ls ++ old ∷ []) q) || covers (4096 * page + at) (length bytes) q)
  unfolding PutsPage
  some_after s q positive =
      ap (λ (o : Option (List ℕ)). is_some o) (top_push (drop s ls) new q ∙ ap (λ o. first_of_two o (top_page (drop s ls) q)) (brings.puts q))
      ∙ elim (cases_Bool (eqb page q)) [
        | inl same ↦ rw (same, covers_here page at (length bytes) q fits positive same) (sym (or_true (is_some (top_page (drop s ls ++ old ∷ []) q))))
        | inr apart ↦ rw (apart, covers_else page at (length bytes) q fits apart) (sym (ap (λ (o : Option (List ℕ)). is_some o) (top_push (drop s ls) old q)) ∙ sym (or_false (is_some (top_page (drop s ls ++ old ∷ []) q))))
      ]

  pub set_brings : (n s : ℕ) → page < n → 0 < length bytes → page_set (drop s ls ++ new ∷ []) n ≡ with_range (page_set (drop s ls ++ old ∷ []) n) (4096 * page + at) (length bytes)
  set_brings n s inside positive =
      sym (set_is (drop s ls ++ new ∷ []) n (with_range (page_set (drop s ls ++ old ∷ []) n) (4096 * page + at) (length bytes))
      (length-with_range (page_set (drop s ls ++ old ∷ []) n) (4096 * page + at) (length bytes) ∙ length-page_set (drop s ls ++ old ∷ []) n)
      (λ p lt. get_or-with_range (page_set (drop s ls ++ old ∷ []) n) (4096 * page + at) (length bytes) p (omega (arith, length-page_set (drop s ls ++ old ∷ []) n))
      ∙ ap (λ b. b || covers (4096 * page + at) (length bytes) p) (get_or-page_set (drop s ls ++ old ∷ []) n p lt)
      ∙ sym (some_after s p positive)))

-- nothing in the chain
pub flat_zeros : (ls : List Pages) (n : ℕ) → ((p : ℕ) → top_page ls p ≡ None) → replicate (4096 * n) 0 ≡ flat ls n
unfolding byte_at
flat_zeros ls n none = flat_is ls n (replicate (4096 * n) 0) (length-replicate (4096 * n) 0) (λ i lt. get_or-replicate (4096 * n) i 0 0 lt ∙ sym (ap (λ (o : Option (List ℕ)). byte_of o (i % 4096)) (none (i / 4096))))

pub set_none : (ls : List Pages) (n : ℕ) → ((p : ℕ) → top_page ls p ≡ None) → replicate n false ≡ page_set ls n
set_none ls n none = set_is ls n (replicate n false) (length-replicate n false) (λ p lt. get_or-replicate n p false false lt ∙ sym (ap (λ (o : Option (List ℕ)). is_some o) (none p)))

pub length-overlaid : (ls : List Pages) (below : List ℕ) (n : ℕ) → length (overlaid ls below n) ≡ 4096 * n
unfolding overlaid
length-overlaid ls below n = length-map-range_with_len (λ i. byte_over (top_page ls (i / 4096)) (i % 4096) (get_or below i 0)) 0 (4096 * n)

pub get_or-overlaid : (ls : List Pages) (below : List ℕ) (n i : ℕ) → i < 4096 * n → get_or (overlaid ls below n) i 0 ≡ byte_over (top_page ls (i / 4096)) (i % 4096) (get_or below i 0)
unfolding overlaid
get_or-overlaid ls below n i lt = get_or-map-range_with_len (λ k. byte_over (top_page ls (k / 4096)) (k % 4096) (get_or below k 0)) 0 (4096 * n) i i 0 lt (omega arith)

over_two : (x y : Option (List ℕ)) (k : ℕ) → byte_over x k (byte_of y k) ≡ byte_of (first_of_two x y) k
over_two None y k = refl
over_two (Some x) y k = refl

-- layers over the bytes of those below show what both show together
pub overlaid_flat : (a b : List Pages) (n : ℕ) → overlaid b (flat a n) n ≡ flat (a ++ b) n
unfolding byte_at
overlaid_flat a b n = flat_is (a ++ b) n (overlaid b (flat a n) n) (length-overlaid b (flat a n) n) (λ i lt.
    get_or-overlaid b (flat a n) n i lt
    ∙ ap (λ (k : ℕ). byte_over (top_page b (i / 4096)) (i % 4096) k) (get_or-flat a n i lt)
    ∙ over_two (top_page b (i / 4096)) (top_page a (i / 4096)) (i % 4096)
    ∙ ap (λ (o : Option (List ℕ)). byte_of o (i % 4096)) (sym (top_append a b (i / 4096))))

-- one put after another
module _ (all xs ys : List ℕ) (place : ℕ) (fits : place + length xs + length ys ≤ length all) where
  both : length (xs ++ ys) ≡ length xs + length ys
  both = length-append xs ys

  one : place + length xs ≤ length all
  one = omega arith

  size : length (put all place xs) ≡ length all
  size = length-put all place xs one

  two : place + length xs + length ys ≤ length (put all place xs)
  two = omega (arith, size)

  whole : place + length (xs ++ ys) ≤ length all
  whole = omega (arith, both)

  sizes : length (put (put all place xs) (place + length xs) ys) ≡ length (put all place (xs ++ ys))
  sizes = length-put (put all place xs) (place + length xs) ys two ∙ size ∙ sym (length-put all place (xs ++ ys) whole)

  each : (i : ℕ) → i < length (put (put all place xs) (place + length xs) ys) → get_or (put (put all place xs) (place + length xs) ys) i 0 ≡ get_or (put all place (xs ++ ys)) i 0
  each i lt =
      let b = both in
      let z = size in
      elim (cases_lt i place) [
        | inl below ↦
            put_out_of (put all place xs) (place + length xs) ys two i (inl (omega (arith, both, size))) ∙ put_out_of all place xs one i (inl below)
            ∙ sym (put_out_of all place (xs ++ ys) whole i (inl below))
        | inr from ↦ elim (cases_lt i (place + length xs)) [
          | inl first ↦
              put_out_of (put all place xs) (place + length xs) ys two i (inl first) ∙ put_into all place xs one i from first
              ∙ sym (put_into all place (xs ++ ys) whole i from (omega (arith, both, size)) ∙ get_or_append_left xs ys 0 (i - place) (omega (arith, both, size)))
          | inr after ↦ elim (cases_lt i (place + length xs + length ys)) [
            | inl second ↦
                let e : i - place - length xs ≡ i - (place + length xs) = omega arith in
                put_into (put all place xs) (place + length xs) ys two i after second
                ∙ sym (put_into all place (xs ++ ys) whole i from (omega (arith, both, size)) ∙ get_or-append_right xs ys (length xs) (i - place) 0 refl (omega (arith, both, size)) ∙ ap (λ (k : ℕ). get_or ys k 0) e)
            | inr past ↦
                put_out_of (put all place xs) (place + length xs) ys two i (inr past) ∙ put_out_of all place xs one i (inr after)
                ∙ sym (put_out_of all place (xs ++ ys) whole i (inr (omega (arith, both, size))))
          ]
        ]
      ]

  pub put_put : put (put all place xs) (place + length xs) ys ≡ put all place (xs ++ ys)
  put_put = ext_get_or 0 (put (put all place xs) (place + length xs) ys) (put all place (xs ++ ys)) sizes each

-- putting no bytes changes nothing
pub put_none : (all : List ℕ) (place : ℕ) → place ≤ length all → put all place [] ≡ all
put_none all place le =
    ext_get_or 0 (put all place []) all (length-put all place [] (omega arith)) (λ i lt. elim (cases_lt i place) [ inl below ↦ put_out_of all place [] (omega arith) i (inl below) | inr above ↦ put_out_of all place [] (omega arith) i (inr (omega arith)) ])

or_assoc : (a b c : Bool) → (a || b || c) ≡ (a || (b || c))
or_assoc true b c = refl
or_assoc false b c = refl

pub covers_zero : (place p : ℕ) → covers place 0 p ≡ false
unfolding covers
covers_zero place p = grind (arith, nat_tests)

-- what covers says
pub covers_means : (place n p : ℕ) → covers place n p ≡ true → (4096 * p < place + n) × (place < 4096 * p + 4096)
covers_means place n p covered = elim (cases_lt (4096 * p) (place + n)) [
  | inl a ↦ elim (cases_lt place (4096 * p + 4096)) [ inl b ↦ (a, b) | inr b ↦ absurd (let never = covers_not place n p (inr b) in cc) ]
  | inr a ↦ absurd (let never = covers_not place n p (inl a) in cc)
]

covers_two : (place a b p : ℕ) → 0 < b → (covers place a p || covers (place + a) b p) ≡ covers place (a + b) p
covers_two place a b p positive = elim (cases_lt (4096 * p) (place + (a + b))) [
  | inr out ↦ rw (covers_not place a p (inl (omega arith)), covers_not (place + a) b p (inl (omega arith)), covers_not place (a + b) p (inl out)) refl
  | inl low ↦ elim (cases_lt place (4096 * p + 4096)) [
    | inr out ↦ rw (covers_not place a p (inr out), covers_not (place + a) b p (inr (omega arith)), covers_not place (a + b) p (inr out)) refl
    | inl high ↦ elim (cases_lt (4096 * p) (place + a)) [
      | inl first ↦ elim (cases_lt 0 a) [
        | inl some ↦ rw (covers_where place a p first high some, covers_where place (a + b) p low high (omega arith)) refl
        | inr none ↦ rw (covers_where (place + a) b p (omega arith) (omega arith) positive, covers_where place (a + b) p low high (omega arith)) (or_true (covers place a p))
      ]
      | inr second ↦ rw (covers_where (place + a) b p (omega arith) (omega arith) positive, covers_where place (a + b) p low high (omega arith)) (or_true (covers place a p))
    ]
  ]
]

pub mark_mark : (ms : List Bool) (place a b : ℕ) → 0 < b → with_range (with_range ms place a) (place + a) b ≡ with_range ms place (a + b)
mark_mark ms place a b positive =
    ext_get_or false (with_range (with_range ms place a) (place + a) b) (with_range ms place (a + b))
    (length-with_range (with_range ms place a) (place + a) b ∙ length-with_range ms place a ∙ sym (length-with_range ms place (a + b)))
    (λ p lt.
    let small : p < length ms = omega (arith, length-with_range (with_range ms place a) (place + a) b, length-with_range ms place a) in
    get_or-with_range (with_range ms place a) (place + a) b p (omega (arith, length-with_range ms place a))
    ∙ ap (λ (x : Bool). x || covers (place + a) b p) (get_or-with_range ms place a p small)
    ∙ or_assoc (get_or ms p false) (covers place a p) (covers (place + a) b p)
    ∙ ap (λ (x : Bool). get_or ms p false || x) (covers_two place a b p positive)
    ∙ sym (get_or-with_range ms place (a + b) p small))

pub mark_none : (ms : List Bool) (place : ℕ) → with_range ms place 0 ≡ ms
mark_none ms place =
    ext_get_or false (with_range ms place 0) ms (length-with_range ms place 0)
    (λ p lt.
    let small : p < length ms = omega (arith, length-with_range ms place 0) in
    get_or-with_range ms place 0 p small ∙ ap (λ (x : Bool). get_or ms p false || x) (covers_zero place p) ∙ or_false (get_or ms p false))
