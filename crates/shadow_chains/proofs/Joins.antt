-- Layers put into one.
use Rattle.std.proofs.Common.{◌≡◌, ◌∙◌, inl, inr, ℕ, ◌≤◌, eqb, List, [], ◌∷◌, ◌++◌, length, take, drop, map, Some, None, Option, is_some, refl, sym, ap, subst, arith, append_assoc, length-append}
use Rattle.std.proofs.lemmas.List.{take-append-drop, drop-append-le, take-append-le, take_all, drop_all, map_push, length-map}
use Rattle.std.proofs.lemmas.Bool.{cases_Bool}
use Rattle.std.proofs.lemmas.Bool.Decides.{nat_tests}
use Rattle.mem_objects.specs.Pages.{Pages, page_of, PutsPage}
use Rattle.shadow_chains.specs.Chain.{top_page, first_of_two, flat, page_set}
use Rattle.shadow_chains.specs.Own.{Joins, ShowSame, ShowAlike, Lowers}
use Rattle.shadow_chains.proofs.Tops.{top_append, top_push, two_none, two_assoc}
use Rattle.shadow_chains.proofs.Flat.{flat_same, set_same}

page_append : (a b : Pages) (p : ℕ) → page_of (a ++ b) p ≡ first_of_two (page_of a p) (page_of b p)
page_append [] b p = refl
page_append ((k, v) ∷ a) b p = elim (cases_Bool (eqb k p)) [
  | inl same ↦ rw same refl
  | inr apart ↦ rw apart (page_append a b p)
]

two_again : (x y : Option (List ℕ)) → first_of_two x (first_of_two x y) ≡ first_of_two x y
two_again None y = refl
two_again (Some x) y = refl

pub joins_none : (a : Pages) → Joins a [] a
unfolding Joins
joins_none a p = sym (two_none (page_of a p))

-- a page that is there already
pub joins_found : (over : Pages) (page : ℕ) (v b : List ℕ) → page_of over page ≡ Some b → Joins over ((page, v) ∷ []) over
unfolding Joins
joins_found over page v b found p = elim (cases_Bool (eqb page p)) [
  | inl same ↦
      let e : page ≡ p = grind (arith, nat_tests) in
      let here : page_of over p ≡ Some b = ap (page_of over) (sym e) ∙ found in
      rw (same, here) refl
  | inr apart ↦ rw apart (sym (two_none (page_of over p)))
]

-- a page that is added
pub joins_put : (over new : Pages) (page : ℕ) (v : List ℕ) → page_of over page ≡ None → PutsPage over new page v → Joins over ((page, v) ∷ []) new
unfolding Joins PutsPage
joins_put over new page v absent puts p = puts p ∙ elim (cases_Bool (eqb page p)) [
  | inl same ↦
      let e : page ≡ p = grind (arith, nat_tests) in
      let here : page_of over p ≡ None = ap (page_of over) (sym e) ∙ absent in
      rw (same, here) refl
  | inr apart ↦ rw apart (sym (two_none (page_of over p)))
]

pub joins_more : (a xs c : Pages) (x : ℕ × List ℕ) (d : Pages) → Joins a xs c → Joins c (x ∷ []) d → Joins a (xs ++ x ∷ []) d
unfolding Joins
joins_more a xs c x d first second p =
    second p ∙ ap (λ o. first_of_two o (page_of (x ∷ []) p)) (first p) ∙ two_assoc (page_of a p) (page_of xs p) (page_of (x ∷ []) p)
    ∙ ap (first_of_two (page_of a p)) (sym (page_append xs (x ∷ []) p))

-- some of the pages below, which stay there
pub joins_front : (a b c : Pages) (i : ℕ) → Joins a (take i b) c → ShowSame a b c b
unfolding Joins ShowSame
joins_front a b c i joins p =
    let t = page_of (take i b) p in
    let d = page_of (drop i b) p in
    let all : page_of b p ≡ first_of_two t d = ap (λ (l : Pages). page_of l p) (sym (take-append-drop i b)) ∙ page_append (take i b) (drop i b) p in
    rw all (ap (λ o. first_of_two o (first_of_two t d)) (joins p) ∙ two_assoc (page_of a p) t (first_of_two t d) ∙ ap (first_of_two (page_of a p)) (two_again t d))

-- all of them, which went
pub joins_all : (a b c : Pages) → Joins a b c → ShowSame a b c []
unfolding Joins ShowSame
joins_all a b c joins p = two_none (page_of c p) ∙ joins p

pub shows_itself : (a b : Pages) → ShowSame a b a b
unfolding ShowSame
shows_itself a b p = refl

pub alike_itself : (a : List Pages) → ShowAlike a a
unfolding ShowAlike
alike_itself a p = refl

pub alike_then : (a b c : List Pages) → ShowAlike a b → ShowAlike b c → ShowAlike a c
unfolding ShowAlike
alike_then a b c first second p = second p ∙ first p

pub alike_empty : (a : List Pages) → ShowAlike a (a ++ [] ∷ [])
unfolding ShowAlike
alike_empty a p = top_push a [] p

pub alike_emptied : (a : List Pages) (own : Pages) (new : List Pages) → own ≡ [] → new ≡ a ++ own ∷ [] → ShowAlike a new
alike_emptied a own new empty is = rw (is, empty) (alike_empty a)

module _ (xs : List Pages) (s : ℕ) (fits : s ≤ length xs) (b own own' : Pages) where
  two_tops : (x y : Pages) (p : ℕ) → top_page (drop s (xs ++ x ∷ []) ++ y ∷ []) p ≡ first_of_two (first_of_two (page_of y p) (page_of x p)) (top_page (drop s xs) p)
  two_tops x y p =
      top_push (drop s (xs ++ x ∷ [])) y p
      ∙ ap (λ (l : List Pages). first_of_two (page_of y p) (top_page l p)) (drop-append-le s xs (x ∷ []) fits)
      ∙ ap (first_of_two (page_of y p)) (top_push (drop s xs) x p)
      ∙ sym (two_assoc (page_of y p) (page_of x p) (top_page (drop s xs) p))

  -- the topmost layer's pages came into the own one
  pub lowers_joined : Joins own b own' → Lowers s (xs ++ b ∷ []) own xs own'
  unfolding Joins ShowAlike
  lowers_joined joins = record {
    fits = fits;
    kept = sym (take-append-le s xs (b ∷ []) fits);
    alike = λ p. top_push (drop s xs) own' p ∙ ap (λ o. first_of_two o (top_page (drop s xs) p)) (joins p) ∙ sym (two_tops b own p);
  }

  -- some of them
  pub lowers_same : (b' : Pages) → ShowSame own b own' b' → Lowers s (xs ++ b ∷ []) own (xs ++ b' ∷ []) own'
  unfolding ShowSame ShowAlike
  lowers_same b' same = record {
    fits = omega (arith, fits, length-append xs (b' ∷ []));
    kept = take-append-le s xs (b' ∷ []) fits ∙ sym (take-append-le s xs (b ∷ []) fits);
    alike = λ p. two_tops b' own' p ∙ ap (λ o. first_of_two o (top_page (drop s xs) p)) (same p) ∙ sym (two_tops b own p);
  }

-- the same of layers that stand behind owners, the topmost of which was taken away, and came back in the second
module _ {X : Type 0} (f : X → Pages) (old new : List X) (x : X) (is : old ≡ new ++ x ∷ []) (s : ℕ) (fits : s ≤ length new) (own own' : Pages) where
  mapped : map f old ≡ map f new ++ f x ∷ []
  mapped = ap (map f) is ∙ map_push f new x

  in_front : s ≤ length (map f new)
  in_front = omega (arith, fits, length-map new f)

  pub lowers_popped : Joins own (f x) own' → Lowers s (map f old) own (map f new) own'
  lowers_popped joins = subst (λ (l : List Pages). Lowers s l own (map f new) own') (sym mapped) (lowers_joined (map f new) s in_front (f x) own own' joins)

  pub lowers_pushed : (b : Pages) (last : List Pages) → ShowSame own (f x) own' b → last ≡ map f new ++ b ∷ [] → Lowers s (map f old) own last own'
  lowers_pushed b last same at =
      rw at (subst (λ (l : List Pages). Lowers s l own (map f new ++ b ∷ []) own') (sym mapped) (lowers_same (map f new) s in_front (f x) own own' b same))

pub lowers_itself : (s : ℕ) (ls : List Pages) (own : Pages) → s ≤ length ls → Lowers s ls own ls own
lowers_itself s ls own fits = record { fits = fits; kept = refl; alike = alike_itself (drop s ls ++ own ∷ []) }

pub lowers_then : (s : ℕ) (a : List Pages) (x : Pages) (b : List Pages) (y : Pages) (c : List Pages) (z : Pages) → Lowers s a x b y → Lowers s b y c z → Lowers s a x c z
lowers_then s a x b y c z first second = record {
  fits = second.fits;
  kept = second.kept ∙ first.kept;
  alike = alike_then _ _ _ first.alike second.alike;
}

-- What a face shows through layers that were put together: below a place and from it on the same.
pub record SeesSame (s : ℕ) (old : List Pages) (own : Pages) (s' : ℕ) (new : List Pages) (own' : Pages) : Type 0 where
  pub low : ShowAlike (take s old) (take s' new)
  pub high : ShowAlike (drop s old ++ own ∷ []) (drop s' new ++ own' ∷ [])

module _ (s : ℕ) (old : List Pages) (own : Pages) (s' : ℕ) (new : List Pages) (own' : Pages) (same : SeesSame s old own s' new own') (n : ℕ) where
  whole : (k : ℕ) (ls : List Pages) (x : Pages) → take k ls ++ (drop k ls ++ x ∷ []) ≡ ls ++ x ∷ []
  whole k ls x = sym (append_assoc (take k ls) (drop k ls) (x ∷ [])) ∙ ap (λ (l : List Pages). l ++ x ∷ []) (take-append-drop k ls)

  all_same : (p : ℕ) → top_page (new ++ own' ∷ []) p ≡ top_page (old ++ own ∷ []) p
  unfolding ShowAlike
  all_same p =
      let low = same.low in
      let high = same.high in
      ap (λ (l : List Pages). top_page l p) (sym (whole s' new own')) ∙ top_append (take s' new) (drop s' new ++ own' ∷ []) p
      ∙ ap (λ o. first_of_two o (top_page (take s' new) p)) (high p) ∙ ap (first_of_two (top_page (drop s old ++ own ∷ []) p)) (low p)
      ∙ sym (top_append (take s old) (drop s old ++ own ∷ []) p) ∙ ap (λ (l : List Pages). top_page l p) (whole s old own)

  pub same_bytes : flat (new ++ own' ∷ []) n ≡ flat (old ++ own ∷ []) n
  same_bytes = flat_same (new ++ own' ∷ []) (old ++ own ∷ []) n (λ p lt. all_same p)

  pub same_base : flat (take s' new) n ≡ flat (take s old) n
  unfolding ShowAlike
  same_base = let low = same.low in flat_same (take s' new) (take s old) n (λ p lt. low p)

  pub same_set : page_set (drop s' new ++ own' ∷ []) n ≡ page_set (drop s old ++ own ∷ []) n
  unfolding ShowAlike
  same_set = let high = same.high in set_same (drop s' new ++ own' ∷ []) (drop s old ++ own ∷ []) n (λ p lt. ap (λ (o : Option (List ℕ)). is_some o) (high p))

pub sees_lowered : (s : ℕ) (old : List Pages) (own : Pages) (new : List Pages) (own' : Pages) → Lowers s old own new own' → SeesSame s old own s new own'
sees_lowered s old own new own' lowers = record { low = rw lowers.kept (alike_itself (take s old)); high = lowers.alike }

pub sees_flattened : (s : ℕ) (old : List Pages) (own : Pages) (mid : List Pages) (own' : Pages) (new : List Pages) (s' : ℕ) → Lowers s old own mid own' → length mid ≡ s → ShowAlike mid new → s' ≡ length new → SeesSame s old own s' new own'
unfolding ShowAlike
sees_flattened s old own mid own' new s' lowers size alike at =
    let was = lowers.alike in
    record {
      low = λ p. ap (λ (l : List Pages). top_page l p) (take_all s' new (omega (arith, at))) ∙ alike p ∙ ap (λ (l : List Pages). top_page l p) (sym (take_all s mid (omega (arith, size))) ∙ lowers.kept);
      high = λ p. ap (λ (l : List Pages). top_page (l ++ own' ∷ []) p) (drop_all s' new (omega (arith, at)) ∙ sym (drop_all s mid (omega (arith, size)))) ∙ was p;
    }
