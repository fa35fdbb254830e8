-- The page of the topmost layer that has it.
use Rattle.std.proofs.Common.{◌≡◌, ◌∙◌, ℕ, ◌+◌, ◌-◌, ◌<◌, ◌≤◌, List, [], ◌∷◌, ◌++◌, length, get_or, take, drop, Some, None, Option, refl, sym, ap, arith, map}
use Rattle.std.proofs.lemmas.List.{take-append-drop, drop_more, get_or-map, length-map, take-map, map_more, map_push}
use Rattle.mem_objects.specs.Pages.{Pages, page_of}
use Rattle.shadow_chains.specs.Chain.{top_page, first_of_two}

pub two_none : (x : Option (List ℕ)) → first_of_two x None ≡ x
two_none None = refl
two_none (Some x) = refl

pub two_assoc : (x y z : Option (List ℕ)) → first_of_two (first_of_two x y) z ≡ first_of_two x (first_of_two y z)
two_assoc None y z = refl
two_assoc (Some x) y z = refl

pub top_append : (a b : List Pages) (p : ℕ) → top_page (a ++ b) p ≡ first_of_two (top_page b p) (top_page a p)
top_append [] b p = sym (two_none (top_page b p))
top_append (l ∷ a) b p = ap (λ x. first_of_two x (page_of l p)) (top_append a b p) ∙ two_assoc (top_page b p) (top_page a p) (page_of l p)

-- one layer on top
pub top_push : (a : List Pages) (l : Pages) (p : ℕ) → top_page (a ++ l ∷ []) p ≡ first_of_two (page_of l p) (top_page a p)
top_push a l p = top_append a (l ∷ []) p

pub top_drop : (ls : List Pages) (i p : ℕ) → i < length ls → top_page (drop i ls) p ≡ first_of_two (top_page (drop (i + 1) ls) p) (page_of (get_or ls i []) p)
top_drop ls i p lt = ap (λ l. top_page l p) (drop_more ls i [] lt)

-- a page that the layer at i has and none above it is the page of the whole
pub found_at : (ls : List Pages) (i p : ℕ) (b : List ℕ) → i < length ls → top_page (drop (i + 1) ls) p ≡ None → page_of (get_or ls i []) p ≡ Some b → top_page ls p ≡ Some b
found_at ls i p b lt none some =
    let here : top_page (drop i ls) p ≡ Some b = top_drop ls i p lt ∙ ap (λ x. first_of_two x (page_of (get_or ls i []) p)) none ∙ some in
    ap (λ l. top_page l p) (sym (take-append-drop i ls)) ∙ top_append (take i ls) (drop i ls) p ∙ ap (λ x. first_of_two x (top_page (take i ls) p)) here

pub none_at : (ls : List Pages) (i p : ℕ) → i < length ls → top_page (drop (i + 1) ls) p ≡ None → page_of (get_or ls i []) p ≡ None → top_page (drop i ls) p ≡ None
none_at ls i p lt none here = top_drop ls i p lt ∙ ap (λ x. first_of_two x (page_of (get_or ls i []) p)) none ∙ here

-- the same of layers that stand behind owners
module _ {X : Type 0} (f : X → Pages) (xs : List X) (n : ℕ) (r : X) (p : ℕ) (x : Pages) (positive : 0 < n) (le : n ≤ length xs)
    (none : top_page (drop n (map f xs)) p ≡ None) (is : x ≡ f r) (at : r ≡ get_or xs (n - 1) r) where
  here : get_or (map f xs) (n - 1) [] ≡ x
  here = get_or-map f xs (n - 1) r [] (omega arith) ∙ ap f (sym at) ∙ sym is

  in_range : n - 1 < length (map f xs)
  in_range = omega (arith, length-map xs f)

  above : top_page (drop (n - 1 + 1) (map f xs)) p ≡ None
  above = let e : n - 1 + 1 ≡ n = omega arith in rw e none

  pub found_in : (b : List ℕ) → Some b ≡ page_of x p → Some b ≡ top_page (map f xs) p
  found_in b some = sym (found_at (map f xs) (n - 1) p b in_range above (ap (λ y. page_of y p) here ∙ sym some))

  pub none_in : None ≡ page_of x p → top_page (drop (n - 1) (map f xs)) p ≡ None
  none_in absent = none_at (map f xs) (n - 1) p in_range above (ap (λ y. page_of y p) here ∙ sym absent)

-- one more owner
pub shared_more : {X : Type 0} (f : X → Pages) (xs shared new : List X) (i : ℕ) (x y : X) → i < length xs → map f shared ≡ take i (map f xs) → new ≡ shared ++ y ∷ [] → f y ≡ f x → x ≡ get_or xs i x → map f new ≡ take (i + 1) (map f xs)
shared_more f xs shared new i x y lt so is same at =
    ap (map f) is ∙ map_push f shared y
    ∙ ap (λ l. l ++ f y ∷ []) (so ∙ take-map f i xs) ∙ ap (λ z. map f (take i xs) ++ z ∷ []) (same ∙ ap f at)
    ∙ sym (map_more f xs i x lt) ∙ sym (take-map f (i + 1) xs)
