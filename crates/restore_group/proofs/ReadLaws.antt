-- Pages of a placement shared out to objects, and layers that are read page by page.
use Rattle.std.proofs.Common.{◌≡◌, ℕ, zero, suc, ◌+◌, ◌<◌, ◌≤◌, List, [], ◌∷◌, ◌++◌, length, take, drop, get_or, refl, sym, ap, subst, ◌∙◌, arith, eq-eqb, ne_eqb, map, Bool, true, false, eqb, cond, inl, inr}
use Rattle.std.specs.List.{AllByRecursion, AllPairs, AllZip}
use Rattle.std.proofs.lemmas.Bool.{eqb-true}
use Rattle.std.proofs.lemmas.List.{take_more, length-map, get_or-map, map-append}
use Rattle.mem_objects.specs.Pages.{Pages, PageNumbersRise, IsZero}
use Rattle.ckpt_chain.specs.Chain.{block}
use Rattle.ckpt_records.specs.declared.meta.PagePlace.{PagePlace}
use Rattle.ckpt_records.specs.Spells.{PagesRise, IsPageBefore}
use Rattle.group_defs.specs.declared.frame.ObjectRec.{ObjectRec}
use Rattle.restore_group.specs.Layers.{front, behind, shared_out, AreLayersOf, IsLayerOf, IsPage, layer_in, layers_in, NoneZero}

-- what a list of pages answers for a place that it hasn't
abbrev pub no_page : PagePlace
no_page = record { object = 0; page = 0; block = 0 }

-- ---- facts of each element

pub all_at : {X : Type 0} (P : X → Type 0) (xs : List X) (i : ℕ) (d : X) → AllByRecursion P xs → i < length xs → P (get_or xs i d)
all_at P [] i d all lt = absurd (omega (arith, lt))
all_at P (x ∷ xs) zero d all lt = all.0
all_at P (x ∷ xs) (suc i) d all lt = all_at P xs i d all.1 (omega (arith, lt))

pub all_more : {X : Type 0} (P : X → Type 0) (xs : List X) (x : X) → AllByRecursion P xs → P x → AllByRecursion P (xs ++ x ∷ [])
all_more P [] x all here = (here, tt)
all_more P (y ∷ xs) x all here = (all.0, all_more P xs x all.1 here)

-- ---- a layer, page after page

pub layer_none : IsLayerOf [] []
layer_none = record { numbers = refl; pages = tt }

pub layer_more : (own : List PagePlace) (i : ℕ) (layer layer' : Pages) (page : ℕ) (bytes : List ℕ) → i < length own → page ≡ (get_or own i no_page).page
    → IsLayerOf (take i own) layer → IsPage bytes → layer' ≡ layer ++ (page, bytes) ∷ [] → IsLayerOf (take (i + 1) own) layer'
layer_more own i layer layer' page bytes lt is so_far whole more =
    let numbers : map (λ l. l.0) layer' ≡ map (λ p. p.page) (take (i + 1) own) =
    rw (more, take_more own i no_page lt, map-append (λ (l : ℕ × List ℕ). l.0) layer ((page, bytes) ∷ []), map-append (λ (p : PagePlace). p.page) (take i own) (get_or own i no_page ∷ []), so_far.numbers, is) refl in
    record { numbers = numbers; pages = rw more (all_more (λ (l : ℕ × List ℕ). IsPage l.1) layer (page, bytes) so_far.pages whole) }

pub layer_in_more : (image : List ℕ) (own : List PagePlace) (i : ℕ) (layer layer' : Pages) (page : ℕ) (bytes : List ℕ) → i < length own → page ≡ (get_or own i no_page).page
    → bytes ≡ block image (get_or own i no_page).block → layer ≡ layer_in image (take i own) → layer' ≡ layer ++ (page, bytes) ∷ [] → layer' ≡ layer_in image (take (i + 1) own)
layer_in_more image own i layer layer' page bytes lt is is_block so_far more =
    let place : PagePlace → ℕ × List ℕ = λ p. (p.page, block image p.block) in
    more ∙ rw (take_more own i no_page lt, map-append {B = ℕ × List ℕ} place (take i own) (get_or own i no_page ∷ []), so_far, is, is_block) refl

pub none_zero_at : (image : List ℕ) (pages : List PagePlace) (i : ℕ) → NoneZero image pages → i < length pages → IsZero (block image (get_or pages i no_page).block) → ⊥
unfolding NoneZero
none_zero_at image pages i none lt = all_at (λ (p : PagePlace). IsZero (block image p.block) → ⊥) pages i no_page none lt

-- The pages of a layer rise where those of the placement do.
pub layer_rises : (own : List PagePlace) (layer : Pages) → IsLayerOf own layer → AllPairs (λ p q. p.page < q.page) own → PageNumbersRise layer
unfolding PageNumbersRise
layer_rises own layer h rising i j lt in_range =
    let size : length layer ≡ length own = sym (length-map layer (λ (l : ℕ × List ℕ). l.0)) ∙ ap (λ (x : List ℕ). length x) h.numbers ∙ length-map own (λ (p : PagePlace). p.page) in
    let at : (k : ℕ) → k < length own → (get_or layer k (0, [])).0 ≡ (get_or own k no_page).page =
    λ k le. sym (get_or-map (λ (l : ℕ × List ℕ). l.0) layer k (0, []) 0 (omega (arith, size, le))) ∙ ap (λ (x : List ℕ). get_or x k 0) h.numbers ∙ get_or-map (λ (p : PagePlace). p.page) own k no_page 0 le in
    let high : j < length own = omega (arith, size, in_range) in
    let pair = rising i j no_page lt high in
    omega (arith, at i (omega (arith, lt, high)), at j high, pair)

-- ---- the pages of an object at the front

-- Pages of the object, up to the list's end or a page of another object, are those at the front.
pub front_is : (object n : ℕ) (pages : List PagePlace) (d : PagePlace) → n ≤ length pages → AllByRecursion (λ p. p.object ≡ object) (take n pages)
    → (n < length pages → (get_or pages n d).object ≡ object → ⊥)
    → (take n pages ≡ front object pages) × (drop n pages ≡ behind object pages)
unfolding front behind
front_is object zero [] d le all stops = (refl, refl)
front_is object (suc n) [] d le all stops = absurd (omega (arith, le))
front_is object zero (p ∷ pages) d le all stops =
    let other = ne_eqb p.object object (stops (omega arith)) in
    rw other (refl, refl)
front_is object (suc n) (p ∷ pages) d le all stops =
    let rest = front_is object n pages d (omega (arith, le)) all.1 (λ lt. stops (omega (arith, lt))) in
    let same = eq-eqb p.object object all.0 in
    rw same (ap (λ (x : List PagePlace). p ∷ x) rest.0, rest.1)

pub all_front : (P : PagePlace → Type 0) (object : ℕ) (pages : List PagePlace) → AllByRecursion P pages → AllByRecursion P (front object pages)
unfolding front
all_front P object [] all = tt
all_front P object (p ∷ pages) all = either (eqb p.object object) (all_front P object pages all.1)
  where
    either : (t : Bool) → AllByRecursion P (front object pages) → AllByRecursion P (cond t (p ∷ front object pages) [])
    either true rest = (all.0, rest)
    either false rest = tt

all_behind : (P : PagePlace → Type 0) (object : ℕ) (pages : List PagePlace) → AllByRecursion P pages → AllByRecursion P (behind object pages)
unfolding behind
all_behind P object [] all = tt
all_behind P object (p ∷ pages) all = either (eqb p.object object) (all_behind P object pages all.1)
  where
    either : (t : Bool) → AllByRecursion P (behind object pages) → AllByRecursion P (cond t (behind object pages) (p ∷ pages))
    either true rest = rest
    either false rest = all

pairs_behind : (R : PagePlace → PagePlace → Type 0) (object : ℕ) (pages : List PagePlace) → AllPairs R pages → AllPairs R (behind object pages)
unfolding behind
pairs_behind R object [] all = all
pairs_behind R object (p ∷ pages) all = either (eqb p.object object) (pairs_behind R object pages (λ i j d lt in_range. all (suc i) (suc j) d (omega (arith, lt)) (omega (arith, in_range))))
  where
    either : (t : Bool) → AllPairs R (behind object pages) → AllPairs R (cond t (behind object pages) (p ∷ pages))
    either true rest = rest
    either false rest = all

-- the page at a place of these pages is that of the whole list, and one of the object
record StandsAt (object : ℕ) (own pages : List PagePlace) (i : ℕ) (d : PagePlace) : Type 0 where
  in_range : i < length pages
  same : get_or own i d ≡ get_or pages i d
  is_own : (get_or pages i d).object ≡ object

front_at : (object : ℕ) (pages : List PagePlace) (i : ℕ) (d : PagePlace) → i < length (front object pages) → StandsAt object (front object pages) pages i d
unfolding front
front_at object [] i d lt = absurd (omega (arith, lt))
front_at object (p ∷ pages) i d lt = either (eqb p.object object) refl i lt (λ k low. front_at object pages k d low)
  where
    either : (t : Bool) → eqb p.object object ≡ t → (k : ℕ) → k < length (cond t (p ∷ front object pages) [])
        → ((n : ℕ) → n < length (front object pages) → StandsAt object (front object pages) pages n d) → StandsAt object (cond t (p ∷ front object pages) []) (p ∷ pages) k d
    either false e k low rest = absurd (omega (arith, low))
    either true e zero low rest = record { in_range = omega arith; same = refl; is_own = eqb-true p.object object e }
    either true e (suc k) low rest = let h = rest k (omega (arith, low)) in record { in_range = omega (arith, h.in_range); same = h.same; is_own = h.is_own }

of_one : (p q : PagePlace) (object : ℕ) → p.object ≡ object → q.object ≡ object → IsPageBefore p q → p.page < q.page
unfolding IsPageBefore
of_one p q object e f (inl lower) = absurd (omega (arith, e, f, lower))
of_one p q object e f (inr h) = h.1

-- The pages of one object rise by their number.
pub front_rises : (object : ℕ) (pages : List PagePlace) → PagesRise pages → AllPairs (λ p q. p.page < q.page) (front object pages)
unfolding PagesRise
front_rises object pages rising i j d lt in_range =
    let first = front_at object pages i d (omega (arith, lt, in_range)) in
    let second = front_at object pages j d in_range in
    rw (first.same, second.same) (of_one (get_or pages i d) (get_or pages j d) object first.is_own second.is_own (rising i j d lt second.in_range))

-- ---- what is left behind some objects

unfoldable pub rest_after : List ObjectRec → List PagePlace → List PagePlace
rest_after [] pages = pages
rest_after (o ∷ objects) pages = rest_after objects (behind o.number pages)

pub rest_none : (pages : List PagePlace) → pages ≡ rest_after [] pages
unfolding rest_after
rest_none pages = refl

pub rest_more : (objects : List ObjectRec) (o : ObjectRec) (pages : List PagePlace) → rest_after (objects ++ o ∷ []) pages ≡ behind o.number (rest_after objects pages)
unfolding rest_after
rest_more [] o pages = refl
rest_more (a ∷ objects) o pages = rest_more objects o (behind a.number pages)

pub rest_all : (P : PagePlace → Type 0) (objects : List ObjectRec) (pages : List PagePlace) → AllByRecursion P pages → AllByRecursion P (rest_after objects pages)
unfolding rest_after
rest_all P [] pages all = all
rest_all P (o ∷ objects) pages all = rest_all P objects (behind o.number pages) (all_behind P o.number pages all)

pub rest_rises : (objects : List ObjectRec) (pages : List PagePlace) → PagesRise pages → PagesRise (rest_after objects pages)
unfolding rest_after PagesRise
rest_rises [] pages rising = rising
rest_rises (o ∷ objects) pages rising = rest_rises objects (behind o.number pages) (pairs_behind IsPageBefore o.number pages rising)

shared_more : (objects : List ObjectRec) (o : ObjectRec) (pages : List PagePlace) → shared_out (objects ++ o ∷ []) pages ≡ shared_out objects pages ++ (o.number, front o.number (rest_after objects pages)) ∷ []
unfolding shared_out rest_after
shared_more [] o pages = refl
shared_more (a ∷ objects) o pages = rw (shared_more objects o (behind a.number pages)) refl

-- ---- the layers, object after object

-- what a list of objects answers for a place that it hasn't
abbrev pub no_object : ObjectRec
no_object = record { number = 0; pages = 0 }

pub layers_none : (pages : List PagePlace) → AreLayersOf (shared_out [] pages) []
unfolding shared_out
layers_none pages = tt

pub layers_in_none : (image : List ℕ) (pages : List PagePlace) → [] ≡ layers_in image (shared_out [] pages)
unfolding shared_out
layers_in_none image pages = refl

zip_more : {A B : Type 0} (R : A → B → Type 0) (xs : List A) (ys : List B) (x : A) (y : B) → AllZip R xs ys → R x y → AllZip R (xs ++ x ∷ []) (ys ++ y ∷ [])
zip_more R [] [] x y all here = (here, tt)
zip_more R [] (b ∷ ys) x y all here = absurd all
zip_more R (a ∷ xs) [] x y all here = absurd all
zip_more R (a ∷ xs) (b ∷ ys) x y all here = (all.0, zip_more R xs ys x y all.1 here)

-- the number of the object at a place
abbrev pub number_of : List ObjectRec → ℕ → ℕ
number_of objects i = (get_or objects i no_object).number

-- the pages of the object at a place
abbrev pub own_pages : List ObjectRec → ℕ → List PagePlace → List PagePlace
own_pages objects i pages = front (number_of objects i) (rest_after (take i objects) pages)

pub own_is : (objects : List ObjectRec) (i : ℕ) (pages rest own first : List PagePlace) → own ≡ first → first ≡ front (number_of objects i) rest → rest ≡ rest_after (take i objects) pages
    → own ≡ own_pages objects i pages
own_is objects i pages rest own first e f rest_is = e ∙ f ∙ ap (front (number_of objects i)) rest_is

shared_next : (objects : List ObjectRec) (i : ℕ) (pages : List PagePlace) → i < length objects
    → shared_out (take (i + 1) objects) pages ≡ shared_out (take i objects) pages ++ (number_of objects i, own_pages objects i pages) ∷ []
shared_next objects i pages lt = rw (take_more objects i no_object lt) (shared_more (take i objects) (get_or objects i no_object) pages)

pub rest_next : (objects : List ObjectRec) (i : ℕ) (pages : List PagePlace) → i < length objects
    → rest_after (take (i + 1) objects) pages ≡ behind (number_of objects i) (rest_after (take i objects) pages)
rest_next objects i pages lt = rw (take_more objects i no_object lt) (rest_more (take i objects) (get_or objects i no_object) pages)

abbrev IsPair : ℕ × List PagePlace → ℕ × Pages → Type 0
IsPair s l = (l.0 ≡ s.0) × IsLayerOf s.1 l.1

pub layers_more : (objects : List ObjectRec) (i : ℕ) (pages own : List PagePlace) (layers layers' : List (ℕ × Pages)) (number : ℕ) (layer : Pages) → i < length objects
    → number ≡ number_of objects i → own ≡ own_pages objects i pages → AreLayersOf (shared_out (take i objects) pages) layers → IsLayerOf own layer
    → layers' ≡ layers ++ (number, layer) ∷ [] → AreLayersOf (shared_out (take (i + 1) objects) pages) layers'
layers_more objects i pages own layers layers' number layer lt is own_is so_far here more =
    rw (shared_next objects i pages lt, more)
    (zip_more IsPair (shared_out (take i objects) pages) layers (number_of objects i, own_pages objects i pages) (number, layer) so_far (is, subst (λ (x : List PagePlace). IsLayerOf x layer) own_is here))

pub layers_in_more : (image : List ℕ) (objects : List ObjectRec) (i : ℕ) (pages own : List PagePlace) (layers layers' : List (ℕ × Pages)) (number : ℕ) (layer : Pages) → i < length objects
    → number ≡ number_of objects i → own ≡ own_pages objects i pages → layers ≡ layers_in image (shared_out (take i objects) pages) → layer ≡ layer_in image own
    → layers' ≡ layers ++ (number, layer) ∷ [] → layers' ≡ layers_in image (shared_out (take (i + 1) objects) pages)
layers_in_more image objects i pages own layers layers' number layer lt is own_is so_far here more =
    let one : ℕ × List PagePlace → ℕ × Pages = λ s. (s.0, layer_in image s.1) in
    more ∙ rw (shared_next objects i pages lt, map-append {B = ℕ × Pages} one (shared_out (take i objects) pages) ((number_of objects i, own_pages objects i pages) ∷ []), so_far, here, is, own_is) refl

pub none_zero_own : (image : List ℕ) (objects : List ObjectRec) (i : ℕ) (pages : List PagePlace) → NoneZero image pages → NoneZero image (own_pages objects i pages)
unfolding NoneZero
none_zero_own image objects i pages none =
    let P : PagePlace → Type 0 = λ p. IsZero (block image p.block) → ⊥ in
    all_front P (number_of objects i) (rest_after (take i objects) pages) (rest_all P (take i objects) pages none)

pub own_placed : (count : ℕ) (objects : List ObjectRec) (i : ℕ) (pages : List PagePlace) → AllByRecursion (λ p. p.block < count) pages → AllByRecursion (λ p. p.block < count) (own_pages objects i pages)
own_placed count objects i pages placed =
    let P : PagePlace → Type 0 = λ p. p.block < count in
    all_front P (number_of objects i) (rest_after (take i objects) pages) (rest_all P (take i objects) pages placed)

pub own_rises : (objects : List ObjectRec) (i : ℕ) (pages : List PagePlace) → PagesRise pages → AllPairs (λ p q. p.page < q.page) (own_pages objects i pages)
own_rises objects i pages rising = front_rises (number_of objects i) (rest_after (take i objects) pages) (rest_rises (take i objects) pages rising)
