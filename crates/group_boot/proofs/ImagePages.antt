-- The pages of an image, one after another, are the image and zeros behind it.
use Rattle.std.proofs.Common.{◌≡◌, ⊎_elim, ℕ, zero, suc, ◌+◌, ◌-◌, ◌*◌, ◌<◌, ◌≤◌, ◌==◌, min, Bool, true, false, List, [], ◌∷◌, ◌++◌, length, take, drop, replicate, Option, Some, None, if◌then◌else◌, refl, sym, ap, ap₂, ◌∙◌, arith, drop-drop, eq-or-lt_of_le, length-append, length-drop}
use Rattle.std.specs.List.{flat_map, range_with_len, AllByRecursion}
use Rattle.std.proofs.lemmas.List.{append-nil, drop-replicate, length-replicate, length-take, take_all, take_min}
use Rattle.lists.specs.Bytes.{put}
use Rattle.mem_objects.specs.Pages.{IsZero, Pages, PutsPage, page_of}
use Rattle.ckpt_records.specs.Parts.{memory_of, object_bytes, page_in}
use Rattle.group_boot.specs.Flat.{image_page, pages_for}

-- so many of the first bytes, and zeros where there are fewer
padded : ℕ → List ℕ → List ℕ
padded zero bytes = []
padded (suc n) [] = 0 ∷ padded n []
padded (suc n) (b ∷ bytes) = b ∷ padded n bytes

zeros_are : (n : ℕ) → replicate n 0 ≡ padded n []
unfolding padded
zeros_are zero = refl
zeros_are (suc n) = ap (λ (l : List ℕ). 0 ∷ l) (zeros_are n)

filled_is : (n : ℕ) (bytes : List ℕ) → take n bytes ++ replicate (n - length (take n bytes)) 0 ≡ padded n bytes
unfolding padded
filled_is zero bytes = refl
filled_is (suc n) [] =
    let all : suc n - 0 ≡ suc n = omega arith in
    ap (λ (k : ℕ). replicate k 0) all ∙ ap (λ (l : List ℕ). 0 ∷ l) (zeros_are n)
filled_is (suc n) (b ∷ bytes) =
    let one : suc n - length (b ∷ take n bytes) ≡ n - length (take n bytes) = omega arith in
    ap (λ (k : ℕ). b ∷ (take n bytes ++ replicate k 0)) one ∙ ap (λ (l : List ℕ). b ∷ l) (filled_is n bytes)

drop_none : (n : ℕ) → drop {A = ℕ} n [] ≡ []
drop_none zero = refl
drop_none (suc n) = refl

padded_plus : (m n : ℕ) (bytes : List ℕ) → padded (m + n) bytes ≡ padded m bytes ++ padded n (drop m bytes)
unfolding padded
padded_plus zero n bytes = let e : 0 + n ≡ n = omega arith in ap (λ (k : ℕ). padded k bytes) e
padded_plus (suc m) n [] = let e : suc m + n ≡ suc (m + n) = omega arith in ap (λ (k : ℕ). padded k []) e ∙ ap (λ (l : List ℕ). 0 ∷ l) (padded_plus m n [] ∙ ap (λ (l : List ℕ). padded m [] ++ padded n l) (drop_none m))
padded_plus (suc m) n (b ∷ bytes) = let e : suc m + n ≡ suc (m + n) = omega arith in ap (λ (k : ℕ). padded k (b ∷ bytes)) e ∙ ap (λ (l : List ℕ). b ∷ l) (padded_plus m n bytes)

padded_all : (n : ℕ) (bytes : List ℕ) → length bytes ≤ n → padded n bytes ≡ bytes ++ replicate (n - length bytes) 0
padded_all n bytes short = sym (filled_is n bytes) ∙ ap (λ (l : List ℕ). l ++ replicate (n - length l) 0) (take_all n bytes short)

-- pages of an image from one on
pages_from : (image : List ℕ) (k n : ℕ) → flat_map (image_page image) (range_with_len k n) ≡ padded (4096 * n) (drop (4096 * k) image)
unfolding padded
pages_from image k zero = refl
pages_from image k (suc n) =
    let size : 4096 * suc n ≡ 4096 + 4096 * n = omega arith in
    let next : 4096 * (k + 1) ≡ 4096 * k + 4096 = omega arith in
    let rest : padded (4096 * n) (drop (4096 * (k + 1)) image) ≡ padded (4096 * n) (drop 4096 (drop (4096 * k) image)) = ap (λ (p : ℕ). padded (4096 * n) (drop p image)) next ∙ ap (padded (4096 * n)) (sym (drop-drop 4096 (4096 * k) image)) in
    ap₂ (λ (a b : List ℕ). a ++ b) (filled_is 4096 (drop (4096 * k) image)) (pages_from image (k + 1) n ∙ rest)
    ∙ sym (padded_plus 4096 (4096 * n) (drop (4096 * k) image))
    ∙ ap (λ (m : ℕ). padded m (drop (4096 * k) image)) (sym size)

same_pages : (f g : ℕ → List ℕ) (k n : ℕ) → ((page : ℕ) → k ≤ page → page < k + n → f page ≡ g page) → flat_map f (range_with_len k n) ≡ flat_map g (range_with_len k n)
same_pages f g k zero same = refl
same_pages f g k (suc n) same = ap₂ (λ (a b : List ℕ). a ++ b) (same k (omega arith) (omega arith)) (same_pages f g (k + 1) n (λ page from to. same page (omega (arith, from)) (omega (arith, to))))

-- an image lies within its pages
pub within_pages : (image : List ℕ) → length image ≤ 4096 * pages_for image
within_pages image = omega arith

object_is : (image : List ℕ) (layer : Pages) → ((page : ℕ) → page < pages_for image → page_in layer page ≡ image_page image page) → object_bytes (pages_for image) layer ≡ image ++ replicate (4096 * pages_for image - length image) 0
unfolding object_bytes
object_is image layer each =
    same_pages (page_in layer) (image_page image) 0 (pages_for image) (λ page from to. each page (omega (arith, to)))
    ∙ pages_from image 0 (pages_for image)
    ∙ padded_all (4096 * pages_for image) image (within_pages image)

no_pages : object_bytes 1 [] ≡ replicate 4096 0
unfolding object_bytes
no_pages = append-nil (replicate 4096 0)

-- the layers of an image and of its stack stand for their bytes
pub memory_is : (image : List ℕ) (layer : Pages) → ((page : ℕ) → page < pages_for image → page_in layer page ≡ image_page image page)
    → memory_of (record { number = 0; pages = pages_for image } ∷ record { number = 1; pages = 1 } ∷ []) ((0, layer) ∷ (1, []) ∷ [])
    ≡ (0, image ++ replicate (4096 * pages_for image - length image) 0) ∷ (1, replicate 4096 0) ∷ []
unfolding memory_of
memory_is image layer each = ap₂ (λ (a b : List ℕ). (0, a) ∷ (1, b) ∷ []) (object_is image layer each) no_pages

-- ---- one page

-- what is put into a page of zeros
pub page_is : (image : List ℕ) (number to : ℕ) → to ≡ min (length image) (4096 * number + 4096) → put (replicate 4096 0) 0 (take (to - 4096 * number) (drop (4096 * number) image)) ≡ image_page image number
unfolding put
page_is image number to is =
    let from = 4096 * number in
    let rest : List ℕ = drop from image in
    let size : to - from ≡ min 4096 (length rest) = omega (arith, is, length-drop from image) in
    let same : take (to - from) rest ≡ take 4096 rest = ap (λ (n : ℕ). take n rest) size ∙ take_min 4096 rest in
    ap (λ (b : List ℕ). b ++ drop {A = ℕ} (0 + length b) (replicate 4096 0)) same ∙ ap (λ (zeros : List ℕ). take 4096 rest ++ zeros) (zeros_behind (length (take 4096 rest)))
  where
    zeros_behind : (n : ℕ) → drop {A = ℕ} (0 + n) (replicate 4096 0) ≡ replicate (4096 - n) 0
    zeros_behind n = let none : 0 + n ≡ n = omega arith in ap (λ (k : ℕ). drop {A = ℕ} k (replicate 4096 0)) none ∙ drop-replicate n 4096 0

page_size : (image : List ℕ) (number : ℕ) → length (image_page image number) ≡ 4096
page_size image number =
    let bytes : List ℕ = take 4096 (drop (4096 * number) image) in
    omega (arith, length-append bytes (replicate (4096 - length bytes) 0), length-replicate {A = ℕ} (4096 - length bytes) 0, length-take 4096 (drop (4096 * number) image))

all_zeros : (bytes : List ℕ) → AllByRecursion (λ b. b ≡ 0) bytes → bytes ≡ replicate (length bytes) 0
all_zeros [] zeros = refl
all_zeros (b ∷ bytes) zeros = ap₂ (λ (c : ℕ) (l : List ℕ). c ∷ l) zeros.0 (all_zeros bytes zeros.1)

-- ---- the layer of the first pages

-- The layer shows the first pages of an image, and has no others.
pub record HasPages (image : List ℕ) (layer : Pages) (count : ℕ) : Type 0 where
  pub shown : (page : ℕ) → page < count → page_in layer page ≡ image_page image page
  pub none_behind : (page : ℕ) → count ≤ page → page_of layer page ≡ None

abbrev bytes_or_zeros : Option (List ℕ) → List ℕ
bytes_or_zeros found = elim found [ Some bytes ↦ bytes | None ↦ replicate 4096 0 ]

pub none_yet : (image : List ℕ) (layer : Pages) → layer ≡ [] → HasPages image layer 0
none_yet image layer empty = record {
  shown = λ page below. absurd (omega (arith, below));
  none_behind = λ page from. ap (λ (l : Pages). page_of l page) empty;
}

chosen : (t : Bool) (bytes : List ℕ) (o : Option (List ℕ)) → t ≡ true → (if t then Some bytes else o) ≡ Some bytes
chosen true bytes o is = refl
chosen false bytes o is = cc

passed : (t : Bool) (bytes : List ℕ) (o : Option (List ℕ)) → t ≡ false → (if t then Some bytes else o) ≡ o
passed true bytes o is = cc
passed false bytes o is = refl

module _ (image : List ℕ) (layer : Pages) (count : ℕ) (has : HasPages image layer count) where
  -- one page more
  pub put_more : (layer' : Pages) → PutsPage layer layer' count (image_page image count) → HasPages image layer' (count + 1)
  unfolding PutsPage
  put_more layer' puts = record {
    shown = λ page below. ⊎_elim (λ same. here page same) (λ less. there page less) (eq-or-lt_of_le (let le : page ≤ count = omega (arith, below) in le));
    none_behind = λ page from. let other : (count == page) ≡ false = grind (arith, from) in puts page ∙ passed (count == page) (image_page image count) (page_of layer page) other ∙ has.none_behind page (omega (arith, from));
  }
    where
      here : (page : ℕ) → page ≡ count → page_in layer' page ≡ image_page image page
      here page same =
          let this : (count == page) ≡ true = grind (arith, same) in
          ap bytes_or_zeros (puts page ∙ chosen (count == page) (image_page image count) (page_of layer page) this) ∙ ap (image_page image) (sym same)

      there : (page : ℕ) → page < count → page_in layer' page ≡ image_page image page
      there page less =
          let other : (count == page) ≡ false = grind (arith, less) in
          ap bytes_or_zeros (puts page ∙ passed (count == page) (image_page image count) (page_of layer page) other) ∙ has.shown page less

  -- one page that is all zero
  pub zero_more : IsZero (image_page image count) → HasPages image layer (count + 1)
  unfolding IsZero
  zero_more zeros = record {
    shown = λ page below. ⊎_elim (λ same. here page same) (λ less. has.shown page less) (eq-or-lt_of_le (let le : page ≤ count = omega (arith, below) in le));
    none_behind = λ page from. has.none_behind page (omega (arith, from));
  }
    where
      here : (page : ℕ) → page ≡ count → page_in layer page ≡ image_page image page
      here page same =
          ap bytes_or_zeros (has.none_behind page (omega (arith, same)))
          ∙ ap (λ (n : ℕ). replicate n 0) (sym (page_size image count)) ∙ sym (all_zeros (image_page image count) zeros) ∙ ap (image_page image) (sym same)
