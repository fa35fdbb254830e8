-- The pages that layers have are those that a placement lists.
use Rattle.std.proofs.Common.{◌≡◌, ℕ, List, [], ◌∷◌, ◌++◌, map, refl, sym, ap, ap₂, ◌∙◌}
use Rattle.std.specs.List.{flat_map, AllZip, AllByRecursion}
use Rattle.std.proofs.lemmas.List.{map-append}
use Rattle.group_defs.specs.declared.frame.Frame.{Frame}
use Rattle.group_defs.specs.declared.frame.ObjectRec.{ObjectRec}
use Rattle.mem_objects.specs.Pages.{Pages}
use Rattle.ckpt_records.specs.declared.meta.PagePlace.{PagePlace}
use Rattle.ckpt_records.specs.Holds.{listed_page}
use Rattle.ckpt_records.specs.Spells.{IsOrderly}
use Rattle.restore_group.specs.Layers.{shared_out, AreLayersOf}
use Rattle.ckpt_records.specs.Parts.{pages_in}
use Rattle.restore_group.proofs.SharedOut.{AreOwn, shared_own, shared_all}

abbrev numbers : ℕ → ℕ → ℕ × ℕ
numbers a b = (a, b)

pair : (a b c d : ℕ) → a ≡ c → b ≡ d → numbers a b ≡ numbers c d
pair a b c d same other = ap₂ numbers same other

head_is : (m n : ℕ) (ms ns : List ℕ) → m ∷ ms ≡ n ∷ ns → m ≡ n
head_is m n ms ns same = cc

tail_is : (m n : ℕ) (ms ns : List ℕ) → m ∷ ms ≡ n ∷ ns → ms ≡ ns
tail_is m n ms ns same = cc

-- of one object
own_pages : (number : ℕ) (layer : Pages) (own : List PagePlace) → map (λ l. l.0) layer ≡ map (λ p. p.page) own → AllByRecursion (λ p. p.object ≡ number) own → map (λ s. (number, s.0)) layer ≡ map listed_page own
own_pages number [] [] same object = refl
own_pages number [] (p ∷ own) same object = absurd (cc)
own_pages number (l ∷ layer) [] same object = absurd (cc)
own_pages number (l ∷ layer) (p ∷ own) same object =
    ap₂ (λ (x : ℕ × ℕ) (xs : List (ℕ × ℕ)). x ∷ xs) (pair number l.0 p.object p.page (sym object.0) (head_is l.0 p.page (map (λ l. l.0) layer) (map (λ p. p.page) own) same))
    (own_pages number layer own (tail_is l.0 p.page (map (λ l. l.0) layer) (map (λ p. p.page) own) same) object.1)

-- of all of them
own_all : (objects : List ObjectRec) (shared : List (ℕ × List PagePlace)) (layers : List (ℕ × Pages)) → AllZip AreOwn objects shared → AreLayersOf shared layers → pages_in layers ≡ map listed_page (flat_map (λ s. s.1) shared)
own_all [] [] [] own of = refl
own_all [] [] (l ∷ layers) own of = absurd of
own_all [] (s ∷ shared) layers own of = absurd own
own_all (o ∷ objects) [] layers own of = absurd own
own_all (o ∷ objects) (s ∷ shared) [] own of = absurd of
own_all (o ∷ objects) (s ∷ shared) (l ∷ layers) own of =
    ap (λ (n : ℕ). map (λ x. (n, x.0)) l.1 ++ pages_in layers) (of.0.0 ∙ own.0.number)
    ∙ ap₂ (λ (x y : List (ℕ × ℕ)). x ++ y) (own_pages o.number l.1 s.1 of.0.1.numbers own.0.object) (own_all objects shared layers own.1 of.1)
    ∙ sym (map-append listed_page s.1 (flat_map (λ s. s.1) shared))

pub own_law : (f : Frame) (pages : List PagePlace) (layers : List (ℕ × Pages)) (count : ℕ) → IsOrderly count f pages → AreLayersOf (shared_out f.objects pages) layers → pages_in layers ≡ map listed_page pages
own_law f pages layers count orderly of = own_all f.objects (shared_out f.objects pages) layers (shared_own f pages count orderly) of ∙ ap (map listed_page) (shared_all f pages count orderly)
