-- The group that a record and its layers stand for, where the layers are those of the record's pages.
use Rattle.std.proofs.Common.{◌≡◌, ℕ, ◌*◌, ◌<◌, ◌==◌, Bool, true, false, cond, not, List, [], ◌∷◌, ◌++◌, map, take, drop, refl, sym, ap, ap₂, ◌∙◌, subst, arith}
use Rattle.std.specs.Prelude.{All}
use Rattle.std.specs.List.{filter, flat_map, range_with_len, AllZip, AllByRecursion}
use Rattle.std.proofs.lemmas.List.{map-append}
use Rattle.std.proofs.lemmas.List.Elements.{filter-append, All-from_recursion}
use Rattle.group_defs.specs.Cells.{bytes_in}
use Rattle.group_defs.specs.Pages.{all_pages, nonzero_pages, page_bytes, is_zero_page, pages_of}
use Rattle.group_defs.specs.Valid.{EndsInZeros, IsObject, group_of_parts}
use Rattle.group_defs.specs.declared.frame.Frame.{Frame}
use Rattle.group_defs.specs.declared.frame.ObjectRec.{ObjectRec}
use Rattle.group_files.specs.declared.named_files.FileRec.{FileRec}
use Rattle.mem_objects.specs.Pages.{Pages}
use Rattle.ckpt_chain.specs.Chain.{block}
use Rattle.ckpt_records.specs.declared.meta.PagePlace.{PagePlace}
use Rattle.ckpt_records.specs.Holds.{IsCheckpointed, listed_page}
use Rattle.ckpt_records.specs.Spells.{IsOrderly}
use Rattle.restore_group.specs.Layers.{shared_out, layer_in, layers_in, IsLayerOf, AreLayersOf}
use Rattle.restore_group.specs.Meta.{IsWholeFrame}
use Rattle.ckpt_records.specs.Parts.{page_in, object_bytes, memory_of}
use Rattle.tables.proofs.Ordered.{IsOrdered, each_weaker, each_both, each_append, each_of_map, each_map, ordered_map, ordered_of_map}
use Rattle.restore_group.proofs.LayerLaws.{all_zero, ArePages, IsRising, object_len, object_range, object_page, shown_numbers}
use Rattle.restore_group.proofs.SharedOut.{IsLower, AreOwn, objects_rise, shared_own, shared_all}

-- ---- one object

module _ (o : ObjectRec) (shared : ℕ × List PagePlace) (layer : Pages) (own : AreOwn o shared) (of : IsLayerOf shared.1 layer) where
  layer_rises : IsRising layer
  layer_rises = ordered_of_map (λ (j k : ℕ). j < k) (λ l. l.0) layer (subst (IsOrdered (λ (j k : ℕ). j < k)) (sym of.numbers) (ordered_map (λ (j k : ℕ). j < k) (λ p. p.page) shared.1 own.rising))

  layer_within : AllByRecursion (λ l. l.0 < o.pages) layer
  layer_within = each_of_map (λ (k : ℕ). k < o.pages) (λ l. l.0) layer (subst (AllByRecursion (λ (k : ℕ). k < o.pages)) (sym of.numbers) (each_map (λ (k : ℕ). k < o.pages) (λ p. p.page) shared.1 own.within))

-- ---- the flat table

memory_fits : (objects : List ObjectRec) (shared : List (ℕ × List PagePlace)) (layers : List (ℕ × Pages)) → AllZip AreOwn objects shared → AreLayersOf shared layers → AllZip IsObject objects (memory_of objects layers)
unfolding memory_of
memory_fits [] [] [] own of = tt
memory_fits [] [] (l ∷ layers) own of = absurd of
memory_fits [] (s ∷ shared) layers own of = absurd own
memory_fits (o ∷ objects) [] layers own of = absurd own
memory_fits (o ∷ objects) (s ∷ shared) [] own of = absurd of
memory_fits (o ∷ objects) (s ∷ shared) (l ∷ layers) own of =
    let pages : ArePages l.1 = of.0.1.pages in
    ((refl, object_len l.1 pages o.pages, object_range l.1 pages o.pages), memory_fits objects shared layers own.1 of.1)

layer_numbers : (objects : List ObjectRec) (shared : List (ℕ × List PagePlace)) (layers : List (ℕ × Pages)) → AllZip AreOwn objects shared → AreLayersOf shared layers → map (λ l. l.0) layers ≡ map (λ o. o.number) objects
layer_numbers [] [] [] own of = refl
layer_numbers [] [] (l ∷ layers) own of = absurd of
layer_numbers [] (s ∷ shared) layers own of = absurd own
layer_numbers (o ∷ objects) [] layers own of = absurd own
layer_numbers (o ∷ objects) (s ∷ shared) [] own of = absurd of
layer_numbers (o ∷ objects) (s ∷ shared) (l ∷ layers) own of = ap₂ (λ (n : ℕ) (ns : List ℕ). n ∷ ns) (of.0.0 ∙ own.0.number) (layer_numbers objects shared layers own.1 of.1)

-- the object's number finds the bytes of its entry
abbrev IsFound : List (ℕ × List ℕ) → ObjectRec → ℕ × List ℕ → Type 0
IsFound memory o entry = bytes_in memory o.number ≡ entry.1

found_more : (e : ℕ × List ℕ) (memory : List (ℕ × List ℕ)) (objects : List ObjectRec) (entries : List (ℕ × List ℕ)) → AllByRecursion (λ (o : ObjectRec). e.0 < o.number) objects
    → AllZip (IsFound memory) objects entries → AllZip (IsFound (e ∷ memory)) objects entries
found_more e memory [] [] higher found = tt
found_more e memory [] (x ∷ entries) higher found = absurd found
found_more e memory (o ∷ objects) [] higher found = absurd found
found_more e memory (o ∷ objects) (x ∷ entries) higher found =
    let test : (e.0 == o.number) ≡ false = grind (arith, higher.0) in
    (rw (bytes_in, test) found.0, found_more e memory objects entries higher.1 found.1)

found_all : (objects : List ObjectRec) (memory : List (ℕ × List ℕ)) → AllZip IsObject objects memory → IsOrdered IsLower objects → AllZip (IsFound memory) objects memory
found_all [] [] zip rising = tt
found_all [] (e ∷ memory) zip rising = absurd zip
found_all (o ∷ objects) [] zip rising = absurd zip
found_all (o ∷ objects) (e ∷ memory) zip rising =
    let at : e.0 ≡ o.number = zip.0.0 in
    let test : (e.0 == o.number) ≡ true = grind (arith, at) in
    let higher : AllByRecursion (λ (b : ObjectRec). e.0 < b.number) objects = each_weaker (IsLower o) (λ (b : ObjectRec). e.0 < b.number) objects (λ b lt. omega (arith, lt, at)) rising.0 in
    (rw (bytes_in, test) refl, found_more e memory objects memory higher (found_all objects memory zip.1 rising.1))

-- ---- the pages that aren't all zero

map_map : {X Y Z : Type 0} (g : Y → Z) (f : X → Y) (xs : List X) → map g (map f xs) ≡ map (λ x. g (f x)) xs
map_map g f [] = refl
map_map g f (x ∷ xs) = ap (λ zs. g (f x) ∷ zs) (map_map g f xs)

map_cond : {X Y : Type 0} (f : X → Y) (b : Bool) (x : X) (xs : List X) → map f (cond b (x ∷ xs) xs) ≡ cond b (f x ∷ map f xs) (map f xs)
map_cond f true x xs = refl
map_cond f false x xs = refl

filter_map : {X Y : Type 0} (t : Y → Bool) (f : X → Y) (xs : List X) → filter t (map f xs) ≡ map f (filter (λ x. t (f x)) xs)
filter_map t f [] = refl
filter_map t f (x ∷ xs) = ap (λ ys. cond (t (f x)) (f x ∷ ys) ys) (filter_map t f xs) ∙ sym (map_cond f (t (f x)) x (filter (λ x. t (f x)) xs))

map_own : (object : ℕ) (pages : List PagePlace) → AllByRecursion (λ p. p.object ≡ object) pages → map (λ (p : PagePlace). (object, p.page)) pages ≡ map listed_page pages
map_own object [] own = refl
map_own object (p ∷ pages) own = ap₂ (λ (key : ℕ × ℕ) (keys : List (ℕ × ℕ)). key ∷ keys) (ap (λ (n : ℕ). (n, p.page)) (sym own.0)) (map_own object pages own.1)

abbrev is_listed : List (ℕ × List ℕ) → ℕ × ℕ → Bool
is_listed memory page = not (is_zero_page memory page)

-- the pages of the bytes that aren't all zero, under this number
abbrev keys : ℕ → ℕ → List ℕ → List (ℕ × ℕ)
keys number count bytes = map (λ page. (number, page)) (filter (λ k. not (all_zero (take 4096 (drop (4096 * k) bytes)))) (range_with_len 0 count))

listed_of : (memory : List (ℕ × List ℕ)) (o : ObjectRec) (shared : ℕ × List PagePlace) (layer : Pages) → AreOwn o shared → IsLayerOf shared.1 layer → bytes_in memory o.number ≡ object_bytes o.pages layer
    → filter (is_listed memory) (pages_of o) ≡ map listed_page shared.1
listed_of memory o shared layer own of found =
    let key : ℕ → ℕ × ℕ = λ (page : ℕ). (o.number, page) in
    filter_map (is_listed memory) key (range_with_len 0 o.pages)
    ∙ ap (keys o.number o.pages) found
    ∙ ap (map key) (shown_numbers o.pages layer of.pages (layer_rises o shared layer own of) (layer_within o shared layer own of) ∙ of.numbers)
    ∙ map_map key (λ (p : PagePlace). p.page) shared.1
    ∙ map_own o.number shared.1 own.object

listed_all : (memory : List (ℕ × List ℕ)) (objects : List ObjectRec) (shared : List (ℕ × List PagePlace)) (layers : List (ℕ × Pages)) → AllZip AreOwn objects shared → AreLayersOf shared layers
    → AllZip (IsFound memory) objects (memory_of objects layers) → filter (is_listed memory) (flat_map pages_of objects) ≡ map listed_page (flat_map (λ s. s.1) shared)
unfolding memory_of
listed_all memory [] [] layers own of found = refl
listed_all memory [] (s ∷ shared) layers own of found = absurd own
listed_all memory (o ∷ objects) [] layers own of found = absurd own
listed_all memory (o ∷ objects) (s ∷ shared) [] own of found = absurd of
listed_all memory (o ∷ objects) (s ∷ shared) (l ∷ layers) own of found =
    filter-append (is_listed memory) (pages_of o) (flat_map pages_of objects)
    ∙ ap₂ (λ (x y : List (ℕ × ℕ)). x ++ y) (listed_of memory o s l.1 own.0 of.0.1 found.0) (listed_all memory objects shared layers own.1 of.1 found.1)
    ∙ sym (map-append listed_page s.1 (flat_map (λ s. s.1) shared))

-- ---- what the blocks of an image say of the pages

own_contents : (image : List ℕ) (own : List PagePlace) → IsOrdered (λ p q. p.page < q.page) own → AllByRecursion (λ p. page_in (layer_in image own) p.page ≡ block image p.block) own
own_contents image [] rising = tt
own_contents image (p ∷ own) rising =
    let test : (p.page == p.page) ≡ true = grind (arith) in (
      rw (page_in, test) refl,
      each_both (λ q. p.page < q.page) (λ q. page_in (layer_in image own) q.page ≡ block image q.block) (λ q. page_in (layer_in image (p ∷ own)) q.page ≡ block image q.block) own
          (λ q lt same. let other : (p.page == q.page) ≡ false = grind (arith, lt) in rw (page_in, other) same) rising.0 (own_contents image own rising.1),
    )

-- a page has its block's bytes in the memory
abbrev HasBlock : List ℕ → List (ℕ × List ℕ) → PagePlace → Type 0
HasBlock image memory p = block image p.block ≡ page_bytes memory (listed_page p)

contents_of : (image : List ℕ) (memory : List (ℕ × List ℕ)) (o : ObjectRec) (shared : ℕ × List PagePlace) → AreOwn o shared → IsLayerOf shared.1 (layer_in image shared.1)
    → bytes_in memory o.number ≡ object_bytes o.pages (layer_in image shared.1) → AllByRecursion (HasBlock image memory) shared.1
contents_of image memory o shared own of found =
    let layer : Pages = layer_in image shared.1 in
    each_both (λ p. p.object ≡ o.number) (λ p. (p.page < o.pages) × (page_in layer p.page ≡ block image p.block)) (HasBlock image memory) shared.1
    (λ p same both.
    sym (ap (λ (n : ℕ). page_bytes memory (n, p.page)) same ∙ ap (λ (bytes : List ℕ). take 4096 (drop (4096 * p.page) bytes)) found ∙ object_page layer of.pages o.pages p.page both.0 ∙ both.1)) own.object
    (each_both (λ p. p.page < o.pages) (λ p. page_in layer p.page ≡ block image p.block) (λ p. (p.page < o.pages) × (page_in layer p.page ≡ block image p.block)) shared.1 (λ p lt same. (lt, same)) own.within
    (own_contents image shared.1 own.rising))

contents_all : (image : List ℕ) (memory : List (ℕ × List ℕ)) (objects : List ObjectRec) (shared : List (ℕ × List PagePlace)) → AllZip AreOwn objects shared → AreLayersOf shared (layers_in image shared)
    → AllZip (IsFound memory) objects (memory_of objects (layers_in image shared)) → AllByRecursion (HasBlock image memory) (flat_map (λ s. s.1) shared)
unfolding memory_of
contents_all image memory [] [] own of found = tt
contents_all image memory [] (s ∷ shared) own of found = absurd own
contents_all image memory (o ∷ objects) [] own of found = absurd own
contents_all image memory (o ∷ objects) (s ∷ shared) own of found =
    each_append (HasBlock image memory) s.1 (flat_map (λ s. s.1) shared) (contents_of image memory o s own.0 of.0.1 found.0) (contents_all image memory objects shared own.1 of.1 found.1)

-- ---- the laws

no_files : (memory : List (ℕ × List ℕ)) (files : List FileRec) → files ≡ [] → All (EndsInZeros memory) files
no_files memory files none = subst (All (EndsInZeros memory)) (sym none) (All-from_recursion (EndsInZeros memory) [] tt)

pub parts_law : (f : Frame) (pages : List PagePlace) (layers : List (ℕ × Pages)) (count : ℕ) → IsWholeFrame f → IsOrderly count f pages → AreLayersOf (shared_out f.objects pages) layers
    → (map (λ l. l.0) layers ≡ map (λ o. o.number) f.objects) × IsCheckpointed (record { frame = f; memory = memory_of f.objects layers }) × (map listed_page pages ≡ nonzero_pages (record { frame = f; memory = memory_of f.objects layers }))
unfolding nonzero_pages all_pages
parts_law f pages layers count whole orderly of =
    let shared = shared_out f.objects pages in
    let memory = memory_of f.objects layers in
    let own : AllZip AreOwn f.objects shared = shared_own f pages count orderly in
    let fits : AllZip IsObject f.objects memory = memory_fits f.objects shared layers own of in (
      layer_numbers f.objects shared layers own of,
      record {
        valid = group_of_parts (record { frame = f; memory = memory }) whole.valid (record { bytes = fits; zeros = no_files memory f.files whole.built.files });
        built = whole.built;
        all_marked = whole.all_marked;
      },
      ap (map listed_page) (sym (shared_all f pages count orderly)) ∙ sym (listed_all memory f.objects shared layers own of (found_all f.objects memory fits (objects_rise f pages count orderly))),
    )

contents_in : (image : List ℕ) (f : Frame) (pages : List PagePlace) (count : ℕ) → IsOrderly count f pages → AreLayersOf (shared_out f.objects pages) (layers_in image (shared_out f.objects pages))
    → All (HasBlock image (memory_of f.objects (layers_in image (shared_out f.objects pages)))) pages
contents_in image f pages count orderly of =
    let shared = shared_out f.objects pages in
    let memory = memory_of f.objects (layers_in image shared) in
    let own : AllZip AreOwn f.objects shared = shared_own f pages count orderly in
    let found = found_all f.objects memory (memory_fits f.objects shared (layers_in image shared) own of) (objects_rise f pages count orderly) in
    All-from_recursion (HasBlock image memory) pages (subst (AllByRecursion (HasBlock image memory)) (shared_all f pages count orderly) (contents_all image memory f.objects shared own of found))

pub contents_law : (image : List ℕ) (f : Frame) (pages : List PagePlace) (layers : List (ℕ × Pages)) (count : ℕ) → IsWholeFrame f → IsOrderly count f pages → AreLayersOf (shared_out f.objects pages) layers → layers ≡ layers_in image (shared_out f.objects pages)
    → All (λ p. block image p.block ≡ page_bytes (memory_of f.objects layers) (listed_page p)) pages
contents_law image f pages layers count whole orderly of read =
    let shared = shared_out f.objects pages in
    subst (λ (ls : List (ℕ × Pages)). All (HasBlock image (memory_of f.objects ls)) pages) (sym read) (contents_in image f pages count orderly (subst (AreLayersOf shared) read of))
