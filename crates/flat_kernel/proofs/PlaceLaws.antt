-- The pages of a valid group that aren't all zero, as they are gathered.
use Rattle.std.proofs.Common.{Vec, Global, Result, Ok, Err, ◌≡◌, ℕ, zero, suc, ◌+◌, ◌-◌, ◌*◌, ◌/◌, ◌<◌, ◌≤◌, ◌==◌, Bool, true, false, cond, List, [], ◌∷◌, ◌++◌, map, length, take, drop, get_or, refl, sym, ap, ap₂, ◌∙◌, subst, arith, append_assoc, length-take, length-drop, add-one}
use Rattle.std.specs.Prelude.{not, IfOk}
use Rattle.std.specs.List.{filter, flat_map, range_with_len, AllZip, AllByRecursion}
use Rattle.std.proofs.lemmas.List.{append-nil, map-append, map_more}
use Rattle.std.proofs.lemmas.List.Concat.{flat_map-append}
use Rattle.std.proofs.lemmas.List.Elements.{filter-append}
use Rattle.group_defs.specs.Group.{Group}
use Rattle.group_defs.specs.Cells.{bytes_in}
use Rattle.tables.specs.Rising.{Rise}
use Rattle.group_defs.specs.Pages.{all_pages, nonzero_pages, page_bytes, is_zero_page, pages_of as all_pages_of}
use Rattle.group_defs.specs.Valid.{GroupIsValid, IsObject}
use Rattle.group_defs.specs.declared.frame.ObjectRec.{ObjectRec}
use Rattle.flat_kernel.specs.Placing.{page_slice, is_zero, is_nonzero_page, page_with, pages_up_to, object_pages, memory_pages}
use Rattle.ckpt_records.specs.Pages.{ArePagesOf, written_page}
use Rattle.ckpt_records.specs.declared.meta.Page.{Page}
use Rattle.tables.proofs.Ordered.{IsOrdered, each_weaker, each_append, each_map, each_filter, each_in_range, ordered_of_pairs}

-- ---- the bytes of an object by its number

-- the entry has the object's bytes, and the object's number finds them
pub record IsFound (memory : List (ℕ × List ℕ)) (o : ObjectRec) (entry : ℕ × List ℕ) : Type 0 where
  pub number : entry.0 ≡ o.number
  pub size : length entry.1 ≡ 4096 * o.pages
  pub bytes : bytes_in memory o.number ≡ entry.1

found_more : (e : ℕ × List ℕ) (memory : List (ℕ × List ℕ)) (objects : List ObjectRec) (entries : List (ℕ × List ℕ)) → AllByRecursion (λ (o : ObjectRec). e.0 < o.number) objects
    → AllZip (IsFound memory) objects entries → AllZip (IsFound (e ∷ memory)) objects entries
found_more e memory [] [] higher found = tt
found_more e memory [] (x ∷ entries) higher found = absurd found
found_more e memory (o ∷ objects) [] higher found = absurd found
found_more e memory (o ∷ objects) (x ∷ entries) higher found =
    let test : (e.0 == o.number) ≡ false = grind (arith, higher.0) in
    (record { number = found.0.number; size = found.0.size; bytes = rw (bytes_in, test) found.0.bytes }, found_more e memory objects entries higher.1 found.1)

abbrev IsLower : ObjectRec → ObjectRec → Type 0
IsLower a b = a.number < b.number

found_all : (objects : List ObjectRec) (memory : List (ℕ × List ℕ)) → AllZip IsObject objects memory → IsOrdered IsLower objects → AllZip (IsFound memory) objects memory
found_all [] [] zip rising = tt
found_all [] (e ∷ memory) zip rising = absurd zip
found_all (o ∷ objects) [] zip rising = absurd zip
found_all (o ∷ objects) (e ∷ memory) zip rising =
    let at : e.0 ≡ o.number = zip.0.0 in
    let test : (e.0 == o.number) ≡ true = grind (arith, at) in
    let higher : AllByRecursion (λ (b : ObjectRec). e.0 < b.number) objects = each_weaker (IsLower o) (λ (b : ObjectRec). e.0 < b.number) objects (λ b lt. omega (arith, lt, at)) rising.0 in
    (record { number = at; size = zip.0.1; bytes = rw (bytes_in, test) refl }, found_more e memory objects memory higher (found_all objects memory zip.1 rising.1))

-- ---- which pages are placed

map_map : {X Y Z : Type 0} (g : Y → Z) (f : X → Y) (xs : List X) → map g (map f xs) ≡ map (λ x. g (f x)) xs
map_map g f [] = refl
map_map g f (x ∷ xs) = ap (λ zs. g (f x) ∷ zs) (map_map g f xs)

map_cond : {X Y : Type 0} (f : X → Y) (b : Bool) (x : X) (xs : List X) → map f (cond b (x ∷ xs) xs) ≡ cond b (f x ∷ map f xs) (map f xs)
map_cond f true x xs = refl
map_cond f false x xs = refl

filter_map : {X Y : Type 0} (t : Y → Bool) (f : X → Y) (xs : List X) → filter t (map f xs) ≡ map f (filter (λ x. t (f x)) xs)
filter_map t f [] = refl
filter_map t f (x ∷ xs) = ap (λ ys. cond (t (f x)) (f x ∷ ys) ys) (filter_map t f xs) ∙ sym (map_cond f (t (f x)) x (filter (λ x. t (f x)) xs))

abbrev is_listed : List (ℕ × List ℕ) → ℕ × ℕ → Bool
is_listed memory page = not (is_zero_page memory page)

abbrev keys : ℕ → List ℕ → ℕ → List (ℕ × ℕ)
keys number bytes count = map (λ page. (number, page)) (filter (is_nonzero_page bytes) (range_with_len 0 count))

keys_of_object : (memory : List (ℕ × List ℕ)) (o : ObjectRec) (e : ℕ × List ℕ) → IsFound memory o e → map written_page (object_pages e) ≡ filter (is_listed memory) (all_pages_of o)
unfolding pages_up_to
keys_of_object memory o e found =
    let count : length e.1 / 4096 ≡ o.pages = omega (arith, found.size) in
    map_map written_page (page_with e.0 e.1) (filter (is_nonzero_page e.1) (range_with_len 0 (length e.1 / 4096)))
    ∙ ap (λ (n : ℕ). keys n e.1 (length e.1 / 4096)) found.number
    ∙ ap (λ (n : ℕ). keys o.number e.1 n) count
    ∙ ap (λ (bytes : List ℕ). keys o.number bytes o.pages) (sym found.bytes)
    ∙ sym (filter_map (is_listed memory) (λ (page : ℕ). (o.number, page)) (range_with_len 0 o.pages))

keys_of_all : (memory : List (ℕ × List ℕ)) (objects : List ObjectRec) (entries : List (ℕ × List ℕ)) → AllZip (IsFound memory) objects entries
    → map written_page (flat_map object_pages entries) ≡ filter (is_listed memory) (flat_map all_pages_of objects)
keys_of_all memory [] [] found = refl
keys_of_all memory [] (e ∷ entries) found = absurd found
keys_of_all memory (o ∷ objects) [] found = absurd found
keys_of_all memory (o ∷ objects) (e ∷ entries) found =
    map-append written_page (object_pages e) (flat_map object_pages entries)
    ∙ ap₂ (λ (x y : List (ℕ × ℕ)). x ++ y) (keys_of_object memory o e found.0) (keys_of_all memory objects entries found.1)
    ∙ sym (filter-append (is_listed memory) (all_pages_of o) (flat_map all_pages_of objects))

module _ (g : Group) (valid : GroupIsValid g) where
  objects_rise : IsOrdered IsLower g.frame.objects
  unfolding Rise
  objects_rise = ordered_of_pairs IsLower g.frame.objects valid.sound.frame.objects.rise

  all_found : AllZip (IsFound g.memory) g.frame.objects g.memory
  all_found = found_all g.frame.objects g.memory valid.sound.memory.bytes objects_rise

  -- the pages placed are those that aren't all zero
  pub keys_are : map written_page (memory_pages g.memory) ≡ nonzero_pages g
  unfolding memory_pages nonzero_pages all_pages
  keys_are = keys_of_all g.memory g.frame.objects g.memory all_found

-- ---- the bytes of the pages placed

-- a page has its bytes in the memory, and is whole
pub record HasBytes (memory : List (ℕ × List ℕ)) (p : Page) : Type 0 where
  pub bytes : p.bytes ≡ page_bytes memory (written_page p)
  pub whole : length p.bytes ≡ 4096

object_bytes : (memory : List (ℕ × List ℕ)) (o : ObjectRec) (e : ℕ × List ℕ) → IsFound memory o e → AllByRecursion (HasBytes memory) (object_pages e)
unfolding pages_up_to
object_bytes memory o e found =
    let count = length e.1 / 4096 in
    let own : bytes_in memory e.0 ≡ e.1 = ap (bytes_in memory) found.number ∙ found.bytes in
    each_map (HasBytes memory) (page_with e.0 e.1) (filter (is_nonzero_page e.1) (range_with_len 0 count))
    (each_filter (λ (page : ℕ). HasBytes memory (page_with e.0 e.1 page)) (is_nonzero_page e.1) (range_with_len 0 count)
    (each_weaker (λ (page : ℕ). (0 ≤ page) × (page < 0 + count)) (λ (page : ℕ). HasBytes memory (page_with e.0 e.1 page)) (range_with_len 0 count)
    (λ page within. record {
      bytes = ap (λ (bytes : List ℕ). page_slice bytes page) (sym own);
      whole = let fits : 4096 * page + 4096 ≤ length e.1 = omega (arith, within.1) in omega (arith, length-take 4096 (drop (4096 * page) e.1), length-drop (4096 * page) e.1);
    }) (each_in_range 0 count)))

bytes_of_all : (memory : List (ℕ × List ℕ)) (objects : List ObjectRec) (entries : List (ℕ × List ℕ)) → AllZip (IsFound memory) objects entries → AllByRecursion (HasBytes memory) (flat_map object_pages entries)
bytes_of_all memory [] [] found = tt
bytes_of_all memory [] (e ∷ entries) found = absurd found
bytes_of_all memory (o ∷ objects) [] found = absurd found
bytes_of_all memory (o ∷ objects) (e ∷ entries) found = each_append (HasBytes memory) (object_pages e) (flat_map object_pages entries) (object_bytes memory o e found.0) (bytes_of_all memory objects entries found.1)

pub bytes_are : (g : Group) → GroupIsValid g → AllByRecursion (HasBytes g.memory) (memory_pages g.memory)
unfolding memory_pages
bytes_are g valid = bytes_of_all g.memory g.frame.objects g.memory (all_found g valid)

-- they are the group's pages
pub are_pages : (g : Group) → GroupIsValid g → ArePagesOf g (memory_pages g.memory)
are_pages g valid = record {
  which = keys_are g valid;
  bytes = each_weaker (HasBytes g.memory) (λ (p : Page). p.bytes ≡ page_bytes g.memory (written_page p)) (memory_pages g.memory) (λ p has. has.bytes) (bytes_are g valid);
}

pub are_whole : (g : Group) → GroupIsValid g → AllByRecursion (λ (p : Page). length p.bytes ≡ 4096) (memory_pages g.memory)
are_whole g valid = each_weaker (HasBytes g.memory) (λ (p : Page). length p.bytes ≡ 4096) (memory_pages g.memory) (λ p has. has.whole) (bytes_are g valid)

-- ---- one page more of an object

pub range_more : (a n : ℕ) → range_with_len a (n + 1) ≡ range_with_len a n ++ (a + n) ∷ []
range_more a n = ap (range_with_len a) (add-one n) ∙ by_length a n
  where
    by_length : (a n : ℕ) → range_with_len a (suc n) ≡ range_with_len a n ++ (a + n) ∷ []
    by_length a zero = let same : a ≡ a + 0 = omega arith in ap (λ k. k ∷ []) same
    by_length a (suc n) = let same : a + 1 + n ≡ a + suc n = omega arith in ap (λ ks. a ∷ ks) (by_length (a + 1) n ∙ ap (λ k. range_with_len (a + 1) n ++ k ∷ []) same)

abbrev one_page : ℕ → List ℕ → ℕ → Bool → List Page
one_page object bytes page kept = map (page_with object bytes) (cond kept (page ∷ []) [])

page_more : (object : ℕ) (bytes : List ℕ) (n : ℕ) → pages_up_to object bytes (n + 1) ≡ pages_up_to object bytes n ++ one_page object bytes n (is_nonzero_page bytes n)
unfolding pages_up_to
page_more object bytes n =
    ap (λ (l : List ℕ). map (page_with object bytes) (filter (is_nonzero_page bytes) l)) (range_more 0 n ∙ ap (λ (k : ℕ). range_with_len 0 n ++ k ∷ []) (omega arith))
    ∙ ap (map (page_with object bytes)) (filter-append (is_nonzero_page bytes) (range_with_len 0 n) (n ∷ []))
    ∙ map-append (page_with object bytes) (filter (is_nonzero_page bytes) (range_with_len 0 n)) (cond (is_nonzero_page bytes n) (n ∷ []) [])

kept_more : (object : ℕ) (bytes : List ℕ) (n : ℕ) → is_nonzero_page bytes n ≡ true → pages_up_to object bytes (n + 1) ≡ pages_up_to object bytes n ++ page_with object bytes n ∷ []
kept_more object bytes n is = page_more object bytes n ∙ ap (λ (b : Bool). pages_up_to object bytes n ++ one_page object bytes n b) is

zero_more : (object : ℕ) (bytes : List ℕ) (n : ℕ) → is_nonzero_page bytes n ≡ false → pages_up_to object bytes (n + 1) ≡ pages_up_to object bytes n
zero_more object bytes n is = page_more object bytes n ∙ ap (λ (b : Bool). pages_up_to object bytes n ++ one_page object bytes n b) is ∙ append-nil (pages_up_to object bytes n)

pub no_pages : (object : ℕ) (bytes : List ℕ) → pages_up_to object bytes 0 ≡ []
unfolding pages_up_to
no_pages object bytes = refl

-- ---- one object more of a memory

pub no_objects : memory_pages [] ≡ []
unfolding memory_pages
no_objects = refl

pub object_more : (memory : List (ℕ × List ℕ)) (o : ℕ × List ℕ) → memory_pages (memory ++ o ∷ []) ≡ memory_pages memory ++ object_pages o
unfolding memory_pages
object_more memory o = flat_map-append object_pages memory (o ∷ []) ∙ ap (λ (l : List Page). flat_map object_pages memory ++ l) (append-nil (object_pages o))

-- ---- the steps of the loops

pub part_is : (bytes : List ℕ) (n : ℕ) → take (4096 * n + 4096 - 4096 * n) (drop (4096 * n) bytes) ≡ page_slice bytes n
part_is bytes n = let size : 4096 * n + 4096 - 4096 * n ≡ 4096 = omega arith in ap (λ (k : ℕ). take k (drop (4096 * n) bytes)) size

pub page_added : (object : ℕ) (bytes part : List ℕ) (n : ℕ) (before now next : List Page) → part ≡ page_slice bytes n → is_zero part ≡ false
    → now ≡ before ++ pages_up_to object bytes n → next ≡ now ++ record { object = object; page = n; bytes = part } ∷ [] → next ≡ before ++ pages_up_to object bytes (n + 1)
page_added object bytes part n before now next is some first second =
    let kept : is_nonzero_page bytes n ≡ true = ap (λ (l : List ℕ). not (is_zero l)) (sym is) ∙ ap not some in
    second
    ∙ ap (λ (l : List Page). l ++ record { object = object; page = n; bytes = part } ∷ []) first
    ∙ append_assoc before (pages_up_to object bytes n) (record { object = object; page = n; bytes = part } ∷ [])
    ∙ ap (λ (l : List ℕ). before ++ (pages_up_to object bytes n ++ record { object = object; page = n; bytes = l } ∷ [])) is
    ∙ ap (λ (l : List Page). before ++ l) (sym (kept_more object bytes n kept))

pub page_passed : (object : ℕ) (bytes part : List ℕ) (n : ℕ) (before now : List Page) → part ≡ page_slice bytes n → is_zero part ≡ true → now ≡ before ++ pages_up_to object bytes n → now ≡ before ++ pages_up_to object bytes (n + 1)
page_passed object bytes part n before now is none first =
    let zeros : is_nonzero_page bytes n ≡ false = ap (λ (l : List ℕ). not (is_zero l)) (sym is) ∙ ap not none in
    first ∙ ap (λ (l : List Page). before ++ l) (sym (zero_more object bytes n zeros))

pub object_added : {X : Type 0} (f : X → ℕ × List ℕ) (memory : List X) (i : ℕ) (x : X) (number : ℕ) (bytes : List ℕ) (now next : List Page) → i < length memory → x ≡ get_or memory i x → (number, bytes) ≡ f x
    → now ≡ memory_pages (map f (take i memory)) → next ≡ now ++ object_pages (number, bytes) → next ≡ memory_pages (map f (take (i + 1) memory))
object_added f memory i x number bytes now next lt is at first second =
    let longer : map f (take (i + 1) memory) ≡ map f (take i memory) ++ f x ∷ [] = map_more f memory i x lt ∙ ap (λ y. map f (take i memory) ++ f y ∷ []) (sym is) in
    second
    ∙ ap (λ (l : List Page). l ++ object_pages (number, bytes)) first
    ∙ ap (λ (o : ℕ × List ℕ). memory_pages (map f (take i memory)) ++ object_pages o) at
    ∙ sym (ap memory_pages longer ∙ object_more (map f (take i memory)) (f x))

-- ---- what was gathered

pub gathered_pages : {E : Type 0} (r : Result (Vec Page Global) E) (g : Group) (memory : List (ℕ × List ℕ)) → g.memory ≡ memory → GroupIsValid g → IfOk r (λ pages. pages.items ≡ memory_pages memory) → IfOk r (λ pages. ArePagesOf g pages.items)
gathered_pages (Ok pages) g memory same valid is = subst (ArePagesOf g) (sym (is ∙ ap memory_pages (sym same))) (are_pages g valid)
gathered_pages (Err e) g memory same valid is = tt

pub gathered_whole : {E : Type 0} (r : Result (Vec Page Global) E) (g : Group) (memory : List (ℕ × List ℕ)) → g.memory ≡ memory → GroupIsValid g → IfOk r (λ pages. pages.items ≡ memory_pages memory)
    → IfOk r (λ pages. AllByRecursion (λ (p : Page). length p.bytes ≡ 4096) pages.items)
gathered_whole (Ok pages) g memory same valid is = subst (AllByRecursion (λ (p : Page). length p.bytes ≡ 4096)) (sym (is ∙ ap memory_pages (sym same))) (are_whole g valid)
gathered_whole (Err e) g memory same valid is = tt

pub no_gathered : (g : Group) → g.memory ≡ [] → GroupIsValid g → ArePagesOf g []
no_gathered g none valid = subst (ArePagesOf g) (ap memory_pages none ∙ no_objects) (are_pages g valid)
