-- What the objects behind a process's faces have to do with a group: what is seen, what is stored, and the sets.
use Rattle.std.proofs.Common.{◌≡◌, ℕ, zero, suc, get_or, ◌+◌, ◌/◌, ◌<◌, ◌==◌, ◌&&◌, ◌||◌, Bool, true, false, not, List, [], ◌∷◌, length, map, Option, Some, None, refl, sym, ap, ◌∙◌, arith}
use Rattle.std.proofs.Math.Path.{fun_ext}
use Rattle.std.proofs.lemmas.Bool.Decides.{nat_tests}
use Rattle.std.proofs.lemmas.List.Folds.{list_any-append}
use Rattle.std.specs.Prelude.{All, if◌then◌else◌, slice_index, slice_index_or, slice_set}
use Rattle.std.specs.List.{filter, list_any}
use Rattle.rv64_isa.specs.Memory.{Cell, private_of, private_cells}
use Rattle.rv64_isa.specs.Numbers.{wrapped}
use Rattle.address_maps.specs.declared.maps.Mapping.{Mapping}
use Rattle.address_maps.specs.Mappings.{has, mapping_at}
use Rattle.tables.specs.Lists.{on_first}
use Rattle.shadow_chains.specs.Chain.{covers, with_range}
use Rattle.group_defs.specs.Cells.{bytes_in, cell_in, cells_of, object_place, with_stored}
use Rattle.group_defs.specs.Fork.{maps_privately}
use Rattle.group_defs.specs.Pages.{is_among, page_at, pages_at}
use Rattle.proc_lease.specs.Private.{ObjectView, byte_into, byte_into_at, memory_of, private_in, stored_into}
use Rattle.proc_lease.specs.GroupObjects.{HavePrivate, KeepBases, is_in_set, set_of}
use Rattle.proc_lease.proofs.Mapped.{found_has}
use Rattle.proc_lease.proofs.Runs.{in_range, length-with_range, or_assoc, or_false}
use Rattle.proc_lease.proofs.Stores.{itself, memory_byte_at}

-- ---- what is seen

abbrev seen : List (ℕ × List ℕ) → ℕ → Option Mapping → Option Cell
seen memory a None = None
seen memory a (Some m) = Some (cell_in memory a m)

seen_is : (memory : List (ℕ × List ℕ)) (maps : List Mapping) (a : ℕ) → private_cells (cells_of memory maps) a ≡ private_of (seen memory a (mapping_at maps a))
unfolding cells_of
seen_is memory maps a = ap private_of (by_mapping (mapping_at maps a))
  where
    by_mapping : (o : Option Mapping) → elim o [ None ↦ None | Some m ↦ Some (cell_in memory a m) ] ≡ seen memory a o
    by_mapping None = refl
    by_mapping (Some m) = refl

own_is : (one two : List (ℕ × List ℕ)) (a : ℕ) (m : Mapping) (t : Bool) → m.shared ≡ t → (m.shared ≡ false → bytes_in one m.object ≡ bytes_in two m.object) → private_of (seen one a (Some m)) ≡ private_of (seen two a (Some m))
own_is one two a m true is same = rw is refl
own_is one two a m false is same =
    ap (λ (bytes : List ℕ). private_of (Some (record { byte = slice_index bytes (object_place m a); rights = m.prot; shared = m.shared; object = m.object; place = object_place m a }))) (same is)

same_private : (one two : List (ℕ × List ℕ)) (maps : List Mapping) (a : ℕ) (o : Option Mapping) → mapping_at maps a ≡ o → All (λ m. m.shared ≡ false → bytes_in one m.object ≡ bytes_in two m.object) maps → private_of (seen one a o) ≡ private_of (seen two a o)
same_private one two maps a None is same = refl
same_private one two maps a (Some m) is same =
    own_is one two a m m.shared refl (found_has (λ x. x.shared ≡ false → bytes_in one x.object ≡ bytes_in two x.object) (has a) maps m same is).0

-- where the objects have a table's bytes, the table's cells are seen
pub sees_private : (objects : List ObjectView) (memory : List (ℕ × List ℕ)) (maps : List Mapping) → HavePrivate objects memory maps → private_in objects maps ≡ private_cells (cells_of memory maps)
sees_private objects memory maps same = fun_ext (λ a.
    seen_is (memory_of objects) maps a
    ∙ same_private (memory_of objects) memory maps a (mapping_at maps a) refl same
    ∙ sym (seen_is memory maps a))

any_at : (p : Mapping → Bool) (maps : List Mapping) (k : ℕ) (d : Mapping) → k < length maps → p (get_or maps k d) ≡ true → list_any p maps ≡ true
any_at p [] k d lt is = absurd (omega (arith, lt))
any_at p (m ∷ ms) zero d lt is = ap (λ t. t || list_any p ms) is
any_at p (m ∷ ms) (suc k) d lt is = by_test (p m) (any_at p ms k d (omega (arith, lt)) is)
  where
    by_test : (t : Bool) → list_any p ms ≡ true → (t || list_any p ms) ≡ true
    by_test true later = refl
    by_test false later = later

mapped_own : (maps : List Mapping) → All (λ m. m.shared ≡ false → maps_privately maps m.object ≡ true) maps
mapped_own maps k d lt own = any_at (λ x. (x.object == (get_or maps k d).object) && not x.shared) maps k d lt (both ((get_or maps k d).object == (get_or maps k d).object) (not (get_or maps k d).shared) (itself (get_or maps k d).object) (ap not own))
  where
    both : (s t : Bool) → s ≡ true → t ≡ true → (s && t) ≡ true
    both s t e f = ap (λ x. x && t) e ∙ f

-- the bytes of what passes a test
kept_bytes : (keep : ℕ → Bool) (memory : List (ℕ × List ℕ)) (number : ℕ) → keep number ≡ true → bytes_in (filter (λ o. keep o.0) memory) number ≡ bytes_in memory number
kept_bytes keep [] number kept = refl
kept_bytes keep (o ∷ os) number kept = by_tests (keep o.0) (o.0 == number) refl refl (kept_bytes keep os number kept)
  where
    by_tests : (s t : Bool) → keep o.0 ≡ s → (o.0 == number) ≡ t → bytes_in (filter (λ x. keep x.0) os) number ≡ bytes_in os number → bytes_in (if s then o ∷ filter (λ x. keep x.0) os else filter (λ x. keep x.0) os) number ≡ bytes_in (o ∷ os) number
    by_tests true true k n rest = rw (bytes_in, n) refl
    by_tests true false k n rest = rw (bytes_in, n) rest
    by_tests false true k n rest = let same : o.0 ≡ number = grind (arith, n) in absurd (let never : false ≡ true = sym k ∙ ap keep same ∙ kept in cc)
    by_tests false false k n rest = rw (bytes_in, n) rest

pub own_have : (objects : List ObjectView) (memory : List (ℕ × List ℕ)) (maps : List Mapping) → memory_of objects ≡ filter (λ o. maps_privately maps o.0) memory → HavePrivate objects memory maps
own_have objects memory maps is k d lt own =
    let number : ℕ = (get_or maps k d).object in
    ap (λ (l : List (ℕ × List ℕ)). bytes_in l number) is ∙ kept_bytes (maps_privately maps) memory number (mapped_own maps k d lt own)

-- ---- what is stored

pub stores_alike : (objects : List ObjectView) (maps : List Mapping) (a : ℕ) (bytes : List ℕ) → memory_of (stored_into objects maps a bytes) ≡ with_stored (memory_of objects) maps a bytes
unfolding stored_into with_stored
stores_alike objects maps a [] = refl
stores_alike objects maps a (b ∷ bs) =
    let at = wrapped a in
    stores_alike (byte_into_at objects (mapping_at maps at) at b) maps (a + 1) bs
    ∙ ap (λ (l : List (ℕ × List ℕ)). with_stored l maps (a + 1) bs) (memory_byte_at objects (mapping_at maps at) at b)

-- ---- what stays

stays : {X : Type 0} (f : ObjectView → X) → ((o : ObjectView) (bytes : List ℕ) (touched : List Bool) → f (record o { bytes = bytes; touched = touched }) ≡ f o) → (objects : List ObjectView) (object place b : ℕ) → map f (byte_into objects object place b) ≡ map f objects
unfolding on_first
stays f same [] object place b = refl
stays f same (o ∷ os) object place b = by_test (stays f same os object place b) (o.number == object)
  where
    by_test : map f (byte_into os object place b) ≡ map f os → (t : Bool) → map f (if t then record o { bytes = slice_set o.bytes place b; touched = with_range o.touched place 1 } ∷ os else o ∷ byte_into os object place b) ≡ f o ∷ map f os
    by_test rest true = ap (λ x. x ∷ map f os) (same o (slice_set o.bytes place b) (with_range o.touched place 1))
    by_test rest false = ap (λ l. f o ∷ l) rest

stays_at : {X : Type 0} (f : ObjectView → X) → ((o : ObjectView) (bytes : List ℕ) (touched : List Bool) → f (record o { bytes = bytes; touched = touched }) ≡ f o) → (objects : List ObjectView) (m : Option Mapping) (a b : ℕ) → map f (byte_into_at objects m a b) ≡ map f objects
stays_at f same objects None a b = refl
stays_at f same objects (Some m) a b = stays f same objects m.object (object_place m a) b

stays_stored : {X : Type 0} (f : ObjectView → X) → ((o : ObjectView) (bytes : List ℕ) (touched : List Bool) → f (record o { bytes = bytes; touched = touched }) ≡ f o) → (objects : List ObjectView) (maps : List Mapping) (a : ℕ) (bytes : List ℕ) → map f (stored_into objects maps a bytes) ≡ map f objects
unfolding stored_into
stays_stored f same objects maps a [] = refl
stays_stored f same objects maps a (b ∷ bs) =
    stays_stored f same (byte_into_at objects (mapping_at maps (wrapped a)) (wrapped a) b) maps (a + 1) bs ∙ stays_at f same objects (mapping_at maps (wrapped a)) (wrapped a) b

pub bases_kept : (objects : List ObjectView) (maps : List Mapping) (a : ℕ) (bytes : List ℕ) → KeepBases objects (stored_into objects maps a bytes)
bases_kept objects maps a bytes = record {
  numbers = stays_stored (λ o. o.number) (λ o b t. refl) objects maps a bytes;
  pages = stays_stored (λ o. o.pages) (λ o b t. refl) objects maps a bytes;
  bases = stays_stored (λ o. o.base) (λ o b t. refl) objects maps a bytes;
  base_bytes = stays_stored (λ o. o.base_bytes) (λ o b t. refl) objects maps a bytes;
}

-- ---- the sets

covers_one : (place q : ℕ) → covers place 1 q ≡ (place / 4096 == q)
unfolding covers
covers_one place q = grind (arith, nat_tests)

size_byte : (objects : List ObjectView) (object place b k : ℕ) → length (set_of (byte_into objects object place b) k) ≡ length (set_of objects k)
unfolding on_first
size_byte [] object place b k = refl
size_byte (o ∷ os) object place b k = by_tests (size_byte os object place b k) (o.number == object) (o.number == k) refl
  where
    by_tests : length (set_of (byte_into os object place b) k) ≡ length (set_of os k) → (t u : Bool) → (o.number == k) ≡ u
        → length (set_of (if t then record o { bytes = slice_set o.bytes place b; touched = with_range o.touched place 1 } ∷ os else o ∷ byte_into os object place b) k) ≡ length (set_of (o ∷ os) k)
    by_tests rest true true f = rw (set_of, f) (length-with_range o.touched place 1)
    by_tests rest true false f = rw (set_of, f) refl
    by_tests rest false true f = rw (set_of, f) refl
    by_tests rest false false f = rw (set_of, f) rest

size_at : (objects : List ObjectView) (m : Option Mapping) (a b k : ℕ) → length (set_of (byte_into_at objects m a b) k) ≡ length (set_of objects k)
size_at objects None a b k = refl
size_at objects (Some m) a b k = size_byte objects m.object (object_place m a) b k

enters_one : (objects : List ObjectView) (object place b k q : ℕ) → q < length (set_of objects k) → is_in_set (byte_into objects object place b) (k, q) ≡ (is_in_set objects (k, q) || ((object == k) && (place / 4096 == q)))
unfolding on_first
enters_one [] object place b k q lt = absurd (omega (arith, lt))
enters_one (o ∷ os) object place b k q lt = by_tests (enters_one os object place b k q) (o.number == object) (o.number == k) (object == k) refl refl refl lt
  where
    by_tests : (q < length (set_of os k) → is_in_set (byte_into os object place b) (k, q) ≡ (is_in_set os (k, q) || ((object == k) && (place / 4096 == q)))) → (t u v : Bool) → (o.number == object) ≡ t → (o.number == k) ≡ u → (object == k) ≡ v → q < length (set_of (o ∷ os) k)
        → is_in_set (if t then record o { bytes = slice_set o.bytes place b; touched = with_range o.touched place 1 } ∷ os else o ∷ byte_into os object place b) (k, q) ≡ (is_in_set (o ∷ os) (k, q) || (v && (place / 4096 == q)))
    by_tests rest true true true e f g less =
        let here : q < length o.touched = rw (set_of, f) at less in
        rw (is_in_set, set_of, f) (in_range o.touched place 1 q here ∙ ap (λ t. slice_index_or o.touched q false || t) (covers_one place q))
    by_tests rest true true false e f g less = absurd (grind (arith, e, f, g))
    by_tests rest true false true e f g less = absurd (grind (arith, e, f, g))
    by_tests rest true false false e f g less = rw (is_in_set, set_of, f) (sym (or_false (is_in_set os (k, q))))
    by_tests rest false true true e f g less = absurd (grind (arith, e, f, g))
    by_tests rest false true false e f g less = rw (is_in_set, set_of, f) (sym (or_false (slice_index_or o.touched q false)))
    by_tests rest false false v e f g less =
        let later : q < length (set_of os k) = rw (set_of, f) at less in
        rw (is_in_set, set_of, f) (rest later ∙ ap (λ x. is_in_set os (k, q) || (x && (place / 4096 == q))) g)

enters_at : (objects : List ObjectView) (m : Option Mapping) (a b k q : ℕ) → q < length (set_of objects k) → is_in_set (byte_into_at objects m a b) (k, q) ≡ (is_in_set objects (k, q) || is_among (elim m [ None ↦ [] | Some x ↦ (x.object, object_place x a / 4096) ∷ [] ]) (k, q))
enters_at objects None a b k q lt = sym (or_false (is_in_set objects (k, q)))
enters_at objects (Some m) a b k q lt =
    enters_one objects m.object (object_place m a) b k q lt
    ∙ ap (λ t. is_in_set objects (k, q) || t) (sym (or_false ((m.object == k) && (object_place m a / 4096 == q))))

pub sets_stay : (objects : List ObjectView) (maps : List Mapping) (a : ℕ) (bytes : List ℕ) (k : ℕ) → length (set_of (stored_into objects maps a bytes) k) ≡ length (set_of objects k)
unfolding stored_into
sets_stay objects maps a [] k = refl
sets_stay objects maps a (b ∷ bs) k =
    let next : List ObjectView = byte_into_at objects (mapping_at maps (wrapped a)) (wrapped a) b in
    sets_stay next maps (a + 1) bs k ∙ size_at objects (mapping_at maps (wrapped a)) (wrapped a) b k

-- a page is in its object's set then, where it was or is one of those stored to
pub enters : (objects : List ObjectView) (maps : List Mapping) (a : ℕ) (bytes : List ℕ) (k q : ℕ) → q < length (set_of objects k) → is_in_set (stored_into objects maps a bytes) (k, q) ≡ (is_in_set objects (k, q) || is_among (pages_at maps a bytes) (k, q))
unfolding stored_into pages_at
enters objects maps a [] k q lt = sym (or_false (is_in_set objects (k, q)))
enters objects maps a (b ∷ bs) k q lt =
    let next : List ObjectView = byte_into_at objects (mapping_at maps (wrapped a)) (wrapped a) b in
    let here : List (ℕ × ℕ) = page_at maps (wrapped a) in
    let later : List (ℕ × ℕ) = pages_at maps (a + 1) bs in
    let size : length (set_of next k) ≡ length (set_of objects k) = size_at objects (mapping_at maps (wrapped a)) (wrapped a) b k in
    enters next maps (a + 1) bs k q (omega (arith, size, lt))
    ∙ ap (λ t. t || is_among later (k, q)) (enters_at objects (mapping_at maps (wrapped a)) (wrapped a) b k q lt)
    ∙ or_assoc (is_in_set objects (k, q)) (is_among here (k, q)) (is_among later (k, q))
    ∙ ap (λ t. is_in_set objects (k, q) || t) (sym (list_any-append (λ p. (p.0 == k) && (p.1 == q)) here later))
