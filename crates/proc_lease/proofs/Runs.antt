-- Bytes stored at addresses of one mapping are put side by side into its object.
use Rattle.std.proofs.Common.{◌≡◌, ℕ, suc, ◌+◌, ◌^◌, ◌<◌, ◌≤◌, ◌==◌, Bool, true, false, List, [], ◌∷◌, ◌++◌, length, take, drop, Some, refl, sym, ap, ◌∙◌, subst, arith, append_assoc, length-set, take-append-drop}
use Rattle.std.specs.Prelude.{if◌then◌else◌, slice_index_or, slice_set, ◌||◌, Result, Ok, Err, OnOk, OnErr}
use Rattle.rv64_isa.specs.Numbers.{wrapped}
use Rattle.address_maps.specs.declared.maps.Mapping.{Mapping}
use Rattle.address_maps.specs.Mappings.{mapping_at}
use Rattle.tables.specs.Lists.{on_first}
use Rattle.lists.specs.Bytes.{put, length-put}
use Rattle.shadow_chains.specs.Chain.{covers, with_range}
use Rattle.group_defs.specs.Cells.{bytes_in, object_place}
use Rattle.std.proofs.lemmas.List.Edits.{sets, sets-eq}
use Rattle.std.proofs.lemmas.List.{ext_get_or}
use Rattle.std.proofs.lemmas.List.FromFn.{length-map-range_with_len, get_or-map-range_with_len}
use Rattle.std.proofs.lemmas.Bool.Decides.{nat_tests}
use Rattle.proc_lease.proofs.Stores.{same_sizes_fit, size_after_byte}
use Rattle.proc_lease.specs.Private.{ObjectView, memory_of, byte_into, byte_into_at, bytes_into, stored_into, with_bytes, PrivateFits}

-- ---- sets

pub length-with_range : (set : List Bool) (place n : ℕ) → length (with_range set place n) ≡ length set
unfolding with_range
length-with_range set place n = length-map-range_with_len (λ p. slice_index_or set p false || covers place n p) 0 (length set)

pub in_range : (set : List Bool) (place n k : ℕ) → k < length set → slice_index_or (with_range set place n) k false ≡ (slice_index_or set k false || covers place n k)
unfolding with_range
in_range set place n k lt = get_or-map-range_with_len (λ p. slice_index_or set p false || covers place n p) 0 (length set) k k false lt (omega arith)

covers_none : (place k : ℕ) → covers place 0 k ≡ false
unfolding covers
covers_none place k = grind arith

covers_more : (place n k : ℕ) → (covers place 1 k || covers (suc place) n k) ≡ covers place (suc n) k
unfolding covers
covers_more place n k = grind (arith, nat_tests)

pub or_false : (x : Bool) → (x || false) ≡ x
or_false true = refl
or_false false = refl

pub or_assoc : (x y z : Bool) → ((x || y) || z) ≡ (x || (y || z))
or_assoc true y z = refl
or_assoc false y z = refl

range_none : (set : List Bool) (place : ℕ) → with_range set place 0 ≡ set
range_none set place =
    ext_get_or false (with_range set place 0) set (length-with_range set place 0) (λ k lt.
    in_range set place 0 k (omega (arith, lt, length-with_range set place 0))
    ∙ ap (λ t. slice_index_or set k false || t) (covers_none place k)
    ∙ or_false (slice_index_or set k false))

range_more : (set : List Bool) (place n : ℕ) → with_range (with_range set place 1) (suc place) n ≡ with_range set place (suc n)
range_more set place n =
    let first = length-with_range set place 1 in
    let both = length-with_range (with_range set place 1) (suc place) n in
    let all = length-with_range set place (suc n) in
    ext_get_or false (with_range (with_range set place 1) (suc place) n) (with_range set place (suc n)) (omega (arith, first, both, all)) (λ k lt.
    in_range (with_range set place 1) (suc place) n k (omega (arith, lt, both))
    ∙ ap (λ t. t || covers (suc place) n k) (in_range set place 1 k (omega (arith, lt, both, first)))
    ∙ or_assoc (slice_index_or set k false) (covers place 1 k) (covers (suc place) n k)
    ∙ ap (λ t. slice_index_or set k false || t) (covers_more place n k)
    ∙ sym (in_range set place (suc n) k (omega (arith, lt, both, first))))

-- ---- bytes

put_none : (bytes : List ℕ) (place : ℕ) → put bytes place [] ≡ bytes
unfolding put
put_none bytes place = let e : place + 0 ≡ place = omega arith in ap (λ (n : ℕ). take place bytes ++ drop n bytes) e ∙ take-append-drop place bytes

put_sets : (bytes : List ℕ) (place : ℕ) (new : List ℕ) → place + length new ≤ length bytes → put bytes place new ≡ sets bytes place new
unfolding put
put_sets bytes place new le = sym (sets-eq new bytes place le ∙ append_assoc (take place bytes) new (drop (place + length new) bytes))

put_more : (bytes : List ℕ) (place b : ℕ) (bs : List ℕ) → place + suc (length bs) ≤ length bytes → put (slice_set bytes place b) (suc place) bs ≡ put bytes place (b ∷ bs)
put_more bytes place b bs le =
    put_sets (slice_set bytes place b) (suc place) bs (omega (arith, le, length-set bytes place b))
    ∙ sym (put_sets bytes place (b ∷ bs) le)

-- ---- objects

abbrev put_byte : ℕ → ℕ → ObjectView → ObjectView
put_byte place b o = record o { bytes = slice_set o.bytes place b; touched = with_range o.touched place 1 }

with_both : (o : ObjectView) (x y : List ℕ) (s t : List Bool) → x ≡ y → s ≡ t → ◌≡◌ {A = ObjectView} (record o { bytes = x; touched = s }) (record o { bytes = y; touched = t })
with_both o x y s t e f = ap (λ (l : List ℕ). record o { bytes = l; touched = s }) e ∙ ap (λ (l : List Bool). record o { bytes = y; touched = l }) f

nothing_put : (objects : List ObjectView) (object place : ℕ) → objects ≡ bytes_into objects object place []
unfolding on_first
nothing_put [] object place = refl
nothing_put (o ∷ os) object place = by_test (nothing_put os object place) (o.number == object) refl
  where
    by_test : os ≡ bytes_into os object place [] → (t : Bool) → (o.number == object) ≡ t → o ∷ os ≡ (if t then with_bytes place [] o ∷ os else o ∷ bytes_into os object place [])
    by_test rest true e = ap (λ (x : ObjectView). x ∷ os) (sym (with_both o (put o.bytes place []) o.bytes (with_range o.touched place 0) o.touched (put_none o.bytes place) (range_none o.touched place)))
    by_test rest false e = ap (λ (l : List ObjectView). o ∷ l) rest

one_more : (objects : List ObjectView) (object place b : ℕ) (bs : List ℕ) → place + suc (length bs) ≤ length (bytes_in (memory_of objects) object) → bytes_into (byte_into objects object place b) object (suc place) bs ≡ bytes_into objects object place (b ∷ bs)
unfolding on_first
one_more [] object place b bs le = refl
one_more (o ∷ os) object place b bs le = by_test (one_more os object place b bs) (o.number == object) refl le
  where
    by_test : (place + suc (length bs) ≤ length (bytes_in (memory_of os) object) → bytes_into (byte_into os object place b) object (suc place) bs ≡ bytes_into os object place (b ∷ bs)) → (t : Bool) → (o.number == object) ≡ t → place + suc (length bs) ≤ length (bytes_in (memory_of (o ∷ os)) object)
        → bytes_into (if t then put_byte place b o ∷ os else o ∷ byte_into os object place b) object (suc place) bs ≡ (if t then with_bytes place (b ∷ bs) o ∷ os else o ∷ bytes_into os object place (b ∷ bs))
    by_test rest true e within =
        let inside : place + suc (length bs) ≤ length o.bytes = rw (bytes_in, e) at within in
        rw (e, on_first) (ap (λ (x : ObjectView). x ∷ os) (with_both o (put (slice_set o.bytes place b) (suc place) bs) (put o.bytes place (b ∷ bs)) (with_range (with_range o.touched place 1) (suc place) (length bs)) (with_range o.touched place (suc (length bs))) (put_more o.bytes place b bs inside) (range_more o.touched place (length bs))))
    by_test rest false e within =
        let later : place + suc (length bs) ≤ length (bytes_in (memory_of os) object) = rw (bytes_in, e) at within in
        rw (e, on_first) (ap (λ (l : List ObjectView). o ∷ l) (rest later))

-- bytes at addresses of one mapping
pub run_is : (objects : List ObjectView) (maps : List Mapping) (a place : ℕ) (m : Mapping) (bytes : List ℕ) → ((k : ℕ) → k < length bytes → mapping_at maps (a + k) ≡ Some m) → m.start ≤ a → object_place m a ≡ place → a + length bytes ≤ 2 ^ 64 → place + length bytes ≤ length (bytes_in (memory_of objects) m.object) → stored_into objects maps a bytes ≡ bytes_into objects m.object place bytes
unfolding stored_into
run_is objects maps a place m [] each low is small within = nothing_put objects m.object place
run_is objects maps a place m (b ∷ bs) each low is small within =
    let here : wrapped a ≡ a + 0 = omega arith in
    let at : a + 0 ≡ a = omega arith in
    let found : mapping_at maps (wrapped a) ≡ Some m = ap (mapping_at maps) here ∙ each 0 (omega arith) in
    let is' : object_place m (wrapped a) ≡ place = ap (object_place m) (here ∙ at) ∙ is in
    let first : byte_into_at objects (mapping_at maps (wrapped a)) (wrapped a) b ≡ byte_into objects m.object place b = ap (λ o. byte_into_at objects o (wrapped a) b) found ∙ ap (λ (i : ℕ). byte_into objects m.object i b) is' in
    let later : (k : ℕ) → k < length bs → mapping_at maps (a + 1 + k) ≡ Some m = λ k lt.
    let next : a + 1 + k ≡ a + suc k = omega arith in
    ap (mapping_at maps) next ∙ each (suc k) (omega (arith, lt)) in
    let next_place : object_place m (a + 1) ≡ suc place = omega (arith, is, low) in
    let size : length (bytes_in (memory_of (byte_into objects m.object place b)) m.object) ≡ length (bytes_in (memory_of objects) m.object) = size_after_byte objects m.object place b m.object in
    ap (λ (l : List ObjectView). stored_into l maps (a + 1) bs) first
    ∙ run_is (byte_into objects m.object place b) maps (a + 1) (suc place) m bs later (omega (arith, low)) next_place (omega (arith, small)) (omega (arith, size, within))
    ∙ one_more objects m.object place b bs within

-- ---- sizes

size_into : (objects : List ObjectView) (object place number : ℕ) (bytes : List ℕ) → place + length bytes ≤ length (bytes_in (memory_of objects) object) → length (bytes_in (memory_of (bytes_into objects object place bytes)) number) ≡ length (bytes_in (memory_of objects) number)
unfolding on_first
size_into [] object place number bytes le = refl
size_into (o ∷ os) object place number bytes le = by_tests (size_into os object place number bytes) (o.number == object) (o.number == number) refl refl
  where
    by_tests : (place + length bytes ≤ length (bytes_in (memory_of os) object) → length (bytes_in (memory_of (bytes_into os object place bytes)) number) ≡ length (bytes_in (memory_of os) number)) → (t u : Bool) → (o.number == object) ≡ t → (o.number == number) ≡ u
        → length (bytes_in (memory_of (if t then with_bytes place bytes o ∷ os else o ∷ bytes_into os object place bytes)) number) ≡ length (bytes_in (memory_of (o ∷ os)) number)
    by_tests rest true true e f =
        let within : place + length bytes ≤ length o.bytes = rw (bytes_in, e) at le in
        rw (bytes_in, f) (length-put o.bytes place bytes within)
    by_tests rest true false e f = rw (bytes_in, f) refl
    by_tests rest false true e f = rw (bytes_in, f) refl
    by_tests rest false false e f =
        let within : place + length bytes ≤ length (bytes_in (memory_of os) object) = rw (bytes_in, e) at le in
        rw (bytes_in, f) (rest within)

-- what fits goes on fitting, whether or not bytes were put there
pub fits_after : {T E : Type 0} (r : Result T E) (old new : List ObjectView) (maps : List Mapping) (object place : ℕ) (bytes : List ℕ) → place + length bytes ≤ length (bytes_in (memory_of old) object) → OnOk r (new ≡ bytes_into old object place bytes) → OnErr r (new ≡ old) → PrivateFits old maps → PrivateFits new maps
fits_after (Ok x) old new maps object place bytes le ok err fits =
    same_sizes_fit old new maps (λ number. ap (λ (l : List ObjectView). length (bytes_in (memory_of l) number)) ok ∙ size_into old object place number bytes le) fits
fits_after (Err x) old new maps object place bytes le ok err fits = subst (λ (l : List ObjectView). PrivateFits l maps) (sym err) fits

-- ---- one run after another

pub stored_after : (objects : List ObjectView) (maps : List Mapping) (a : ℕ) (front back : List ℕ) → stored_into objects maps a (front ++ back) ≡ stored_into (stored_into objects maps a front) maps (a + length front) back
unfolding stored_into
stored_after objects maps a [] back = let e : a ≡ a + 0 = omega arith in ap (λ (i : ℕ). stored_into objects maps i back) e
stored_after objects maps a (b ∷ front) back =
    let e : a + 1 + length front ≡ a + suc (length front) = omega arith in
    let next = byte_into_at objects (mapping_at maps (wrapped a)) (wrapped a) b in
    stored_after next maps (a + 1) front back ∙ ap (λ (i : ℕ). stored_into (stored_into next maps (a + 1) front) maps i back) e

-- an address counts modulo 2^64
pub wrapped_start : (objects : List ObjectView) (maps : List Mapping) (a : ℕ) (bytes : List ℕ) → stored_into objects maps (wrapped a) bytes ≡ stored_into objects maps a bytes
unfolding stored_into
wrapped_start objects maps a [] = refl
wrapped_start objects maps a (b ∷ bs) =
    let again : wrapped (wrapped a) ≡ wrapped a = omega arith in
    let next : wrapped (wrapped a + 1) ≡ wrapped (a + 1) = omega arith in
    let put_there = byte_into_at objects (mapping_at maps (wrapped a)) (wrapped a) b in
    ap (λ (at : ℕ). stored_into (byte_into_at objects (mapping_at maps at) at b) maps (wrapped a + 1) bs) again
    ∙ sym (wrapped_start put_there maps (wrapped a + 1) bs)
    ∙ ap (λ (at : ℕ). stored_into put_there maps at bs) next
    ∙ wrapped_start put_there maps (a + 1) bs
