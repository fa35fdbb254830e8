-- What is stored, in the private part and in the public one.
use Rattle.std.proofs.Common.{◌≡◌, ℕ, suc, ◌+◌, ◌<◌, ◌==◌, ◌||◌, Bool, true, false, List, [], ◌∷◌, ◌++◌, get_or, All, Option, Some, None, refl, sym, ap, ◌∙◌, arith}
use Rattle.std.proofs.lemmas.Bool.{eqb-true}
use Rattle.std.specs.Prelude.{if◌then◌else◌, slice_set}
use Rattle.std.specs.List.{cons_option, filter_map}
use Rattle.std.specs.Option.{option_map}
use Rattle.address_maps.specs.declared.maps.Mapping.{Mapping}
use Rattle.address_maps.specs.Mappings.{has, mapping_at}
use Rattle.group_defs.specs.Cells.{object_place, with_byte, with_byte_at, with_stored, with_writes}
use Rattle.group_defs.specs.declared.frame.ObjectRec.{ObjectRec}
use Rattle.group_parts.specs.Local.{continued_part}
use Rattle.group_parts.specs.Parts.{PrivatePart}
use Rattle.group_parts.specs.Served.{stored_in}
use Rattle.rv64_isa.specs.Memory.{Write}
use Rattle.rv64_isa.specs.Numbers.{wrapped}
use Rattle.rv64_isa.specs.declared.regs.Regs.{Regs}
use Rattle.shadow_chains.specs.Chain.{with_range}
use Rattle.shadow_chains.specs.declared.entry.Entry.{Entry}
use Rattle.tables.specs.Lists.{on_first}
use Rattle.tables.specs.Rising.{Rise}
use Rattle.tables.specs.Rows.{Rows}
use Rattle.group_kernel.specs.Held.{TablesView, kept_in, view_in}
use Rattle.group_kernel.specs.Leases.{part_held}
use Rattle.group_kernel.specs.Accesses.{with_writes_in}
use Rattle.proc_lease.specs.Sight.{SeenObjects, has_object, seen_by, with_stored_in}
use Rattle.proc_lease.specs.Private.{ObjectView, byte_into, byte_into_at, memory_of, stored_into, views_of}
use Rattle.proc_lease.specs.declared.process.Process.{Process}
use Rattle.proc_lease.proofs.GroupObjects.{stores_alike}
use Rattle.proc_lease.proofs.Mapped.{found_has}

-- ---- the private part

writes_alike : (t : SeenObjects) (writes : List Write) → memory_of (with_writes_in t writes).private ≡ with_writes (memory_of t.private) t.maps writes
unfolding with_writes
writes_alike t [] = refl
writes_alike t (w ∷ ws) = writes_alike (with_stored_in t w.address w.bytes) ws ∙ ap (λ (l : List (ℕ × List ℕ)). with_writes l t.maps ws) (stores_alike t.private t.maps w.address w.bytes)

pub maps_stay : (t : SeenObjects) (writes : List Write) → (with_writes_in t writes).maps ≡ t.maps
maps_stay t [] = refl
maps_stay t (w ∷ ws) = maps_stay (with_stored_in t w.address w.bytes) ws

abbrev part_with : Regs → List Mapping → List (ℕ × List ℕ) → PrivatePart
part_with regs maps memory = record { regs = regs; maps = maps; memory = memory }

pub part_stored : (old new : Process) (shared shared' : Rows Entry) (writes : List Write) → seen_by new shared' ≡ with_writes_in (seen_by old shared) writes → part_held new ≡ continued_part (part_held old) new.regs writes
part_stored old new shared shared' writes after =
    let t = seen_by old shared in
    let maps : new.map.entries ≡ old.map.entries = ap (λ (u : SeenObjects). u.maps) after ∙ maps_stay t writes in
    let memory : memory_of (views_of new.faces.entries) ≡ with_writes (memory_of (views_of old.faces.entries)) old.map.entries writes = ap (λ (u : SeenObjects). memory_of u.private) after ∙ writes_alike t writes in
    ap (λ (l : List Mapping). part_with new.regs l (memory_of (views_of new.faces.entries))) maps ∙ ap (part_with new.regs old.map.entries) memory

-- ---- the public part

abbrev entry_of : List ObjectView → ObjectRec → Option (ℕ × List ℕ)
entry_of views o = option_map (λ (v : ObjectView). (o.number, v.bytes)) (view_in views o.number)

abbrev memory_in : List ObjectRec → List ObjectView → List (ℕ × List ℕ)
memory_in objects views = filter_map (entry_of views) objects

abbrev put_byte : ℕ → ℕ → ObjectView → ObjectView
put_byte place b o = record o { bytes = slice_set o.bytes place b; touched = with_range o.touched place 1 }

-- the view of an object after a byte was put into one of the first list
view_after : (xs ys : List ObjectView) (object place b number : ℕ) (t : Bool) → (object == number) ≡ t → has_object ys object ≡ false
    → view_in (byte_into xs object place b ++ ys) number ≡ (if t then option_map (put_byte place b) (view_in (xs ++ ys) number) else view_in (xs ++ ys) number)
unfolding on_first
view_after [] ys object place b number t is none = by_number t is
  where
    no_view : (l : List ObjectView) → has_object l number ≡ false → view_in l number ≡ None
    no_view [] e = refl
    no_view (x ∷ l) e = by_test (no_view l) (x.number == number) e
      where
        by_test : (has_object l number ≡ false → view_in l number ≡ None) → (u : Bool) → (u || has_object l number) ≡ false → (if u then Some x else view_in l number) ≡ None
        by_test rest true e = absurd cc
        by_test rest false e = rest e

    by_number : (t : Bool) → (object == number) ≡ t → view_in ys number ≡ (if t then option_map (put_byte place b) (view_in ys number) else view_in ys number)
    by_number false is = refl
    by_number true is =
        let nothing : view_in ys number ≡ None = no_view ys (ap (has_object ys) (sym (eqb-true object number is)) ∙ none) in
        nothing ∙ sym (ap (option_map (put_byte place b)) nothing)
view_after (x ∷ xs) ys object place b number t is none = by_tests (x.number == object) (x.number == number) t refl refl is (view_after xs ys object place b number t is none)
  where
    by_tests : (r s t : Bool) → (x.number == object) ≡ r → (x.number == number) ≡ s → (object == number) ≡ t → view_in (byte_into xs object place b ++ ys) number ≡ (if t then option_map (put_byte place b) (view_in (xs ++ ys) number) else view_in (xs ++ ys) number)
        → view_in ((if r then put_byte place b x ∷ xs else x ∷ byte_into xs object place b) ++ ys) number ≡ (if t then option_map (put_byte place b) (if s then Some x else view_in (xs ++ ys) number) else (if s then Some x else view_in (xs ++ ys) number))
    by_tests true true true e f g rest = rw f refl
    by_tests true true false e f g rest = absurd (grind (arith, e, f, g))
    by_tests true false true e f g rest = absurd (grind (arith, e, f, g))
    by_tests true false false e f g rest = rw f refl
    by_tests false true true e f g rest = absurd (grind (arith, e, f, g))
    by_tests false true false e f g rest = rw f refl
    by_tests false false true e f g rest = rw f rest
    by_tests false false false e f g rest = rw f rest

abbrev with_view : ℕ → Option ObjectView → List (ℕ × List ℕ) → List (ℕ × List ℕ)
with_view number view rest = cons_option (option_map (λ (v : ObjectView). (number, v.bytes)) view) rest

with_same : (number : ℕ) (view : Option ObjectView) (x y : List (ℕ × List ℕ)) → x ≡ y → with_view number view x ≡ with_view number view y
with_same number None x y e = e
with_same number (Some v) x y e = ap (λ (l : List (ℕ × List ℕ)). (number, v.bytes) ∷ l) e

-- a byte put into an object that isn't among these
rest_same : (objects : List ObjectRec) (xs ys : List ObjectView) (object place b : ℕ) → has_object ys object ≡ false → All (λ o. (object == o.number) ≡ false) objects → memory_in objects (byte_into xs object place b ++ ys) ≡ memory_in objects (xs ++ ys)
rest_same [] xs ys object place b none all = refl
rest_same (o ∷ os) xs ys object place b none all =
    ap (λ (v : Option ObjectView). with_view o.number v (memory_in os (byte_into xs object place b ++ ys))) (view_after xs ys object place b o.number false (all 0 o (omega arith)) none)
    ∙ with_same o.number (view_in (xs ++ ys) o.number) (memory_in os (byte_into xs object place b ++ ys)) (memory_in os (xs ++ ys)) (rest_same os xs ys object place b none (λ k d lt. all (suc k) d (omega (arith, lt))))

-- a byte put into an object
byte_alike : (objects : List ObjectRec) (xs ys : List ObjectView) (object place b : ℕ) → Rise (λ o. o.number) objects → has_object ys object ≡ false → memory_in objects (byte_into xs object place b ++ ys) ≡ with_byte (memory_in objects (xs ++ ys)) object place b
unfolding on_first Rise
byte_alike [] xs ys object place b rise none = refl
byte_alike (o ∷ os) xs ys object place b rise none =
    by_number (object == o.number) refl (byte_alike os xs ys object place b (λ i j d less end. rise (suc i) (suc j) d (omega (arith, less)) (omega (arith, end))) none)
  where
    later : (object == o.number) ≡ true → All (λ p. (object == p.number) ≡ false) os
    later hit k d lt = let below : o.number < (get_or os k d).number = rise 0 (suc k) d (omega arith) (omega (arith, lt)) in grind (arith, hit, below)

    hits : (view : Option ObjectView) → (object == o.number) ≡ true → memory_in os (byte_into xs object place b ++ ys) ≡ with_byte (memory_in os (xs ++ ys)) object place b → with_view o.number (option_map (put_byte place b) view) (memory_in os (byte_into xs object place b ++ ys)) ≡ with_byte (with_view o.number view (memory_in os (xs ++ ys))) object place b
    hits None hit ih = ih
    hits (Some v) hit ih =
        let same : object ≡ o.number = eqb-true object o.number hit in
        let test : (o.number == object) ≡ true = grind (arith, same) in
        rw (test, on_first) (ap (λ (l : List (ℕ × List ℕ)). (o.number, slice_set v.bytes place b) ∷ l) (rest_same os xs ys object place b none (later hit))
        ∙ ap (λ (n : ℕ). (n, slice_set v.bytes place b) ∷ memory_in os (xs ++ ys)) (sym same))

    misses : (view : Option ObjectView) → (object == o.number) ≡ false → memory_in os (byte_into xs object place b ++ ys) ≡ with_byte (memory_in os (xs ++ ys)) object place b → with_view o.number view (memory_in os (byte_into xs object place b ++ ys)) ≡ with_byte (with_view o.number view (memory_in os (xs ++ ys))) object place b
    misses None miss ih = ih
    misses (Some v) miss ih =
        let test : (o.number == object) ≡ false = grind (arith, miss) in
        rw (test, on_first) (ap (λ (l : List (ℕ × List ℕ)). (o.number, v.bytes) ∷ l) ih)

    by_number : (t : Bool) → (object == o.number) ≡ t → memory_in os (byte_into xs object place b ++ ys) ≡ with_byte (memory_in os (xs ++ ys)) object place b → memory_in (o ∷ os) (byte_into xs object place b ++ ys) ≡ with_byte (memory_in (o ∷ os) (xs ++ ys)) object place b
    by_number true is ih = ap (λ (v : Option ObjectView). with_view o.number v (memory_in os (byte_into xs object place b ++ ys))) (view_after xs ys object place b o.number true is none) ∙ hits (view_in (xs ++ ys) o.number) is ih
    by_number false is ih = ap (λ (v : Option ObjectView). with_view o.number v (memory_in os (byte_into xs object place b ++ ys))) (view_after xs ys object place b o.number false is none) ∙ misses (view_in (xs ++ ys) o.number) is ih

-- no mapping's object is among these
abbrev pub NoneMapped : List ObjectView → List Mapping → Type 0
NoneMapped objects maps = All (λ m. has_object objects m.object ≡ false) maps

at_alike : (objects : List ObjectRec) (xs ys : List ObjectView) (maps : List Mapping) (a b : ℕ) (o : Option Mapping) → mapping_at maps a ≡ o → Rise (λ r. r.number) objects → NoneMapped ys maps → memory_in objects (byte_into_at xs o a b ++ ys) ≡ with_byte_at (memory_in objects (xs ++ ys)) o a b
at_alike objects xs ys maps a b None found rise none = refl
at_alike objects xs ys maps a b (Some m) found rise none =
    byte_alike objects xs ys m.object (object_place m a) b rise (found_has (λ x. has_object ys x.object ≡ false) (has a) maps m none found).0

stored_alike : (objects : List ObjectRec) (xs ys : List ObjectView) (maps : List Mapping) (a : ℕ) (bytes : List ℕ) → Rise (λ o. o.number) objects → NoneMapped ys maps → memory_in objects (stored_into xs maps a bytes ++ ys) ≡ with_stored (memory_in objects (xs ++ ys)) maps a bytes
unfolding stored_into with_stored
stored_alike objects xs ys maps a [] rise none = refl
stored_alike objects xs ys maps a (b ∷ bs) rise none =
    let at = wrapped a in
    stored_alike objects (byte_into_at xs (mapping_at maps at) at b) ys maps (a + 1) bs rise none
    ∙ ap (λ (l : List (ℕ × List ℕ)). with_stored l maps (a + 1) bs) (at_alike objects xs ys maps at b (mapping_at maps at) refl rise none)

public_alike : (objects : List ObjectRec) (t : SeenObjects) (ys : List ObjectView) (writes : List Write) → Rise (λ o. o.number) objects → NoneMapped ys t.maps → memory_in objects ((with_writes_in t writes).public ++ ys) ≡ with_writes (memory_in objects (t.public ++ ys)) t.maps writes
unfolding with_writes
public_alike objects t ys [] rise none = refl
public_alike objects t ys (w ∷ ws) rise none =
    public_alike objects (with_stored_in t w.address w.bytes) ys ws rise none
    ∙ ap (λ (l : List (ℕ × List ℕ)). with_writes l t.maps ws) (stored_alike objects t.public ys t.maps w.address w.bytes rise none)

pub public_stored : (t : TablesView) (old new : Process) (shared : Rows Entry) (writes : List Write) → Rise (λ o. o.number) t.objects → NoneMapped (views_of t.io.file_faces.entries) old.map.entries
    → seen_by new shared ≡ with_writes_in (seen_by old t.shared) writes → (kept_in (record t { shared = shared })).public ≡ stored_in (kept_in t).public old.map.entries writes
public_stored t old new shared writes rise none after =
    let files = views_of t.io.file_faces.entries in
    let public : memory_in t.objects (views_of shared.entries ++ files) ≡ with_writes (memory_in t.objects (views_of t.shared.entries ++ files)) old.map.entries writes =
    ap (λ (u : SeenObjects). memory_in t.objects (u.public ++ files)) after ∙ public_alike t.objects (seen_by old t.shared) files writes rise none in
    ap (λ (memory : List (ℕ × List ℕ)). record (kept_in t).public { memory = memory }) public
