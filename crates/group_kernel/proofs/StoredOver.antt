-- Faces stand over the last barrier after stores, whose pages come into the sets.
use Rattle.std.proofs.Common.{◌≡◌, length, drop, ℕ, zero, suc, ◌+◌, ◌/◌, ◌<◌, ◌==◌, ◌&&◌, ◌||◌, Bool, true, false, List, [], ◌∷◌, ◌++◌, get_or, All, Option, Some, None, refl, sym, ap, ◌∙◌, subst, arith, append_assoc}
use Rattle.std.proofs.lemmas.Bool.Decides.{nat_tests}
use Rattle.std.proofs.lemmas.List.{append-nil}
use Rattle.std.proofs.lemmas.List.Folds.{list_any-append}
use Rattle.std.specs.Prelude.{if◌then◌else◌, map, slice_set}
use Rattle.address_maps.specs.declared.maps.Mapping.{Mapping}
use Rattle.address_maps.specs.Mappings.{has, mapping_at}
use Rattle.group_defs.specs.Cells.{object_place}
use Rattle.group_defs.specs.Pages.{is_among, page_at, pages_at, pages_of_writes}
use Rattle.rv64_isa.specs.Memory.{Write}
use Rattle.rv64_isa.specs.Numbers.{wrapped}
use Rattle.shadow_chains.specs.Chain.{covers, with_range}
use Rattle.shadow_chains.specs.Entries.{number_of}
use Rattle.shadow_chains.specs.declared.entry.Entry.{Entry}
use Rattle.tables.specs.Lists.{on_first}
use Rattle.tables.specs.Rising.{Rise}
use Rattle.tables.specs.Rows.{Rows}
use Rattle.proc_lease.specs.declared.process.Process.{Process}
use Rattle.group_kernel.specs.Faces.{AllStandOver, StandsOver}
use Rattle.group_kernel.specs.Accesses.{with_writes_in}
use Rattle.proc_lease.specs.Sight.{SeenObjects, has_object, seen_by, with_stored_in}
use Rattle.group_kernel.proofs.StoredInGroup.{NoneMapped}
use Rattle.proc_lease.proofs.GroupObjects.{bases_kept}
use Rattle.proc_lease.proofs.Mapped.{found_has}
use Rattle.proc_lease.proofs.Runs.{in_range, length-with_range, or_false}
use Rattle.proc_lease.specs.Private.{ObjectView, byte_into, byte_into_at, stored_into, views_of}

abbrev Pages : Type 0
Pages = List (ℕ × ℕ)

-- no number twice
abbrev pub EachOnce : List ObjectView → Type 0
EachOnce [] = Unit {0}
EachOnce (x ∷ xs) = (has_object xs x.number ≡ false) × EachOnce xs

pub rise_once : (entries : List Entry) → Rise number_of entries → EachOnce (views_of entries)
unfolding Rise
rise_once [] rise = tt
rise_once (e ∷ es) rise = (none_above es (λ k d lt. rise 0 (suc k) d (omega arith) (omega (arith, lt))), rise_once es (λ i j d less end. rise (suc i) (suc j) d (omega (arith, less)) (omega (arith, end))))
  where
    none_above : (l : List Entry) → All (λ x. e.number < x.number) l → has_object (views_of l) e.number ≡ false
    none_above [] all = refl
    none_above (x ∷ xs) all =
        let above : e.number < x.number = all 0 x (omega arith) in
        let miss : (x.number == e.number) ≡ false = grind (arith, above) in
        rw miss (none_above xs (λ k d lt. all (suc k) d (omega (arith, lt))))

has_byte : (xs : List ObjectView) (object place b n : ℕ) → has_object (byte_into xs object place b) n ≡ has_object xs n
unfolding on_first
has_byte [] object place b n = refl
has_byte (x ∷ xs) object place b n = by_test (x.number == object) (has_byte xs object place b n)
  where
    by_test : (t : Bool) → has_object (byte_into xs object place b) n ≡ has_object xs n → has_object (if t then record x { bytes = slice_set x.bytes place b; touched = with_range x.touched place 1 } ∷ xs else x ∷ byte_into xs object place b) n ≡ has_object (x ∷ xs) n
    by_test true rest = refl
    by_test false rest = ap (λ t. (x.number == n) || t) rest

once_byte : (xs : List ObjectView) (object place b : ℕ) → EachOnce xs → EachOnce (byte_into xs object place b)
unfolding on_first
once_byte [] object place b once = tt
once_byte (x ∷ xs) object place b once = by_test (x.number == object) (once_byte xs object place b once.1)
  where
    by_test : (t : Bool) → EachOnce (byte_into xs object place b) → EachOnce (if t then record x { bytes = slice_set x.bytes place b; touched = with_range x.touched place 1 } ∷ xs else x ∷ byte_into xs object place b)
    by_test true rest = once
    by_test false rest = (has_byte xs object place b x.number ∙ once.0, rest)

-- ---- sets

among_more : (touched more : Pages) (page : ℕ × ℕ) → is_among (touched ++ more) page ≡ (is_among touched page || is_among more page)
among_more touched more page = list_any-append (λ p. (p.0 == page.0) && (p.1 == page.1)) touched more

-- pages of other objects
left_over : (memory : List (ℕ × List ℕ)) (touched more : Pages) (o : ObjectView) → ((page : ℕ) → is_among more (o.number, page) ≡ false) → StandsOver memory touched o → StandsOver memory (touched ++ more) o
left_over memory touched more o none over = record {
  below = over.below;
  count = over.count;
  set = λ page lt. over.set page lt ∙ sym (among_more touched more (o.number, page) ∙ ap (λ t. is_among touched (o.number, page) || t) (none page) ∙ or_false (is_among touched (o.number, page)));
}

pub all_left : (memory : List (ℕ × List ℕ)) (touched more : Pages) (xs : List ObjectView) → ((number page : ℕ) → has_object xs number ≡ true → is_among more (number, page) ≡ false) → AllStandOver memory touched xs → AllStandOver memory (touched ++ more) xs
all_left memory touched more [] none all = λ k d lt. absurd (omega (arith, lt))
all_left memory touched more (x ∷ xs) none all = cons (left_over memory touched more x (λ page. none x.number page (ap (λ t. t || has_object xs x.number) (let e : (x.number == x.number) ≡ true = grind arith in e))) (all 0 x (omega arith)))
    (all_left memory touched more xs (λ number page there. none number page (later number (x.number == number) there)) (λ k d lt. all (suc k) d (omega (arith, lt))))
  where
    later : (number : ℕ) (t : Bool) → has_object xs number ≡ true → (t || has_object xs number) ≡ true
    later number true e = refl
    later number false e = e

    cons : StandsOver memory (touched ++ more) x → AllStandOver memory (touched ++ more) xs → AllStandOver memory (touched ++ more) (x ∷ xs)
    cons head tail zero d lt = head
    cons head tail (suc k) d lt = tail k d (omega (arith, lt))

covers_one : (place q : ℕ) → covers place 1 q ≡ (place / 4096 == q)
unfolding covers
covers_one place q = grind (arith, nat_tests)

-- a byte put into an object
entered : (memory : List (ℕ × List ℕ)) (touched : Pages) (o : ObjectView) (place b : ℕ) → StandsOver memory touched o → StandsOver memory (touched ++ (o.number, place / 4096) ∷ []) (record o { bytes = slice_set o.bytes place b; touched = with_range o.touched place 1 })
entered memory touched o place b over = record {
  below = over.below;
  count = length-with_range o.touched place 1 ∙ over.count;
  set = λ page lt.
      let own : (o.number == o.number) ≡ true = grind arith in
      in_range o.touched place 1 page (omega (arith, lt, over.count))
      ∙ ap (λ t. t || covers place 1 page) (over.set page lt)
      ∙ ap (λ t. is_among touched (o.number, page) || t) (covers_one place page ∙ sym (or_false (place / 4096 == page)) ∙ sym (ap (λ t. (t && (place / 4096 == page)) || false) own))
      ∙ sym (among_more touched ((o.number, place / 4096) ∷ []) (o.number, page));
}

byte_over : (memory : List (ℕ × List ℕ)) (touched : Pages) (xs : List ObjectView) (object place b : ℕ) → EachOnce xs → AllStandOver memory touched xs → AllStandOver memory (touched ++ (object, place / 4096) ∷ []) (byte_into xs object place b)
unfolding on_first
byte_over memory touched [] object place b once all = λ k d lt. absurd (omega (arith, lt))
byte_over memory touched (x ∷ xs) object place b once all = by_test (x.number == object) refl (byte_over memory touched xs object place b once.1 tail)
  where
    more : Pages
    more = (object, place / 4096) ∷ []

    tail : AllStandOver memory touched xs
    tail k d lt = all (suc k) d (omega (arith, lt))

    cons : (y : ObjectView) (ys : List ObjectView) → StandsOver memory (touched ++ more) y → AllStandOver memory (touched ++ more) ys → AllStandOver memory (touched ++ more) (y ∷ ys)
    cons y ys head rest zero d lt = head
    cons y ys head rest (suc k) d lt = rest k d (omega (arith, lt))

    other_page : (n page : ℕ) → (object == n) ≡ false → is_among more (n, page) ≡ false
    other_page n page miss = ap (λ t. (t && (place / 4096 == page)) || false) miss

    differs : (x.number == object) ≡ true → (number : ℕ) → has_object xs number ≡ true → (object == number) ≡ false
    differs hit number there = by_number (object == number) refl
      where
        by_number : (t : Bool) → (object == number) ≡ t → t ≡ false
        by_number false e = refl
        by_number true e =
            let same : x.number ≡ number = grind (arith, hit, e) in
            let never : false ≡ true = sym once.0 ∙ ap (has_object xs) same ∙ there in
            absurd cc

    by_test : (t : Bool) → (x.number == object) ≡ t → AllStandOver memory (touched ++ more) (byte_into xs object place b)
        → AllStandOver memory (touched ++ more) (if t then record x { bytes = slice_set x.bytes place b; touched = with_range x.touched place 1 } ∷ xs else x ∷ byte_into xs object place b)
    by_test true hit rest =
        let same : x.number ≡ object = grind (arith, hit) in
        cons (record x { bytes = slice_set x.bytes place b; touched = with_range x.touched place 1 }) xs
        (subst (λ (n : ℕ). StandsOver memory (touched ++ (n, place / 4096) ∷ []) (record x { bytes = slice_set x.bytes place b; touched = with_range x.touched place 1 })) same (entered memory touched x place b (all 0 x (omega arith))))
        (all_left memory touched more xs (λ number page there. other_page number page (differs hit number there)) tail)
    by_test false miss rest =
        let other : (object == x.number) ≡ false = grind (arith, miss) in
        cons x (byte_into xs object place b) (left_over memory touched more x (λ page. other_page x.number page other) (all 0 x (omega arith))) rest

-- ---- stores

at_over : (memory : List (ℕ × List ℕ)) (touched : Pages) (xs : List ObjectView) (maps : List Mapping) (a b : ℕ) (o : Option Mapping) → mapping_at maps a ≡ o → EachOnce xs → AllStandOver memory touched xs → AllStandOver memory (touched ++ page_at maps a) (byte_into_at xs o a b) × EachOnce (byte_into_at xs o a b)
at_over memory touched xs maps a b None found once all =
    let none : touched ≡ touched ++ page_at maps a = sym (append-nil touched) ∙ ap (λ (o : Option Mapping). touched ++ (elim o [ None ↦ [] | Some m ↦ (m.object, object_place m a / 4096) ∷ [] ])) (sym found) in
    (subst (λ (l : Pages). AllStandOver memory l xs) none all, once)
at_over memory touched xs maps a b (Some m) found once all =
    let one : touched ++ (m.object, object_place m a / 4096) ∷ [] ≡ touched ++ page_at maps a = ap (λ (o : Option Mapping). touched ++ (elim o [ None ↦ [] | Some m ↦ (m.object, object_place m a / 4096) ∷ [] ])) (sym found) in
    (subst (λ (l : Pages). AllStandOver memory l (byte_into xs m.object (object_place m a) b)) one (byte_over memory touched xs m.object (object_place m a) b once all), once_byte xs m.object (object_place m a) b once)

stored_over : (memory : List (ℕ × List ℕ)) (touched : Pages) (xs : List ObjectView) (maps : List Mapping) (a : ℕ) (bytes : List ℕ) → EachOnce xs → AllStandOver memory touched xs → AllStandOver memory (touched ++ pages_at maps a bytes) (stored_into xs maps a bytes) × EachOnce (stored_into xs maps a bytes)
unfolding stored_into pages_at
stored_over memory touched xs maps a [] once all = (subst (λ (l : Pages). AllStandOver memory l xs) (sym (append-nil touched)) all, once)
stored_over memory touched xs maps a (b ∷ bs) once all =
    let at = wrapped a in
    let one = at_over memory touched xs maps at b (mapping_at maps at) refl once all in
    let rest = stored_over memory (touched ++ page_at maps at) (byte_into_at xs (mapping_at maps at) at b) maps (a + 1) bs one.1 one.0 in
    (subst (λ (l : Pages). AllStandOver memory l (stored_into (byte_into_at xs (mapping_at maps at) at b) maps (a + 1) bs)) (append_assoc touched (page_at maps at) (pages_at maps (a + 1) bs)) rest.0, rest.1)

pub private_over : (memory : List (ℕ × List ℕ)) (touched : Pages) (t : SeenObjects) (writes : List Write) → EachOnce t.private → AllStandOver memory touched t.private → AllStandOver memory (touched ++ pages_of_writes t.maps writes) (with_writes_in t writes).private
private_over memory touched t [] once all = subst (λ (l : Pages). AllStandOver memory l t.private) (sym (append-nil touched)) all
private_over memory touched t (w ∷ ws) once all =
    let one = stored_over memory touched t.private t.maps w.address w.bytes once all in
    subst (λ (l : Pages). AllStandOver memory l (with_writes_in (with_stored_in t w.address w.bytes) ws).private) (append_assoc touched (pages_at t.maps w.address w.bytes) (pages_of_writes t.maps ws))
    (private_over memory (touched ++ pages_at t.maps w.address w.bytes) (with_stored_in t w.address w.bytes) ws one.1 one.0)

pub public_over : (memory : List (ℕ × List ℕ)) (touched : Pages) (t : SeenObjects) (writes : List Write) → EachOnce t.public → AllStandOver memory touched t.public → AllStandOver memory (touched ++ pages_of_writes t.maps writes) (with_writes_in t writes).public
public_over memory touched t [] once all = subst (λ (l : Pages). AllStandOver memory l t.public) (sym (append-nil touched)) all
public_over memory touched t (w ∷ ws) once all =
    let one = stored_over memory touched t.public t.maps w.address w.bytes once all in
    subst (λ (l : Pages). AllStandOver memory l (with_writes_in (with_stored_in t w.address w.bytes) ws).public) (append_assoc touched (pages_at t.maps w.address w.bytes) (pages_of_writes t.maps ws))
    (public_over memory (touched ++ pages_at t.maps w.address w.bytes) (with_stored_in t w.address w.bytes) ws one.1 one.0)

-- ---- objects that nobody maps here

page_none : (maps : List Mapping) (a number page : ℕ) → All (λ m. (m.object == number) ≡ false) maps → is_among (page_at maps a) (number, page) ≡ false
page_none maps a number page none = by_mapping (mapping_at maps a) refl
  where
    by_mapping : (o : Option Mapping) → mapping_at maps a ≡ o → is_among (elim o [ None ↦ [] | Some m ↦ (m.object, object_place m a / 4096) ∷ [] ]) (number, page) ≡ false
    by_mapping None found = refl
    by_mapping (Some m) found = ap (λ t. (t && (object_place m a / 4096 == page)) || false) (found_has (λ x. (x.object == number) ≡ false) (has a) maps m none found).0

pages_none : (maps : List Mapping) (a : ℕ) (bytes : List ℕ) (number page : ℕ) → All (λ m. (m.object == number) ≡ false) maps → is_among (pages_at maps a bytes) (number, page) ≡ false
unfolding pages_at
pages_none maps a [] number page none = refl
pages_none maps a (b ∷ bs) number page none =
    among_more (page_at maps (wrapped a)) (pages_at maps (a + 1) bs) (number, page)
    ∙ ap (λ t. t || is_among (pages_at maps (a + 1) bs) (number, page)) (page_none maps (wrapped a) number page none)
    ∙ pages_none maps (a + 1) bs number page none

pub writes_none : (maps : List Mapping) (writes : List Write) (number page : ℕ) → All (λ m. (m.object == number) ≡ false) maps → is_among (pages_of_writes maps writes) (number, page) ≡ false
writes_none maps [] number page none = refl
writes_none maps (w ∷ ws) number page none =
    among_more (pages_at maps w.address w.bytes) (pages_of_writes maps ws) (number, page)
    ∙ ap (λ t. t || is_among (pages_of_writes maps ws) (number, page)) (pages_none maps w.address w.bytes number page none)
    ∙ writes_none maps ws number page none

-- faces of such objects
pub unmapped_over : (memory : List (ℕ × List ℕ)) (touched : Pages) (xs : List ObjectView) (maps : List Mapping) (writes : List Write) → NoneMapped xs maps → AllStandOver memory touched xs → AllStandOver memory (touched ++ pages_of_writes maps writes) xs
unmapped_over memory touched xs maps writes none all =
    all_left memory touched (pages_of_writes maps writes) xs (λ number page there. writes_none maps writes number page (λ k d lt. differs (get_or maps k d).object number there (none k d lt))) all
  where
    differs : (object number : ℕ) → has_object xs number ≡ true → has_object xs object ≡ false → (object == number) ≡ false
    differs object number there gone = by_number (object == number) refl
      where
        by_number : (t : Bool) → (object == number) ≡ t → t ≡ false
        by_number false e = refl
        by_number true e =
            let same : object ≡ number = grind (arith, e) in
            let never : false ≡ true = sym gone ∙ ap (has_object xs) same ∙ there in
            absurd cc

-- ---- numbers

numbers_of : (entries : List Entry) → map number_of entries ≡ map (λ o. o.number) (views_of entries)
numbers_of [] = refl
numbers_of (e ∷ es) = ap (λ (l : List ℕ). e.number ∷ l) (numbers_of es)

numbers_stay : (t : SeenObjects) (writes : List Write) → map (λ o. o.number) (with_writes_in t writes).public ≡ map (λ o. o.number) t.public
numbers_stay t [] = refl
numbers_stay t (w ∷ ws) = numbers_stay (with_stored_in t w.address w.bytes) ws ∙ (bases_kept t.public t.maps w.address w.bytes).numbers

-- stores leave the numbers of the shared faces
pub shared_numbers_stay : (old new : Process) (shared shared' : Rows Entry) (writes : List Write) → seen_by new shared' ≡ with_writes_in (seen_by old shared) writes → map number_of shared'.entries ≡ map number_of shared.entries
shared_numbers_stay old new shared shared' writes after =
    numbers_of shared'.entries
    ∙ ap (λ (t : SeenObjects). map (λ o. o.number) t.public) after
    ∙ numbers_stay (seen_by old shared) writes
    ∙ sym (numbers_of shared.entries)

-- what holds of faces by their numbers
pub by_numbers : (P : ℕ → Type 0) (old new : List Entry) → map number_of new ≡ map number_of old → All (λ e. P e.number) old → All (λ e. P e.number) new
by_numbers P [] [] same all = all
by_numbers P [] (e ∷ es) same all = absurd (let size : suc (length (map number_of es)) ≡ 0 = ap length same in omega (arith, size))
by_numbers P (e ∷ es) [] same all = absurd (let size : 0 ≡ suc (length (map number_of es)) = ap length same in omega (arith, size))
by_numbers P (x ∷ xs) (e ∷ es) same all =
    cons (subst P (sym (ap (λ (l : List ℕ). get_or l 0 0) same)) (all 0 x (omega arith))) (by_numbers P xs es (ap (λ (l : List ℕ). drop 1 l) same) (λ k d lt. all (suc k) d (omega (arith, lt))))
  where
    cons : P e.number → All (λ y. P y.number) es → All (λ y. P y.number) (e ∷ es)
    cons head tail zero d lt = head
    cons head tail (suc k) d lt = tail k d (omega (arith, lt))
