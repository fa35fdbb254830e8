-- Bytes stored in a row land side by side in one object.
use Rattle.std.proofs.Common.{◌≡◌, ℕ, zero, suc, ◌+◌, ◌-◌, ◌^◌, ◌<◌, ◌≤◌, ◌==◌, Bool, true, false, List, [], ◌∷◌, ◌++◌, length, get_or, set, take, drop, Some, refl, sym, ap, ◌∙◌, arith}
use Rattle.std.specs.Prelude.{if◌then◌else◌}
use Rattle.std.proofs.lemmas.List.{take_all}
use Rattle.std.proofs.lemmas.List.Edits.{sets, sets-eq}
use Rattle.rv64_isa.specs.Memory.{stored}
use Rattle.rv64_isa.specs.Numbers.{wrapped}
use Rattle.address_maps.specs.declared.maps.Mapping.{Mapping}
use Rattle.group_defs.specs.Cells.{cells_of, object_place, with_byte, with_byte_at, with_stored}
use Rattle.address_maps.specs.Mappings.{has, mapping_at, end_of}
use Rattle.tables.specs.Lists.{on_first}
use Rattle.group_defs.specs.Mappings.{IsUserMapping}
use Rattle.tables.specs.Rising.{Rise}
use Rattle.flat_kernel.specs.declared.mapped_byte.MappedByte.{MappedByte}
use Rattle.flat_kernel.specs.Memory.{IsMappedByte, TableFits}
use Rattle.group_laws.proofs.SeenLaws.{stored_bytes}
use Rattle.flat_kernel.proofs.MemoryLaws.{inside_of}
use Rattle.flat_kernel.proofs.MemoryReads.{along, found_has}

-- bytes in a row in one object
abbrev with_run : List (ℕ × List ℕ) → ℕ → ℕ → List ℕ → List (ℕ × List ℕ)
with_run memory object p bytes = on_first {A = ℕ × List ℕ} (λ o. o.0 == object) (λ o. (object, sets o.1 p bytes)) memory

nothing_run : (memory : List (ℕ × List ℕ)) (object p : ℕ) → memory ≡ with_run memory object p []
unfolding on_first
nothing_run [] object p = refl
nothing_run (o ∷ os) object p = by_test (nothing_run os object p) (o.0 == object) refl
  where
    by_test : os ≡ with_run os object p [] → (t : Bool) → (o.0 == object) ≡ t → o ∷ os ≡ (if t then (object, o.1) ∷ os else o ∷ with_run os object p [])
    by_test rest true e = let same : o.0 ≡ object = grind (arith, e) in ap (λ (n : ℕ). (n, o.1) ∷ os) same
    by_test rest false e = ap (λ (l : List (ℕ × List ℕ)). o ∷ l) rest

one_more : (memory : List (ℕ × List ℕ)) (object p b : ℕ) (bs : List ℕ) → with_run (with_byte memory object p b) object (suc p) bs ≡ with_run memory object p (b ∷ bs)
unfolding on_first
one_more [] object p b bs = refl
one_more (o ∷ os) object p b bs = by_test (one_more os object p b bs) (o.0 == object) refl
  where
    itself : (object == object) ≡ true
    itself = grind arith

    by_test : with_run (with_byte os object p b) object (suc p) bs ≡ with_run os object p (b ∷ bs) → (t : Bool) → (o.0 == object) ≡ t → with_run (if t then (object, set o.1 p b) ∷ os else o ∷ with_byte os object p b) object (suc p) bs ≡ (if t then (object, sets o.1 p (b ∷ bs)) ∷ os else o ∷ with_run os object p (b ∷ bs))
    by_test rest true e = rw (itself, on_first) refl
    by_test rest false e = rw (e, on_first) (ap (λ (l : List (ℕ × List ℕ)). o ∷ l) rest)

-- bytes at addresses of one mapping
run_is : (memory : List (ℕ × List ℕ)) (maps : List Mapping) (a p : ℕ) (m : Mapping) (bytes : List ℕ) → ((j : ℕ) → j < length bytes → mapping_at maps (a + j) ≡ Some m) → m.start ≤ a → object_place m a ≡ p → a + length bytes ≤ 2 ^ 64 → with_stored memory maps a bytes ≡ with_run memory m.object p bytes
unfolding with_stored
run_is memory maps a p m [] each low place small = nothing_run memory m.object p
run_is memory maps a p m (b ∷ bs) each low place small =
    let here : wrapped a ≡ a + 0 = omega arith in
    let at : a + 0 ≡ a = omega arith in
    let found : mapping_at maps (wrapped a) ≡ Some m = ap (mapping_at maps) here ∙ each 0 (omega arith) in
    let place' : object_place m (wrapped a) ≡ p = ap (object_place m) (here ∙ at) ∙ place in
    let first : with_byte_at memory (mapping_at maps (wrapped a)) (wrapped a) b ≡ with_byte memory m.object p b = ap (λ o. with_byte_at memory o (wrapped a) b) found ∙ ap (λ (i : ℕ). with_byte memory m.object i b) place' in
    let later : (j : ℕ) → j < length bs → mapping_at maps (a + 1 + j) ≡ Some m = λ j lt.
    let next : a + 1 + j ≡ a + suc j = omega arith in
    ap (mapping_at maps) next ∙ each (suc j) (omega (arith, lt)) in
    let next_place : object_place m (a + 1) ≡ suc p = omega (arith, place, low) in
    ap (λ (l : List (ℕ × List ℕ)). with_stored l maps (a + 1) bs) first
    ∙ run_is (with_byte memory m.object p b) maps (a + 1) (suc p) m bs later (omega (arith, low)) next_place (omega (arith, small))
    ∙ one_more memory m.object p b bs

-- the entry of a number, changed, is the one at its place
changed_at : (memory : List (ℕ × List ℕ)) (k n : ℕ) (d : ℕ × List ℕ) (f : ℕ × List ℕ → ℕ × List ℕ) → Rise (λ o. o.0) memory → k < length memory → (get_or memory k d).0 ≡ n → on_first (λ o. o.0 == n) f memory ≡ set memory k (f (get_or memory k d))
unfolding on_first Rise
changed_at [] k n d f rise lt is = absurd (omega (arith, lt))
changed_at (x ∷ xs) zero n d f rise lt is = let hit : (x.0 == n) ≡ true = grind (arith, is) in rw hit refl
changed_at (x ∷ xs) (suc k) n d f rise lt is =
    let below : x.0 < (get_or xs k d).0 = rise 0 (suc k) d (omega arith) lt in
    let other : (x.0 == n) ≡ false = grind (arith, below, is) in
    rw other (ap (λ (l : List (ℕ × List ℕ)). x ∷ l) (changed_at xs k n d f (λ i j e less end. rise (suc i) (suc j) e (omega (arith, less)) (omega (arith, end))) (omega (arith, lt)) is))

-- what is stored at a mapped byte lands in its object
pub landed_is : (memory : List (ℕ × List ℕ)) (maps : List Mapping) (a : ℕ) (mapped : MappedByte) (bytes : List ℕ) (o : ℕ × List ℕ) (is : IsMappedByte memory maps a mapped) → TableFits memory maps → length bytes ≤ mapped.room →
    with_stored memory maps a bytes ≡ set memory mapped.object ((get_or memory mapped.object o).0, take mapped.place (get_or memory mapped.object o).1 ++ bytes ++ drop (mapped.place + length bytes) (get_or memory mapped.object o).1)
unfolding IsUserMapping
landed_is memory maps a mapped bytes o is fits le =
    let m = is.mapping in
    let here = found_has IsUserMapping (has a) maps m fits.placed is.is in
    let low : m.start ≤ a = grind (arith, here.1) in
    let end : end_of m ≤ 2 ^ 38 = here.0.3 in
    let old = get_or memory mapped.object o in
    let each : (j : ℕ) → j < length bytes → mapping_at maps (a + j) ≡ Some m = λ j lt. along maps a j m fits.apart is.is (omega (arith, is.room, le, lt)) in
    let number : old.0 ≡ m.object = is.number o in
    run_is memory maps a mapped.place m bytes each low (sym is.place) (omega (arith, is.room, le, end))
    ∙ changed_at memory mapped.object m.object o (λ x. (m.object, sets x.1 mapped.place bytes)) fits.rise is.within number
    ∙ ap (λ (n : ℕ). set memory mapped.object (n, sets old.1 mapped.place bytes)) (sym number)
    ∙ ap (λ (l : List ℕ). set memory mapped.object (old.0, l)) (sets-eq bytes old.1 mapped.place (omega (arith, is.inside o, le)))

-- one byte, and one after another
pub one_byte : (memory : List (ℕ × List ℕ)) (maps : List Mapping) (a b : ℕ) → a < 2 ^ 64 → with_stored memory maps a (b ∷ []) ≡ with_byte_at memory (mapping_at maps a) a b
unfolding with_stored
one_byte memory maps a b small = let here : wrapped a ≡ a = omega arith in ap (λ (at : ℕ). with_byte_at memory (mapping_at maps at) at b) here

wrapped_start : (memory : List (ℕ × List ℕ)) (maps : List Mapping) (a : ℕ) (bytes : List ℕ) → with_stored memory maps (wrapped a) bytes ≡ with_stored memory maps a bytes
unfolding with_stored
wrapped_start memory maps a [] = refl
wrapped_start memory maps a (b ∷ bs) =
    let again : wrapped (wrapped a) ≡ wrapped a = omega arith in
    let next : wrapped (wrapped a + 1) ≡ wrapped (a + 1) = omega arith in
    let landed = with_byte_at memory (mapping_at maps (wrapped a)) (wrapped a) b in
    ap (λ (at : ℕ). with_stored (with_byte_at memory (mapping_at maps at) at b) maps (wrapped a + 1) bs) again
    ∙ sym (wrapped_start landed maps (wrapped a + 1) bs) ∙ ap (λ (at : ℕ). with_stored landed maps at bs) next ∙ wrapped_start landed maps (a + 1) bs

pub nothing_stored : (memory : List (ℕ × List ℕ)) (maps : List Mapping) (a : ℕ) (new : List ℕ) → length new < 1 → memory ≡ with_stored memory maps a new
unfolding with_stored
nothing_stored memory maps a [] few = refl
nothing_stored memory maps a (b ∷ new) few = absurd (omega (arith, few))

pub one_then : (memory middle : List (ℕ × List ℕ)) (maps : List Mapping) (a : ℕ) (new : List ℕ) → a < 2 ^ 64 → 1 ≤ length new → middle ≡ with_byte_at memory (mapping_at maps a) a (get_or new 0 0) → with_stored middle maps (wrapped (a + 1)) (take (length new - 1) (drop 1 new)) ≡ with_stored memory maps a new
unfolding with_stored
one_then memory middle maps a [] small some is = absurd (omega (arith, some))
one_then memory middle maps a (b ∷ new) small some is =
    let rest : take (length (b ∷ new) - 1) (drop 1 (b ∷ new)) ≡ new = take_all (length (b ∷ new) - 1) new (omega arith) in
    let here : a ≡ wrapped a = omega arith in
    wrapped_start middle maps (a + 1) (take (length (b ∷ new) - 1) (drop 1 (b ∷ new)))
    ∙ ap (with_stored middle maps (a + 1)) rest
    ∙ ap (λ (l : List (ℕ × List ℕ)). with_stored l maps (a + 1) new) (is ∙ ap (λ (at : ℕ). with_byte_at memory (mapping_at maps at) at b) here)

-- what was stored in the table is seen
pub seen_after : (memory after : List (ℕ × List ℕ)) (maps maps' : List Mapping) (a : ℕ) (bytes : List ℕ) → TableFits memory maps → maps' ≡ maps → after ≡ with_stored memory maps a bytes → cells_of after maps' ≡ stored (cells_of memory maps) a bytes
seen_after memory after maps maps' a bytes fits same is =
    ap (λ (l : List Mapping). cells_of after l) same ∙ ap (λ (l : List (ℕ × List ℕ)). cells_of l maps) is ∙ stored_bytes memory maps a bytes (inside_of memory maps fits)
