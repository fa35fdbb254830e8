-- The first faces of all objects as the flat table: what a process takes of them, and what is left.
use Rattle.std.proofs.Common.{◌≡◌, ℕ, ◌<◌, ◌==◌, ◌&&◌, ◌||◌, Bool, true, false, not, List, [], ◌∷◌, map, Option, Some, None, refl, sym, ap, ◌∙◌, arith, subst}
use Rattle.std.proofs.Math.Path.{ap₂}
use Rattle.std.proofs.lemmas.Bool.{eq-eqb}
use Rattle.std.proofs.lemmas.Bool.Decides.{nat_tests}
use Rattle.std.specs.Prelude.{if◌then◌else◌}
use Rattle.std.specs.List.{AllByRecursion, AllZip, cons_option, filter}
use Rattle.std.specs.Option.{option_map}
use Rattle.group_defs.specs.Cells.{bytes_in}
use Rattle.group_defs.specs.Fork.{maps_privately}
use Rattle.group_defs.specs.Group.{is_running}
use Rattle.group_defs.specs.Valid.{IsObject}
use Rattle.group_defs.specs.declared.frame.ObjectRec.{ObjectRec}
use Rattle.group_defs.specs.declared.frame.Proc.{Proc}
use Rattle.group_parts.specs.Parts.{is_private, is_public}
use Rattle.proc_lease.specs.Private.{ObjectView, memory_of, view_of, views_of}
use Rattle.shadow_chains.specs.Entries.{number_of}
use Rattle.shadow_chains.specs.declared.entry.Entry.{Entry}
use Rattle.tables.specs.Rising.{Rise, entry_of}
use Rattle.tables.proofs.Only.{find_filter_none, find_filter_other}
use Rattle.tables.proofs.Ordered.{IsOrdered, each_both, each_weaker, ordered_map, ordered_of_map, ordered_of_pairs}
use Rattle.group_kernel.specs.Held.{view_in}
use Rattle.group_kernel.specs.Starting.{IsFirstFace, faces_that, take_face}
use Rattle.group_kernel.proofs.PublicMemory.{Memory, has_number, memory_in}

itself : (n : ℕ) → (n == n) ≡ true
itself n = eq-eqb n n refl

abbrev of_object : ℕ → List ℕ → ℕ × List ℕ
of_object number bytes = (number, bytes)

-- ---- what is taken
pub memory_seen : (epoch : ℕ) (takes : ℕ → Bool) (memory : Memory) (all : List Entry) → AllZip (IsFirstFace epoch) memory all → memory_of (views_of (faces_that takes all)) ≡ filter (λ o. takes o.0) memory
memory_seen epoch takes [] [] zip = refl
memory_seen epoch takes [] (e ∷ es) zip = absurd zip
memory_seen epoch takes (o ∷ os) [] zip = absurd zip
memory_seen epoch takes ((n, bytes) ∷ os) (e ∷ es) zip = by_test (takes n) refl (memory_seen epoch takes os es zip.1)
  where
    same : of_object e.number e.face.bytes ≡ of_object n bytes
    same = ap₂ of_object zip.0.number zip.0.bytes

    by_test : (t : Bool) → takes n ≡ t → memory_of (views_of (faces_that takes es)) ≡ filter (λ o. takes o.0) os
        → memory_of (views_of (faces_that takes (e ∷ es))) ≡ filter (λ o. takes o.0) ((n, bytes) ∷ os)
    by_test true is rest = let hit : takes e.number ≡ true = ap takes zip.0.number ∙ is in rw (hit, is) (ap₂ (λ (x : ℕ × List ℕ) (l : Memory). x ∷ l) same rest)
    by_test false is rest = let miss : takes e.number ≡ false = ap takes zip.0.number ∙ is in rw (miss, is) rest

-- ---- each by its number
pub found_own : {X : Type 0} (number : X → ℕ) (xs : List X) → IsOrdered (λ x y. number x < number y) xs → AllByRecursion (λ x. entry_of number xs (number x) ≡ Some x) xs
found_own number [] rise = tt
found_own number (x ∷ xs) rise = (
  rw (itself (number x)) refl,
  each_both (λ y. number x < number y) (λ y. entry_of number xs (number y) ≡ Some y) (λ y. entry_of number (x ∷ xs) (number y) ≡ Some y) xs
      (λ y lt found. let miss : (number x == number y) ≡ false = grind (arith, nat_tests, lt) in rw miss found) rise.0 (found_own number xs rise.1),
)

pub numbers_same : (objects : List ObjectRec) (memory : Memory) → AllZip IsObject objects memory → map (λ (o : ℕ × List ℕ). o.0) memory ≡ map (λ (o : ObjectRec). o.number) objects
numbers_same [] [] zip = refl
numbers_same [] (e ∷ es) zip = absurd zip
numbers_same (o ∷ os) [] zip = absurd zip
numbers_same (o ∷ os) (e ∷ es) zip = ap₂ (λ (k : ℕ) (l : List ℕ). k ∷ l) zip.0.0 (numbers_same os es zip.1)

-- an object's bytes are found by its number
pub bytes_found : (objects : List ObjectRec) (memory : Memory) → AllZip IsObject objects memory → Rise (λ (o : ObjectRec). o.number) objects → AllByRecursion (λ o. bytes_in memory o.0 ≡ o.1) memory
unfolding Rise
bytes_found objects memory zip rise =
    let below : ℕ → ℕ → Type 0 = λ a b. a < b in
    let numbers : IsOrdered below (map (λ (o : ObjectRec). o.number) objects) = ordered_map below (λ o. o.number) objects (ordered_of_pairs (λ (a b : ObjectRec). a.number < b.number) objects rise) in
    let here : IsOrdered below (map (λ (o : ℕ × List ℕ). o.0) memory) = subst (IsOrdered below) (sym (numbers_same objects memory zip)) numbers in
    each_weaker (λ o. entry_of (λ (x : ℕ × List ℕ). x.0) memory o.0 ≡ Some o) (λ o. bytes_in memory o.0 ≡ o.1) memory
    (λ o found. ap (λ (x : Option (ℕ × List ℕ)). elim x [ None ↦ [] | Some y ↦ y.1 ]) found)
    (found_own (λ (x : ℕ × List ℕ). x.0) memory (ordered_of_map below (λ (x : ℕ × List ℕ). x.0) memory here))

view_entry : (es : List Entry) (n : ℕ) → view_in (views_of es) n ≡ option_map view_of (entry_of number_of es n)
view_entry [] n = refl
view_entry (e ∷ es) n = by_test (e.number == n) (view_entry es n)
  where
    by_test : (t : Bool) → view_in (views_of es) n ≡ option_map view_of (entry_of number_of es n)
        → (if t then Some (view_of e) else view_in (views_of es) n) ≡ option_map view_of (if t then Some e else entry_of number_of es n)
    by_test true rest = refl
    by_test false rest = rest

abbrev IsViewed : (ℕ → Bool) → List ObjectView → Entry → Type 0
IsViewed keep views e = view_in views e.number ≡ (if keep e.number then Some (view_of e) else None)

view_kept : (keep : ℕ → Bool) (all : List Entry) (e : Entry) → entry_of number_of all e.number ≡ Some e → IsViewed keep (views_of (filter (λ x. keep x.number) all)) e
view_kept keep all e found = view_entry (filter (λ x. keep x.number) all) e.number ∙ by_test (keep e.number) refl
  where
    its : (x : Entry) (t : Bool) → keep e.number ≡ t → (x.number == e.number) ≡ true → keep x.number ≡ t
    its x t is hit = let at : x.number ≡ e.number = grind (arith, nat_tests, hit) in ap keep at ∙ is

    by_test : (t : Bool) → keep e.number ≡ t → option_map view_of (entry_of number_of (filter (λ x. keep x.number) all) e.number) ≡ (if t then Some (view_of e) else None)
    by_test true is = ap (option_map view_of) (find_filter_other (λ (x : Entry). x.number == e.number) (λ x. keep x.number) (λ x hit. its x true is hit) all ∙ found)
    by_test false is = ap (option_map view_of) (find_filter_none (λ (x : Entry). x.number == e.number) (λ x. keep x.number) (λ x hit. its x false is hit) all)

-- ---- what is left, in the order of objects
memory_listed : (epoch : ℕ) (keep : ℕ → Bool) (views : List ObjectView) (objects : List ObjectRec) (memory : Memory) (all : List Entry) → AllZip IsObject objects memory → AllZip (IsFirstFace epoch) memory all
    → AllByRecursion (IsViewed keep views) all → memory_in objects views ≡ filter (λ o. keep o.0) memory
memory_listed epoch keep views [] [] all one two each = refl
memory_listed epoch keep views [] (m ∷ ms) all one two each = absurd one
memory_listed epoch keep views (o ∷ os) [] all one two each = absurd one
memory_listed epoch keep views (o ∷ os) (m ∷ ms) [] one two each = absurd two
memory_listed epoch keep views (o ∷ os) ((n, bytes) ∷ ms) (e ∷ es) one two each = ap with viewed ∙ by_test (keep n) refl (memory_listed epoch keep views os ms es one.1 two.1 each.1)
  where
    with : Option ObjectView → Memory
    with view = cons_option (option_map (λ (v : ObjectView). (o.number, v.bytes)) view) (memory_in os views)

    at : e.number ≡ o.number
    at = two.0.number ∙ one.0.0

    viewed : view_in views o.number ≡ (if keep n then Some (view_of e) else None)
    viewed = ap (view_in views) (sym at) ∙ each.0 ∙ ap (λ (k : ℕ). if keep k then Some (view_of e) else None) two.0.number

    same : of_object o.number e.face.bytes ≡ of_object n bytes
    same = ap₂ of_object (sym one.0.0) two.0.bytes

    by_test : (t : Bool) → keep n ≡ t → memory_in os views ≡ filter (λ x. keep x.0) ms → with (if keep n then Some (view_of e) else None) ≡ filter (λ x. keep x.0) ((n, bytes) ∷ ms)
    by_test true is rest = rw is (ap₂ (λ (x : ℕ × List ℕ) (l : Memory). x ∷ l) same rest)
    by_test false is rest = rw is rest

pub memory_left : (epoch : ℕ) (keep : ℕ → Bool) (objects : List ObjectRec) (memory : Memory) (all : List Entry) → AllZip IsObject objects memory → AllZip (IsFirstFace epoch) memory all → Rise number_of all
    → memory_in objects (views_of (filter (λ x. keep x.number) all)) ≡ filter (λ o. keep o.0) memory
unfolding Rise
memory_left epoch keep objects memory all one two rise =
    memory_listed epoch keep (views_of (filter (λ x. keep x.number) all)) objects memory all one two
    (each_weaker (λ e. entry_of number_of all e.number ≡ Some e) (IsViewed keep (views_of (filter (λ x. keep x.number) all))) all (λ e found. view_kept keep all e found)
    (found_own number_of all (ordered_of_pairs (λ x y. number_of x < number_of y) all rise)))

-- ---- whose objects are taken: those that somebody maps privately
pub taken_private : (procs : List Proc) (number : ℕ) → AllByRecursion (λ q. is_running q ≡ false → q.maps ≡ []) procs → is_private procs number ≡ take_face procs number
taken_private [] number ended = refl
taken_private (q ∷ qs) number ended = ap₂ (λ (a b : Bool). a || b) (by_test (is_running q) refl) (taken_private qs number ended.1)
  where
    by_test : (t : Bool) → is_running q ≡ t → maps_privately q.maps number ≡ (is_running q && maps_privately q.maps number)
    by_test true is = rw is refl
    by_test false is = rw (is, ended.0 is) refl

pub left_public : (procs : List Proc) → AllByRecursion (λ q. is_running q ≡ false → q.maps ≡ []) procs → (memory : Memory) → filter (λ o. not (take_face procs o.0)) memory ≡ filter (λ o. is_public procs o.0) memory
left_public procs ended [] = refl
left_public procs ended (o ∷ os) = rw (taken_private procs o.0 ended, left_public procs ended os) refl

-- ---- each is of an object
pub each_of_object : (epoch : ℕ) (whole objects : List ObjectRec) (memory : Memory) (all : List Entry) → AllZip IsObject objects memory → AllZip (IsFirstFace epoch) memory all
    → ((n : ℕ) → has_number objects n ≡ true → has_number whole n ≡ true) → AllByRecursion (λ e. has_number whole e.number ≡ true) all
each_of_object epoch whole [] [] [] one two within = tt
each_of_object epoch whole [] [] (e ∷ es) one two within = absurd two
each_of_object epoch whole [] (m ∷ ms) all one two within = absurd one
each_of_object epoch whole (o ∷ os) [] all one two within = absurd one
each_of_object epoch whole (o ∷ os) (m ∷ ms) [] one two within = tt
each_of_object epoch whole (o ∷ os) (m ∷ ms) (e ∷ es) one two within = (
  within e.number (let at : o.number ≡ e.number = sym (two.0.number ∙ one.0.0) in rw (eq-eqb o.number e.number at) refl),
  each_of_object epoch whole os ms es one.1 two.1 (λ n there. within n (or_there (o.number == n) (has_number os n) there)),
)
  where
    or_there : (a b : Bool) → b ≡ true → (a || b) ≡ true
    or_there true b e = refl
    or_there false b e = e
