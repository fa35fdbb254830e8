-- The objects that the end of a process leaves, and their bytes.
use Rattle.std.proofs.Common.{◌≡◌, ℕ, ◌++◌, ◌==◌, ◌||◌, ◌&&◌, Bool, true, false, not, List, [], ◌∷◌, map, is_some, Option, Some, None, refl, sym, ap, ◌∙◌}
use Rattle.std.proofs.lemmas.Bool.{eq-eqb, eqb-true, false≢true}
use Rattle.std.specs.Prelude.{if◌then◌else◌}
use Rattle.std.specs.List.{AllByRecursion, AllZip, cons_option, filter, list_any}
use Rattle.std.specs.Option.{option_map}
use Rattle.address_maps.specs.declared.maps.Mapping.{Mapping}
use Rattle.group_defs.specs.Fork.{maps_privately}
use Rattle.group_defs.specs.Objects.{maps_object}
use Rattle.group_defs.specs.Valid.{IsObject}
use Rattle.group_defs.specs.declared.frame.ObjectRec.{ObjectRec}
use Rattle.group_defs.specs.declared.frame.Proc.{Proc}
use Rattle.group_parts.specs.Parts.{private_memory, shared_mappings}
use Rattle.group_parts.specs.Served.{stays_for}
use Rattle.proc_lease.specs.Private.{ObjectView, memory_of, view_of, views_of}
use Rattle.shadow_chains.specs.Entries.{face_of}
use Rattle.shadow_chains.specs.declared.entry.Entry.{Entry}
use Rattle.group_kernel.specs.Ending.{maps_any, row_maps, stays_by, stays_shared}
use Rattle.group_kernel.specs.Held.{public_row, view_in}
use Rattle.group_kernel.specs.declared.row.Row.{Row}
use Rattle.group_kernel.proofs.PublicMemory.{Memory, memory_in}

abbrev pub has_bytes : Memory → ℕ → Bool
has_bytes memory n = list_any (λ o. o.0 == n) memory

-- ---- what a process maps: privately, or shared
split_by : (a b c d : Bool) → (a || (c || d)) ≡ (((a && not b) || c) || (if b then a || d else d))
split_by true true true d = refl
split_by true true false d = refl
split_by true false c d = refl
split_by false true c d = refl
split_by false false c d = refl

pub maps_either : (maps : List Mapping) (n : ℕ) → maps_any maps n ≡ (maps_privately maps n || maps_any (shared_mappings maps) n)
maps_either [] n = refl
maps_either (m ∷ ms) n = ap (λ (b : Bool). (m.object == n) || b) (maps_either ms n) ∙ split_by (m.object == n) m.shared (maps_privately ms n) (maps_any (shared_mappings ms) n) ∙ ap (λ (b : Bool). (((m.object == n) && not m.shared) || maps_privately ms n) || b) (either m.shared)
  where
    either : (t : Bool) → (if t then (m.object == n) || maps_any (shared_mappings ms) n else maps_any (shared_mappings ms) n) ≡ maps_any (if t then m ∷ shared_mappings ms else shared_mappings ms) n
    either true = refl
    either false = refl

-- ---- a face for each that it maps privately
has_face : (entries : List Entry) (n : ℕ) → is_some (face_of entries n) ≡ has_bytes (memory_of (views_of entries)) n
has_face [] n = refl
has_face (e ∷ es) n = by_test (e.number == n) refl (has_face es n)
  where
    by_test : (t : Bool) → (e.number == n) ≡ t → is_some (face_of es n) ≡ has_bytes (memory_of (views_of es)) n → is_some (face_of (e ∷ es) n) ≡ (t || has_bytes (memory_of (views_of es)) n)
    by_test true is rest = rw is refl
    by_test false is rest = rw is rest

no_bytes : (keep : ℕ → Bool) (memory : Memory) (n : ℕ) → keep n ≡ false → has_bytes (filter (λ o. keep o.0) memory) n ≡ false
no_bytes keep [] n away = refl
no_bytes keep (o ∷ os) n away = by_tests (keep o.0) (o.0 == n) refl refl (no_bytes keep os n away)
  where
    by_tests : (t u : Bool) → keep o.0 ≡ t → (o.0 == n) ≡ u → has_bytes (filter (λ x. keep x.0) os) n ≡ false → has_bytes (if t then o ∷ filter (λ x. keep x.0) os else filter (λ x. keep x.0) os) n ≡ false
    by_tests true true e f rest = absurd (false≢true (sym away ∙ ap keep (sym (eqb-true o.0 n f)) ∙ e))
    by_tests true false e f rest = ap (λ (b : Bool). b || has_bytes (filter (λ (x : ℕ × List ℕ). keep x.0) os) n) f ∙ rest
    by_tests false u e f rest = rest

kept_bytes : (keep : ℕ → Bool) (memory : Memory) (n : ℕ) → has_bytes memory n ≡ true → has_bytes (filter (λ o. keep o.0) memory) n ≡ keep n
kept_bytes keep [] n there = absurd (false≢true there)
kept_bytes keep (o ∷ os) n there = by_tests (keep o.0) (o.0 == n) refl refl (kept_bytes keep os n) there
  where
    by_tests : (t u : Bool) → keep o.0 ≡ t → (o.0 == n) ≡ u → (has_bytes os n ≡ true → has_bytes (filter (λ x. keep x.0) os) n ≡ keep n) → (u || has_bytes os n) ≡ true
        → has_bytes (if t then o ∷ filter (λ x. keep x.0) os else filter (λ x. keep x.0) os) n ≡ keep n
    by_tests true true e f rest is = ap (λ (b : Bool). b || has_bytes (filter (λ (x : ℕ × List ℕ). keep x.0) os) n) f ∙ sym (ap keep (sym (eqb-true o.0 n f)) ∙ e)
    by_tests true false e f rest is = ap (λ (b : Bool). b || has_bytes (filter (λ (x : ℕ × List ℕ). keep x.0) os) n) f ∙ rest is
    by_tests false true e f rest is = let away : keep n ≡ false = ap keep (sym (eqb-true o.0 n f)) ∙ e in no_bytes keep os n away ∙ sym away
    by_tests false false e f rest is = rest is

-- each object has its bytes
or_true : (b : Bool) → (b || true) ≡ true
or_true true = refl
or_true false = refl

bytes_behind : (m : ℕ × List ℕ) (ms : Memory) (os : List ObjectRec) → AllByRecursion (λ (o : ObjectRec). has_bytes ms o.number ≡ true) os → AllByRecursion (λ (o : ObjectRec). has_bytes (m ∷ ms) o.number ≡ true) os
bytes_behind m ms [] each = tt
bytes_behind m ms (o ∷ os) each = (ap (λ (b : Bool). (m.0 == o.number) || b) each.0 ∙ or_true (m.0 == o.number), bytes_behind m ms os each.1)

all_bytes : (objects : List ObjectRec) (memory : Memory) → AllZip IsObject objects memory → AllByRecursion (λ (o : ObjectRec). has_bytes memory o.number ≡ true) objects
all_bytes [] memory zip = tt
all_bytes (o ∷ os) [] zip = absurd zip
all_bytes (o ∷ os) (m ∷ ms) zip = (ap (λ (b : Bool). b || has_bytes ms o.number) (eq-eqb m.0 o.number zip.0.0), bytes_behind m ms os (all_bytes os ms zip.1))

-- ---- which objects are left
pub rows_map_same : (n : ℕ) (rows : List Row) → list_any (maps_object n) (map public_row rows) ≡ list_any (row_maps n) rows
unfolding maps_object
rows_map_same n [] = refl
rows_map_same n (row ∷ rows) = ap (λ (b : Bool). maps_any row.shared n || b) (rows_map_same n rows)

module _ (memory : Memory) (p : Proc) (faces : List Entry) (shared : List Mapping) (faces_are : memory_of (views_of faces) ≡ private_memory memory p.maps) (shared_are : shared ≡ shared_mappings p.maps) where
  -- an object with bytes has a face of the process just where it maps it privately
  pub face_is : (n : ℕ) → has_bytes memory n ≡ true → is_some (face_of faces n) ≡ maps_privately p.maps n
  face_is n there = has_face faces n ∙ ap (λ (m : Memory). has_bytes m n) faces_are ∙ kept_bytes (maps_privately p.maps) memory n there

  pub no_face : (n : ℕ) → maps_privately p.maps n ≡ false → is_some (face_of faces n) ≡ false
  no_face n away = has_face faces n ∙ ap (λ (m : Memory). has_bytes m n) faces_are ∙ no_bytes (maps_privately p.maps) memory n away

  module _ (rows : List Row) (left : List Proc) (left_are : map public_row rows ≡ left) where
    stays_same : (n : ℕ) → has_bytes memory n ≡ true → stays_by faces shared rows n ≡ stays_for left p.maps n
    stays_same n there =
        ap (λ (b : Bool). not (b || maps_any shared n) || list_any (row_maps n) rows) (face_is n there)
        ∙ ap (λ (l : List Mapping). not (maps_privately p.maps n || maps_any l n) || list_any (row_maps n) rows) shared_are
        ∙ ap (λ (b : Bool). not b || list_any (row_maps n) rows) (sym (maps_either p.maps n))
        ∙ ap (λ (b : Bool). not (maps_any p.maps n) || b) (sym (rows_map_same n rows) ∙ ap (λ (l : List Proc). list_any (maps_object n) l) left_are)

    stay_each : (objects : List ObjectRec) → AllByRecursion (λ (o : ObjectRec). has_bytes memory o.number ≡ true) objects → AllByRecursion (λ (o : ObjectRec). stays_by faces shared rows o.number ≡ stays_for left p.maps o.number) objects
    stay_each [] each = tt
    stay_each (o ∷ os) each = (stays_same o.number each.0, stay_each os each.1)

    pub stay_all : (objects : List ObjectRec) → AllZip IsObject objects memory → AllByRecursion (λ (o : ObjectRec). stays_by faces shared rows o.number ≡ stays_for left p.maps o.number) objects
    stay_all objects zip = stay_each objects (all_bytes objects memory zip)

pub same_objects : (s stays : ℕ → Bool) (objects : List ObjectRec) → AllByRecursion (λ (o : ObjectRec). s o.number ≡ stays o.number) objects → filter (λ o. s o.number) objects ≡ filter (λ o. stays o.number) objects
same_objects s stays [] each = refl
same_objects s stays (o ∷ os) each =
    ap (λ (b : Bool). if b then o ∷ filter (λ (x : ObjectRec). s x.number) os else filter (λ (x : ObjectRec). s x.number) os) each.0
    ∙ ap (λ (l : List ObjectRec). if stays o.number then o ∷ l else l) (same_objects s stays os each.1)

-- ---- their bytes, in views of which those of the ones that are left stay
module _ (s stays : ℕ → Bool) (views views' : List ObjectView) (found : (n : ℕ) → s n ≡ true → view_in views' n ≡ view_in views n) where
  abbrev with : ObjectRec → Option ObjectView → Memory → Memory
  with o view rest = cons_option (option_map (λ (v : ObjectView). (o.number, v.bytes)) view) rest

  one_kept : (o : ObjectRec) (view : Option ObjectView) (rest : Memory) → stays o.number ≡ true → with o view (filter (λ x. stays x.0) rest) ≡ filter (λ x. stays x.0) (with o view rest)
  one_kept o None rest e = refl
  one_kept o (Some v) rest e = sym (ap (λ (b : Bool). if b then (o.number, v.bytes) ∷ filter (λ (x : ℕ × List ℕ). stays x.0) rest else filter (λ (x : ℕ × List ℕ). stays x.0) rest) e)

  one_gone : (o : ObjectRec) (view : Option ObjectView) (rest : Memory) → stays o.number ≡ false → filter (λ x. stays x.0) rest ≡ filter (λ x. stays x.0) (with o view rest)
  one_gone o None rest e = refl
  one_gone o (Some v) rest e = sym (ap (λ (b : Bool). if b then (o.number, v.bytes) ∷ filter (λ (x : ℕ × List ℕ). stays x.0) rest else filter (λ (x : ℕ × List ℕ). stays x.0) rest) e)

  pub memory_left : (objects : List ObjectRec) → AllByRecursion (λ (o : ObjectRec). s o.number ≡ stays o.number) objects → memory_in (filter (λ o. s o.number) objects) views' ≡ filter (λ o. stays o.0) (memory_in objects views)
  memory_left [] each = refl
  memory_left (o ∷ os) each = by_test (s o.number) refl (memory_left os each.1)
    where
      by_test : (t : Bool) → s o.number ≡ t → memory_in (filter (λ x. s x.number) os) views' ≡ filter (λ x. stays x.0) (memory_in os views)
          → memory_in (if t then o ∷ filter (λ x. s x.number) os else filter (λ x. s x.number) os) views' ≡ filter (λ x. stays x.0) (with o (view_in views o.number) (memory_in os views))
      by_test true e rest =
          ap (λ (v : Option ObjectView). with o v (memory_in (filter (λ x. s x.number) os) views')) (found o.number e)
          ∙ ap (with o (view_in views o.number)) rest
          ∙ one_kept o (view_in views o.number) (memory_in os views) (sym each.0 ∙ e)
      by_test false e rest = rest ∙ one_gone o (view_in views o.number) (memory_in os views) (sym each.0 ∙ e)

-- what is left of a table of faces shows the same
pub found_left : (keep : ℕ → Bool) (entries : List Entry) (further : List ObjectView) (n : ℕ) → keep n ≡ true → view_in (views_of (filter (λ e. keep e.number) entries) ++ further) n ≡ view_in (views_of entries ++ further) n
found_left keep [] further n stays = refl
found_left keep (e ∷ es) further n stays = by_tests (keep e.number) (e.number == n) refl refl (found_left keep es further n stays)
  where
    by_tests : (t u : Bool) → keep e.number ≡ t → (e.number == n) ≡ u → view_in (views_of (filter (λ x. keep x.number) es) ++ further) n ≡ view_in (views_of es ++ further) n
        → view_in (views_of (if t then e ∷ filter (λ x. keep x.number) es else filter (λ x. keep x.number) es) ++ further) n ≡ (if u then Some (view_of e) else view_in (views_of es ++ further) n)
    by_tests true true is hit rest = ap (λ (b : Bool). if b then Some (view_of e) else view_in (views_of (filter (λ (x : Entry). keep x.number) es) ++ further) n) hit
    by_tests true false is hit rest = ap (λ (b : Bool). if b then Some (view_of e) else view_in (views_of (filter (λ (x : Entry). keep x.number) es) ++ further) n) hit ∙ rest
    by_tests false true is hit rest = absurd (false≢true (sym is ∙ ap keep (eqb-true e.number n hit) ∙ stays))
    by_tests false false is hit rest = rest

-- an object that stays is one whose public face stays
pub stays_public : (faces : List Entry) (shared : List Mapping) (rows : List Row) (n : ℕ) → stays_by faces shared rows n ≡ true → stays_shared shared rows n ≡ true
stays_public faces shared rows n is = by_tests (is_some (face_of faces n)) (maps_any shared n) (list_any (row_maps n) rows) is
  where
    by_tests : (a b c : Bool) → (not (a || b) || c) ≡ true → (not b || c) ≡ true
    by_tests a false c e = refl
    by_tests a true true e = refl
    by_tests true true false e = absurd (false≢true e)
    by_tests false true false e = absurd (false≢true e)

-- ... and the other way round, where the process has no face of it
pub stays_private : (faces : List Entry) (shared : List Mapping) (rows : List Row) (n : ℕ) → is_some (face_of faces n) ≡ false → stays_shared shared rows n ≡ true → stays_by faces shared rows n ≡ true
stays_private faces shared rows n none is = ap (λ (b : Bool). not (b || maps_any shared n) || list_any (row_maps n) rows) none ∙ is

-- an object that stays is there still
pub still_there : (s : ℕ → Bool) (objects : List ObjectRec) (n : ℕ) → s n ≡ true → list_any (λ o. o.number == n) objects ≡ true → list_any (λ o. o.number == n) (filter (λ o. s o.number) objects) ≡ true
still_there s [] n stays there = there
still_there s (o ∷ os) n stays there = by_tests (s o.number) (o.number == n) refl refl (still_there s os n stays) there
  where
    by_tests : (t u : Bool) → s o.number ≡ t → (o.number == n) ≡ u → (list_any (λ (x : ObjectRec). x.number == n) os ≡ true → list_any (λ (x : ObjectRec). x.number == n) (filter (λ x. s x.number) os) ≡ true) → (u || list_any (λ (x : ObjectRec). x.number == n) os) ≡ true
        → list_any (λ (x : ObjectRec). x.number == n) (if t then o ∷ filter (λ x. s x.number) os else filter (λ x. s x.number) os) ≡ true
    by_tests true true is hit rest e = ap (λ (b : Bool). b || list_any (λ (x : ObjectRec). x.number == n) (filter (λ x. s x.number) os)) hit
    by_tests true false is hit rest e = ap (λ (b : Bool). b || list_any (λ (x : ObjectRec). x.number == n) (filter (λ x. s x.number) os)) hit ∙ rest e
    by_tests false true is hit rest e = absurd (false≢true (sym is ∙ ap s (eqb-true o.number n hit) ∙ stays))
    by_tests false false is hit rest e = rest e
