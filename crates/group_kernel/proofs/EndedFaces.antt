-- The faces that the end of a process leaves stand as before.
use Rattle.std.proofs.Common.{◌≡◌, ℕ, ◌++◌, ◌==◌, ◌&&◌, Bool, true, false, not, List, [], ◌∷◌, is_some, refl, ap, ◌∙◌}
use Rattle.std.proofs.lemmas.Bool.{and_parts}
use Rattle.std.proofs.lemmas.List.Elements.{All-from_recursion, recursion_from_All}
use Rattle.std.specs.Prelude.{All, if◌then◌else◌}
use Rattle.std.specs.List.{AllByRecursion, filter, list_any}
use Rattle.address_maps.specs.declared.maps.Mapping.{Mapping}
use Rattle.group_defs.specs.Fork.{maps_privately}
use Rattle.group_defs.specs.Objects.{is_of_file}
use Rattle.group_defs.specs.declared.frame.ObjectRec.{ObjectRec}
use Rattle.group_files.specs.declared.named_files.FileRec.{FileRec}
use Rattle.proc_lease.specs.Private.{ObjectView, view_of, views_of}
use Rattle.shadow_chains.specs.Entries.{face_of}
use Rattle.shadow_chains.specs.declared.entry.Entry.{Entry}
use Rattle.tables.proofs.Ordered.{each_append, each_filter, each_left, each_map, each_of_map, each_right}
use Rattle.group_kernel.specs.Ending.{stays_by, stays_shared}
use Rattle.group_kernel.specs.Faces.{AllStandOver, StandsOver}
use Rattle.group_kernel.specs.Held.{is_memory_object}
use Rattle.group_kernel.specs.declared.row.Row.{Row}
use Rattle.group_kernel.proofs.EndedObjects.{stays_private, still_there}

-- the public faces
pub public_left : (memory : List (ℕ × List ℕ)) (touched : List (ℕ × ℕ)) (keep : Entry → Bool) (entries : List Entry) (further : List ObjectView) → AllStandOver memory touched (views_of entries ++ further) → AllStandOver memory touched (views_of (filter keep entries) ++ further)
public_left memory touched keep entries further stand =
    let each = recursion_from_All (StandsOver memory touched) (views_of entries ++ further) stand in
    All-from_recursion (StandsOver memory touched) (views_of (filter keep entries) ++ further)
    (each_append (StandsOver memory touched) (views_of (filter keep entries)) further
    (each_map (StandsOver memory touched) view_of (filter keep entries) (each_filter (λ (e : Entry). StandsOver memory touched (view_of e)) keep entries
    (each_of_map (StandsOver memory touched) view_of entries (each_left (StandsOver memory touched) (views_of entries) further each))))
    (each_right (StandsOver memory touched) (views_of entries) further each))

-- what passes a test is told by it
passes : {X : Type 0} (P Q R : X → Type 0) (t : X → Bool) → ((x : X) → P x → Q x → t x ≡ true → R x) → (xs : List X) → AllByRecursion P xs → AllByRecursion Q xs → AllByRecursion R (filter t xs)
passes P Q R t tells [] one two = tt
passes {X} P Q R t tells (x ∷ xs) one two = by_test (t x) refl (passes P Q R t tells xs one.1 two.1)
  where
    by_test : (b : Bool) → t x ≡ b → AllByRecursion R (filter t xs) → AllByRecursion R (if b then x ∷ filter t xs else filter t xs)
    by_test true e rest = (tells x one.0 two.0 e, rest)
    by_test false e rest = rest

both_true : (a b : Bool) → a ≡ true → b ≡ true → (a && b) ≡ true
both_true a b e f = ap (λ (x : Bool). x && b) e ∙ f

-- each of an object that is there still
pub shared_left : (faces : List Entry) (shared : List Mapping) (rows : List Row) (maps : List Mapping) (objects : List ObjectRec) (files : List FileRec) (entries : List Entry) (further : List ObjectView)
    → ((n : ℕ) → maps_privately maps n ≡ false → is_some (face_of faces n) ≡ false) → All (λ (o : ObjectView). maps_privately maps o.number ≡ false) (views_of entries ++ further)
    → All (λ (e : Entry). is_memory_object objects files e.number ≡ true) entries
    → All (λ (e : Entry). is_memory_object (filter (λ o. stays_by faces shared rows o.number) objects) files e.number ≡ true) (filter (λ e. stays_shared shared rows e.number) entries)
shared_left faces shared rows maps objects files entries further none beside there =
    All-from_recursion (λ (e : Entry). is_memory_object (filter (λ o. stays_by faces shared rows o.number) objects) files e.number ≡ true) (filter (λ (e : Entry). stays_shared shared rows e.number) entries)
    (passes (λ (e : Entry). maps_privately maps e.number ≡ false) (λ (e : Entry). is_memory_object objects files e.number ≡ true) (λ (e : Entry). is_memory_object (filter (λ o. stays_by faces shared rows o.number) objects) files e.number ≡ true) (λ (e : Entry). stays_shared shared rows e.number) (λ e. one e.number) entries
    (each_of_map (λ (o : ObjectView). maps_privately maps o.number ≡ false) view_of entries (each_left (λ (o : ObjectView). maps_privately maps o.number ≡ false) (views_of entries) further (recursion_from_All (λ (o : ObjectView). maps_privately maps o.number ≡ false) (views_of entries ++ further) beside)))
    (recursion_from_All (λ (e : Entry). is_memory_object objects files e.number ≡ true) entries there))
  where
    one : (n : ℕ) → maps_privately maps n ≡ false → is_memory_object objects files n ≡ true → stays_shared shared rows n ≡ true → is_memory_object (filter (λ o. stays_by faces shared rows o.number) objects) files n ≡ true
    one n away is stays =
        let parts = and_parts (list_any (λ (o : ObjectRec). o.number == n) objects) (not (is_of_file files n)) is in
        both_true (list_any (λ (o : ObjectRec). o.number == n) (filter (λ o. stays_by faces shared rows o.number) objects)) (not (is_of_file files n)) (still_there (stays_by faces shared rows) objects n (stays_private faces shared rows n (none n away) stays) parts.0) parts.1
