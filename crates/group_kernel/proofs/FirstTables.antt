-- The faces of all objects, made one after another from their layers.
use Rattle.std.proofs.Common.{◌≡◌, ◌∙◌, ℕ, zero, suc, ◌+◌, ◌<◌, ◌≤◌, ◌++◌, Bool, is_some, List, [], ◌∷◌, map, length, get_or, take, drop, Option, None, refl, sym, ap, subst, arith, take_all, length-drop}
use Rattle.std.proofs.lemmas.List.{drop_more, get_or_default, length-map}
use Rattle.std.specs.Prelude.{if◌then◌else◌}
use Rattle.std.specs.List.{AllByRecursion, AllZip}
use Rattle.std.specs.Option.{option_map}
use Rattle.ckpt_records.specs.Parts.{memory_of, object_bytes}
use Rattle.group_defs.specs.declared.frame.ObjectRec.{ObjectRec}
use Rattle.group_kernel.specs.Starting.{IsFirstFace}
use Rattle.group_kernel.proofs.AddedLast.{added_last, below_next, none_below}
use Rattle.mem_objects.specs.Pages.{Pages}
use Rattle.shadow_chains.specs.Entries.{entry_with, face_of, number_of, with_face}
use Rattle.shadow_chains.specs.Faces.{FaceView}
use Rattle.shadow_chains.specs.declared.entry.Entry.{Entry}
use Rattle.tables.specs.Rising.{Rise, added, replaced}

-- The faces of the first objects are made, and these layers are left.
pub record AreFacesUpTo (epoch : ℕ) (objects : List ObjectRec) (layers rest : List (ℕ × Pages)) (place : ℕ) (faces : List Entry) : Type 0 where
  pub left : rest ≡ drop place layers
  pub within : place ≤ length layers
  pub first : AllZip (IsFirstFace epoch) (memory_of (take place objects) (take place layers)) faces

pub no_faces : (epoch : ℕ) (objects : List ObjectRec) (layers : List (ℕ × Pages)) → AreFacesUpTo epoch objects layers layers 0 []
unfolding memory_of
no_faces epoch objects layers = record { left = refl; within = omega arith; first = tt }

-- ---- lists

pub same_length : (objects : List ObjectRec) (layers : List (ℕ × Pages)) → map (λ l. l.0) layers ≡ map (λ o. o.number) objects → length layers ≡ length objects
same_length objects layers same = sym (length-map layers (λ (l : ℕ × Pages). l.0)) ∙ ap (λ (ns : List ℕ). length ns) same ∙ length-map objects (λ (o : ObjectRec). o.number)

abbrev bytes_of : ObjectRec → ℕ × Pages → ℕ × List ℕ
bytes_of o l = (o.number, object_bytes o.pages l.1)

memory_next : (k : ℕ) (objects : List ObjectRec) (layers : List (ℕ × Pages)) (o : ObjectRec) (l : ℕ × Pages) → k < length objects → k < length layers
    → memory_of (take (suc k) objects) (take (suc k) layers) ≡ memory_of (take k objects) (take k layers) ++ bytes_of (get_or objects k o) (get_or layers k l) ∷ []
unfolding memory_of
memory_next k [] layers o l lt there = absurd (omega (arith, lt))
memory_next k (x ∷ xs) [] o l lt there = absurd (omega (arith, there))
memory_next zero (x ∷ xs) (y ∷ ys) o l lt there = refl
memory_next (suc k) (x ∷ xs) (y ∷ ys) o l lt there = ap (λ (m : List (ℕ × List ℕ)). bytes_of x y ∷ m) (memory_next k xs ys o l (omega (arith, lt)) (omega (arith, there)))

zip_last : {X Y : Type 0} (R : X → Y → Type 0) (xs : List X) (ys : List Y) (x : X) (y : Y) → AllZip R xs ys → R x y → AllZip R (xs ++ x ∷ []) (ys ++ y ∷ [])
zip_last R [] [] x y zip last = (last, tt)
zip_last R [] (b ∷ bs) x y zip last = absurd zip
zip_last R (a ∷ as') [] x y zip last = absurd zip
zip_last R (a ∷ as') (b ∷ bs) x y zip last = (zip.0, zip_last R as' bs x y zip.1 last)

-- the faces have the numbers of their objects
numbers_below : (epoch n : ℕ) (objects : List ObjectRec) (layers : List (ℕ × Pages)) (faces : List Entry) → AllByRecursion (λ (o : ObjectRec). o.number < n) objects → AllZip (IsFirstFace epoch) (memory_of objects layers) faces → AllByRecursion (λ (e : Entry). e.number < n) faces
unfolding memory_of
numbers_below epoch n [] layers [] below zip = tt
numbers_below epoch n [] layers (e ∷ es) below zip = absurd zip
numbers_below epoch n (o ∷ os) [] [] below zip = absurd zip
numbers_below epoch n (o ∷ os) [] (e ∷ es) below zip = (omega (arith, below.0, zip.0.number), numbers_below epoch n os [] es below.1 zip.1)
numbers_below epoch n (o ∷ os) (l ∷ ls) [] below zip = absurd zip
numbers_below epoch n (o ∷ os) (l ∷ ls) (e ∷ es) below zip = (omega (arith, below.0, zip.0.number), numbers_below epoch n os ls es below.1 zip.1)

-- a face put behind the others
put_last : (faces : List Entry) (n : ℕ) (f : FaceView) → AllByRecursion (λ (e : Entry). e.number < n) faces → with_face faces n f ≡ faces ++ entry_with n f ∷ []
put_last faces n f below =
    let none : face_of faces n ≡ None = ap (option_map (λ (e : Entry). e.face)) (none_below number_of n faces below) in
    ap (λ (b : Bool). if b then replaced number_of faces (entry_with n f) else added number_of faces (entry_with n f)) (ap (λ (o : Option FaceView). is_some o) none) ∙ added_last number_of (entry_with n f) n refl faces below

behind : {X : Type 0} {x y : X} {xs ys : List X} → x ∷ xs ≡ y ∷ ys → (x ≡ y) × (xs ≡ ys)
behind e = (cc, cc)

-- ---- the next face

module _ (epoch : ℕ) (objects : List ObjectRec) (layers rest : List (ℕ × Pages)) (place : ℕ) (faces : List Entry) (same : map (λ l. l.0) layers ≡ map (λ o. o.number) objects) (before : AreFacesUpTo epoch objects layers rest place faces) where
  module _ (layer : ℕ × Pages) (more : List (ℕ × Pages)) (next : rest ≡ layer ∷ more) where
    in_layers : place < length layers
    in_layers = omega (arith, length-drop place layers, ap (λ (l : List (ℕ × Pages)). length l) (sym next ∙ before.left))

    pub in_objects : place < length objects
    in_objects = omega (arith, in_layers, same_length objects layers same)

    parts : (layer ≡ get_or layers place layer) × (more ≡ drop (place + 1) layers)
    parts = behind (sym next ∙ before.left ∙ drop_more layers place layer in_layers)

    next_face : (o : ObjectRec) (f : FaceView) (new : List Entry) → Rise (λ (x : ObjectRec). x.number) objects → o ≡ get_or objects place o → IsFirstFace epoch (o.number, object_bytes o.pages layer.1) (entry_with o.number f) → new ≡ with_face faces o.number f
        → AreFacesUpTo epoch objects layers more (place + 1) new
    next_face o f new rise here first put =
        let below : AllByRecursion (λ (x : ObjectRec). x.number < o.number) (take place objects) =
        subst (λ (x : ObjectRec). AllByRecursion (λ (y : ObjectRec). y.number < x.number) (take place objects)) (sym here) (below_next (λ (x : ObjectRec). x.number) objects place o in_objects rise) in
        let last : new ≡ faces ++ entry_with o.number f ∷ [] = put ∙ put_last faces o.number f (numbers_below epoch o.number (take place objects) (take place layers) faces below before.first) in
        let step : suc place ≡ place + 1 = omega arith in
        let memory : memory_of (take place objects) (take place layers) ++ bytes_of o layer ∷ [] ≡ memory_of (take (place + 1) objects) (take (place + 1) layers) =
        ap (λ (x : ObjectRec). memory_of (take place objects) (take place layers) ++ bytes_of x layer ∷ []) here
        ∙ ap (λ (l : ℕ × Pages). memory_of (take place objects) (take place layers) ++ bytes_of (get_or objects place o) l ∷ []) parts.0
        ∙ sym (memory_next place objects layers o layer in_objects in_layers) ∙ ap (λ (k : ℕ). memory_of (take k objects) (take k layers)) step in
        record {
          left = parts.1;
          within = omega (arith, in_layers);
          first = subst (λ (m : List (ℕ × List ℕ)). AllZip (IsFirstFace epoch) m new) memory
              (subst (AllZip (IsFirstFace epoch) (memory_of (take place objects) (take place layers) ++ bytes_of o layer ∷ [])) (sym last)
              (zip_last (IsFirstFace epoch) (memory_of (take place objects) (take place layers)) faces (bytes_of o layer) (entry_with o.number f) before.first first));
        }

    pub next_at : (d : ObjectRec) (f : FaceView) (new : List Entry) → Rise (λ (x : ObjectRec). x.number) objects → IsFirstFace epoch ((get_or objects place d).number, object_bytes (get_or objects place d).pages layer.1) (entry_with (get_or objects place d).number f)
        → new ≡ with_face faces (get_or objects place d).number f → AreFacesUpTo epoch objects layers more (place + 1) new
    next_at d f new rise first put = next_face (get_or objects place d) f new rise (sym (get_or_default objects place (get_or objects place d) d in_objects)) first put

  pub all_first : length rest ≡ 0 → AllZip (IsFirstFace epoch) (memory_of objects layers) faces
  all_first none =
      let past : length layers ≤ place = omega (arith, length-drop place layers, ap (λ (l : List (ℕ × Pages)). length l) before.left, none) in
      let all : memory_of (take place objects) (take place layers) ≡ memory_of objects layers =
      ap (λ (l : List ObjectRec). memory_of l (take place layers)) (take_all place objects (omega (arith, past, same_length objects layers same))) ∙ ap (memory_of objects) (take_all place layers past) in
      subst (λ (m : List (ℕ × List ℕ)). AllZip (IsFirstFace epoch) m faces) all before.first
