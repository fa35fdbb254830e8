-- What fits goes on fitting, and a valid group's memory fits.
use Rattle.std.proofs.Common.{◌≡◌, ℕ, ◌+◌, ◌*◌, ◌<◌, ◌≤◌, ◌==◌, Bool, true, false, List, [], ◌∷◌, length, map, get_or, Option, Some, None, refl, sym, ap, ◌∙◌, subst, arith}
use Rattle.std.specs.Prelude.{if◌then◌else◌, All}
use Rattle.std.specs.List.{find, AllZip}
use Rattle.std.proofs.lemmas.List.{get_or-map, length-map}
use Rattle.std.proofs.lemmas.List.Elements.{All-nil, All-cons, All-head, All-weaker}
use Rattle.group_defs.specs.declared.frame.ObjectRec.{ObjectRec}
use Rattle.group_defs.specs.declared.frame.Proc.{Proc}
use Rattle.address_maps.specs.declared.maps.Mapping.{Mapping}
use Rattle.address_maps.specs.Mappings.{AreApart, has, end_of}
use Rattle.group_defs.specs.Built.{IsAlone}
use Rattle.group_defs.specs.Cells.{bytes_in, AllInside}
use Rattle.group_defs.specs.Group.{Group}
use Rattle.group_defs.specs.Mappings.{IsUserMapping, IsInside}
use Rattle.lists.specs.Bytes.{AreBytes}
use Rattle.tables.specs.Rising.{Rise}
use Rattle.group_defs.specs.Valid.{IsObject, GroupIsValid}
use Rattle.flat_kernel.specs.Memory.{TableFits, shape}
use Rattle.flat_kernel.proofs.MemoryReads.{entry_at, found_has}

-- ---- numbers and lengths

abbrev size_of : Option (ℕ × ℕ) → ℕ
size_of None = 0
size_of (Some s) = s.1

size_is : (memory : List (ℕ × List ℕ)) (n : ℕ) → length (bytes_in memory n) ≡ size_of (find (λ s. s.0 == n) (shape memory))
size_is [] n = refl
size_is (o ∷ os) n = by_test (size_is os n) (o.0 == n) refl
  where
    by_test : length (bytes_in os n) ≡ size_of (find (λ s. s.0 == n) (shape os)) → (t : Bool) → (o.0 == n) ≡ t → length (bytes_in (o ∷ os) n) ≡ size_of (if t then Some (o.0, length o.1) else find (λ s. s.0 == n) (shape os))
    by_test rest true e = rw (bytes_in, e) refl
    by_test rest false e = rw (bytes_in, e) rest

abbrev pub sized : ℕ × List ℕ → ℕ × ℕ
sized o = (o.0, length o.1)

rise_shape : (memory : List (ℕ × List ℕ)) → Rise (λ o. o.0) memory → Rise (λ s. s.0) (shape memory)
unfolding Rise
rise_shape memory rise i j d less end =
    let lt : j < length memory = omega (arith, end, length-map memory sized) in
    let low : (get_or (shape memory) i d).0 ≡ (get_or memory i (0, [])).0 = ap (λ (s : ℕ × ℕ). s.0) (get_or-map sized memory i (0, []) d (omega (arith, less, lt))) in
    let high : (get_or (shape memory) j d).0 ≡ (get_or memory j (0, [])).0 = ap (λ (s : ℕ × ℕ). s.0) (get_or-map sized memory j (0, []) d lt) in
    omega (arith, low, high, rise i j (0, []) less lt)

shape_rise : (memory : List (ℕ × List ℕ)) → Rise (λ s. s.0) (shape memory) → Rise (λ o. o.0) memory
unfolding Rise
shape_rise memory rise i j d less end =
    let lt : j < length (shape memory) = omega (arith, end, length-map memory sized) in
    let low : (get_or (shape memory) i (0, 0)).0 ≡ (get_or memory i d).0 = ap (λ (s : ℕ × ℕ). s.0) (get_or-map sized memory i d (0, 0) (omega (arith, less, end))) in
    let high : (get_or (shape memory) j (0, 0)).0 ≡ (get_or memory j d).0 = ap (λ (s : ℕ × ℕ). s.0) (get_or-map sized memory j d (0, 0) end) in
    omega (arith, low, high, rise i j (0, 0) less lt)

-- no object has more bytes than its limit
abbrev IsSmall : ℕ × ℕ → Type 0
IsSmall s = s.1 ≤ 4096 * 16384

shape_sizes : (memory : List (ℕ × List ℕ)) → All IsSmall (shape memory) → All (λ o. length o.1 ≤ 4096 * 16384) memory
shape_sizes memory small k d end =
    let lt : k < length (shape memory) = omega (arith, end, length-map memory sized) in
    let e : (get_or (shape memory) k (0, 0)).1 ≡ length (get_or memory k d).1 = ap (λ (s : ℕ × ℕ). s.1) (get_or-map sized memory k d (0, 0) end) in
    omega (arith, e, small k (0, 0) lt)

sizes_shape : (memory : List (ℕ × List ℕ)) → All (λ o. length o.1 ≤ 4096 * 16384) memory → All IsSmall (shape memory)
sizes_shape memory small k d end =
    let lt : k < length memory = omega (arith, end, length-map memory sized) in
    let e : (get_or (shape memory) k d).1 ≡ length (get_or memory k (0, [])).1 = ap (λ (s : ℕ × ℕ). s.1) (get_or-map sized memory k (0, []) d lt) in
    omega (arith, e, small k (0, []) lt)

-- a table of the same numbers and lengths fits as well
pub fits_shape : (a b : List (ℕ × List ℕ)) (maps : List Mapping) → shape b ≡ shape a → All (λ o. AreBytes o.1) b → TableFits a maps → TableFits b maps
fits_shape a b maps same bytes fits = record {
  placed = fits.placed;
  apart = fits.apart;
  unshared = fits.unshared;
  inside = λ k d lt.
      let m = get_or maps k d in
      let e : length (bytes_in b m.object) ≡ length (bytes_in a m.object) = size_is b m.object ∙ ap (λ (l : List (ℕ × ℕ)). size_of (find (λ s. s.0 == m.object) l)) same ∙ sym (size_is a m.object) in
      omega (arith, e, fits.inside k d lt);
  rise = shape_rise b (subst (λ (l : List (ℕ × ℕ)). Rise (λ s. s.0) l) (sym same) (rise_shape a fits.rise));
  bytes = bytes;
  sizes = shape_sizes b (subst (All IsSmall) (sym same) (sizes_shape a fits.sizes));
}

-- ---- places

-- each mapped address lies inside its object
pub inside_of : (memory : List (ℕ × List ℕ)) (maps : List Mapping) → TableFits memory maps → AllInside memory maps
inside_of memory maps fits a m found =
    let here = found_has (λ n. 4096 * (n.first + n.pages) ≤ length (bytes_in memory n.object)) (has a) maps m fits.inside found in
    let low : m.start ≤ a = grind (arith, here.1) in
    let high : a < end_of m = grind (arith, here.1) in
    omega (arith, here.0, low, high)

-- ---- valid groups

abbrev HasBytes : ℕ × List ℕ → Type 0
HasBytes o = AreBytes o.1

abbrev whole : ObjectRec → ℕ × ℕ
whole o = (o.number, 4096 * o.pages)

shape_is : (objects : List ObjectRec) (memory : List (ℕ × List ℕ)) → AllZip IsObject objects memory → shape memory ≡ map whole objects
shape_is [] [] zip = refl
shape_is [] (e ∷ es) zip = absurd zip
shape_is (o ∷ os) [] zip = absurd zip
shape_is (o ∷ os) (e ∷ es) zip =
    ap (λ (n : ℕ). (n, length e.1) ∷ shape es) zip.0.0 ∙ ap (λ (n : ℕ). (o.number, n) ∷ shape es) zip.0.1 ∙ ap (λ (l : List (ℕ × ℕ)). whole o ∷ l) (shape_is os es zip.1)

zip_bytes : (objects : List ObjectRec) (memory : List (ℕ × List ℕ)) → AllZip IsObject objects memory → All HasBytes memory
zip_bytes [] [] zip = All-nil HasBytes
zip_bytes [] (e ∷ es) zip = absurd zip
zip_bytes (o ∷ os) [] zip = absurd zip
zip_bytes (o ∷ os) (e ∷ es) zip = All-cons HasBytes e es zip.0.2 (zip_bytes os es zip.1)

rise_whole : (objects : List ObjectRec) → Rise (λ o. o.number) objects → Rise (λ s. s.0) (map whole objects)
unfolding Rise
rise_whole objects rise i j d less end =
    let o : ObjectRec = record { number = 0; pages = 0 } in
    let lt : j < length objects = omega (arith, end, length-map objects whole) in
    let low : (get_or (map whole objects) i d).0 ≡ (get_or objects i o).number = ap (λ (s : ℕ × ℕ). s.0) (get_or-map whole objects i o d (omega (arith, less, lt))) in
    let high : (get_or (map whole objects) j d).0 ≡ (get_or objects j o).number = ap (λ (s : ℕ × ℕ). s.0) (get_or-map whole objects j o d lt) in
    omega (arith, low, high, rise i j o less lt)

sizes_whole : (objects : List ObjectRec) → All (λ o. o.pages ≤ 16384) objects → All IsSmall (map whole objects)
sizes_whole objects small k d end =
    let o : ObjectRec = record { number = 0; pages = 0 } in
    let lt : k < length objects = omega (arith, end, length-map objects whole) in
    let e : (get_or (map whole objects) k d).1 ≡ 4096 * (get_or objects k o).pages = ap (λ (s : ℕ × ℕ). s.1) (get_or-map whole objects k o d lt) in
    omega (arith, e, small k o lt)

inside_whole : (objects : List ObjectRec) (memory : List (ℕ × List ℕ)) (m : Mapping) → Rise (λ o. o.number) objects → AllZip IsObject objects memory → IsInside objects m → 4096 * (m.first + m.pages) ≤ length (bytes_in memory m.object)
unfolding IsInside
inside_whole objects memory m rise zip (k, o, lt, at, holds) =
    let sizes = map whole objects in
    let here : get_or sizes k (0, 0) ≡ whole (get_or objects k o) = get_or-map whole objects k o (0, 0) lt in
    let mine : get_or sizes k (0, 0) ≡ whole o = here ∙ ap whole at in
    let number : (get_or sizes k (0, 0)).0 ≡ m.object = ap (λ (s : ℕ × ℕ). s.0) mine ∙ holds.0 in
    let found : find (λ s. s.0 == m.object) sizes ≡ Some (whole o) = entry_at sizes k m.object (0, 0) (rise_whole objects rise) (omega (arith, lt, length-map objects whole)) number ∙ ap (λ (s : ℕ × ℕ). Some s) mine in
    let size : length (bytes_in memory m.object) ≡ 4096 * o.pages = size_is memory m.object ∙ ap (λ (l : List (ℕ × ℕ)). size_of (find (λ s. s.0 == m.object) l)) (shape_is objects memory zip) ∙ ap size_of found in
    omega (arith, size, holds.1)

fits_with : (g : Group) (p : Proc) → GroupIsValid g → All IsUserMapping p.maps → AreApart p.maps → All (IsInside g.frame.objects) p.maps → IsAlone p → TableFits g.memory p.maps
unfolding IsAlone
fits_with g p valid placed apart inside alone =
    let objects = valid.sound.frame.objects in
    let bytes = valid.sound.memory.bytes in
    record {
      placed = placed;
      apart = apart;
      unshared = alone.1;
      inside = All-weaker (IsInside g.frame.objects) (λ m. 4096 * (m.first + m.pages) ≤ length (bytes_in g.memory m.object)) (λ m h. inside_whole g.frame.objects g.memory m objects.rise bytes h) p.maps inside;
      rise = shape_rise g.memory (subst (λ (l : List (ℕ × ℕ)). Rise (λ s. s.0) l) (sym (shape_is g.frame.objects g.memory bytes)) (rise_whole g.frame.objects objects.rise));
      bytes = zip_bytes g.frame.objects g.memory bytes;
      sizes = shape_sizes g.memory (subst (All IsSmall) (sym (shape_is g.frame.objects g.memory bytes)) (sizes_whole g.frame.objects objects.sizes));
    }

-- the memory of the one process of a valid group
pub fits_of : (g : Group) (p : Proc) → GroupIsValid g → All IsAlone g.frame.procs → g.frame.procs ≡ p ∷ [] → TableFits g.memory p.maps
fits_of g p valid alone one =
    let frame = valid.sound.frame in
    fits_with g p valid (head (λ (q : Proc). All IsUserMapping q.maps) frame.procs.placed) (head (λ (q : Proc). AreApart q.maps) frame.procs.apart) (head (λ (q : Proc). All (IsInside g.frame.objects) q.maps) frame.maps.inside) (head IsAlone alone)
  where
    head : (P : Proc → Type 0) → All P g.frame.procs → P p
    head P all = All-head P p [] (subst (All P) one all)
