-- In a valid group each mapped address lies inside its object.
use Rattle.std.proofs.Common.{◌≡◌, ℕ, zero, suc, ◌+◌, ◌*◌, ◌<◌, ◌≤◌, ◌==◌, Bool, true, false, List, [], ◌∷◌, length, get_or, Some, refl, ap, sym, ◌∙◌, subst, arith}
use Rattle.std.specs.Prelude.{if◌then◌else◌, All, AllPairs}
use Rattle.std.specs.List.{find, AllZip}
use Rattle.group_defs.specs.declared.frame.ObjectRec.{ObjectRec}
use Rattle.group_defs.specs.declared.frame.Proc.{Proc}
use Rattle.address_maps.specs.declared.maps.Mapping.{Mapping}
use Rattle.address_maps.specs.Mappings.{has}
use Rattle.group_defs.specs.Cells.{object_place, bytes_in, AllInside}
use Rattle.group_defs.specs.Group.{Group, runner, is_runner}
use Rattle.group_defs.specs.Mappings.{IsUserMapping, IsInside}
use Rattle.tables.specs.Rising.{Rise}
use Rattle.group_defs.specs.Valid.{IsObject, GroupIsValid}

-- what is found has what each element has, and passes the test
pub found_has : {X : Type 0} (P : X → Type 0) (t : X → Bool) (xs : List X) (y : X) → All P xs → find t xs ≡ Some y → P y × (t y ≡ true)
found_has P t [] y all e = absurd (cc)
found_has P t (x ∷ xs) y all e = by_test (t x) refl (found_has P t xs y (λ k d lt. all (suc k) d (omega (arith, lt)))) e
  where
    by_test : (b : Bool) → t x ≡ b → (find t xs ≡ Some y → P y × (t y ≡ true)) → (if b then Some x else find t xs) ≡ Some y → P y × (t y ≡ true)
    by_test true is rest e = let same : x ≡ y = cc in (subst P same (all 0 x (omega arith)), ap t (sym same) ∙ is)
    by_test false is rest e = rest e

-- the bytes under an object's number are its pages
pub object_bytes : (objects : List ObjectRec) (memory : List (ℕ × List ℕ)) (n k : ℕ) (d : ObjectRec) → AllZip IsObject objects memory → AllPairs (λ (a b : ObjectRec). a.number < b.number) objects → k < length objects → (get_or objects k d).number ≡ n → length (bytes_in memory n) ≡ 4096 * (get_or objects k d).pages
object_bytes [] memory n k d zip rise lt is = absurd (omega (arith, lt))
object_bytes (o ∷ os) [] n k d zip rise lt is = absurd zip
object_bytes (o ∷ os) (e ∷ es) n zero d zip rise lt is =
    let hit : e.0 ≡ n = zip.0.0 ∙ is in
    let test : (e.0 == n) ≡ true = grind (arith, hit) in
    rw (bytes_in, test) zip.0.1
object_bytes (o ∷ os) (e ∷ es) n (suc k) d zip rise lt is =
    let below : o.number < (get_or os k d).number = rise 0 (suc k) d (omega arith) lt in
    let other : e.0 ≡ n → ⊥ = λ same. omega (arith, same, below, is, zip.0.0) in
    let test : (e.0 == n) ≡ false = grind (arith, other) in
    rw (bytes_in, test) (object_bytes os es n k d zip.1 (λ i j x less end. rise (suc i) (suc j) x (omega (arith, less)) (omega (arith, end))) (omega (arith, lt)) is)

inside_of : (g : Group) (valid : GroupIsValid g) (m : Mapping) (a : ℕ) → IsUserMapping m → IsInside g.frame.objects m → has a m ≡ true → object_place m a < length (bytes_in g.memory m.object)
unfolding IsUserMapping IsInside Rise
inside_of g valid m a placed (k, o, lt, at, holds) hit =
    let size : length (bytes_in g.memory m.object) ≡ 4096 * (get_or g.frame.objects k o).pages = object_bytes g.frame.objects g.memory m.object k o valid.sound.memory.bytes valid.sound.frame.objects.rise lt (ap (λ (x : ObjectRec). x.number) at ∙ holds.0) in
    let pages : (get_or g.frame.objects k o).pages ≡ o.pages = ap (λ (x : ObjectRec). x.pages) at in
    let low : m.start ≤ a = grind (arith, hit) in
    let high : a < m.start + 4096 * m.pages = grind (arith, hit) in
    omega (arith, size, pages, low, high, holds.1)

pub valid_inside : (g : Group) (pid : ℕ) (p : Proc) → GroupIsValid g → runner g pid ≡ Some p → AllInside g.memory p.maps
unfolding runner
valid_inside g pid p valid is a m found =
    let placed = (found_has (λ p. All IsUserMapping p.maps) (is_runner pid) g.frame.procs p valid.sound.frame.procs.placed is).0 in
    let inside = (found_has (λ p. All (IsInside g.frame.objects) p.maps) (is_runner pid) g.frame.procs p valid.sound.frame.maps.inside is).0 in
    let here = found_has IsUserMapping (has a) p.maps m placed found in
    inside_of g valid m a here.0 (found_has (IsInside g.frame.objects) (has a) p.maps m inside found).0 here.1
