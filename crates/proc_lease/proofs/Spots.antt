-- The place of a byte, and the bytes behind it in its page.
use Rattle.std.proofs.Common.{◌≡◌, ℕ, zero, suc, ◌+◌, ◌*◌, ◌%◌, ◌^◌, ◌<◌, ◌≤◌, Bool, true, false, not, List, [], ◌++◌, length, take, drop, Option, Some, None, refl, sym, ap, ◌∙◌, subst, arith, is_some, All, get_or}
use Rattle.std.specs.Prelude.{slice_index, is_none, IfSome, IfNone}
use Rattle.address_maps.specs.declared.maps.Mapping.{Mapping}
use Rattle.address_maps.specs.Mappings.{AreApart, IsMapping, end_of, has, mapping_at}
use Rattle.group_defs.specs.Cells.{bytes_in, cells_of, object_place}
use Rattle.rv64_isa.specs.Memory.{both, byte_with, bytes_with}
use Rattle.rv64_isa.specs.Numbers.{has_bit, wrapped}
use Rattle.proc_lease.specs.Sight.{IsSpot, SeenFits, SeenObjects, cells_seen, has_object, is_able, with_stored_in}
use Rattle.proc_lease.proofs.ObjectLists.{bytes_first, bytes_second, none_stored_to, stored_there}
use Rattle.proc_lease.proofs.Rights.{cell_at}
use Rattle.proc_lease.specs.Private.{ObjectView, bytes_into, memory_of, stored_into}
use Rattle.proc_lease.proofs.Mapped.{all_with, along, found_has}
use Rattle.proc_lease.proofs.Runs.{run_is}
use Rattle.proc_lease.proofs.Stores.{sizes_stored}

pub when_some : {X : Type 0} (o : Option X) (P : X → Type 0) (Q : Type 0) → IfSome o P → is_none o ≡ false → ((x : X) → P x → Q) → Q
when_some None P Q p is f = absurd cc
when_some (Some x) P Q p is f = f x p

pub when_none : {X : Type 0} (o : Option X) (Q : Type 0) → IfNone o Q → is_none o ≡ true → Q
when_none None Q q is = q
when_none (Some x) Q q is = absurd cc

-- each byte has the right
pub all_able : (maps : List Mapping) (right a n : ℕ) (m : Mapping) → ((k : ℕ) → k < n → mapping_at maps (a + k) ≡ Some m) → has_bit m.prot right ≡ true → a + n ≤ 2 ^ 64 → is_able maps right a n ≡ true
unfolding bytes_with
all_able maps right a zero m each able small = refl
all_able maps right a (suc n) m each able small =
    let here : wrapped a ≡ a + 0 = omega (arith, small) in
    let byte : byte_with right (cells_of [] maps) (wrapped a) ≡ Some (slice_index (bytes_in [] m.object) (object_place m (a + 0))) =
    ap (λ (at : ℕ). byte_with right (cells_of [] maps) at) here ∙ cell_at [] maps (a + 0) right m true (each 0 (omega arith)) able in
    let later : (k : ℕ) → k < n → mapping_at maps (a + 1 + k) ≡ Some m = λ k lt. let next : a + 1 + k ≡ a + suc k = omega arith in ap (mapping_at maps) next ∙ each (suc k) (omega (arith, lt)) in
    ap (λ o. is_some (both o (bytes_with right (cells_of [] maps) (a + 1) n))) byte
    ∙ one (slice_index (bytes_in [] m.object) (object_place m (a + 0))) (bytes_with right (cells_of [] maps) (a + 1) n)
    ∙ all_able maps right (a + 1) n m later able (omega (arith, small))
  where
    one : (b : ℕ) (o : Option (List ℕ)) → is_some (both (Some b) o) ≡ is_some o
    one b None = refl
    one b (Some bs) = refl

module _ (maps : List Mapping) (each : All IsMapping maps) (apart : AreApart maps) (right a object place : ℕ) (shared : Bool) (is : IsSpot maps right a object place shared) (n : ℕ) (one : a % 4096 + n ≤ 4096) where
  abbrev m : Mapping
  m = is.mapping

  placed : IsMapping m × (has a m ≡ true)
  placed = found_has IsMapping (has a) maps m each is.is

  pub starts_by : m.start ≤ a
  starts_by = grind (arith, placed.1)

  past : a < end_of m
  past = grind (arith, placed.1)

  pub room : a + n ≤ end_of m
  unfolding IsMapping
  room = let aligned : m.start % 4096 ≡ 0 = placed.0.0 in omega (arith, aligned, past, starts_by, one)

  pub small : a + n ≤ 2 ^ 38
  unfolding IsMapping
  small = let end : end_of m ≤ 2 ^ 38 = placed.0.3 in omega (arith, end, room)

  pub mapped : (k : ℕ) → k < n → mapping_at maps (a + k) ≡ Some m
  mapped k less = along maps a k m apart is.is (omega (arith, room, less))

  pub mapped_wrapped : (k : ℕ) → k < n → mapping_at maps (wrapped (a + k)) ≡ Some m
  mapped_wrapped k less = let e : wrapped (a + k) ≡ a + k = omega (arith, small, less) in ap (mapping_at maps) e ∙ mapped k less

  -- all bytes of the page have the right, or none
  pub spot_able : is_able maps right a n ≡ true
  spot_able = all_able maps right a n m mapped is.able (omega (arith, small))

  pub place_end : place + n ≤ 4096 * (m.first + m.pages)
  place_end = omega (arith, room, starts_by, is.place_is)

module _ (t : SeenObjects) (fits : SeenFits t) (right a object place : ℕ) (shared : Bool) (is : IsSpot t.maps right a object place shared) (n : ℕ) (one : a % 4096 + n ≤ 4096) where
  abbrev mapping : Mapping
  mapping = is.mapping

  within : 4096 * (mapping.first + mapping.pages) ≤ length (bytes_in (memory_of (t.private ++ t.public)) mapping.object)
  within = (found_has (λ x. 4096 * (x.first + x.pages) ≤ length (bytes_in (memory_of (t.private ++ t.public)) x.object)) (has a) t.maps mapping fits.inside is.is).0

  side : has_object t.private mapping.object ≡ not shared
  side = (found_has (λ x. has_object t.private x.object ≡ not x.shared) (has a) t.maps mapping fits.sides is.is).0 ∙ ap not (sym is.shared_is)

  all_within : place + n ≤ length (bytes_in (memory_of (t.private ++ t.public)) mapping.object)
  all_within = omega (arith, within, place_end t.maps fits.each fits.apart right a object place shared is n one)

  bytes_are : bytes_with right (cells_seen t) a n ≡ Some (take n (drop place (bytes_in (memory_of (t.private ++ t.public)) mapping.object)))
  bytes_are = all_with right (cells_seen t) (bytes_in (memory_of (t.private ++ t.public)) mapping.object) a place n byte (omega (arith, small t.maps fits.each fits.apart right a object place shared is n one)) all_within
    where
      byte : (k : ℕ) → k < n → byte_with right (cells_seen t) (a + k) ≡ Some (slice_index (bytes_in (memory_of (t.private ++ t.public)) mapping.object) (place + k))
      byte k less =
          let at : object_place mapping (a + k) ≡ place + k = omega (arith, is.place_is, starts_by t.maps fits.each fits.apart right a object place shared is n one) in
          cell_at (memory_of (t.private ++ t.public)) t.maps (a + k) right mapping true (mapped t.maps fits.each fits.apart right a object place shared is n one k less) is.able
          ∙ ap (λ (i : ℕ). Some (slice_index (bytes_in (memory_of (t.private ++ t.public)) mapping.object) i)) at

  -- of a private mapping
  module _ (own : shared ≡ false) where
    here : has_object t.private mapping.object ≡ true
    here = side ∙ ap not own

    bytes_here : bytes_in (memory_of (t.private ++ t.public)) mapping.object ≡ bytes_in (memory_of t.private) object
    bytes_here = bytes_first t.private t.public mapping.object here ∙ ap (bytes_in (memory_of t.private)) (sym is.object_is)

    pub inside_private : place + n ≤ length (bytes_in (memory_of t.private) object)
    inside_private = let same : length (bytes_in (memory_of (t.private ++ t.public)) mapping.object) ≡ length (bytes_in (memory_of t.private) object) = ap length bytes_here in omega (arith, same, all_within)

    pub read_private : bytes_with right (cells_seen t) a n ≡ Some (take n (drop place (bytes_in (memory_of t.private) object)))
    read_private = bytes_are ∙ ap (λ (l : List ℕ). Some (take n (drop place l))) bytes_here

    pub not_public : has_object t.public object ≡ false
    not_public = fits.once object (ap (has_object t.private) is.object_is ∙ here)

    pub store_private : (bytes : List ℕ) → length bytes ≡ n → stored_into t.private t.maps a bytes ≡ bytes_into t.private object place bytes
    store_private bytes size =
        let inside : place + length bytes ≤ length (bytes_in (memory_of t.private) mapping.object) = omega (arith, size, inside_private, ap (λ (o : ℕ). length (bytes_in (memory_of t.private) o)) is.object_is) in
        run_is t.private t.maps a place mapping bytes (λ k lt. mapped t.maps fits.each fits.apart right a object place shared is n one k (omega (arith, size, lt))) (starts_by t.maps fits.each fits.apart right a object place shared is n one) (sym is.place_is)
        (omega (arith, size, small t.maps fits.each fits.apart right a object place shared is n one)) inside
        ∙ ap (λ (o : ℕ). bytes_into t.private o place bytes) (sym is.object_is)

    pub leave_public : (bytes : List ℕ) → length bytes ≡ n → stored_into t.public t.maps a bytes ≡ t.public
    leave_public bytes size =
        none_stored_to t.public t.maps a bytes mapping (λ k lt. mapped_wrapped t.maps fits.each fits.apart right a object place shared is n one k (omega (arith, size, lt))) (ap (has_object t.public) (sym is.object_is) ∙ not_public)

  -- of a shared one
  module _ (other : shared ≡ true) where
    not_private : has_object t.private mapping.object ≡ false
    not_private = side ∙ ap not other

    bytes_there : bytes_in (memory_of (t.private ++ t.public)) mapping.object ≡ bytes_in (memory_of t.public) object
    bytes_there = bytes_second t.private t.public mapping.object not_private ∙ ap (bytes_in (memory_of t.public)) (sym is.object_is)

    pub inside_public : place + n ≤ length (bytes_in (memory_of t.public) object)
    inside_public = let same : length (bytes_in (memory_of (t.private ++ t.public)) mapping.object) ≡ length (bytes_in (memory_of t.public) object) = ap length bytes_there in omega (arith, same, all_within)

    pub read_public : bytes_with right (cells_seen t) a n ≡ Some (take n (drop place (bytes_in (memory_of t.public) object)))
    read_public = bytes_are ∙ ap (λ (l : List ℕ). Some (take n (drop place l))) bytes_there

    pub isnt_private : has_object t.private object ≡ false
    isnt_private = ap (has_object t.private) is.object_is ∙ not_private

    pub store_public : (bytes : List ℕ) → length bytes ≡ n → stored_into t.public t.maps a bytes ≡ bytes_into t.public object place bytes
    store_public bytes size =
        let inside : place + length bytes ≤ length (bytes_in (memory_of t.public) mapping.object) = omega (arith, size, inside_public, ap (λ (o : ℕ). length (bytes_in (memory_of t.public) o)) is.object_is) in
        run_is t.public t.maps a place mapping bytes (λ k lt. mapped t.maps fits.each fits.apart right a object place shared is n one k (omega (arith, size, lt))) (starts_by t.maps fits.each fits.apart right a object place shared is n one) (sym is.place_is)
        (omega (arith, size, small t.maps fits.each fits.apart right a object place shared is n one)) inside
        ∙ ap (λ (o : ℕ). bytes_into t.public o place bytes) (sym is.object_is)

    pub leave_private : (bytes : List ℕ) → length bytes ≡ n → stored_into t.private t.maps a bytes ≡ t.private
    leave_private bytes size =
        none_stored_to t.private t.maps a bytes mapping (λ k lt. mapped_wrapped t.maps fits.each fits.apart right a object place shared is n one k (omega (arith, size, lt))) not_private

-- ---- what goes on fitting

pub same_fits : (t u : SeenObjects) → u.maps ≡ t.maps → ((number : ℕ) → has_object u.private number ≡ has_object t.private number) → ((number : ℕ) → has_object u.public number ≡ has_object t.public number)
    → ((number : ℕ) → length (bytes_in (memory_of u.private) number) ≡ length (bytes_in (memory_of t.private) number)) → ((number : ℕ) → length (bytes_in (memory_of u.public) number) ≡ length (bytes_in (memory_of t.public) number)) → SeenFits t → SeenFits u
same_fits t u maps mine theirs my_sizes their_sizes fits = record {
  each = subst (λ (l : List Mapping). All IsMapping l) (sym maps) fits.each;
  apart = subst (λ (l : List Mapping). AreApart l) (sym maps) fits.apart;
  inside = subst (λ (l : List Mapping). All (λ m. 4096 * (m.first + m.pages) ≤ length (bytes_in (memory_of (u.private ++ u.public)) m.object)) l) (sym maps) (λ k d lt. omega (arith, sizes (get_or t.maps k d).object, fits.inside k d lt));
  sides = subst (λ (l : List Mapping). All (λ m. has_object u.private m.object ≡ not m.shared) l) (sym maps) (λ k d lt. mine (get_or t.maps k d).object ∙ fits.sides k d lt);
  once = λ number is. theirs number ∙ fits.once number (sym (mine number) ∙ is);
}
  where
    sizes : (number : ℕ) → length (bytes_in (memory_of (u.private ++ u.public)) number) ≡ length (bytes_in (memory_of (t.private ++ t.public)) number)
    sizes number = by_side (has_object t.private number) refl
      where
        by_side : (b : Bool) → has_object t.private number ≡ b → length (bytes_in (memory_of (u.private ++ u.public)) number) ≡ length (bytes_in (memory_of (t.private ++ t.public)) number)
        by_side true is = ap length (bytes_first u.private u.public number (mine number ∙ is)) ∙ my_sizes number ∙ sym (ap length (bytes_first t.private t.public number is))
        by_side false is = ap length (bytes_second u.private u.public number (mine number ∙ is)) ∙ their_sizes number ∙ sym (ap length (bytes_second t.private t.public number is))

pub stored_fits : (t : SeenObjects) (a : ℕ) (bytes : List ℕ) → SeenFits t → SeenFits (with_stored_in t a bytes)
stored_fits t a bytes fits =
    same_fits t (with_stored_in t a bytes) refl (stored_there t.private t.maps a bytes) (stored_there t.public t.maps a bytes) (sizes_stored t.private t.maps a bytes) (sizes_stored t.public t.maps a bytes) fits

abbrev pub seen_with : List ObjectView → List ObjectView → List Mapping → SeenObjects
seen_with private public maps = record { private = private; public = public; maps = maps }
