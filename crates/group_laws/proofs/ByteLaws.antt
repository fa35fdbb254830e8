-- Lists of bytes.
use Rattle.std.proofs.Common.{◌≡◌, ℕ, zero, suc, ◌+◌, ◌<◌, Bool, true, false, List, [], ◌∷◌, ◌++◌, length, take, drop, Option, Some, None, refl, subst, arith}
use Rattle.std.specs.Prelude.{◌==◌, All, find, if◌then◌else◌, slice_index}
use Rattle.std.specs.Int.{byte_at, bytes_low_first}
use Rattle.std.specs.List.{AllZip, flat_map}
use Rattle.std.specs.Option.{option_map}
use Rattle.std.proofs.lemmas.List.Elements.{All-append, All-cons, All-drop, All-nil, All-take}
use Rattle.address_maps.specs.Mappings.{mapping_at}
use Rattle.address_maps.specs.declared.maps.Mapping.{Mapping}
use Rattle.group_defs.specs.Calls.{stores}
use Rattle.group_defs.specs.Cells.{bytes_in, cell_in, cells_of, object_place}
use Rattle.group_defs.specs.Group.{Group}
use Rattle.group_defs.specs.Valid.{GroupIsValid, IsObject}
use Rattle.group_defs.specs.declared.frame.ObjectRec.{ObjectRec}
use Rattle.lists.specs.Bytes.{AreBytes}
use Rattle.rv64_isa.specs.Memory.{Cell, Write, both, byte_of, bytes_with}
use Rattle.rv64_isa.specs.Numbers.{bytes_of, has_bit, wrapped}
use Rattle.group_laws.proofs.Lists.{all_flat_map, found_all}

byte_small : (i v : ℕ) → byte_at i v < 256
byte_small zero v = omega arith
byte_small (suc i) v = omega arith

low_first : (i n v : ℕ) → AreBytes (bytes_low_first i n v)
unfolding AreBytes
low_first i zero v = All-nil (λ x. x < 256)
low_first i (suc n) v = All-cons (λ x. x < 256) (byte_at i v) (bytes_low_first (suc i) n v) (byte_small i v) (low_first (suc i) n v)

pub bytes_fit : (count n : ℕ) → AreBytes (bytes_of count n)
bytes_fit count n = low_first 0 count n

pub one_store : (to : ℕ) (bytes : List ℕ) → AreBytes bytes → All (λ w. AreBytes w.bytes) (stores to bytes)
one_store to bytes fit = All-cons (λ (w : Write). AreBytes w.bytes) (record { address = to; bytes = bytes }) [] fit (All-nil (λ (w : Write). AreBytes w.bytes))

pub take_fit : (n : ℕ) (bytes : List ℕ) → AreBytes bytes → AreBytes (take n bytes)
unfolding AreBytes
take_fit n bytes fit = All-take (λ b. b < 256) n bytes fit

pub drop_fit : (n : ℕ) (bytes : List ℕ) → AreBytes bytes → AreBytes (drop n bytes)
unfolding AreBytes
drop_fit n bytes fit = All-drop (λ b. b < 256) n bytes fit

pub append_fit : (xs ys : List ℕ) → AreBytes xs → AreBytes ys → AreBytes (xs ++ ys)
unfolding AreBytes
append_fit xs ys a b = All-append (λ b. b < 256) xs ys a b

pub numbers_fit : (numbers : List ℕ) → AreBytes (flat_map (bytes_of 4) numbers)
unfolding AreBytes
numbers_fit numbers = all_flat_map (λ (n : ℕ). Unit {0}) (λ b. b < 256) (bytes_of 4) (λ n u. bytes_fit 4 n) numbers (λ k d lt. tt)

-- what a process reads are bytes, and as many as it asks for
pub bytes_in_fit : (g : Group) (number : ℕ) → GroupIsValid g → AreBytes (bytes_in g.memory number)
unfolding AreBytes
bytes_in_fit g number v = by_entry (find (λ o. o.0 == number) g.memory) refl
  where
    each : (objects : List ObjectRec) (memory : List (ℕ × List ℕ)) → AllZip IsObject objects memory → All (λ o. AreBytes o.1) memory
    each [] [] zip = λ k d lt. absurd (omega (arith, lt))
    each [] (m ∷ ms) zip = absurd zip
    each (o ∷ os) [] zip = absurd zip
    each (o ∷ os) (m ∷ ms) zip = All-cons (λ (x : ℕ × List ℕ). AreBytes x.1) m ms zip.0.2 (each os ms zip.1)

    by_entry : (o : Option (ℕ × List ℕ)) → find (λ o. o.0 == number) g.memory ≡ o → AreBytes (elim o [ None ↦ [] | Some o ↦ o.1 ])
    by_entry None e = take_fit 0 [] (λ k d lt. absurd (omega (arith, lt)))
    by_entry (Some m) e = found_all (λ o. o.0 == number) (λ o. AreBytes o.1) g.memory m e (each g.frame.objects g.memory v.sound.memory.bytes)

cell_fits : (g : Group) (maps : List Mapping) (address : ℕ) (c : Cell) → GroupIsValid g → cells_of g.memory maps address ≡ Some c → c.byte < 256
unfolding cells_of AreBytes
cell_fits g maps address c v e = by_mapping (mapping_at maps address) e
  where
    byte : (xs : List ℕ) (i : ℕ) → All (λ b. b < 256) xs → slice_index xs i < 256
    byte [] i fit = omega arith
    byte (x ∷ xs) zero fit = fit 0 x (omega arith)
    byte (x ∷ xs) (suc i) fit = byte xs i (λ k d lt. fit (suc k) d (omega (arith, lt)))

    by_mapping : (o : Option Mapping) → elim o [ None ↦ None | Some m ↦ Some (cell_in g.memory address m) ] ≡ Some c → c.byte < 256
    by_mapping None e = absurd (cc)
    by_mapping (Some m) e = let is : cell_in g.memory address m ≡ c = cc in subst (λ x. x.byte < 256) is (byte (bytes_in g.memory m.object) (object_place m address) (bytes_in_fit g m.object v))

pub record IsRead (n : ℕ) (bytes : List ℕ) : Type 0 where
  pub count : length bytes ≡ n
  pub fit : AreBytes bytes

pub read_fits : (g : Group) (maps : List Mapping) (right address n : ℕ) (bytes : List ℕ) → GroupIsValid g → bytes_with right (cells_of g.memory maps) address n ≡ Some bytes → IsRead n bytes
unfolding bytes_with AreBytes
read_fits g maps right address zero bytes v e = let is : [] ≡ bytes = cc in subst (IsRead 0) is (record { count = refl; fit = λ k d lt. absurd (omega (arith, lt)) })
read_fits g maps right address (suc n) bytes v e = by_cell (cells_of g.memory maps (wrapped address)) refl (bytes_with right (cells_of g.memory maps) (address + 1) n) refl e (read_fits g maps right (address + 1) n)
  where
    joined : (b : ℕ) (r : Option (List ℕ)) → bytes_with right (cells_of g.memory maps) (address + 1) n ≡ r → b < 256 → option_map (λ bs. b ∷ bs) r ≡ Some bytes → ((bs : List ℕ) → GroupIsValid g → bytes_with right (cells_of g.memory maps) (address + 1) n ≡ Some bs → IsRead n bs) → IsRead (suc n) bytes
    joined b None r_is lt e more = absurd (cc)
    joined b (Some bs) r_is lt e more =
        let is : b ∷ bs ≡ bytes = cc in
        let rest = more bs v r_is in
        subst (IsRead (suc n)) is (record { count = let c = rest.count in omega (arith, c); fit = All-cons (λ x. x < 256) b bs lt rest.fit })

    by_right : (c : Cell) → cells_of g.memory maps (wrapped address) ≡ Some c → (t : Bool) → (r : Option (List ℕ)) → bytes_with right (cells_of g.memory maps) (address + 1) n ≡ r → both (if t then Some c.byte else None) r ≡ Some bytes → ((bs : List ℕ) → GroupIsValid g → bytes_with right (cells_of g.memory maps) (address + 1) n ≡ Some bs → IsRead n bs) → IsRead (suc n) bytes
    by_right c c_is true r r_is e more = joined c.byte r r_is (cell_fits g maps (wrapped address) c v c_is) e more
    by_right c c_is false r r_is e more = absurd (cc)

    by_cell : (o : Option Cell) → cells_of g.memory maps (wrapped address) ≡ o → (r : Option (List ℕ)) → bytes_with right (cells_of g.memory maps) (address + 1) n ≡ r → both (byte_of right o) r ≡ Some bytes → ((bs : List ℕ) → GroupIsValid g → bytes_with right (cells_of g.memory maps) (address + 1) n ≡ Some bs → IsRead n bs) → IsRead (suc n) bytes
    by_cell None o_is r r_is e more = absurd (cc)
    by_cell (Some c) o_is r r_is e more = by_right c o_is (has_bit c.rights right) r r_is e more
