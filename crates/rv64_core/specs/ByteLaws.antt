-- Numbers in bytes, and bytes of a flat memory.
use Rattle.std.proofs.Common.{◌≡◌, ℕ, suc, ◌+◌, ◌-◌, ◌*◌, ◌/◌, ◌^◌, ◌<◌, ◌≤◌, ◌==◌, Bool, true, false, List, [], ◌∷◌, length, get_or, take, drop, Option, Some, None, refl, sym, ap, ◌∙◌, ◌≢◌, arith, get_or-set_same, get_or-set_other}
use Rattle.std.specs.Prelude.{if◌then◌else◌, nat_lt, slice_index, slice_set}
use Rattle.std.specs.Option.{option_map}
use Rattle.std.proofs.lemmas.List.{length-set, take_all}
use Rattle.std.proofs.lemmas.Nat.{pow-add}
use Rattle.std.proofs.Math.Path.{fun_ext}
use Rattle.std.proofs.Math.Pow.{pow_mono}
use Rattle.rv64_isa.specs.Memory.{Cell, Cells, byte_of, both, bytes_with, is_same_place, poked, stored}
use Rattle.rv64_isa.specs.Numbers.{wrapped, number_of}
use Rattle.rv64_isa.specs.PlaceLaws.{bytes_with-wrapped}
use Rattle.rv64_core.specs.Flat.{flat_cells}

abbrev number_at : ℕ → Cells → ℕ → ℕ → Option ℕ
number_at right cells a n = option_map number_of (bytes_with right cells a n)

abbrev with_low : Option ℕ → Option ℕ → Option ℕ
with_low None high = None
with_low (Some low) high = option_map (λ v. low + 256 * v) high

number_both : (low : Option ℕ) (r : Option (List ℕ)) → option_map number_of (both low r) ≡ with_low low (option_map number_of r)
unfolding number_of
number_both None r = refl
number_both (Some low) None = refl
number_both (Some low) (Some bs) = refl

number_cons : (right : ℕ) (cells : Cells) (a n k : ℕ) → a < 2 ^ 64 → n ≡ suc k → number_at right cells a n ≡ with_low (byte_of right (cells a)) (number_at right cells (wrapped (a + 1)) k)
unfolding bytes_with
number_cons right cells a n k small e =
    let here : wrapped a ≡ a = omega arith in
    ap (number_at right cells a) e ∙ number_both (byte_of right (cells (wrapped a))) (bytes_with right cells (a + 1) k)
    ∙ ap (λ at. with_low (byte_of right (cells at)) (number_at right cells (a + 1) k)) here
    ∙ ap (λ r. with_low (byte_of right (cells a)) (option_map number_of r)) (sym (bytes_with-wrapped right cells (a + 1) k))

pub number_none : (right : ℕ) (cells : Cells) (a n k : ℕ) → a < 2 ^ 64 → n ≡ suc k → byte_of right (cells a) ≡ None → number_at right cells a n ≡ None
number_none right cells a n k small e p = number_cons right cells a n k small e ∙ ap (λ o. with_low o (number_at right cells (wrapped (a + 1)) k)) p

pub number_high : (right : ℕ) (cells : Cells) (a n k low : ℕ) → a < 2 ^ 64 → n ≡ suc k → byte_of right (cells a) ≡ Some low → number_at right cells (wrapped (a + 1)) k ≡ None → number_at right cells a n ≡ None
number_high right cells a n k low small e p q =
    number_cons right cells a n k small e ∙ ap (λ o. with_low o (number_at right cells (wrapped (a + 1)) k)) p ∙ ap (with_low (Some low)) q

pub number_more : (right : ℕ) (cells : Cells) (a n k low high : ℕ) → a < 2 ^ 64 → n ≡ suc k → byte_of right (cells a) ≡ Some low → number_at right cells (wrapped (a + 1)) k ≡ Some high → number_at right cells a n ≡ Some (low + high * 256)
number_more right cells a n k low high small e p q =
    let same : low + 256 * high ≡ low + high * 256 = omega arith in
    number_cons right cells a n k small e ∙ ap (λ o. with_low o (number_at right cells (wrapped (a + 1)) k)) p ∙ ap (with_low (Some low)) q ∙ ap Some same

pub number_zero : (right : ℕ) (cells : Cells) (a n : ℕ) → n ≡ 0 → number_at right cells a n ≡ Some 0
unfolding bytes_with number_of
number_zero right cells a n e = ap (number_at right cells a) e

pub room : (n k low high : ℕ) → n ≡ suc k → low < 256 → high < 2 ^ (8 * k) → low + high * 256 < 2 ^ (8 * n)
room n k low high e p q =
    let same : 2 ^ (8 * n) ≡ 2 ^ (8 * k) * 256 = ap (λ i. 2 ^ i) (omega arith) ∙ pow-add 2 (8 * k) 8 in
    omega arith

pub bounded : (n k low high : ℕ) → n ≡ suc k → n ≤ 8 → low < 256 → high < 2 ^ (8 * k) → low + high * 256 < 2 ^ 64
bounded n k low high e p q r =
    let below : low + high * 256 < 2 ^ (8 * n) = room n k low high e q r in
    let few : 8 * n ≤ 64 = omega arith in
    let top : 2 ^ (8 * n) ≤ 2 ^ 64 = pow_mono few in
    omega arith

-- ---- stores

set_is : (bs : List ℕ) (a b x : ℕ) (t : Bool) → (a == x) ≡ t → a < length bs → slice_index (slice_set bs a b) x ≡ (if t then b else slice_index bs x)
set_is bs a b x true e within = let same : a ≡ x = grind (arith, e) in let lt : x < length bs = omega (arith, same, within) in rw same (rw get_or-set_same refl)
set_is bs a b x false e within = let other : x ≢ a = grind (arith, e) in rw get_or-set_other refl

abbrev cell_at : List ℕ → ℕ → ℕ → Cell
cell_at rights x byte = record { byte = byte; rights = slice_index rights (x / 4096); shared = false; object = 0; place = x }

seen : (rights bs : List ℕ) (x : ℕ) → x < length bs → flat_cells rights bs x ≡ Some (cell_at rights x (slice_index bs x))
seen rights bs x within = let e : nat_lt x (length bs) ≡ true = grind arith in rw e refl

changed : (rights : List ℕ) (x byte b new : ℕ) (hit : Bool) → new ≡ (if hit then b else byte) → Some (cell_at rights x new) ≡ Some (if hit then record (cell_at rights x byte) { byte = b } else cell_at rights x byte)
changed rights x byte b new true e = ap (λ v. Some (cell_at rights x v)) e
changed rights x byte b new false e = ap (λ v. Some (cell_at rights x v)) e

poked_at : (rights bs : List ℕ) (a b x : ℕ) (t : Bool) → a < length bs → nat_lt x (length bs) ≡ t →
    (if t then Some (cell_at rights x (slice_index (slice_set bs a b) x)) else None) ≡ option_map (λ c. if is_same_place (Some (cell_at rights a (slice_index bs a))) c then record c { byte = b } else c) (if t then Some (cell_at rights x (slice_index bs x)) else None)
poked_at rights bs a b x true within e = changed rights x (slice_index bs x) b (slice_index (slice_set bs a b) x) (a == x) (set_is bs a b x (a == x) refl within)
poked_at rights bs a b x false within e = refl

flat_set : (rights bs : List ℕ) (a b : ℕ) → a < length bs → flat_cells rights (slice_set bs a b) ≡ poked (flat_cells rights bs) a b
unfolding poked
flat_set rights bs a b within =
    fun_ext (λ x.
    ap (λ n. if nat_lt x n then Some (cell_at rights x (slice_index (slice_set bs a b) x)) else None) (length-set bs a b)
    ∙ poked_at rights bs a b x (nat_lt x (length bs)) within refl
    ∙ ap (λ o. option_map (λ c. if is_same_place o c then record c { byte = b } else c) (flat_cells rights bs x)) (sym (seen rights bs a within)))

pub stored_none : (rights bs : List ℕ) (a : ℕ) (new : List ℕ) → length new < 1 → flat_cells rights bs ≡ stored (flat_cells rights bs) a new
unfolding stored
stored_none rights bs a [] few = refl
stored_none rights bs a (b ∷ new) few = grind (arith, few)

pub stored_more : (rights bs : List ℕ) (a : ℕ) (new : List ℕ) → a < 2 ^ 64 → 1 ≤ length new → a + length new ≤ length bs →
    stored (flat_cells rights (slice_set bs a (get_or new 0 0))) (a + 1) (take (length new - 1) (drop 1 new)) ≡ stored (flat_cells rights bs) a new
unfolding stored
stored_more rights bs a [] small some within = grind (arith, some)
stored_more rights bs a (b ∷ new) small some within =
    let rest : take (length (b ∷ new) - 1) (drop 1 (b ∷ new)) ≡ new = take_all (length (b ∷ new) - 1) new (omega arith) in
    let here : wrapped a ≡ a = omega arith in
    ap (λ bytes. stored (flat_cells rights (slice_set bs a b)) (a + 1) bytes) rest
    ∙ ap (λ cells. stored cells (a + 1) new) (flat_set rights bs a b (omega arith) ∙ ap (λ at. poked (flat_cells rights bs) at b) (sym here))
