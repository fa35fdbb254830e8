-- Stores that go over the end of a page.
use Rattle.std.proofs.Common.{◌≡◌, ℕ, zero, suc, ◌+◌, ◌^◌, ◌<◌, ◌≤◌, ◌&&◌, Bool, true, false, List, [], ◌∷◌, length, take, drop, Option, Some, None, refl, sym, ap, ◌∙◌, arith}
use Rattle.std.specs.Prelude.{is_some, Result, Ok, Err, IfOk, MatchBool}
use Rattle.std.proofs.lemmas.List.{take-append-drop, length-take-le}
use Rattle.std.specs.Option.{option_map}
use Rattle.rv64_isa.specs.Memory.{Cells, byte_of, both, bytes_with, can_write, poked, stored}
use Rattle.rv64_isa.specs.Numbers.{number_of, wrapped}
use Rattle.rv64_isa.specs.PlaceLaws.{bytes_with-wrapped, can_write-poked}
use Rattle.address_maps.specs.declared.maps.Mapping.{Mapping}
use Rattle.proc_lease.specs.Private.{ObjectView, private_in, stored_into, PrivateFits}
use Rattle.proc_lease.proofs.StoredCells.{is_some-both, stored_seen}
use Rattle.proc_lease.proofs.Runs.{stored_after, wrapped_start}

and_assoc : (x y z : Bool) → (x && (y && z)) ≡ ((x && y) && z)
and_assoc true y z = refl
and_assoc false y z = refl

-- bytes that can be stored, in two parts
can_parts : (cells : Cells) (a k n : ℕ) → can_write cells a (k + n) ≡ (can_write cells a k && can_write cells (a + k) n)
unfolding bytes_with
can_parts cells a zero n =
    let here : a ≡ a + 0 = omega arith in
    let none : 0 + n ≡ n = omega arith in
    ap (can_write cells a) none ∙ ap (λ (i : ℕ). can_write cells i n) here
can_parts cells a (suc k) n =
    let more : suc k + n ≡ suc (k + n) = omega arith in
    let at : a + 1 + k ≡ a + suc k = omega arith in
    let first : Bool = is_some (byte_of 2 (cells (wrapped a))) in
    ap (can_write cells a) more
    ∙ is_some-both (byte_of 2 (cells (wrapped a))) (bytes_with 2 cells (a + 1) (k + n))
    ∙ ap (λ t. first && t) (can_parts cells (a + 1) k n)
    ∙ and_assoc first (can_write cells (a + 1) k) (can_write cells (a + 1 + k) n)
    ∙ ap (λ t. t && can_write cells (a + 1 + k) n) (sym (is_some-both (byte_of 2 (cells (wrapped a))) (bytes_with 2 cells (a + 1) k)))
    ∙ ap (λ (i : ℕ). can_write cells a (suc k) && can_write cells i n) at

-- ... the second from the address behind the first
pub can_both : (cells : Cells) (a k n whole : ℕ) → whole ≡ k + n → can_write cells a whole ≡ (can_write cells a k && can_write cells (wrapped (a + k)) n)
can_both cells a k n whole is =
    ap (can_write cells a) is ∙ can_parts cells a k n ∙ ap (λ (o : Option (List ℕ)). can_write cells a k && is_some o) (sym (bytes_with-wrapped 2 cells (a + k) n))

and_parts : (x y : Bool) → (x && y) ≡ true → (x ≡ true) × (y ≡ true)
and_parts true y is = (refl, is)
and_parts false y is = absurd cc

pub can_each : (cells : Cells) (a k n whole : ℕ) → whole ≡ k + n → can_write cells a whole ≡ true → (can_write cells a k ≡ true) × (can_write cells (wrapped (a + k)) n ≡ true)
can_each cells a k n whole is can = and_parts (can_write cells a k) (can_write cells (wrapped (a + k)) n) (sym (can_both cells a k n whole is) ∙ can)

-- what is stored takes no right away
pub can_write-stored : (cells : Cells) (a : ℕ) (bytes : List ℕ) (at n : ℕ) → can_write (stored cells a bytes) at n ≡ can_write cells at n
unfolding stored
can_write-stored cells a [] at n = refl
can_write-stored cells a (b ∷ bs) at n = can_write-stored (poked cells (wrapped a) b) (a + 1) bs at n ∙ can_write-poked cells (wrapped a) b at n

pub can_after : (objects : List ObjectView) (maps : List Mapping) (a : ℕ) (bytes : List ℕ) (at n : ℕ) → PrivateFits objects maps → can_write (private_in objects maps) a (length bytes) ≡ true → can_write (private_in (stored_into objects maps a bytes) maps) at n ≡ can_write (private_in objects maps) at n
can_after objects maps a bytes at n fits can = ap (λ (c : Cells). can_write c at n) (stored_seen objects maps a bytes fits can) ∙ can_write-stored (private_in objects maps) a bytes at n

-- one part stored after the other
pub both_stored : (objects : List ObjectView) (maps : List Mapping) (a k : ℕ) (bytes : List ℕ) → k ≤ length bytes → stored_into (stored_into objects maps a (take k bytes)) maps (wrapped (a + k)) (drop k bytes) ≡ stored_into objects maps a bytes
both_stored objects maps a k bytes le =
    let size : length (take k bytes) ≡ k = length-take-le k bytes le in
    wrapped_start (stored_into objects maps a (take k bytes)) maps (a + k) (drop k bytes)
    ∙ ap (λ (i : ℕ). stored_into (stored_into objects maps a (take k bytes)) maps (a + i) (drop k bytes)) (sym size)
    ∙ sym (stored_after objects maps a (take k bytes) (drop k bytes))
    ∙ ap (stored_into objects maps a) (take-append-drop k bytes)

-- what is seen after a call that stores or doesn't
pub seen_after : {E : Type 0} (r : Result Bool E) (old new : List ObjectView) (maps maps' : List Mapping) (a : ℕ) (bytes : List ℕ) → PrivateFits old maps → maps' ≡ maps → IfOk r (λ able. able ≡ can_write (private_in old maps) a (length bytes)) → IfOk r (λ able. MatchBool able (new ≡ stored_into old maps a bytes) (new ≡ old))
    → IfOk r (λ able. MatchBool able (private_in new maps' ≡ stored (private_in old maps) a bytes) (private_in new maps' ≡ private_in old maps))
seen_after (Ok true) old new maps maps' a bytes fits same able is =
    ap (private_in new) same ∙ ap (λ (l : List ObjectView). private_in l maps) is ∙ stored_seen old maps a bytes fits (sym able)
seen_after (Ok false) old new maps maps' a bytes fits same able is = ap (private_in new) same ∙ ap (λ (l : List ObjectView). private_in l maps) is
seen_after (Err e) old new maps maps' a bytes fits same able is = tt

-- ---- one byte read

number_byte : (o : Option ℕ) → option_map number_of (both o (Some [])) ≡ o
unfolding number_of
number_byte None = refl
number_byte (Some b) = ap Some (omega arith)

-- the number in one byte is the byte
pub one_byte : (right : ℕ) (cells : Cells) (a : ℕ) → a < 2 ^ 64 → option_map number_of (bytes_with right cells a 1) ≡ byte_of right (cells a)
unfolding bytes_with
one_byte right cells a small = let here : wrapped a ≡ a = omega arith in number_byte (byte_of right (cells (wrapped a))) ∙ ap (λ (i : ℕ). byte_of right (cells i)) here
