-- The number that bytes spell.
use Rattle.std.proofs.Common.{◌≡◌, ℕ, suc, ◌+◌, ◌*◌, ◌^◌, ◌<◌, ◌≤◌, List, [], ◌∷◌, ◌++◌, length, get_or, drop, refl, arith, w8, w32, w64, Fits}
use Rattle.std.specs.Int.{from_le_bytes}
use Rattle.std.specs.Prelude.{slice_index}
use Rattle.std.proofs.lemmas.List.{get_or_default}
use Rattle.std.proofs.lemmas.List.Elements.{All-head, All-tail}
use Rattle.rv64_isa.specs.Numbers.{number_of}
use Rattle.rv64_core.specs.ByteLaws.{room}
use Rattle.lists.specs.Bytes.{AreBytes}

abbrev pub zeros : List ℕ
zeros = 0 ∷ 0 ∷ 0 ∷ 0 ∷ 0 ∷ 0 ∷ 0 ∷ 0 ∷ []

-- up to 8 bytes with zeros behind them
pub padded : (bytes : List ℕ) → length bytes ≤ 8 → from_le_bytes w64 (bytes ++ drop (length bytes) zeros) ≡ number_of bytes
unfolding number_of
padded [] few = refl
padded (a ∷ []) few = omega arith
padded (a ∷ b ∷ []) few = omega arith
padded (a ∷ b ∷ c ∷ []) few = omega arith
padded (a ∷ b ∷ c ∷ d ∷ []) few = omega arith
padded (a ∷ b ∷ c ∷ d ∷ e ∷ []) few = omega arith
padded (a ∷ b ∷ c ∷ d ∷ e ∷ f ∷ []) few = omega arith
padded (a ∷ b ∷ c ∷ d ∷ e ∷ f ∷ g ∷ []) few = omega arith
padded (a ∷ b ∷ c ∷ d ∷ e ∷ f ∷ g ∷ h ∷ []) few = omega arith
padded (a ∷ b ∷ c ∷ d ∷ e ∷ f ∷ g ∷ h ∷ i ∷ more) few = absurd (omega arith)

-- four bytes, each read by its place
pub four : (bytes : List ℕ) → length bytes ≡ 4 → from_le_bytes w32 (slice_index bytes 0 ∷ slice_index bytes 1 ∷ slice_index bytes 2 ∷ slice_index bytes 3 ∷ []) ≡ number_of bytes
unfolding number_of
four [] is = absurd (omega (arith, is))
four (a ∷ []) is = absurd (omega (arith, is))
four (a ∷ b ∷ []) is = absurd (omega (arith, is))
four (a ∷ b ∷ c ∷ []) is = absurd (omega (arith, is))
four (a ∷ b ∷ c ∷ d ∷ []) is = omega arith
four (a ∷ b ∷ c ∷ d ∷ e ∷ more) is = absurd (omega (arith, is))

-- it fits so many bytes
pub number_small : (bytes : List ℕ) → AreBytes bytes → number_of bytes < 2 ^ (8 * length bytes)
unfolding number_of AreBytes
number_small [] all = omega arith
number_small (b ∷ bs) all =
    let more : b + number_of bs * 256 < 2 ^ (8 * suc (length bs)) = room (suc (length bs)) (length bs) b (number_of bs) refl (All-head (λ x. x < 256) b bs all) (number_small bs (All-tail (λ x. x < 256) b bs all)) in
    omega (arith, more)

pub bytes_small : (xs : List ℕ) → ((i : ℕ) → Fits w8 (get_or xs i 0)) → AreBytes xs
unfolding AreBytes
bytes_small xs each k d lt = let here : get_or xs k d ≡ get_or xs k 0 = get_or_default xs k d 0 lt in omega (arith, here, each k)
