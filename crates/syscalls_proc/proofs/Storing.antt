-- What a store hands over, and a store that is refused memory.
use Rattle.std.specs.Prelude.{◌≡◌, ◌≤◌, ℕ, suc, zero, List, length, take, refl, Result, Ok, Err, IsOk}
use Rattle.std.proofs.Common.{ap, arith, sym, ◌∙◌}
use Rattle.std.specs.Int.{bytes_low_first}
use Rattle.rv64_isa.specs.Instruction.{IsSize}

pub not_ok : {A E : Type 0} (r : Result A E) (e : E) → r ≡ Err e → IsOk r → ⊥
not_ok (Ok x) e is ok = cc
not_ok (Err x) e is ok = cc

how_many : (i n m v : ℕ) → n ≤ m → length (take n (bytes_low_first i m v)) ≡ n
how_many i zero m v few = refl
how_many i (suc n) zero v few = absurd (omega (arith, few))
how_many i (suc n) (suc m) v few = ap (λ k. suc k) (how_many (suc i) n m v (omega (arith, few)))

at_most_eight : (n : ℕ) → IsSize n → n ≤ 8
at_most_eight n size = grind (arith, size)

-- so many bytes of a number, cut from all eight, are so many
pub as_many : (n m v : ℕ) (all : List ℕ) → IsSize n → m ≡ n → all ≡ bytes_low_first 0 8 v → n ≡ length (take m all)
as_many n m v all size e is = sym (ap (λ k. length (take k all)) e ∙ ap (λ l. length (take n l)) is ∙ how_many 0 n 8 v (at_most_eight n size))
