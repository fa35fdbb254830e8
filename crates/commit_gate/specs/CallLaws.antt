-- Counts of calls add up.
use Rattle.std.proofs.Common.{◌≡◌, ℕ, zero, suc, ◌+◌, ◌∙◌, ap, arith}
use Rattle.dev_traits.specs.Counts.{one_more}
use Rattle.commit_gate.specs.Whole.{calls_more}

-- so many calls, and then so many more
pub calls_then : (j k n : ℕ) → calls_more k (calls_more j n) ≡ calls_more (j + k) n
unfolding calls_more
calls_then j zero n = let e : j ≡ j + 0 = omega arith in ap (λ (m : ℕ). calls_more m n) e
calls_then j (suc k) n = let e : suc (j + k) ≡ j + suc k = omega arith in ap (λ (m : ℕ). one_more m) (calls_then j k n) ∙ ap (λ (m : ℕ). calls_more m n) e
