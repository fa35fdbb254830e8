-- What is read where it can be read: as many bytes as were asked for.
use Rattle.std.proofs.Common.{◌≡◌, ℕ, zero, suc, ◌+◌, List, length, Option, Some, None, refl, ap}
use Rattle.rv64_isa.specs.Memory.{Cells, both, byte_with, bytes_with}
use Rattle.rv64_isa.specs.Numbers.{wrapped}

-- so many, where they are there
abbrev pub IsCount : ℕ → Option (List ℕ) → Type 0
IsCount n None = Unit {0}
IsCount n (Some bytes) = length bytes ≡ n

one_more : (o : Option ℕ) (rest : Option (List ℕ)) (n : ℕ) → IsCount n rest → IsCount (suc n) (both o rest)
one_more None rest n count = tt
one_more (Some b) None n count = tt
one_more (Some b) (Some bs) n count = ap suc count

pub read_count : (cells : Cells) (right address n : ℕ) → IsCount n (bytes_with right cells address n)
unfolding bytes_with
read_count cells right address zero = refl
read_count cells right address (suc n) = one_more (byte_with right cells (wrapped address)) (bytes_with right cells (address + 1) n) n (read_count cells right (address + 1) n)
