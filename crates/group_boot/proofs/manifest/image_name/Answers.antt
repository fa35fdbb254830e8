use Rattle.std.proofs.Common.{ℕ, zero, suc, ◌≤◌, List, [], ◌∷◌, arith}
use Rattle.std.specs.List.{AllByRecursion}
use Rattle.std.specs.Str.{IsAscii}
use Rattle.std.proofs.lemmas.Str.{IsUtf8-from_ascii}
use Rattle.group_boot.proofs.manifest.image_name.Goals as goal

ascii_from_printed : (name : List ℕ) → AllByRecursion (λ b. (33 ≤ b) × (b ≤ 126)) name → IsAscii name
ascii_from_printed [] all i = omega arith
ascii_from_printed (b ∷ name) all zero = omega (arith, all.0.1)
ascii_from_printed (b ∷ name) all (suc i) = ascii_from_printed name all.1 i

pub returns-in-Err-clause-none : goal.returns-in-Err-clause-none
returns-in-Err-clause-none c = absurd (c.in-Err.ensures.cases.0 (IsUtf8-from_ascii c.in-Some.name.now (ascii_from_printed c.in-Some.name.now c.in-Some.ensures.some.printed)))
