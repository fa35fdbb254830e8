-- A line that is put piece by piece.
use Rattle.std.specs.Prelude.{ℕ, ⊤, List, [], ◌∷◌, ◌++◌, decimal, Result, OnOk, OnErr, IsErr}
use Rattle.std.specs.Borrow.{Bor}
use Rattle.dev_traits.specs.declared.disk.Failed.{Failed}
use Rattle.dev_traits.specs.Counts.{HasCause}
use Rattle.dev_traits.specs.Outside.{SinkView, Takes, TakesPart}

-- texts, each with its number in decimal behind it, and a last text
abbrev pub line_with : List (Bor (List ℕ) × ℕ) → List ℕ → List ℕ
line_with [] last = last
line_with (f ∷ fields) last = f.0.now ++ (decimal f.1 ++ line_with fields last)

-- the sink took the line where a call answered Ok, else the first bytes of it
pub record HasPut (line : List ℕ) (answer : Result ⊤ Failed) (before after : SinkView) : Type 0 where
  pub ok : OnOk answer (Takes line before after)
  pub err : OnErr answer (TakesPart line before after)
  pub faults : HasCause before.faults after.faults (IsErr answer)
