-- A sink and files as contracts see them.
use Rattle.std.specs.Prelude.{◌≡◌, ℕ, ◌+◌, ◌<◌, List, ◌++◌, length, take, Option}
use Rattle.std.specs.Option.{option_map}

pub record SinkView : Type 0 where
  pub faults : ℕ
  -- how many bytes it holds
  pub count : ℕ
  -- these bytes, where the sink tells them
  pub bytes : Option (List ℕ)

-- the sink took these bytes
pub record Takes (piece : List ℕ) (before after : SinkView) : Type 0 where
  pub count : after.count ≡ before.count + length piece
  pub bytes : after.bytes ≡ option_map (λ held. held ++ piece) before.bytes

-- it took the first of these bytes, not all
abbrev pub TakesPart : List ℕ → SinkView → SinkView → Type 0
TakesPart bytes before after = (m : ℕ) × (m < length bytes) × Takes (take m bytes) before after

-- it took nothing
pub record TakesNothing (before after : SinkView) : Type 0 where
  pub count : after.count ≡ before.count
  pub bytes : after.bytes ≡ before.bytes

pub record FilesView : Type 0 where
  pub faults : ℕ
  -- the file of each name, where one is there, where the files tell their contents
  pub contents : Option (List ℕ → Option (List ℕ))
