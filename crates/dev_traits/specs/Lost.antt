-- What a disk in memory keeps of calls above its room.
use Rattle.std.specs.Prelude.{ℕ, List, [], ◌∷◌}
use Rattle.dev_traits.specs.declared.mem.lost.Lost.{Lost, Nothing, Write'}

-- the ranges of the writes that failed there, the newest first
abbrev pub lost_ranges : Lost → List (ℕ × ℕ)
lost_ranges Nothing = []
lost_ranges (Write' place size mark before) = (place, size) ∷ lost_ranges before
