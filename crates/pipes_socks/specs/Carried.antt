-- What messages carry.
use Rattle.std.specs.Prelude.{ℕ, List, [], ◌∷◌, ◌++◌}
use Rattle.pipes_socks.specs.declared.streams.Message.{Message}

-- the numbers of the descriptions that these messages carry, in their order
abbrev pub carried_by : List Message → List ℕ
carried_by [] = []
carried_by (message ∷ messages) = message.opens ++ carried_by messages
