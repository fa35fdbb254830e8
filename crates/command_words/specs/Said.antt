-- What the words after a command's first one say, so far.
use Rattle.std.specs.Prelude.{◌≡◌, ℕ, List, [], ◌∷◌, Option, Some, None}
use Rattle.std.specs.Borrow.{Bor}
use Rattle.std.specs.Option.{option_map, unwrap_or, option_to_list}
use Rattle.run_defs.specs.declared.run.Limits.{Limits}
use Rattle.command_words.specs.declared.options.Setting.{Setting}
use Rattle.command_words.specs.declared.options.Setting.TheVariants.{Turns, Quantum, Every}
use Rattle.command_words.specs.declared.said.Names.{Names}
use Rattle.command_words.specs.declared.said.Names.TheVariants.{Empty, Disk, DiskOut, All}
use Rattle.command_words.specs.declared.said.Said.{Said}
use Rattle.command_words.specs.declared.said.Part.{Part}
use Rattle.command_words.specs.declared.said.Part.TheVariants.{Name, Value}
use Rattle.command_words.specs.Options.{usual_of}
use Rattle.command_words.specs.Words.{Piece, name, option, names_of, values_of, limits_of}

abbrev pub names_in : Names → List (List ℕ)
names_in Empty = []
names_in (Disk disk) = disk.now ∷ []
names_in (DiskOut disk out) = disk.now ∷ out.now ∷ []
names_in (All disk out manifest) = disk.now ∷ out.now ∷ manifest.now ∷ []

abbrev pub piece_of : Part → Piece
piece_of (Name word) = name word.now
piece_of (Value s n) = option s n

-- one more name
abbrev pub named_with : Names → Bor (List ℕ) → Option Names
named_with Empty word = Some (Disk word)
named_with (Disk disk) word = Some (DiskOut disk word)
named_with (DiskOut disk out) word = Some (All disk out word)
named_with (All disk out manifest) word = None

-- a first value is kept
abbrev pub first_value : Option ℕ → ℕ → Option (Option ℕ)
first_value None n = Some (Some n)
first_value (Some m) n = None

abbrev pub set_with : Said → Setting → ℕ → Option Said
set_with said Turns n = option_map (λ v. record said { turns = v }) (first_value said.turns n)
set_with said Quantum n = option_map (λ v. record said { quantum = v }) (first_value said.quantum n)
set_with said Every n = option_map (λ v. record said { every = v }) (first_value said.every n)

abbrev pub said_with : Said → Part → Option Said
said_with said (Name word) = option_map (λ names. record said { names = names }) (named_with said.names word)
said_with said (Value s n) = set_with said s n

-- the pieces say the same
pub record SumsUp (said : Said) (pieces : List Piece) : Type 0 where
  pub names : names_of pieces ≡ names_in said.names
  pub turns : values_of Turns pieces ≡ option_to_list said.turns
  pub quantum : values_of Quantum pieces ≡ option_to_list said.quantum
  pub every : values_of Every pieces ≡ option_to_list said.every

abbrev pub limits_said : Said → Limits
limits_said said = limits_of (unwrap_or said.turns (usual_of Turns)) (unwrap_or said.quantum (usual_of Quantum)) (unwrap_or said.every (usual_of Every))
