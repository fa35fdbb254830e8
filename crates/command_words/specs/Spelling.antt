-- How a command is spelled: the grammar of its words, told from what is spelled.
use Rattle.std.specs.Prelude.{◌≡◌, ℕ, ◌≤◌, ◌⊎◌, IsTrue, List, [], ◌∷◌, ◌++◌, codes}
use Rattle.std.specs.Str.Parse.{digits_value}
use Rattle.command_words.specs.declared.options.Setting.{Setting}
use Rattle.command_words.specs.declared.options.Setting.TheVariants.{Turns, Quantum, Every}
use Rattle.command_words.specs.Options.{option_word, most_of, usual_of, is_number}
use Rattle.command_words.specs.Words.{is_name, Piece, name, option, names_of, values_of}
use Rattle.command_words.specs.declared.words.Command.{Command}
use Rattle.command_words.specs.declared.words.Beginning.{Beginning}
use Rattle.command_words.specs.declared.words.Beginning.TheVariants.{Manifest, Checkpoint}

-- one to seven decimal digits that write n, within the option's limits
pub record Writes (s : Setting) (n : ℕ) (digits : List ℕ) : Type 0 where
  pub number : IsTrue (is_number digits)
  pub value : digits_value 10 digits ≡ n
  pub least : 1 ≤ n
  pub most : n ≤ most_of s

-- the words begin with the piece, and the rest stands behind it; an option is two words, or one with `=` between the two
abbrev pub BeginWith : Piece → List (List ℕ) → List (List ℕ) → Type 0
BeginWith (name word) words rest = IsTrue (is_name word) × (words ≡ word ∷ rest)
BeginWith (option s n) words rest =
    (digits : List ℕ) × Writes s n digits × ((words ≡ option_word s ∷ digits ∷ rest) ⊎ (words ≡ (option_word s ++ 61 ∷ digits) ∷ rest))

-- the words are the pieces, one after the other
abbrev pub Spell : List Piece → List (List ℕ) → Type 0
Spell [] words = words ≡ []
Spell (piece ∷ pieces) words = (rest : List (List ℕ)) × BeginWith piece words rest × Spell pieces rest

-- an option stands at most once, and where it is absent its usual value holds
abbrev pub IsValueOf : ℕ → List ℕ → ℕ → Type 0
IsValueOf usual [] n = n ≡ usual
IsValueOf usual (m ∷ []) n = n ≡ m
IsValueOf usual (m ∷ k ∷ more) n = ⊥

abbrev pub first_word : Beginning (List ℕ) → List ℕ
first_word (Manifest manifest) = codes "run"
first_word Checkpoint = codes "restore"

-- a manifest is named where the run begins with one
abbrev pub manifest_in : Beginning (List ℕ) → List (List ℕ)
manifest_in (Manifest manifest) = manifest ∷ []
manifest_in Checkpoint = []

-- the words spell the command
pub record IsSpelled (command : Command (List ℕ)) (words : List (List ℕ)) : Type 0 where
  pub rest : List (List ℕ)
  pub pieces : List Piece
  pub first : words ≡ first_word command.beginning ∷ rest
  pub spelled : Spell pieces rest
  pub names : names_of pieces ≡ command.disk ∷ command.out ∷ manifest_in command.beginning
  pub turns : IsValueOf (usual_of Turns) (values_of Turns pieces) command.limits.turns
  pub quantum : IsValueOf (usual_of Quantum) (values_of Quantum pieces) command.limits.quantum
  pub every : IsValueOf (usual_of Every) (values_of Every pieces) command.limits.every
  pub workers : command.limits.workers ≡ 0
  pub flushers : command.limits.flushers ≡ 1
