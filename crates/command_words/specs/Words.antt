-- The words of a command. A word is the list of its bytes.
use Rattle.std.specs.Prelude.{ℕ, Bool, true, false, not, ◌&&◌, ◌==◌, if◌then◌else◌, List, [], ◌∷◌, bytes_eq, codes, Option, Some, None}
use Rattle.std.specs.Borrow.{Bor}
use Rattle.std.specs.Option.{option_map, option_and_then, is_some}
use Rattle.run_defs.specs.declared.run.Limits.{Limits}
use Rattle.command_words.specs.declared.options.Setting.{Setting}
use Rattle.command_words.specs.declared.options.Setting.TheVariants.{Turns, Quantum, Every}
use Rattle.command_words.specs.declared.words.Beginning.{Beginning}
use Rattle.command_words.specs.declared.words.Beginning.TheVariants.{Manifest, Checkpoint}
use Rattle.command_words.specs.declared.words.Command.{Command}
use Rattle.command_words.specs.declared.words.Mode.{Mode}
use Rattle.command_words.specs.declared.words.Mode.TheVariants.{Solo, Bad}
use Rattle.command_words.specs.Options.{usual_of, setting_of, setting_with, joined_in}

-- a word that names a file isn't empty, and doesn't begin with `-`
abbrev pub is_name : List ℕ → Bool
is_name [] = false
is_name (b ∷ word) = not (b == 45)

-- what stands after the first word: names, and options with their values
pub data Piece : Type 0 where
  name : List ℕ → Piece
  option : Setting → ℕ → Piece

-- the names, in their order
abbrev pub names_of : List Piece → List (List ℕ)
names_of [] = []
names_of (name word ∷ pieces) = word ∷ names_of pieces
names_of (option s n ∷ pieces) = names_of pieces

abbrev pub is_same : Setting → Setting → Bool
is_same Turns Turns = true
is_same Turns Quantum = false
is_same Turns Every = false
is_same Quantum Turns = false
is_same Quantum Quantum = true
is_same Quantum Every = false
is_same Every Turns = false
is_same Every Quantum = false
is_same Every Every = true

-- the values of an option, one for each place where it stands
abbrev pub values_of : Setting → List Piece → List ℕ
values_of s [] = []
values_of s (name word ∷ pieces) = values_of s pieces
values_of s (option t n ∷ pieces) = if is_same s t then n ∷ values_of s pieces else values_of s pieces

-- the value of an option that stands at most once
abbrev pub chosen : ℕ → List ℕ → Option ℕ
chosen usual [] = Some usual
chosen usual (n ∷ []) = Some n
chosen usual (n ∷ m ∷ more) = None

abbrev pub chosen_in : List Piece → Setting → Option ℕ
chosen_in pieces s = chosen (usual_of s) (values_of s pieces)

-- a run on one thread
abbrev pub limits_of : ℕ → ℕ → ℕ → Limits
limits_of turns quantum every = record { turns = turns; quantum = quantum; every = every; workers = 0; flushers = 1 }

abbrev pub limits_in : List Piece → Option Limits
limits_in pieces =
    option_and_then (λ turns. option_and_then (λ quantum. option_map (λ every. limits_of turns quantum every) (chosen_in pieces Every)) (chosen_in pieces Quantum)) (chosen_in pieces Turns)

-- `run` has the names of a disk, an output and a manifest, and `restore` those of a disk and an output
abbrev pub command_with : List ℕ → List (List ℕ) → Limits → Option (Command (List ℕ))
command_with first [] limits = None
command_with first (disk ∷ []) limits = None
command_with first (disk ∷ out ∷ []) limits =
    if bytes_eq first (codes "restore") then Some (record { beginning = Checkpoint; disk = disk; out = out; limits = limits }) else None
command_with first (disk ∷ out ∷ manifest ∷ []) limits =
    if bytes_eq first (codes "run") then Some (record { beginning = Manifest manifest; disk = disk; out = out; limits = limits }) else None
command_with first (disk ∷ out ∷ manifest ∷ more ∷ names) limits = None

abbrev pub option_in : Setting × ℕ → Piece
option_in pair = option pair.0 pair.1

-- what a word is by itself
abbrev pub alone : List ℕ → Option Piece
alone word = if is_name word then Some (name word) else option_map option_in (joined_in word)

-- what an option's flag is with the next word
abbrev pub together : List ℕ → List ℕ → Option Piece
together word next = option_map option_in (setting_with word next)

abbrev pub followed_by : Option Piece → Option (List Piece) → Option (List Piece)
followed_by piece pieces = option_and_then (λ p. option_map (λ ps. p ∷ ps) pieces) piece

-- A word that is an option's flag takes the next one as its value, whatever that is.
abbrev pub pieces_of : List (List ℕ) → Option (List Piece)
pieces_of [] = Some []
pieces_of (word ∷ []) = followed_by (alone word) (Some [])
pieces_of (word ∷ next ∷ words) =
    if is_some (setting_of word) then followed_by (together word next) (pieces_of words) else followed_by (alone word) (pieces_of (next ∷ words))

-- the command of this first word and these pieces
abbrev pub command_of_pieces : List ℕ → List Piece → Option (Command (List ℕ))
command_of_pieces first pieces = option_and_then (λ limits. command_with first (names_of pieces) limits) (limits_in pieces)

-- the command that a list of words spells
abbrev pub command_of_words : List (List ℕ) → Option (Command (List ℕ))
command_of_words [] = None
command_of_words (first ∷ words) = option_and_then (λ pieces. command_of_pieces first pieces) (pieces_of words)

-- a command in memory, with the bytes of its names
abbrev pub named_beginning : Beginning (Bor (List ℕ)) → Beginning (List ℕ)
named_beginning (Manifest manifest) = Manifest manifest.now
named_beginning Checkpoint = Checkpoint

abbrev pub named_command : Command (Bor (List ℕ)) → Command (List ℕ)
named_command command =
    record { beginning = named_beginning command.beginning; disk = command.disk.now; out = command.out.now; limits = command.limits }

-- the call that words are for: a run on one thread where they spell a command
abbrev pub mode_of_words : List (List ℕ) → Mode
mode_of_words words = elim (command_of_words words) [ None ↦ Bad | Some command ↦ Solo ]
