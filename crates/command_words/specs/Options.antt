-- The options of a command that runs a group. A word is the list of its bytes.
use Rattle.std.specs.Prelude.{ℕ, ◌==◌, Bool, nat_le, ◌&&◌, if◌then◌else◌, Option, Some, None, List, length, bytes_eq, codes}
use Rattle.std.specs.List.{list_all, before_first, after_first}
use Rattle.std.specs.Option.{option_map, option_and_then}
use Rattle.std.specs.Char.{is_ascii_digit}
use Rattle.std.specs.Str.Parse.{digits_value}
use Rattle.command_words.specs.declared.options.Setting.{Setting}
use Rattle.command_words.specs.declared.options.Setting.TheVariants.{Turns, Quantum, Every}

-- the word that names the option
abbrev pub option_word : Setting → List ℕ
option_word Turns = codes "--turns"
option_word Quantum = codes "--quantum"
option_word Every = codes "--every"

-- its greatest value; the least is 1
abbrev pub most_of : Setting → ℕ
most_of Turns = 1000000
most_of Quantum = 100000
most_of Every = 10000

-- its value where it is absent
abbrev pub usual_of : Setting → ℕ
usual_of Turns = 1000000
usual_of Quantum = 1000
usual_of Every = 100

-- the option that a word names
abbrev pub setting_of : List ℕ → Option Setting
setting_of word =
    if bytes_eq word (option_word Turns) then Some Turns else if bytes_eq word (option_word Quantum) then Some Quantum else if bytes_eq word (option_word Every) then Some Every else None

-- one to seven decimal digits
abbrev pub is_number : List ℕ → Bool
is_number text = nat_le 1 (length text) && nat_le (length text) 7 && list_all is_ascii_digit text

-- the number that they write
abbrev pub number_in : List ℕ → Option ℕ
number_in text = if is_number text then Some (digits_value 10 text) else None

abbrev pub is_within : Setting → ℕ → Bool
is_within s n = nat_le 1 n && nat_le n (most_of s)

-- the value that a text gives the option
abbrev pub value_in : Setting → List ℕ → Option ℕ
value_in s text = option_and_then (λ n. if is_within s n then Some n else None) (number_in text)

-- the option that a word names, with the value that the text gives it
abbrev pub setting_with : List ℕ → List ℕ → Option (Setting × ℕ)
setting_with word text = option_and_then (λ s. option_map (λ n. (s, n)) (value_in s text)) (setting_of word)

-- the same in one word, with `=` between the two
abbrev pub joined_in : List ℕ → Option (Setting × ℕ)
joined_in word = setting_with (before_first (λ b. b == 61) word) (after_first (λ b. b == 61) word)
