-- What a further piece does to what was said before it.
use Rattle.std.proofs.Common.{◌≡◌, ℕ, ◌≤◌, List, [], ◌∷◌, ◌++◌, Option, Some, None, refl, sym, ◌∙◌, ap, subst, arith, length, append_assoc, append-nil, take, drop, ◌-◌, slice_index_or}
use Rattle.std.proofs.Math.Seq.{take-length}
use Rattle.std.specs.Borrow.{Bor}
use Rattle.std.specs.Option.{MatchOption, option_map, option_and_then, option_to_list, unwrap_or}
use Rattle.run_defs.specs.declared.run.Limits.{Limits}
use Rattle.command_words.specs.declared.options.Setting.{Setting}
use Rattle.command_words.specs.declared.options.Setting.TheVariants.{Turns, Quantum, Every}
use Rattle.command_words.specs.declared.said.Names.{Names}
use Rattle.command_words.specs.declared.said.Names.TheVariants.{Empty, Disk, DiskOut, All}
use Rattle.command_words.specs.declared.said.Said.{Said}
use Rattle.command_words.specs.declared.said.Part.{Part}
use Rattle.command_words.specs.declared.said.Part.TheVariants.{Name, Value}
use Rattle.command_words.specs.Options.{usual_of}
use Rattle.command_words.specs.Words.{Piece, name, option, names_of, values_of, chosen, chosen_in, limits_in, limits_of, command_of_pieces, command_with, followed_by, pieces_of, command_of_words}
use Rattle.command_words.specs.Said.{names_in, piece_of, said_with, SumsUp, limits_said}

pub names_after : (a b : List Piece) → names_of (a ++ b) ≡ names_of a ++ names_of b
names_after [] b = refl
names_after (name w ∷ a) b = ap (λ l. w ∷ l) (names_after a b)
names_after (option s n ∷ a) b = names_after a b

pub values_after : (s : Setting) (a b : List Piece) → values_of s (a ++ b) ≡ values_of s a ++ values_of s b
values_after s [] b = refl
values_after s (name w ∷ a) b = values_after s a b
values_after Turns (option Turns n ∷ a) b = ap (λ l. n ∷ l) (values_after Turns a b)
values_after Turns (option Quantum n ∷ a) b = values_after Turns a b
values_after Turns (option Every n ∷ a) b = values_after Turns a b
values_after Quantum (option Turns n ∷ a) b = values_after Quantum a b
values_after Quantum (option Quantum n ∷ a) b = ap (λ l. n ∷ l) (values_after Quantum a b)
values_after Quantum (option Every n ∷ a) b = values_after Quantum a b
values_after Every (option Turns n ∷ a) b = values_after Every a b
values_after Every (option Quantum n ∷ a) b = values_after Every a b
values_after Every (option Every n ∷ a) b = ap (λ l. n ∷ l) (values_after Every a b)

-- no command has these pieces first
abbrev pub FitsNone : List Piece → Type 0
FitsNone pieces = (first : List ℕ) (more : List Piece) → command_of_pieces first (pieces ++ more) ≡ None

-- ---- an option that stands twice

one_after_another : (a b c : List Piece) → (a ++ b) ++ c ≡ a ++ (b ++ c)
one_after_another a b c = append_assoc a b c

twice : (usual m n : ℕ) (values more : List ℕ) → values ≡ m ∷ [] → chosen usual ((values ++ n ∷ []) ++ more) ≡ None
twice usual m n values more e = subst (λ (v : List ℕ). chosen usual ((v ++ n ∷ []) ++ more) ≡ None) (sym e) refl

chosen_once : (usual : ℕ) (o : Option ℕ) → chosen usual (option_to_list o) ≡ Some (unwrap_or o usual)
chosen_once usual None = refl
chosen_once usual (Some n) = refl

not_turns : (pieces : List Piece) → chosen_in pieces Turns ≡ None → limits_in pieces ≡ None
not_turns pieces e =
    ap (λ (o : Option ℕ). option_and_then (λ turns. option_and_then (λ quantum. option_map (λ every. limits_of turns quantum every) (chosen_in pieces Every)) (chosen_in pieces Quantum)) o) e

nothing_then : {A B : Type 0} (o : Option A) → option_and_then (λ (x : A). let r : Option B = None in r) o ≡ None
nothing_then None = refl
nothing_then (Some x) = refl

not_quantum : (pieces : List Piece) → chosen_in pieces Quantum ≡ None → limits_in pieces ≡ None
not_quantum pieces e =
    ap (λ (o : Option ℕ). option_and_then (λ turns. option_and_then (λ quantum. option_map (λ every. limits_of turns quantum every) (chosen_in pieces Every)) o) (chosen_in pieces Turns)) e
    ∙ nothing_then (chosen_in pieces Turns)

nothing_at_last : {A B C : Type 0} (o : Option A) (p : Option B) → option_and_then (λ (x : A). option_and_then (λ (y : B). let r : Option C = None in r) p) o ≡ None
nothing_at_last None p = refl
nothing_at_last (Some x) p = nothing_then p

not_every : (pieces : List Piece) → chosen_in pieces Every ≡ None → limits_in pieces ≡ None
not_every pieces e =
    ap (λ (o : Option ℕ). option_and_then (λ turns. option_and_then (λ quantum. option_map (λ every. limits_of turns quantum every) o) (chosen_in pieces Quantum)) (chosen_in pieces Turns)) e
    ∙ nothing_at_last (chosen_in pieces Turns) (chosen_in pieces Quantum)

no_value : (s : Setting) (pieces : List Piece) → chosen_in pieces s ≡ None → limits_in pieces ≡ None
no_value Turns = not_turns
no_value Quantum = not_quantum
no_value Every = not_every

own_value : (s : Setting) (n : ℕ) → values_of s (option s n ∷ []) ≡ n ∷ []
own_value Turns n = refl
own_value Quantum n = refl
own_value Every n = refl

pub set_twice : (s : Setting) (m n : ℕ) (pieces : List Piece) → values_of s pieces ≡ m ∷ [] → FitsNone (pieces ++ option s n ∷ [])
set_twice s m n pieces e first more =
    let all : List Piece = (pieces ++ option s n ∷ []) ++ more in
    let values : values_of s all ≡ (values_of s pieces ++ n ∷ []) ++ values_of s more =
    values_after s (pieces ++ option s n ∷ []) more ∙ ap (λ l. l ++ values_of s more) (values_after s pieces (option s n ∷ []) ∙ ap (λ l. values_of s pieces ++ l) (own_value s n)) in
    let none : chosen_in all s ≡ None = ap (chosen (usual_of s)) values ∙ twice (usual_of s) m n (values_of s pieces) (values_of s more) e in
    ap (λ o. option_and_then (λ limits. command_with first (names_of all) limits) o) (no_value s all none)

-- ---- a fourth name

four_names : (a b c d : List ℕ) (more : List (List ℕ)) (o : Option Limits) (first : List ℕ) → option_and_then (λ limits. command_with first (a ∷ b ∷ c ∷ d ∷ more) limits) o ≡ None
four_names a b c d more None first = refl
four_names a b c d more (Some limits) first = refl

pub named_too_often : (a b c d : List ℕ) (pieces : List Piece) → names_of pieces ≡ a ∷ b ∷ c ∷ [] → FitsNone (pieces ++ name d ∷ [])
named_too_often a b c d pieces e first more =
    let all : List Piece = (pieces ++ name d ∷ []) ++ more in
    let names : names_of all ≡ a ∷ b ∷ c ∷ d ∷ names_of more =
    names_after (pieces ++ name d ∷ []) more ∙ ap (λ l. l ++ names_of more) (names_after pieces (name d ∷ []) ∙ ap (λ l. l ++ d ∷ []) e) in
    ap (λ l. option_and_then (λ limits. command_with first l limits) (limits_in all)) names ∙ four_names a b c d (names_of more) (limits_in all) first

-- ---- one more piece

abbrev pub SaysAlso : Said → Part → List Piece → Type 0
SaysAlso said part pieces = let next : List Piece = pieces ++ piece_of part ∷ [] in MatchOption (said_with said part) (FitsNone next) (λ s. SumsUp s next)

more_names : (said : Said) (names : Names) (word : List ℕ) (pieces : List Piece) → SumsUp said pieces → names_in names ≡ names_in said.names ++ word ∷ []
    → SumsUp (record said { names = names }) (pieces ++ name word ∷ [])
more_names said names word pieces sums e = record {
  names = names_after pieces (name word ∷ []) ∙ (ap (λ l. l ++ word ∷ []) sums.names ∙ sym e);
  turns = values_after Turns pieces (name word ∷ []) ∙ (append-nil (values_of Turns pieces) ∙ sums.turns);
  quantum = values_after Quantum pieces (name word ∷ []) ∙ (append-nil (values_of Quantum pieces) ∙ sums.quantum);
  every = values_after Every pieces (name word ∷ []) ∙ (append-nil (values_of Every pieces) ∙ sums.every);
}

named : (names : Names) (word : Bor (List ℕ)) (turns quantum every : Option ℕ) (pieces : List Piece)
    → SumsUp (record { names = names; turns = turns; quantum = quantum; every = every }) pieces
    → SaysAlso (record { names = names; turns = turns; quantum = quantum; every = every }) (Name word) pieces
named Empty word turns quantum every pieces sums = more_names _ (Disk word) word.now pieces sums refl
named (Disk disk) word turns quantum every pieces sums = more_names _ (DiskOut disk word) word.now pieces sums refl
named (DiskOut disk out) word turns quantum every pieces sums = more_names _ (All disk out word) word.now pieces sums refl
named (All disk out manifest) word turns quantum every pieces sums = named_too_often disk.now out.now manifest.now word.now pieces sums.names

-- the names stay, and so do the values of the other options
names_stay : (s : Setting) (n : ℕ) (pieces : List Piece) → names_of (pieces ++ option s n ∷ []) ≡ names_of pieces
names_stay s n pieces = names_after pieces (option s n ∷ []) ∙ append-nil (names_of pieces)

values_stay : (s t : Setting) (n : ℕ) (pieces : List Piece) → values_of s (option t n ∷ []) ≡ [] → values_of s (pieces ++ option t n ∷ []) ≡ values_of s pieces
values_stay s t n pieces e = values_after s pieces (option t n ∷ []) ∙ (ap (λ l. values_of s pieces ++ l) e ∙ append-nil (values_of s pieces))

one_value : (s : Setting) (n : ℕ) (pieces : List Piece) → values_of s pieces ≡ [] → values_of s (pieces ++ option s n ∷ []) ≡ n ∷ []
one_value s n pieces e = values_after s pieces (option s n ∷ []) ∙ (ap (λ l. l ++ values_of s (option s n ∷ [])) e ∙ own_value s n)

valued : (s : Setting) (names : Names) (n : ℕ) (turns quantum every : Option ℕ) (pieces : List Piece)
    → SumsUp (record { names = names; turns = turns; quantum = quantum; every = every }) pieces
    → SaysAlso (record { names = names; turns = turns; quantum = quantum; every = every }) (Value s n) pieces
valued Turns names n None quantum every pieces sums = record {
  names = names_stay Turns n pieces ∙ sums.names;
  turns = one_value Turns n pieces sums.turns;
  quantum = values_stay Quantum Turns n pieces refl ∙ sums.quantum;
  every = values_stay Every Turns n pieces refl ∙ sums.every;
}
valued Turns names n (Some m) quantum every pieces sums = set_twice Turns m n pieces sums.turns
valued Quantum names n turns None every pieces sums = record {
  names = names_stay Quantum n pieces ∙ sums.names;
  turns = values_stay Turns Quantum n pieces refl ∙ sums.turns;
  quantum = one_value Quantum n pieces sums.quantum;
  every = values_stay Every Quantum n pieces refl ∙ sums.every;
}
valued Quantum names n turns (Some m) every pieces sums = set_twice Quantum m n pieces sums.quantum
valued Every names n turns quantum None pieces sums = record {
  names = names_stay Every n pieces ∙ sums.names;
  turns = values_stay Turns Every n pieces refl ∙ sums.turns;
  quantum = values_stay Quantum Every n pieces refl ∙ sums.quantum;
  every = one_value Every n pieces sums.every;
}
valued Every names n turns quantum (Some m) pieces sums = set_twice Every m n pieces sums.every

pub one_more : (said : Said) (part : Part) (pieces : List Piece) → SumsUp said pieces → SaysAlso said part pieces
one_more said (Name word) pieces sums = named said.names word said.turns said.quantum said.every pieces sums
one_more said (Value s n) pieces sums = valued s said.names n said.turns said.quantum said.every pieces sums

-- ---- the end of the words

ended : (said : Said) (turns quantum every : Option ℕ) (pieces : List Piece)
    → values_of Turns pieces ≡ option_to_list turns → values_of Quantum pieces ≡ option_to_list quantum → values_of Every pieces ≡ option_to_list every
    → limits_in pieces ≡ Some (limits_of (unwrap_or turns (usual_of Turns)) (unwrap_or quantum (usual_of Quantum)) (unwrap_or every (usual_of Every)))
ended said turns quantum every pieces t q e =
    let one : (s : Setting) (o : Option ℕ) → values_of s pieces ≡ option_to_list o → chosen_in pieces s ≡ Some (unwrap_or o (usual_of s)) =
    λ s o h. ap (chosen (usual_of s)) h ∙ chosen_once (usual_of s) o in
    rw (one Turns turns t, one Quantum quantum q, one Every every e)

pub limits_at_end : (said : Said) (pieces : List Piece) → SumsUp said pieces → limits_in pieces ≡ Some (limits_said said)
limits_at_end said pieces sums = ended said said.turns said.quantum said.every pieces sums.turns sums.quantum sums.every

-- ---- the words, from the front

-- the words before `rest` are these pieces, which come to what is said
pub record Read (words : List (List ℕ)) (said : Said) (rest : List (List ℕ)) : Type 0 where
  pub done : List Piece
  pub sums : SumsUp said done
  pub split : pieces_of words ≡ option_map (λ more. done ++ more) (pieces_of rest)

map_same : {A : Type 0} (o : Option A) → o ≡ option_map (λ x. x) o
map_same None = refl
map_same (Some x) = refl

pub begun : (words : List (List ℕ)) → Read words (record { names = Empty; turns = None; quantum = None; every = None }) words
begun words = record {
  done = [];
  sums = record { names = refl; turns = refl; quantum = refl; every = refl };
  split = map_same (pieces_of words);
}

one_further : (done : List Piece) (piece : Piece) (o : Option (List Piece))
    → option_map (λ more. done ++ more) (followed_by (Some piece) o) ≡ option_map (λ more. (done ++ piece ∷ []) ++ more) o
one_further done piece None = refl
one_further done piece (Some more) = ap Some (sym (one_after_another done (piece ∷ []) more))

pub read_further : (words rest behind : List (List ℕ)) (said next : Said) (part : Part) → Read words said rest → pieces_of rest ≡ followed_by (Some (piece_of part)) (pieces_of behind)
    → said_with said part ≡ Some next → Read words next behind
read_further words rest behind said next part read e is = record {
  done = read.done ++ piece_of part ∷ [];
  sums = subst (λ (o : Option Said). MatchOption o (FitsNone (read.done ++ piece_of part ∷ [])) (λ s. SumsUp s (read.done ++ piece_of part ∷ []))) is (one_more said part read.done read.sums);
  split = read.split ∙ (ap (option_map (λ more. read.done ++ more)) e ∙ one_further read.done (piece_of part) (pieces_of behind));
}

pub unread : (words rest : List (List ℕ)) (said : Said) → Read words said rest → pieces_of rest ≡ None → (first : List ℕ) → command_of_words (first ∷ words) ≡ None
unread words rest said read e first = ap (λ o. option_and_then (λ pieces. command_of_pieces first pieces) o) (read.split ∙ ap (option_map (λ more. read.done ++ more)) e)

none_fit : (first : List ℕ) (pieces : List Piece) (o : Option (List Piece)) → FitsNone pieces → option_and_then (λ all. command_of_pieces first all) (option_map (λ more. pieces ++ more) o) ≡ None
none_fit first pieces None fits = refl
none_fit first pieces (Some more) fits = fits first more

pub unsaid : (words rest behind : List (List ℕ)) (said : Said) (part : Part) → Read words said rest → pieces_of rest ≡ followed_by (Some (piece_of part)) (pieces_of behind)
    → said_with said part ≡ None → (first : List ℕ) → command_of_words (first ∷ words) ≡ None
unsaid words rest behind said part read e is first =
    let fits : FitsNone (read.done ++ piece_of part ∷ []) =
    subst (λ (o : Option Said). MatchOption o (FitsNone (read.done ++ piece_of part ∷ [])) (λ s. SumsUp s (read.done ++ piece_of part ∷ []))) is (one_more said part read.done read.sums) in
    ap (λ o. option_and_then (λ pieces. command_of_pieces first pieces) o) (read.split ∙ (ap (option_map (λ more. read.done ++ more)) e ∙ one_further read.done (piece_of part) (pieces_of behind)))
    ∙ none_fit first (read.done ++ piece_of part ∷ []) (pieces_of behind) fits

pub ended_at : (words : List (List ℕ)) (said : Said) → Read words said [] → (pieces : List Piece) × (pieces_of words ≡ Some pieces) × SumsUp said pieces
ended_at words said read = (read.done, read.split ∙ ap Some (append-nil read.done), read.sums)

-- the first word of some, and those behind it
pub front : (rest : List (List ℕ)) (word : List ℕ) → 1 ≤ length rest → word ≡ slice_index_or rest 0 word → rest ≡ word ∷ take (length rest - 1) (drop 1 rest)
front [] word some is = absurd (omega (arith, some))
front (first ∷ behind) word some is =
    let few : length (first ∷ behind) - 1 ≡ length behind = omega arith in
    ap (λ w. w ∷ behind) (sym is) ∙ ap (λ l. word ∷ l) (sym (ap (λ n. take n behind) few ∙ take-length behind))
