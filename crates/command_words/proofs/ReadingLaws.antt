-- Words are read as the pieces that they spell, and as no others.
use Rattle.std.proofs.Common.{◌≡◌, ℕ, ◌+◌, ◌<◌, ◌≤◌, nat_le, ◌∙◌, inl, inr, sym, ap, subst, refl, Bool, true, false, List, [], ◌∷◌, ◌++◌, length, slice_index_or, Option, Some, None, arith}
use Rattle.std.specs.Prelude.{not, if◌then◌else◌, ◌==◌, ◌&&◌, bytes_eq, codes}
use Rattle.std.specs.List.{before_first, after_first, position_or_len}
use Rattle.std.specs.Option.{option_map, option_and_then, is_some}
use Rattle.std.specs.Str.Parse.{digits_value}
use Rattle.std.proofs.lemmas.List.Sums.{split_at_first, passes_at_first}
use Rattle.std.proofs.lemmas.Slice.Eq.{bytes_eq-Decides}
use Rattle.std.proofs.lemmas.Bool.Decides.{nat_tests, Decides-eqb}
use Rattle.std.proofs.lemmas.List.{length-drop}
use Rattle.run_defs.specs.declared.run.Limits.{Limits}
use Rattle.command_words.specs.declared.options.Setting.{Setting}
use Rattle.command_words.specs.declared.options.Setting.TheVariants.{Turns, Quantum, Every}
use Rattle.command_words.specs.Options.{option_word, most_of, usual_of, setting_of, is_number, is_within, value_in, setting_with, joined_in}
use Rattle.command_words.specs.Words.{is_name, Piece, name, option, names_of, values_of, chosen, chosen_in, limits_in, limits_of, command_with, command_of_pieces, option_in, alone, together, followed_by, pieces_of, command_of_words}
use Rattle.command_words.specs.declared.words.Command.{Command}
use Rattle.command_words.specs.declared.words.Beginning.{Beginning}
use Rattle.command_words.specs.declared.words.Beginning.TheVariants.{Manifest, Checkpoint}
use Rattle.command_words.specs.Spelling.{Writes, BeginWith, Spell, IsValueOf, first_word, manifest_in, IsSpelled}

-- ---- from what is spelled to what is read

no_dash : (b : Bool) → not b ≡ true → b ≡ false
no_dash true e = absurd cc
no_dash false e = refl

no_flag : (word : List ℕ) → is_name word ≡ true → setting_of word ≡ None
no_flag [] is = refl
no_flag (b ∷ word) is = let other : (b == 45) ≡ false = no_dash (b == 45) is in rw other refl

flag_named : (s : Setting) → setting_of (option_word s) ≡ Some s
flag_named Turns = refl
flag_named Quantum = refl
flag_named Every = refl

is_inside : (n most : ℕ) → 1 ≤ n → n ≤ most → (nat_le 1 n && nat_le n most) ≡ true
is_inside n most least below = grind (arith, nat_tests)

value_written : (s : Setting) (n : ℕ) (digits : List ℕ) → Writes s n digits → value_in s digits ≡ Some n
value_written s n digits w =
    let within : is_within s n ≡ true = is_inside n (most_of s) w.least w.most in
    ap (λ b. option_and_then (λ k. if is_within s k then Some k else None) (if b then Some (digits_value 10 digits) else None)) w.number
    ∙ (ap (λ k. if is_within s k then Some k else None) w.value ∙ ap (λ b. if b then Some n else None) within)

in_one_word : (s : Setting) (digits : List ℕ) → joined_in (option_word s ++ 61 ∷ digits) ≡ option_map (λ n. (s, n)) (value_in s digits)
in_one_word Turns digits = refl
in_one_word Quantum digits = refl
in_one_word Every digits = refl

no_name : (s : Setting) (digits : List ℕ) → is_name (option_word s ++ 61 ∷ digits) ≡ false
no_name Turns digits = refl
no_name Quantum digits = refl
no_name Every digits = refl

no_flag_alone : (s : Setting) (digits : List ℕ) → setting_of (option_word s ++ 61 ∷ digits) ≡ None
no_flag_alone Turns digits = refl
no_flag_alone Quantum digits = refl
no_flag_alone Every digits = refl

-- a word that is no flag is read by itself
single : (word : List ℕ) (rest : List (List ℕ)) → setting_of word ≡ None → pieces_of (word ∷ rest) ≡ followed_by (alone word) (pieces_of rest)
single word [] none = refl
single word (next ∷ words) none = ap (λ o. if is_some o then followed_by (together word next) (pieces_of words) else followed_by (alone word) (pieces_of (next ∷ words))) none

name_alone : (word : List ℕ) → is_name word ≡ true → alone word ≡ Some (name word)
name_alone word is = ap (λ b. if b then Some (name word) else option_map option_in (joined_in word)) is

option_alone : (s : Setting) (n : ℕ) (digits : List ℕ) → Writes s n digits → alone (option_word s ++ 61 ∷ digits) ≡ Some (option s n)
option_alone s n digits w =
    let word : List ℕ = option_word s ++ 61 ∷ digits in
    ap (λ b. if b then Some (name word) else option_map option_in (joined_in word)) (no_name s digits)
    ∙ ap (option_map option_in) (in_one_word s digits ∙ ap (option_map (λ k. (s, k))) (value_written s n digits w))

option_together : (s : Setting) (n : ℕ) (digits : List ℕ) → Writes s n digits → together (option_word s) digits ≡ Some (option s n)
option_together s n digits w =
    ap (λ o. option_map option_in (option_and_then (λ t. option_map (λ k. (t, k)) (value_in t digits)) o)) (flag_named s)
    ∙ ap (λ o. option_map option_in (option_map (λ k. (s, k)) o)) (value_written s n digits w)

with_next : (s : Setting) (digits : List ℕ) (rest : List (List ℕ)) → pieces_of (option_word s ∷ digits ∷ rest) ≡ followed_by (together (option_word s) digits) (pieces_of rest)
with_next s digits rest =
    ap (λ o. if is_some o then followed_by (together (option_word s) digits) (pieces_of rest) else followed_by (alone (option_word s)) (pieces_of (digits ∷ rest))) (flag_named s)

first_then : (piece : Piece) (pieces : List Piece) (o : Option Piece) (rest : List (List ℕ)) → o ≡ Some piece → pieces_of rest ≡ Some pieces → followed_by o (pieces_of rest) ≡ Some (piece ∷ pieces)
first_then piece pieces o rest e more = ap (λ p. followed_by p (pieces_of rest)) e ∙ ap (followed_by (Some piece)) more

pieces_read : (pieces : List Piece) (words : List (List ℕ)) → Spell pieces words → pieces_of words ≡ Some pieces
pieces_read [] words e = ap pieces_of e
pieces_read (name w ∷ pieces) words (rest, (is, e), more) =
    ap pieces_of e ∙ (single w rest (no_flag w is) ∙ first_then (name w) pieces (alone w) rest (name_alone w is) (pieces_read pieces rest more))
pieces_read (option s n ∷ pieces) words (rest, (digits, w, inl e), more) =
    ap pieces_of e ∙ (with_next s digits rest ∙ first_then (option s n) pieces (together (option_word s) digits) rest (option_together s n digits w) (pieces_read pieces rest more))
pieces_read (option s n ∷ pieces) words (rest, (digits, w, inr e), more) =
    ap pieces_of e
    ∙ (single (option_word s ++ 61 ∷ digits) rest (no_flag_alone s digits) ∙ first_then (option s n) pieces (alone (option_word s ++ 61 ∷ digits)) rest (option_alone s n digits w) (pieces_read pieces rest more))

holds_chosen : (usual : ℕ) (values : List ℕ) (n : ℕ) → IsValueOf usual values n → chosen usual values ≡ Some n
holds_chosen usual [] n e = ap Some (sym e)
holds_chosen usual (m ∷ []) n e = ap Some (sym e)
holds_chosen usual (m ∷ k ∷ more) n e = absurd e

abbrev all_limits : (turns quantum every : Option ℕ) → Option Limits
all_limits turns quantum every = option_and_then (λ t. option_and_then (λ q. option_map (λ e. limits_of t q e) every) quantum) turns

limits_read : (pieces : List Piece) (limits : Limits) → IsValueOf (usual_of Turns) (values_of Turns pieces) limits.turns → IsValueOf (usual_of Quantum) (values_of Quantum pieces) limits.quantum
    → IsValueOf (usual_of Every) (values_of Every pieces) limits.every → limits.workers ≡ 0 → limits.flushers ≡ 1 → limits_in pieces ≡ Some limits
limits_read pieces limits t q e w f =
    ap (λ o. all_limits o (chosen_in pieces Quantum) (chosen_in pieces Every)) (holds_chosen (usual_of Turns) (values_of Turns pieces) limits.turns t)
    ∙ (ap (λ o. all_limits (Some limits.turns) o (chosen_in pieces Every)) (holds_chosen (usual_of Quantum) (values_of Quantum pieces) limits.quantum q)
    ∙ (ap (λ o. all_limits (Some limits.turns) (Some limits.quantum) o) (holds_chosen (usual_of Every) (values_of Every pieces) limits.every e)
    ∙ (ap (λ n. Some (record (limits_of limits.turns limits.quantum limits.every) { workers = n })) (sym w) ∙ ap (λ n. Some (record limits { flushers = n })) (sym f))))

command_read : (beginning : Beginning (List ℕ)) (disk out : List ℕ) (limits : Limits)
    → command_with (first_word beginning) (disk ∷ out ∷ manifest_in beginning) limits ≡ Some (record { beginning = beginning; disk = disk; out = out; limits = limits })
command_read (Manifest manifest) disk out limits = refl
command_read Checkpoint disk out limits = refl

pub spelled_is_read : (words : List (List ℕ)) (command : Command (List ℕ)) → IsSpelled command words → command_of_words words ≡ Some command
spelled_is_read words command spelled =
    let first : List ℕ = first_word command.beginning in
    ap command_of_words spelled.first
    ∙ (ap (option_and_then (λ pieces. command_of_pieces first pieces)) (pieces_read spelled.pieces spelled.rest spelled.spelled)
    ∙ (ap (option_and_then (λ limits. command_with first (names_of spelled.pieces) limits)) (limits_read spelled.pieces command.limits spelled.turns spelled.quantum spelled.every spelled.workers spelled.flushers)
    ∙ (ap (λ names. command_with first names command.limits) spelled.names ∙ command_read command.beginning command.disk command.out command.limits)))

-- ---- from what is read to what is spelled

some_same : {A : Type 0} (x y : A) → Some x ≡ Some y → x ≡ y
some_same x y e = cc

digits_there : (text : List ℕ) → is_number text ≡ true → 1 ≤ length text
digits_there text is = grind (arith, nat_tests)

if_some : {A : Type 0} (b : Bool) (x y : A) → (if b then Some x else None) ≡ Some y → (b ≡ true) × (x ≡ y)
if_some true x y e = (refl, (cc))
if_some false x y e = absurd cc

flag_read : (word : List ℕ) (s : Setting) → setting_of word ≡ Some s → word ≡ option_word s
flag_read word s e = among (bytes_eq word (option_word Turns)) (bytes_eq word (option_word Quantum)) (bytes_eq word (option_word Every)) refl refl refl e
  where
    among : (a b c : Bool) → bytes_eq word (option_word Turns) ≡ a → bytes_eq word (option_word Quantum) ≡ b → bytes_eq word (option_word Every) ≡ c
        → (if a then Some Turns else if b then Some Quantum else if c then Some Every else None) ≡ Some s → word ≡ option_word s
    among true b c is is' is'' e = let t : Turns ≡ s = cc in (bytes_eq-Decides word (option_word Turns)).0 is ∙ ap option_word t
    among false true c is is' is'' e = let t : Quantum ≡ s = cc in (bytes_eq-Decides word (option_word Quantum)).0 is' ∙ ap option_word t
    among false false true is is' is'' e = let t : Every ≡ s = cc in (bytes_eq-Decides word (option_word Every)).0 is'' ∙ ap option_word t
    among false false false is is' is'' e = absurd cc

inside : (n most : ℕ) → (nat_le 1 n && nat_le n most) ≡ true → (1 ≤ n) × (n ≤ most)
inside n most is = (grind (arith, nat_tests), grind (arith, nat_tests))

value_read : (s : Setting) (text : List ℕ) (n : ℕ) → value_in s text ≡ Some n → Writes s n text
value_read s text n e = counted (is_number text) refl e
  where
    counted : (b : Bool) → is_number text ≡ b → option_and_then (λ k. if is_within s k then Some k else None) (if b then Some (digits_value 10 text) else None) ≡ Some n → Writes s n text
    counted true is e =
        let both = if_some (is_within s (digits_value 10 text)) (digits_value 10 text) n e in
        let fits = inside n (most_of s) (subst (λ (k : ℕ). is_within s k ≡ true) both.1 both.0) in
        record { number = is; value = both.1; least = fits.0; most = fits.1 }
    counted false is e = absurd cc

pair_read : (word text : List ℕ) (p : Setting × ℕ) → setting_with word text ≡ Some p → (word ≡ option_word p.0) × Writes p.0 p.1 text
pair_read word text p e = named (setting_of word) refl e
  where
    valued : (s : Setting) (o : Option ℕ) → word ≡ option_word s → value_in s text ≡ o → option_map (λ n. (s, n)) o ≡ Some p → (word ≡ option_word p.0) × Writes p.0 p.1 text
    valued s None is was e = absurd cc
    valued s (Some n) is was e =
        let same : (s, n) ≡ p = some_same (s, n) p e in
        subst (λ (q : Setting × ℕ). (word ≡ option_word q.0) × Writes q.0 q.1 text) same (is, value_read s text n was)

    named : (o : Option Setting) → setting_of word ≡ o → option_and_then (λ s. option_map (λ n. (s, n)) (value_in s text)) o ≡ Some p → (word ≡ option_word p.0) × Writes p.0 p.1 text
    named None is e = absurd cc
    named (Some s) is e = valued s (value_in s text) (flag_read word s is) refl e

-- the first `=` stands in the word, since a number stands behind it
joined_read : (word : List ℕ) (p : Setting × ℕ) → joined_in word ≡ Some p → (digits : List ℕ) × Writes p.0 p.1 digits × (word ≡ option_word p.0 ++ 61 ∷ digits)
joined_read word p e =
    let equals : ℕ → Bool = λ b. b == 61 in
    let pair = pair_read (before_first equals word) (after_first equals word) p e in
    let some : 1 ≤ length (after_first equals word) = digits_there (after_first equals word) pair.1.number in
    let within : position_or_len equals word < length word = omega (arith, length-drop (position_or_len equals word + 1) word, some) in
    let split = split_at_first equals word 0 within in
    let byte : slice_index_or word (position_or_len equals word) 0 ≡ 61 = (Decides-eqb (slice_index_or word (position_or_len equals word) 0) 61).0 (passes_at_first equals word 0 within) in
    (after_first equals word, pair.1, split ∙ (ap (λ b. before_first equals word ++ b ∷ after_first equals word) byte ∙ ap (λ l. l ++ 61 ∷ after_first equals word) pair.0))

alone_read : (word : List ℕ) (rest : List (List ℕ)) (piece : Piece) → alone word ≡ Some piece → BeginWith piece (word ∷ rest) rest
alone_read word rest piece e = tested (is_name word) refl e
  where
    joined : (o : Option (Setting × ℕ)) → joined_in word ≡ o → option_map option_in o ≡ Some piece → BeginWith piece (word ∷ rest) rest
    joined None is e = absurd cc
    joined (Some p) is e =
        let same : option_in p ≡ piece = some_same (option_in p) piece e in
        let found = joined_read word p is in
        let begins : BeginWith (option_in p) (word ∷ rest) rest = (found.0, found.1, inr (ap (λ w. w ∷ rest) found.2)) in
        subst (λ (q : Piece). BeginWith q (word ∷ rest) rest) same begins

    tested : (b : Bool) → is_name word ≡ b → (if b then Some (name word) else option_map option_in (joined_in word)) ≡ Some piece → BeginWith piece (word ∷ rest) rest
    tested true is e =
        let same : name word ≡ piece = some_same (name word) piece e in
        let begins : BeginWith (name word) (word ∷ rest) rest = (is, refl) in
        subst (λ (q : Piece). BeginWith q (word ∷ rest) rest) same begins
    tested false is e = joined (joined_in word) refl e

together_read : (word next : List ℕ) (rest : List (List ℕ)) (piece : Piece) → together word next ≡ Some piece → BeginWith piece (word ∷ next ∷ rest) rest
together_read word next rest piece e = paired (setting_with word next) refl e
  where
    paired : (o : Option (Setting × ℕ)) → setting_with word next ≡ o → option_map option_in o ≡ Some piece → BeginWith piece (word ∷ next ∷ rest) rest
    paired None is e = absurd cc
    paired (Some p) is e =
        let same : option_in p ≡ piece = some_same (option_in p) piece e in
        let pair = pair_read word next p is in
        let begins : BeginWith (option_in p) (word ∷ next ∷ rest) rest = (next, pair.1, inl (ap (λ w. w ∷ next ∷ rest) pair.0)) in
        subst (λ (q : Piece). BeginWith q (word ∷ next ∷ rest) rest) same begins

-- what two answers come to
followed_read : (o : Option Piece) (more : Option (List Piece)) (words rest : List (List ℕ)) (pieces : List Piece) → ((piece : Piece) → o ≡ Some piece → BeginWith piece words rest)
    → ((others : List Piece) → more ≡ Some others → Spell others rest) → followed_by o more ≡ Some pieces → Spell pieces words
followed_read None more words rest pieces begins spells e = absurd cc
followed_read (Some piece) None words rest pieces begins spells e = absurd cc
followed_read (Some piece) (Some others) words rest pieces begins spells e =
    let same : piece ∷ others ≡ pieces = some_same (piece ∷ others) pieces e in
    subst (λ (l : List Piece). Spell l words) same (rest, begins piece refl, spells others refl)

flagged : (word next : List ℕ) (words : List (List ℕ)) (pieces : List Piece) (b : Bool) → ((others : List Piece) → pieces_of words ≡ Some others → Spell others words)
    → ((others : List Piece) → pieces_of (next ∷ words) ≡ Some others → Spell others (next ∷ words))
    → (if b then followed_by (together word next) (pieces_of words) else followed_by (alone word) (pieces_of (next ∷ words))) ≡ Some pieces → Spell pieces (word ∷ next ∷ words)
flagged word next words pieces true after behind e = followed_read (together word next) (pieces_of words) (word ∷ next ∷ words) words pieces (together_read word next words) after e
flagged word next words pieces false after behind e =
    followed_read (alone word) (pieces_of (next ∷ words)) (word ∷ next ∷ words) (next ∷ words) pieces (alone_read word (next ∷ words)) behind e

pieces_spelled : (words : List (List ℕ)) (pieces : List Piece) → pieces_of words ≡ Some pieces → Spell pieces words
pieces_spelled [] pieces e = subst (λ (l : List Piece). Spell l []) (some_same [] pieces e) refl
pieces_spelled (word ∷ []) pieces e =
    followed_read (alone word) (Some []) (word ∷ []) [] pieces (alone_read word []) (λ others is. subst (λ (l : List Piece). Spell l []) (some_same [] others is) refl) e
pieces_spelled (word ∷ next ∷ words) pieces e =
    flagged word next words pieces (is_some (setting_of word)) (pieces_spelled words) (pieces_spelled (next ∷ words)) e

chosen_holds : (usual : ℕ) (values : List ℕ) (n : ℕ) → chosen usual values ≡ Some n → IsValueOf usual values n
chosen_holds usual [] n e = sym (some_same usual n e)
chosen_holds usual (m ∷ []) n e = sym (some_same m n e)
chosen_holds usual (m ∷ k ∷ more) n e = absurd cc

limits_chosen : (turns quantum every : Option ℕ) (limits : Limits) → all_limits turns quantum every ≡ Some limits
    → (turns ≡ Some limits.turns) × (quantum ≡ Some limits.quantum) × (every ≡ Some limits.every) × (limits.workers ≡ 0) × (limits.flushers ≡ 1)
limits_chosen None quantum every limits e = absurd cc
limits_chosen (Some t) None every limits e = absurd cc
limits_chosen (Some t) (Some q) None limits e = absurd cc
limits_chosen (Some t) (Some q) (Some v) limits e =
    let same : limits_of t q v ≡ limits = some_same (limits_of t q v) limits e in
    (ap (λ (l : Limits). Some l.turns) same, ap (λ (l : Limits). Some l.quantum) same, ap (λ (l : Limits). Some l.every) same, sym (ap (λ (l : Limits). l.workers) same), sym (ap (λ (l : Limits). l.flushers) same))

-- the first word, the names and the limits are the command's
abbrev Tells : List ℕ → List (List ℕ) → Limits → Command (List ℕ) → Type 0
Tells first names limits command =
    (first ≡ first_word command.beginning) × (names ≡ command.disk ∷ command.out ∷ manifest_in command.beginning) × (command.limits ≡ limits)

command_tells : (first : List ℕ) (names : List (List ℕ)) (limits : Limits) (command : Command (List ℕ)) → command_with first names limits ≡ Some command → Tells first names limits command
command_tells first [] limits command e = absurd cc
command_tells first (disk ∷ []) limits command e = absurd cc
command_tells first (disk ∷ out ∷ []) limits command e =
    let both = if_some (bytes_eq first (codes "restore")) (record { beginning = Checkpoint; disk = disk; out = out; limits = limits }) command e in
    subst (Tells first (disk ∷ out ∷ []) limits) both.1 ((bytes_eq-Decides first (codes "restore")).0 both.0, refl, refl)
command_tells first (disk ∷ out ∷ manifest ∷ []) limits command e =
    let both = if_some (bytes_eq first (codes "run")) (record { beginning = Manifest manifest; disk = disk; out = out; limits = limits }) command e in
    subst (Tells first (disk ∷ out ∷ manifest ∷ []) limits) both.1 ((bytes_eq-Decides first (codes "run")).0 both.0, refl, refl)
command_tells first (disk ∷ out ∷ manifest ∷ more ∷ names) limits command e = absurd cc

of_pieces : (first : List ℕ) (rest : List (List ℕ)) (pieces : List Piece) (o : Option Limits) (command : Command (List ℕ)) → Spell pieces rest → limits_in pieces ≡ o
    → option_and_then (λ limits. command_with first (names_of pieces) limits) o ≡ Some command → IsSpelled command (first ∷ rest)
of_pieces first rest pieces None command spelled is e = absurd cc
of_pieces first rest pieces (Some limits) command spelled is e =
    let tells = command_tells first (names_of pieces) limits command e in
    let chosen = limits_chosen (chosen_in pieces Turns) (chosen_in pieces Quantum) (chosen_in pieces Every) command.limits (is ∙ ap Some (sym tells.2)) in
    record {
      rest = rest;
      pieces = pieces;
      first = ap (λ w. w ∷ rest) tells.0;
      spelled = spelled;
      names = tells.1;
      turns = chosen_holds (usual_of Turns) (values_of Turns pieces) command.limits.turns chosen.0;
      quantum = chosen_holds (usual_of Quantum) (values_of Quantum pieces) command.limits.quantum chosen.1;
      every = chosen_holds (usual_of Every) (values_of Every pieces) command.limits.every chosen.2;
      workers = chosen.3;
      flushers = chosen.4;
    }

of_rest : (first : List ℕ) (rest : List (List ℕ)) (o : Option (List Piece)) (command : Command (List ℕ)) → pieces_of rest ≡ o
    → option_and_then (λ pieces. command_of_pieces first pieces) o ≡ Some command → IsSpelled command (first ∷ rest)
of_rest first rest None command is e = absurd cc
of_rest first rest (Some pieces) command is e = of_pieces first rest pieces (limits_in pieces) command (pieces_spelled rest pieces is) refl e

pub read_is_spelled : (words : List (List ℕ)) (command : Command (List ℕ)) → command_of_words words ≡ Some command → IsSpelled command words
read_is_spelled [] command e = absurd cc
read_is_spelled (first ∷ rest) command e = of_rest first rest (pieces_of rest) command refl e

pub one_command : (words : List (List ℕ)) (command other : Command (List ℕ)) → IsSpelled command words → IsSpelled other words → command ≡ other
one_command words command other a b = let both : Some command ≡ Some other = sym (spelled_is_read words command a) ∙ spelled_is_read words other b in cc
