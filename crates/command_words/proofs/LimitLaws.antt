-- The limits of a command that words spell fit a run.
use Rattle.std.proofs.Common.{◌≡◌, inl, inr, ⊎_elim, ℕ, ◌≤◌, List, [], ◌∷◌, Option, Some, None, sym, subst, arith}
use Rattle.std.specs.List.{AllByRecursion}
use Rattle.run_defs.specs.Limits.{LimitsFit}
use Rattle.command_words.specs.declared.options.Setting.{Setting}
use Rattle.command_words.specs.declared.options.Setting.TheVariants.{Turns, Quantum, Every}
use Rattle.command_words.specs.Options.{most_of, usual_of}
use Rattle.command_words.specs.Words.{Piece, name, option, values_of, command_of_words}
use Rattle.command_words.specs.declared.words.Command.{Command}
use Rattle.command_words.specs.Spelling.{Spell, IsValueOf, IsSpelled}
use Rattle.command_words.proofs.ReadingLaws.{read_is_spelled}

-- a value that an option may have
abbrev Fits : Setting → ℕ → Type 0
Fits s n = (1 ≤ n) × (n ≤ most_of s)

values_fit : (s : Setting) (pieces : List Piece) (words : List (List ℕ)) → Spell pieces words → AllByRecursion (Fits s) (values_of s pieces)
values_fit s [] words spelled = tt
values_fit s (name word ∷ pieces) words spelled = values_fit s pieces spelled.0 spelled.2
values_fit Turns (option Turns n ∷ pieces) words spelled = ((spelled.1.1.least, spelled.1.1.most), values_fit Turns pieces spelled.0 spelled.2)
values_fit Turns (option Quantum n ∷ pieces) words spelled = values_fit Turns pieces spelled.0 spelled.2
values_fit Turns (option Every n ∷ pieces) words spelled = values_fit Turns pieces spelled.0 spelled.2
values_fit Quantum (option Turns n ∷ pieces) words spelled = values_fit Quantum pieces spelled.0 spelled.2
values_fit Quantum (option Quantum n ∷ pieces) words spelled = ((spelled.1.1.least, spelled.1.1.most), values_fit Quantum pieces spelled.0 spelled.2)
values_fit Quantum (option Every n ∷ pieces) words spelled = values_fit Quantum pieces spelled.0 spelled.2
values_fit Every (option Turns n ∷ pieces) words spelled = values_fit Every pieces spelled.0 spelled.2
values_fit Every (option Quantum n ∷ pieces) words spelled = values_fit Every pieces spelled.0 spelled.2
values_fit Every (option Every n ∷ pieces) words spelled = ((spelled.1.1.least, spelled.1.1.most), values_fit Every pieces spelled.0 spelled.2)

chosen_fits : (s : Setting) (values : List ℕ) (n : ℕ) → Fits s (usual_of s) → AllByRecursion (Fits s) values → IsValueOf (usual_of s) values n → Fits s n
chosen_fits s [] n usual all is = subst (Fits s) (sym is) usual
chosen_fits s (m ∷ []) n usual all is = subst (Fits s) (sym is) all.0
chosen_fits s (m ∷ k ∷ more) n usual all is = absurd is

spelled_fits : (words : List (List ℕ)) (command : Command (List ℕ)) → IsSpelled command words → LimitsFit command.limits
spelled_fits words command is = record {
  turns = chosen_fits Turns (values_of Turns is.pieces) command.limits.turns (omega arith, omega arith) (values_fit Turns is.pieces is.rest is.spelled) is.turns;
  quantum = chosen_fits Quantum (values_of Quantum is.pieces) command.limits.quantum (omega arith, omega arith) (values_fit Quantum is.pieces is.rest is.spelled) is.quantum;
  every = chosen_fits Every (values_of Every is.pieces) command.limits.every (omega arith, omega arith) (values_fit Every is.pieces is.rest is.spelled) is.every;
  workers = omega (arith, is.workers);
  flushers = (omega (arith, is.flushers), omega (arith, is.flushers));
}

pub limits_fit : (words : List (List ℕ)) (command : Command (List ℕ)) → command_of_words words ≡ Some command → LimitsFit command.limits
limits_fit words command e = spelled_fits words command (read_is_spelled words command e)
