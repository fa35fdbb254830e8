-- std's own reader reads the digits, of which there are few.
use Rattle.std.proofs.Common.{rules, arith, ◌≡◌, ℕ, ◌<◌, ◌≤◌, ◌^◌, ◌∙◌, ap, length, true, List, Some, None, Result, sym}
use Rattle.std.specs.Prelude.{if◌then◌else◌}
use Rattle.std.specs.List.{list_all}
use Rattle.std.specs.Char.{is_ascii_digit}
use Rattle.std.specs.Str.Parse.{digits_value, ParsesUnsigned}
use Rattle.std.specs.Result.{result_ok}
use Rattle.std.proofs.lemmas.Str.Parse.{IsNumeralModel, numerals_by_value, parse_gives, digits_value_short}
use Rattle.std.proofs.lemmas.Bool.Decides.{nat_tests}
use Rattle.command_words.specs.Options.{is_number, number_in}
use Rattle.command_words.proofs.options.number.Goals as goal

own : IsNumeralModel (λ ds. list_all is_ascii_digit ds ≡ true) (digits_value 10)
own = numerals_by_value _ (search rules)

read : {E : Type 0} (text : List ℕ) (r : Result ℕ E) → is_number text ≡ true → ParsesUnsigned 32 10 text r → result_ok r ≡ number_in text
read text r is parsed =
    let some : 1 ≤ length text = grind (arith, nat_tests) in
    let few : length text ≤ 7 = grind (arith, nat_tests) in
    let digits : list_all is_ascii_digit text ≡ true = grind (arith, nat_tests) in
    let small : digits_value 10 text < 10 ^ 7 = digits_value_short own text 7 digits few in
    ap result_ok (parse_gives own 32 text r parsed digits (omega arith) (omega arith)) ∙ ap (λ b. if b then Some (digits_value 10 text) else None) (sym is)

pub returns-then-is_number : goal.returns-then-is_number
returns-then-is_number c =
    let is : is_number c.args.text.now ≡ true = ap is_number (sym c.as_bytes.ensures.value) ∙ (sym c.is_number.ensures ∙ c.if-is_number.true) in
    c.ok.ensures.value ∙ read c.args.text.now c.parse.result is c.parse.ensures.value.0
