-- The first of the ready rows, one row after another.
use Rattle.std.proofs.Common.{◌≡◌, ℕ, zero, suc, ◌+◌, ◌<◌, ◌≤◌, Bool, true, false, List, [], ◌∷◌, length, drop, get_or, Option, Some, None, refl, sym, ap, ◌∙◌, arith, subst}
use Rattle.std.proofs.lemmas.Bool.{false≢true}
use Rattle.std.specs.Prelude.{if◌then◌else◌, is_some, nat_lt}
use Rattle.group_kernel.specs.Readiness.{next_in, or_else}
use Rattle.group_kernel.specs.declared.row.Row.{Row}

drop_here : (rows : List Row) (place : ℕ) (d : Row) → place < length rows → drop place rows ≡ get_or rows place d ∷ drop (suc place) rows
drop_here [] place d lt = absurd (omega (arith, lt))
drop_here (row ∷ rows) zero d lt = refl
drop_here (row ∷ rows) (suc place) d lt = drop_here rows place d (omega (arith, lt))

drop_all : (rows : List Row) (place : ℕ) → length rows ≤ place → drop place rows ≡ []
drop_all [] zero le = refl
drop_all [] (suc place) le = refl
drop_all (row ∷ rows) zero le = absurd (omega (arith, le))
drop_all (row ∷ rows) (suc place) le = drop_all rows place (omega (arith, le))

module _ (test : Row → Bool) (taken : ℕ) (rows : List Row) (place : ℕ) (row : Row) (least : Option ℕ) (lt : place < length rows) (is : row ≡ get_or rows place row) where
  here : next_in test taken (drop place rows) place least ≡ (if test row then (if nat_lt taken row.pid then Some place else next_in test taken (drop (place + 1) rows) (place + 1) (or_else least place)) else next_in test taken (drop (place + 1) rows) (place + 1) least)
  unfolding next_in
  here =
      let next : suc place ≡ place + 1 = omega arith in
      ap (λ (l : List Row). next_in test taken l place least) (drop_here rows place row lt ∙ ap (λ (x : Row). x ∷ drop (suc place) rows) (sym is))
      ∙ ap (λ (n : ℕ). if test row then (if nat_lt taken row.pid then Some place else next_in test taken (drop n rows) (place + 1) (or_else least place)) else next_in test taken (drop n rows) (place + 1) least) next

  pub found : test row ≡ true → nat_lt taken row.pid ≡ true → next_in test taken (drop place rows) place least ≡ Some place
  found e f =
      here ∙ ap (λ (b : Bool). if b then (if nat_lt taken row.pid then Some place else next_in test taken (drop (place + 1) rows) (place + 1) (or_else least place)) else next_in test taken (drop (place + 1) rows) (place + 1) least) e
      ∙ ap (λ (b : Bool). if b then Some place else next_in test taken (drop (place + 1) rows) (place + 1) (or_else least place)) f

  pub kept : test row ≡ true → nat_lt taken row.pid ≡ false → (least' : Option ℕ) → least' ≡ or_else least place → next_in test taken (drop (place + 1) rows) (place + 1) least' ≡ next_in test taken (drop place rows) place least
  kept e f least' same =
      ap (next_in test taken (drop (place + 1) rows) (place + 1)) same
      ∙ sym (here ∙ ap (λ (b : Bool). if b then (if nat_lt taken row.pid then Some place else next_in test taken (drop (place + 1) rows) (place + 1) (or_else least place)) else next_in test taken (drop (place + 1) rows) (place + 1) least) e
      ∙ ap (λ (b : Bool). if b then Some place else next_in test taken (drop (place + 1) rows) (place + 1) (or_else least place)) f)

  pub passed_over : test row ≡ false → (least' : Option ℕ) → least' ≡ least → next_in test taken (drop (place + 1) rows) (place + 1) least' ≡ next_in test taken (drop place rows) place least
  passed_over e least' same =
      ap (next_in test taken (drop (place + 1) rows) (place + 1)) same
      ∙ sym (here ∙ ap (λ (b : Bool). if b then (if nat_lt taken row.pid then Some place else next_in test taken (drop (place + 1) rows) (place + 1) (or_else least place)) else next_in test taken (drop (place + 1) rows) (place + 1) least) e)

pub at_end : (test : Row → Bool) (taken : ℕ) (rows : List Row) (place : ℕ) (least : Option ℕ) → length rows ≤ place → next_in test taken (drop place rows) place least ≡ least
unfolding next_in
at_end test taken rows place least le = ap (λ (l : List Row). next_in test taken l place least) (drop_all rows place le)

pub or_none : (o : Option ℕ) (place : ℕ) → is_some o ≡ false → Some place ≡ or_else o place
or_none None place e = refl
or_none (Some n) place e = absurd (false≢true (sym e))

pub or_some : (o : Option ℕ) (place : ℕ) → is_some o ≡ true → o ≡ or_else o place
or_some None place e = absurd (false≢true e)
or_some (Some n) place e = refl
