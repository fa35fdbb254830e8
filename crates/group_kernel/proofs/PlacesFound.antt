-- Where a row is, and which of the ready ones is taken next.
use Rattle.std.proofs.Common.{◌≡◌, ◌≢◌, ◌⊎◌, inl, inr, ℕ, zero, suc, ◌+◌, ◌<◌, ◌≤◌, ◌==◌, ◌&&◌, not, Bool, true, false, List, [], ◌∷◌, length, map, get_or, Option, Some, None, refl, sym, ap, ◌∙◌, arith, subst, ◌++◌, append_assoc, length-append}
use Rattle.std.proofs.lemmas.Bool.Decides.{nat_tests}
use Rattle.std.specs.Prelude.{All, if◌then◌else◌, find, nat_lt, slice_get, slice_index_or, IfSome}
use Rattle.std.specs.List.{filter}
use Rattle.std.specs.Option.{option_map}
use Rattle.run_defs.specs.Legal.{next_pid}
use Rattle.group_kernel.specs.Readiness.{next_in, or_else}
use Rattle.group_kernel.specs.declared.row.Row.{Row}

-- the pids of those that pass
abbrev passing : (Row → Bool) → List Row → List ℕ
passing test rows = map (λ (row : Row). row.pid) (filter test rows)

abbrev pid_in : List Row → ℕ → ℕ
pid_in rows place = slice_index_or (map (λ (row : Row). row.pid) rows) place 0

-- the first that was found before, else the first of these
abbrev first_pid : (ℕ → ℕ) → Option ℕ → List ℕ → Option ℕ
first_pid pid_of None pids = slice_get pids 0
first_pid pid_of (Some place) pids = Some (pid_of place)

-- what was found, else another
abbrev after_find : Option ℕ → Option ℕ → Option ℕ
after_find None other = other
after_find (Some pid) other = Some pid

abbrev above_or : (ℕ → ℕ) → ℕ → Option ℕ → List ℕ → Option ℕ
above_or pid_of taken least pids = after_find (find (nat_lt taken) pids) (first_pid pid_of least pids)

AreAt : (ℕ → ℕ) → ℕ → List Row → Type 0
AreAt pid_of place [] = Unit {0}
AreAt pid_of place (row ∷ rows) = (pid_of place ≡ row.pid) × AreAt pid_of (place + 1) rows

kept_least : (pid_of : ℕ → ℕ) (place pid : ℕ) (pids : List ℕ) → pid_of place ≡ pid → (o x : Option ℕ) → after_find x (first_pid pid_of (or_else o place) pids) ≡ after_find x (first_pid pid_of o (pid ∷ pids))
kept_least pid_of place pid pids at None None = ap (λ n. Some n) at
kept_least pid_of place pid pids at None (Some n) = refl
kept_least pid_of place pid pids at (Some m) None = refl
kept_least pid_of place pid pids at (Some m) (Some n) = refl

passed_step : (test : Row → Bool) (taken : ℕ) (pid_of : ℕ → ℕ) (row : Row) (rows : List Row) (place : ℕ) (least : Option ℕ) → pid_of place ≡ row.pid
    → ((l : Option ℕ) → option_map pid_of (next_in test taken rows (place + 1) l) ≡ above_or pid_of taken l (passing test rows)) → (u : Bool) → nat_lt taken row.pid ≡ u
    → option_map pid_of (if u then Some place else next_in test taken rows (place + 1) (or_else least place)) ≡ above_or pid_of taken least (row.pid ∷ passing test rows)
passed_step test taken pid_of row rows place least at rest true f =
    ap (λ n. Some n) at ∙ sym (ap (λ (b : Bool). after_find (if b then Some row.pid else find (nat_lt taken) (passing test rows)) (first_pid pid_of least (row.pid ∷ passing test rows))) f)
passed_step test taken pid_of row rows place least at rest false f =
    rest (or_else least place) ∙ kept_least pid_of place row.pid (passing test rows) at least (find (nat_lt taken) (passing test rows))
    ∙ sym (ap (λ (b : Bool). after_find (if b then Some row.pid else find (nat_lt taken) (passing test rows)) (first_pid pid_of least (row.pid ∷ passing test rows))) f)

one_step : (test : Row → Bool) (taken : ℕ) (pid_of : ℕ → ℕ) (row : Row) (rows : List Row) (place : ℕ) (least : Option ℕ) → pid_of place ≡ row.pid
    → ((l : Option ℕ) → option_map pid_of (next_in test taken rows (place + 1) l) ≡ above_or pid_of taken l (passing test rows)) → (t : Bool) → test row ≡ t
    → option_map pid_of (if t then (if nat_lt taken row.pid then Some place else next_in test taken rows (place + 1) (or_else least place)) else next_in test taken rows (place + 1) least)
    ≡ above_or pid_of taken least (map (λ (x : Row). x.pid) (if t then row ∷ filter test rows else filter test rows))
one_step test taken pid_of row rows place least at rest true e = passed_step test taken pid_of row rows place least at rest (nat_lt taken row.pid) refl
one_step test taken pid_of row rows place least at rest false e = rest least

found_from : (test : Row → Bool) (taken : ℕ) (pid_of : ℕ → ℕ) (rows : List Row) (place : ℕ) (least : Option ℕ) → AreAt pid_of place rows
    → option_map pid_of (next_in test taken rows place least) ≡ above_or pid_of taken least (passing test rows)
unfolding next_in AreAt
found_from test taken pid_of [] place None at = refl
found_from test taken pid_of [] place (Some n) at = refl
found_from test taken pid_of (row ∷ rows) place least at = one_step test taken pid_of row rows place least at.0 (λ l. found_from test taken pid_of rows (place + 1) l at.1) (test row) refl

at_mid : (done : List Row) (row : Row) (rows : List Row) → pid_in (done ++ row ∷ rows) (length done) ≡ row.pid
at_mid [] row rows = refl
at_mid (d ∷ ds) row rows = at_mid ds row rows

are_at : (done rows : List Row) → AreAt (pid_in (done ++ rows)) (length done) rows
unfolding AreAt
are_at done [] = tt
are_at done (row ∷ rows) =
    let whole : (done ++ row ∷ []) ++ rows ≡ done ++ row ∷ rows = append_assoc done (row ∷ []) rows in
    let size : length (done ++ row ∷ []) ≡ length done + 1 = length-append done (row ∷ []) in
    (at_mid done row rows, subst (λ (n : ℕ). AreAt (pid_in (done ++ row ∷ rows)) n rows) size (subst (λ (all : List Row). AreAt (pid_in all) (length (done ++ row ∷ [])) rows) whole (are_at (done ++ row ∷ []) rows)))

none_first : (pid_of : ℕ → ℕ) (taken : ℕ) (pids : List ℕ) → above_or pid_of taken None pids ≡ next_pid taken pids
none_first pid_of taken pids = by_find (find (nat_lt taken) pids)
  where
    by_find : (x : Option ℕ) → after_find x (slice_get pids 0) ≡ elim x [ Some pid ↦ Some pid | None ↦ slice_get pids 0 ]
    by_find None = refl
    by_find (Some n) = refl

-- the place that is found is of the process to be taken
pub next_is : (test : Row → Bool) (taken : ℕ) (rows : List Row) → option_map (λ place. slice_index_or (map (λ (row : Row). row.pid) rows) place 0) (next_in test taken rows 0 None) ≡ next_pid taken (map (λ (row : Row). row.pid) (filter test rows))
next_is test taken rows = found_from test taken (pid_in rows) rows 0 None (are_at [] rows) ∙ none_first (pid_in rows) taken (passing test rows)

-- and it is one of the rows'
longer : (place n : ℕ) (o : Option ℕ) → IfSome o (λ k. k < place + 1 + n) → IfSome o (λ k. k < place + suc n)
longer place n None is = tt
longer place n (Some k) is = omega (arith, is)

shorter : (place n : ℕ) (o : Option ℕ) → IfSome o (λ k. k < place + suc n) → IfSome o (λ k. k < place + 1 + n)
shorter place n None is = tt
shorter place n (Some k) is = omega (arith, is)

either_within : (place n : ℕ) (o : Option ℕ) → IfSome o (λ k. k < place + suc n) → IfSome (or_else o place) (λ k. k < place + 1 + n)
either_within place n None is = omega arith
either_within place n (Some k) is = omega (arith, is)

one_within : (test : Row → Bool) (taken : ℕ) (row : Row) (rows : List Row) (place : ℕ) (least : Option ℕ) → IfSome least (λ n. n < place + suc (length rows))
    → ((l : Option ℕ) → IfSome l (λ n. n < place + 1 + length rows) → IfSome (next_in test taken rows (place + 1) l) (λ n. n < place + 1 + length rows)) → (t u : Bool)
    → IfSome (if t then (if u then Some place else next_in test taken rows (place + 1) (or_else least place)) else next_in test taken rows (place + 1) least) (λ n. n < place + suc (length rows))
one_within test taken row rows place least before rest true true = omega arith
one_within test taken row rows place least before rest true false = longer place (length rows) (next_in test taken rows (place + 1) (or_else least place)) (rest (or_else least place) (either_within place (length rows) least before))
one_within test taken row rows place least before rest false u = longer place (length rows) (next_in test taken rows (place + 1) least) (rest least (shorter place (length rows) least before))

within_from : (test : Row → Bool) (taken : ℕ) (rows : List Row) (place : ℕ) (least : Option ℕ) → IfSome least (λ n. n < place + length rows) → IfSome (next_in test taken rows place least) (λ n. n < place + length rows)
unfolding next_in
within_from test taken [] place least before = before
within_from test taken (row ∷ rows) place least before =
    one_within test taken row rows place least before (within_from test taken rows (place + 1)) (test row) (nat_lt taken row.pid)

pub next_within : (test : Row → Bool) (taken : ℕ) (rows : List Row) → IfSome (next_in test taken rows 0 None) (λ n. n < length rows)
next_within test taken rows =
    let none : 0 + length rows ≡ length rows = omega arith in
    subst (λ (m : ℕ). IfSome (next_in test taken rows 0 None) (λ n. n < m)) none (within_from test taken rows 0 None tt)
