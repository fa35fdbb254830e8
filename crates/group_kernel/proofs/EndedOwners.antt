-- Owners of descriptions when a process ends: its descriptors go, and no ended process had any.
use Rattle.std.proofs.Common.{◌≡◌, ℕ, zero, suc, ◌+◌, ◌<◌, ◌==◌, ◌||◌, Bool, true, false, cond, List, [], ◌∷◌, length, map, get_or, Some, None, refl, sym, ap, ◌∙◌, arith, subst}
use Rattle.std.proofs.lemmas.Bool.{eq-eqb}
use Rattle.std.proofs.lemmas.Bool.Decides.{nat_tests}
use Rattle.std.proofs.lemmas.List.Elements.{All-weaker, filter_agree}
use Rattle.std.proofs.lemmas.List.Sums.{sum_by-cons}
use Rattle.std.specs.Prelude.{All, if◌then◌else◌, nat_lt}
use Rattle.std.specs.List.{AllByRecursion, cons_option, filter, list_any}
use Rattle.descriptors.specs.Descriptors.{count_at}
use Rattle.descriptors.specs.Opens.{descriptions}
use Rattle.descriptors.specs.Owners.{OwnersAre, descriptors_at, holds_on}
use Rattle.descriptors.specs.declared.counted.Counted.{Counted}
use Rattle.descriptors.specs.declared.opens.Open.{Open}
use Rattle.group_defs.specs.Group.{Group, is_running}
use Rattle.group_defs.specs.Held.{is_at, is_held, pair_carries}
use Rattle.group_defs.specs.Valid.{GroupIsValid}
use Rattle.group_defs.specs.declared.frame.Proc.{Proc}
use Rattle.group_defs.specs.declared.frame.ProcState.{ProcState}
use Rattle.group_defs.specs.declared.frame.ProcState.TheVariants.{Running, Ended}
use Rattle.group_parts.proofs.EndRows.{rows_at}
use Rattle.group_parts.specs.Kept.{StandsFor}
use Rattle.group_parts.specs.Parts.{public_part}
use Rattle.pipes_socks.specs.declared.streams.Pair.{Pair}
use Rattle.run_defs.specs.Progress.{Lease}
use Rattle.tables.specs.Rows.{Rows}
use Rattle.group_kernel.specs.Ending.{AllOwned, LeavesOwned, ended_row, is_owned}
use Rattle.group_kernel.specs.Held.{TablesView, kept_in, public_row}
use Rattle.group_kernel.specs.Standing.{OwnersCounted}
use Rattle.group_kernel.specs.declared.row.Row.{Row}
use Rattle.group_kernel.proofs.EndedRows.{child_after, rows_after_end}
use Rattle.group_kernel.proofs.RowPids.{PidsRise, at_above}

abbrev pub fds_of : List Row → List (List (ℕ × ℕ))
fds_of rows = map (λ row. row.fds.entries) rows

-- the descriptors of the others
abbrev pub fds_but : ℕ → List Row → List (List (ℕ × ℕ))
fds_but pid rows = map {A = Row} (λ row. if row.pid == pid then [] else row.fds.entries) rows

none_first : (m : ℕ) → 0 + m ≡ m
none_first m = omega arith

fds_by : Row → Bool → List (ℕ × ℕ)
fds_by row b = if b then [] else row.fds.entries

all_others : (pid : ℕ) (rows : List Row) → AllByRecursion (λ (n : ℕ). pid < n) (map (λ (row : Row). row.pid) rows) → fds_but pid rows ≡ fds_of rows
unfolding fds_by
all_others pid [] above = refl
all_others pid (row ∷ rows) above =
    let differ : (row.pid == pid) ≡ false = grind (arith, nat_tests, above.0) in
    ap (λ (b : Bool). fds_by row b ∷ fds_but pid rows) differ ∙ ap (λ (l : List (List (ℕ × ℕ))). row.fds.entries ∷ l) (all_others pid rows above.1)

pub count_apart : (rows : List Row) (place : ℕ) (d : Row) → PidsRise rows → place < length rows → (n : ℕ)
    → descriptors_at (fds_of rows) n ≡ count_at (get_or rows place d).fds.entries n + descriptors_at (fds_but (get_or rows place d).pid rows) n
unfolding fds_by
count_apart [] place d rise lt n = absurd (omega (arith, lt))
count_apart (row ∷ rows) zero d rise lt n =
    ap (λ (l : List (List (ℕ × ℕ))). count_at row.fds.entries n + descriptors_at l n)
    (sym (all_others row.pid rows rise.0))
    ∙ ap (λ (k : ℕ). count_at row.fds.entries n + k) (sym (none_first (descriptors_at (fds_but row.pid rows) n)))
    ∙ ap (λ (l : List (ℕ × ℕ)). count_at row.fds.entries n + descriptors_at (l ∷ fds_but row.pid rows) n) (sym (ap (fds_by row) (eq-eqb row.pid row.pid refl)))
count_apart (row ∷ rows) (suc place) d rise lt n =
    let pid : ℕ = (get_or rows place d).pid in
    let above : row.pid < pid = at_above row.pid rows place d rise.0 (omega (arith, lt)) in
    let differ : (row.pid == pid) ≡ false = grind (arith, nat_tests, above) in
    let rest : descriptors_at (fds_of rows) n ≡ count_at (get_or rows place d).fds.entries n + descriptors_at (fds_but pid rows) n = count_apart rows place d rise.1 (omega (arith, lt)) n in
    let moved : count_at row.fds.entries n + descriptors_at (fds_of rows) n ≡ count_at (get_or rows place d).fds.entries n + (count_at row.fds.entries n + descriptors_at (fds_but pid rows) n) = omega (arith, rest) in
    moved ∙ ap (λ (l : List (ℕ × ℕ)). count_at (get_or rows place d).fds.entries n + descriptors_at (l ∷ fds_but pid rows) n) (sym (ap (fds_by row) differ))

-- ---- in the rows that are left
abbrev pub ClosedEnded : Row → Type 0
ClosedEnded row = is_running (public_row row) ≡ false → row.fds.entries ≡ []

module _ (pid status : ℕ) (fds : Rows (ℕ × ℕ)) (closed : fds.entries ≡ []) (n : ℕ) where
  count_by_tests : (row : Row) (xs : List Row) (ys : List (List (ℕ × ℕ))) → ClosedEnded row → descriptors_at (fds_of xs) n ≡ descriptors_at ys n → (t u v : Bool) (s : ProcState) → row.state ≡ s
      → descriptors_at (fds_of (cons_option (if t then (if u then None else Some (ended_row status fds row)) else if v then child_after row s else Some row) xs)) n ≡ descriptors_at (fds_by row t ∷ ys) n
  unfolding fds_by
  count_by_tests row xs ys none rest true true v s i = rest ∙ sym (none_first (descriptors_at ys n))
  count_by_tests row xs ys none rest true false v s i = ap (λ (l : List (ℕ × ℕ)). count_at l n + descriptors_at (fds_of xs) n) closed ∙ ap (λ (k : ℕ). 0 + k) rest
  count_by_tests row xs ys none rest false u true Running i = ap (λ (k : ℕ). count_at row.fds.entries n + k) rest
  count_by_tests row xs ys none rest false u true (Ended s) i =
      rest ∙ sym (none_first (descriptors_at ys n)) ∙ sym (ap (λ (l : List (ℕ × ℕ)). count_at l n + descriptors_at ys n) (none (ap (λ (x : ProcState). elim x [ Running ↦ true | Ended e ↦ false ]) i)))
  count_by_tests row xs ys none rest false u false s i = ap (λ (k : ℕ). count_at row.fds.entries n + k) rest

  pub count_left : (rows : List Row) → AllByRecursion ClosedEnded rows → descriptors_at (fds_of (rows_after_end pid status fds rows)) n ≡ descriptors_at (fds_but pid rows) n
  unfolding fds_by
  count_left [] each = refl
  count_left (row ∷ rows) each = count_by_tests row (rows_after_end pid status fds rows) (fds_but pid rows) each.0 (count_left rows each.1) (row.pid == pid) (row.parent == 0) (row.parent == pid) row.state refl

-- ---- a description has an owner just where a descriptor is at it
some_more : (n : ℕ) (fds : List (ℕ × ℕ)) (m : ℕ) → nat_lt 0 (count_at fds n + m) ≡ (list_any (λ d. d.1 == n) fds || nat_lt 0 m)
some_more n [] m = ap (nat_lt 0) (none_first m)
some_more n (d ∷ ds) m = ap (λ (k : ℕ). nat_lt 0 (k + m)) (sum_by-cons (λ (e : ℕ × ℕ). cond (e.1 == n) 1 0) d ds) ∙ by_test (d.1 == n) (some_more n ds m)
  where
    by_test : (t : Bool) → nat_lt 0 (count_at ds n + m) ≡ (list_any (λ (x : ℕ × ℕ). x.1 == n) ds || nat_lt 0 m)
        → nat_lt 0 ((cond t 1 0 + count_at ds n) + m) ≡ ((t || list_any (λ (x : ℕ × ℕ). x.1 == n) ds) || nat_lt 0 m)
    by_test true rest = grind (arith, nat_tests)
    by_test false rest = ap (λ (k : ℕ). nat_lt 0 (k + m)) (none_first (count_at ds n)) ∙ rest

pub some_at : (n : ℕ) (rows : List Row) → nat_lt 0 (descriptors_at (fds_of rows) n + holds_on [] n) ≡ list_any (is_at n) (map public_row rows)
some_at n [] = refl
some_at n (row ∷ rows) =
    let moved : (count_at row.fds.entries n + descriptors_at (fds_of rows) n) + holds_on [] n ≡ count_at row.fds.entries n + (descriptors_at (fds_of rows) n + holds_on [] n) = omega arith in
    ap (nat_lt 0) moved ∙ some_more n row.fds.entries (descriptors_at (fds_of rows) n + holds_on [] n) ∙ ap (λ (b : Bool). list_any (λ (d : ℕ × ℕ). d.1 == n) row.fds.entries || b) (some_at n rows)

pub owned_at : (rows : List Row) (opens : List Counted) → OwnersAre (fds_of rows) [] opens → (n : ℕ) → is_owned opens n ≡ list_any (is_at n) (map public_row rows)
unfolding OwnersAre
owned_at rows opens are n = ap (nat_lt 0) (are n) ∙ some_at n rows

or_false : (b : Bool) → (b || false) ≡ b
or_false true = refl
or_false false = refl

-- In tables that stand for a valid group each is owned.
pub all_owned : (t : TablesView) (leases : List Lease) (g : Group) → StandsFor leases (kept_in t) g → GroupIsValid g → g.frame.pairs ≡ [] → OwnersCounted t → AllOwned t.io.opens.entries
unfolding public_part is_held
all_owned t leases g stands valid pairs owners =
    subst (λ (l : List Open). All (λ o. is_owned t.io.opens.entries o.number ≡ true) l) (sym opens)
    (All-weaker (λ (o : Open). (list_any (is_at o.number) g.frame.procs || list_any (pair_carries o.number) g.frame.pairs) ≡ true) (λ o. is_owned t.io.opens.entries o.number ≡ true) (λ o held. one o.number held) g.frame.opens valid.held.opens)
  where
    opens : descriptions t.io.opens.entries ≡ g.frame.opens
    opens = ap (λ (x : Group). x.frame.opens) stands.public

    one : (n : ℕ) → (list_any (is_at n) g.frame.procs || list_any (pair_carries n) g.frame.pairs) ≡ true → is_owned t.io.opens.entries n ≡ true
    one n held =
        owned_at t.rows t.io.opens.entries owners n
        ∙ ap (λ (x : Group). list_any (is_at n) x.frame.procs) stands.public
        ∙ rows_at g.frame.procs n
        ∙ sym (ap (λ (l : List Pair). list_any (is_at n) g.frame.procs || list_any (pair_carries n) l) pairs ∙ or_false (list_any (is_at n) g.frame.procs))
        ∙ held

-- ---- after the end
module _ (rows : List Row) (place : ℕ) (d : Row) (rise : PidsRise rows) (lt : place < length rows) (status : ℕ) (fds : Rows (ℕ × ℕ)) (closed : fds.entries ≡ []) (ended : AllByRecursion ClosedEnded rows) (old new : List Counted)
    (exact : (others : List (List (ℕ × ℕ))) → OwnersAre ((get_or rows place d).fds.entries ∷ others) [] old → OwnersAre ([] ∷ others) [] new) (owners : OwnersAre (fds_of rows) [] old) where
  abbrev pid : ℕ
  pid = (get_or rows place d).pid

  before : OwnersAre ((get_or rows place d).fds.entries ∷ fds_but pid rows) [] old
  unfolding OwnersAre
  before n = owners n ∙ ap (λ (k : ℕ). k + holds_on [] n) (count_apart rows place d rise lt n)

  pub owners_after : OwnersAre (fds_of (rows_after_end pid status fds rows)) [] new
  unfolding OwnersAre
  owners_after n = exact (fds_but pid rows) before n ∙ ap (λ (k : ℕ). k + holds_on [] n) (none_first (descriptors_at (fds_but pid rows) n) ∙ sym (count_left pid status fds closed n rows ended))

-- those that are left are those that processes hold
pub opens_after : (old new : List Counted) (rows : List Row) → LeavesOwned old new → AllOwned old → OwnersAre (fds_of rows) [] new → (left : List Proc) → map public_row rows ≡ left
    → descriptions new ≡ filter (λ o. is_held left [] o.number) (descriptions old)
unfolding is_held
opens_after old new rows leaves all owners left same =
    leaves.left all
    ∙ filter_agree (λ (o : Open). is_owned new o.number) (λ (o : Open). list_any (is_at o.number) left || false)
    (λ o. owned_at rows new owners o.number ∙ ap (λ (l : List Proc). list_any (is_at o.number) l) same ∙ sym (or_false (list_any (is_at o.number) left))) (descriptions old)
