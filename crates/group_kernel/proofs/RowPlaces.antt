-- The row at a place: its process, put in or taken out there.
use Rattle.std.proofs.Common.{◌≡◌, ℕ, zero, suc, ◌<◌, ◌==◌, true, false, List, [], ◌∷◌, length, map, get_or, Option, Some, None, refl, sym, ap, ◌∙◌, arith, subst}
use Rattle.std.proofs.lemmas.Bool.Decides.{nat_tests}
use Rattle.std.proofs.lemmas.List.{get_or-map}
use Rattle.std.specs.Prelude.{if◌then◌else◌, slice_set}
use Rattle.std.specs.List.{AllByRecursion}
use Rattle.proc_lease.specs.declared.process.Process.{Process}
use Rattle.tables.specs.Rising.{Rise}
use Rattle.tables.proofs.Ordered.{ordered_map, ordered_of_pairs}
use Rattle.group_kernel.specs.Held.{TablesView, pid_at, with_process}
use Rattle.group_kernel.specs.Placed.{process_at}
use Rattle.group_kernel.specs.declared.row.Row.{Row}
use Rattle.group_kernel.proofs.HereParts.{rows_with}
use Rattle.group_kernel.proofs.RowPids.{PidsRise, at_above}

pub ordered_pids : (rows : List Row) → Rise (λ row. row.pid) rows → PidsRise rows
unfolding Rise
ordered_pids rows rise = ordered_map (λ m n. m < n) (λ (row : Row). row.pid) rows (ordered_of_pairs (λ x y. x.pid < y.pid) rows rise)

others_stay : (rows : List Row) (pid : ℕ) (process : Option Process) → AllByRecursion (λ (n : ℕ). pid < n) (map (λ (row : Row). row.pid) rows) → rows_with rows pid process ≡ rows
others_stay [] pid process above = refl
others_stay (row ∷ rows) pid process above =
    let differ : (row.pid == pid) ≡ false = grind (arith, nat_tests, above.0) in
    rw differ (ap (λ (l : List Row). row ∷ l) (others_stay rows pid process above.1))

pub set_is : (rows : List Row) (place : ℕ) (d : Row) (process : Option Process) → PidsRise rows → place < length rows → slice_set rows place (record (get_or rows place d) { process = process }) ≡ rows_with rows (get_or rows place d).pid process
set_is [] place d process rise lt = absurd (omega (arith, lt))
set_is (row ∷ rows) zero d process rise lt =
    let itself : (row.pid == row.pid) ≡ true = grind (arith, nat_tests) in
    rw itself (ap (λ (l : List Row). record row { process = process } ∷ l) (sym (others_stay rows row.pid process rise.0)))
set_is (row ∷ rows) (suc place) d process rise lt =
    let above : row.pid < (get_or rows place d).pid = at_above row.pid rows place d rise.0 (omega (arith, lt)) in
    let differ : (row.pid == (get_or rows place d).pid) ≡ false = grind (arith, nat_tests, above) in
    rw differ (ap (λ (l : List Row). row ∷ l) (set_is rows place d process rise.1 (omega (arith, lt))))

pub some_row : (rows : List Row) (place : ℕ) → place < length rows → Row
some_row [] place lt = absurd (omega (arith, lt))
some_row (row ∷ rows) place lt = row

pub pid_at_is : (t : TablesView) (place : ℕ) (d : Row) → place < length t.rows → pid_at t place ≡ (get_or t.rows place d).pid
pid_at_is t place d lt = get_or-map (λ (row : Row). row.pid) t.rows place d 0 lt

pub process_at_is : (t : TablesView) (place : ℕ) (d : Row) → place < length t.rows → process_at t place ≡ (get_or t.rows place d).process
process_at_is t place d lt = get_or-map (λ (row : Row). row.process) t.rows place d None lt

-- the tables with a row set at its place
pub set_row : (t : TablesView) (place : ℕ) (d : Row) (process : Option Process) → Rise (λ row. row.pid) t.rows → place < length t.rows → record t { rows = slice_set t.rows place (record (get_or t.rows place d) { process = process }) } ≡ with_process t (pid_at t place) process
set_row t place d process rise lt =
    ap (λ (rows : List Row). record t { rows = rows }) (set_is t.rows place d process (ordered_pids t.rows rise) lt ∙ ap (λ (n : ℕ). rows_with t.rows n process) (sym (pid_at_is t place d lt)))

-- ... as code sets it, which has the row in hand
pub row_set : (t : TablesView) (place : ℕ) (row : Row) (process : Option Process) → row ≡ get_or t.rows place row → Rise (λ row. row.pid) t.rows → place < length t.rows
    → record t { rows = slice_set t.rows place (record row { process = process }) } ≡ with_process t (pid_at t place) process
row_set t place row process is rise lt = ap (λ (x : Row). record t { rows = slice_set t.rows place (record x { process = process }) }) is ∙ set_row t place row process rise lt
