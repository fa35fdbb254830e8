-- The rows of the processes of a group: their pids rise, and each row has its own process's private part.
use Rattle.std.proofs.Common.{◌≡◌, ℕ, zero, suc, ◌+◌, ◌<◌, ◌==◌, Bool, true, false, List, [], ◌∷◌, length, map, get_or, Option, Some, None, refl, sym, ap, ◌∙◌, arith, subst}
use Rattle.std.proofs.lemmas.Bool.{false≢true}
use Rattle.std.proofs.lemmas.Bool.Decides.{nat_tests}
use Rattle.std.specs.Prelude.{if◌then◌else◌}
use Rattle.std.specs.List.{AllByRecursion, filter_map, find}
use Rattle.std.specs.Option.{option_map}
use Rattle.group_defs.specs.Group.{Group, is_running}
use Rattle.group_defs.specs.Valid.{GroupIsValid}
use Rattle.group_defs.specs.declared.frame.Proc.{Proc}
use Rattle.group_parts.specs.Kept.{StandsFor}
use Rattle.group_parts.specs.Parts.{PrivatePart, public_part, public_process, shared_mappings}
use Rattle.proc_lease.specs.declared.process.Process.{Process}
use Rattle.run_defs.specs.Progress.{Lease}
use Rattle.tables.specs.Rising.{Rise}
use Rattle.tables.proofs.Ordered.{IsOrdered, each_of_map, ordered_map, ordered_of_map, ordered_of_pairs, pairs_of_ordered}
use Rattle.group_kernel.specs.Held.{TablesView, kept_in, pid_at, public_row}
use Rattle.group_kernel.specs.Leases.{part_held}
use Rattle.group_kernel.specs.declared.row.Row.{Row}
use Rattle.group_kernel.proofs.HereParts.{here_of, here_step, or_behind}

-- their pids rise
abbrev pub PidsRise : List Row → Type 0
PidsRise rows = IsOrdered (λ m n. m < n) (map (λ (row : Row). row.pid) rows)

row_pids : (rows : List Row) → map (λ (p : Proc). p.pid) (map public_row rows) ≡ map (λ (row : Row). row.pid) rows
row_pids [] = refl
row_pids (row ∷ rows) = ap (λ l. row.pid ∷ l) (row_pids rows)

pub public_pid : (p : Proc) → (public_process p).pid ≡ p.pid
public_pid p = by_test (is_running p)
  where
    by_test : (t : Bool) → (if t then record p { pc = 0; regs = []; maps = shared_mappings p.maps } else p).pid ≡ p.pid
    by_test true = refl
    by_test false = refl

public_pids : (procs : List Proc) → map (λ (p : Proc). p.pid) (map public_process procs) ≡ map (λ (p : Proc). p.pid) procs
public_pids [] = refl
public_pids (p ∷ ps) = ap (λ n. n ∷ map (λ (x : Proc). x.pid) (map public_process ps)) (public_pid p) ∙ ap (λ l. p.pid ∷ l) (public_pids ps)

pub same_pids : (t : TablesView) (leases : List Lease) (g : Group) → StandsFor leases (kept_in t) g → map (λ (row : Row). row.pid) t.rows ≡ map (λ (p : Proc). p.pid) g.frame.procs
unfolding public_part
same_pids t leases g stands = sym (row_pids t.rows) ∙ ap (λ (x : Group). map (λ (p : Proc). p.pid) x.frame.procs) stands.public ∙ public_pids g.frame.procs

pub pids_rise : (t : TablesView) (leases : List Lease) (g : Group) → StandsFor leases (kept_in t) g → GroupIsValid g → PidsRise t.rows
unfolding Rise
pids_rise t leases g stands valid =
    subst (IsOrdered (λ m n. m < n)) (sym (same_pids t leases g stands))
    (ordered_map (λ m n. m < n) (λ (p : Proc). p.pid) g.frame.procs (ordered_of_pairs (λ x y. x.pid < y.pid) g.frame.procs valid.sound.frame.procs.rise))

-- behind a row none has its pid
none_behind : (pid : ℕ) (rows : List Row) → AllByRecursion (λ (n : ℕ). pid < n) (map (λ (row : Row). row.pid) rows) → here_of rows pid ≡ None
none_behind pid [] above = refl
none_behind pid (row ∷ rows) above =
    let differ : (row.pid == pid) ≡ false = grind (arith, nat_tests, above.0) in
    here_step row rows pid ∙ beside differ row.process ∙ none_behind pid rows above.1
  where
    beside : (row.pid == pid) ≡ false → (o : Option Process) → or_behind row o pid (here_of rows pid) ≡ here_of rows pid
    beside e None = refl
    beside e (Some p) = rw e refl

pub at_above : (pid : ℕ) (rows : List Row) (place : ℕ) (d : Row) → AllByRecursion (λ (n : ℕ). pid < n) (map (λ (row : Row). row.pid) rows) → place < length rows → pid < (get_or rows place d).pid
at_above pid [] place d above lt = absurd (omega (arith, lt))
at_above pid (row ∷ rows) zero d above lt = above.0
at_above pid (row ∷ rows) (suc place) d above lt = at_above pid rows place d above.1 (omega (arith, lt))

-- the row at a place
pub here_at : (rows : List Row) (place : ℕ) (d : Row) → PidsRise rows → place < length rows → here_of rows (get_or rows place d).pid ≡ option_map part_held (get_or rows place d).process
here_at [] place d rise lt = absurd (omega (arith, lt))
here_at (row ∷ rows) zero d rise lt = here_step row rows row.pid ∙ own row.process
  where
    itself : (row.pid == row.pid) ≡ true
    itself = grind (arith, nat_tests)

    own : (o : Option Process) → or_behind row o row.pid (here_of rows row.pid) ≡ option_map part_held o
    own None = none_behind row.pid rows rise.0
    own (Some p) = rw itself refl
here_at (row ∷ rows) (suc place) d rise lt =
    let pid : ℕ = (get_or rows place d).pid in
    let above : row.pid < pid = at_above row.pid rows place d rise.0 (omega (arith, lt)) in
    let differ : (row.pid == pid) ≡ false = grind (arith, nat_tests, above) in
    here_step row rows pid ∙ beside pid differ row.process ∙ here_at rows place d rise.1 (omega (arith, lt))
  where
    beside : (pid : ℕ) → (row.pid == pid) ≡ false → (o : Option Process) → or_behind row o pid (here_of rows pid) ≡ here_of rows pid
    beside pid e None = refl
    beside pid e (Some p) = rw e refl
