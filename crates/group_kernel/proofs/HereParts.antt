-- A private part put into its process's row, or taken out of it.
use Rattle.std.proofs.Common.{◌≡◌, ℕ, zero, suc, ◌+◌, ◌<◌, ◌==◌, Bool, true, false, List, [], ◌∷◌, length, map, get_or, Option, Some, None, refl, sym, ap, ◌∙◌, arith, subst}
use Rattle.std.proofs.lemmas.Bool.{eqb-true, false≢true}
use Rattle.std.proofs.lemmas.Bool.Decides.{nat_tests}
use Rattle.std.specs.Prelude.{All, if◌then◌else◌, IfSome, slice_index_or}
use Rattle.std.specs.List.{filter_map, find}
use Rattle.std.specs.Option.{option_map}
use Rattle.group_parts.specs.Kept.{KeptParts, PutsPart, TakesPart, kept_part}
use Rattle.group_parts.specs.Parts.{PrivatePart}
use Rattle.proc_lease.specs.declared.process.Process.{Process}
use Rattle.group_kernel.specs.Held.{TablesView, kept_in, part_here, pid_at, public_frame, public_row, with_process}
use Rattle.group_kernel.specs.Leases.{part_held}
use Rattle.group_kernel.specs.declared.row.Row.{Row}

-- the private part that rows have of a process
abbrev pub here_of : List Row → ℕ → Option PrivatePart
here_of rows other = kept_part (filter_map part_here rows) other

-- what a row adds to those behind it
abbrev pub or_behind : Row → Option Process → ℕ → Option PrivatePart → Option PrivatePart
or_behind row None other behind = behind
or_behind row (Some p) other behind = if row.pid == other then Some (part_held p) else behind

pub here_step : (row : Row) (rows : List Row) (other : ℕ) → here_of (row ∷ rows) other ≡ or_behind row row.process other (here_of rows other)
here_step row rows other = by_process row.process refl
  where
    found : (p : Process) (t : Bool) → (row.pid == other) ≡ t
        → option_map (λ (e : ℕ × PrivatePart). e.1) (find (λ (e : ℕ × PrivatePart). e.0 == other) ((row.pid, part_held p) ∷ filter_map part_here rows)) ≡ (if t then Some (part_held p) else here_of rows other)
    found p true e = rw e refl
    found p false e = rw e refl

    by_process : (o : Option Process) → row.process ≡ o → here_of (row ∷ rows) other ≡ or_behind row o other (here_of rows other)
    by_process None e = rw (part_here, e) refl
    by_process (Some p) e = rw (part_here, e) (found p (row.pid == other) refl)

abbrev with_in : Row → Option Process → Row
with_in row process = record row { process = process }

abbrev pub rows_with : List Row → ℕ → Option Process → List Row
rows_with rows pid process = map {A = Row} (λ row. if row.pid == pid then record row { process = process } else row) rows

-- taken out
takes_step : (row : Row) (rows : List Row) (pid other : ℕ) → here_of (rows_with rows pid None) other ≡ (if pid == other then None else here_of rows other)
    → (t u v : Bool) → (row.pid == pid) ≡ t → (pid == other) ≡ u → (row.pid == other) ≡ v
    → here_of ((if t then with_in row None else row) ∷ rows_with rows pid None) other ≡ (if u then None else here_of (row ∷ rows) other)
takes_step row rows pid other rest true true v e f g = here_step (with_in row None) (rows_with rows pid None) other ∙ rest ∙ rw f refl
takes_step row rows pid other rest true false true e f g = absurd (grind (arith, nat_tests, e, f, g))
takes_step row rows pid other rest true false false e f g =
    here_step (with_in row None) (rows_with rows pid None) other ∙ rest ∙ rw f (sym (here_step row rows other ∙ beside row.process))
  where
    beside : (o : Option Process) → or_behind row o other (here_of rows other) ≡ here_of rows other
    beside None = refl
    beside (Some p) = rw g refl
takes_step row rows pid other rest false true true e f g = absurd (grind (arith, nat_tests, e, f, g))
takes_step row rows pid other rest false true false e f g = here_step row (rows_with rows pid None) other ∙ beside row.process ∙ rest ∙ rw f refl
  where
    beside : (o : Option Process) → or_behind row o other (here_of (rows_with rows pid None) other) ≡ here_of (rows_with rows pid None) other
    beside None = refl
    beside (Some p) = rw g refl
takes_step row rows pid other rest false false v e f g = here_step row (rows_with rows pid None) other ∙ ap (or_behind row row.process other) (rest ∙ rw f refl) ∙ sym (here_step row rows other)

abbrev nothing : Option PrivatePart
nothing = None

takes_none : (t : Bool) → nothing ≡ (if t then nothing else nothing)
takes_none true = refl
takes_none false = refl

takes_rows : (rows : List Row) (pid other : ℕ) → here_of (rows_with rows pid None) other ≡ (if pid == other then None else here_of rows other)
takes_rows [] pid other = takes_none (pid == other)
takes_rows (row ∷ rows) pid other = takes_step row rows pid other (takes_rows rows pid other) (row.pid == pid) (pid == other) (row.pid == other) refl refl refl

pub takes_here : (t : TablesView) (pid : ℕ) → TakesPart (kept_in t).here (kept_in (with_process t pid None)).here pid
takes_here t pid other = takes_rows t.rows pid other

-- put in, where there is a row of the process
puts_step : (row : Row) (rows : List Row) (pid other : ℕ) (process : Process)
    → ((row.pid == pid) ≡ false → here_of (rows_with rows pid (Some process)) other ≡ (if pid == other then Some (part_held process) else here_of rows other))
    → ((pid == other) ≡ false → here_of (rows_with rows pid (Some process)) other ≡ here_of rows other)
    → (t u v : Bool) → (row.pid == pid) ≡ t → (pid == other) ≡ u → (row.pid == other) ≡ v
    → here_of ((if t then with_in row (Some process) else row) ∷ rows_with rows pid (Some process)) other ≡ (if u then Some (part_held process) else here_of (row ∷ rows) other)
puts_step row rows pid other process rest others true true true e f g = here_step (with_in row (Some process)) (rows_with rows pid (Some process)) other ∙ rw g refl
puts_step row rows pid other process rest others true true false e f g = absurd (grind (arith, nat_tests, e, f, g))
puts_step row rows pid other process rest others true false true e f g = absurd (grind (arith, nat_tests, e, f, g))
puts_step row rows pid other process rest others true false false e f g =
    here_step (with_in row (Some process)) (rows_with rows pid (Some process)) other ∙ rw g (others f) ∙ sym (here_step row rows other ∙ beside row.process)
  where
    beside : (o : Option Process) → or_behind row o other (here_of rows other) ≡ here_of rows other
    beside None = refl
    beside (Some p) = rw g refl
puts_step row rows pid other process rest others false true true e f g = absurd (grind (arith, nat_tests, e, f, g))
puts_step row rows pid other process rest others false true false e f g = here_step row (rows_with rows pid (Some process)) other ∙ beside row.process ∙ rest e ∙ rw f refl
  where
    beside : (o : Option Process) → or_behind row o other (here_of (rows_with rows pid (Some process)) other) ≡ here_of (rows_with rows pid (Some process)) other
    beside None = refl
    beside (Some p) = rw g refl
puts_step row rows pid other process rest others false false v e f g = here_step row (rows_with rows pid (Some process)) other ∙ ap (or_behind row row.process other) (others f) ∙ sym (here_step row rows other)

others_step : (row : Row) (rows : List Row) (pid other : ℕ) (process : Process) → (pid == other) ≡ false → here_of (rows_with rows pid (Some process)) other ≡ here_of rows other
    → (t v : Bool) → (row.pid == pid) ≡ t → (row.pid == other) ≡ v → here_of ((if t then with_in row (Some process) else row) ∷ rows_with rows pid (Some process)) other ≡ here_of (row ∷ rows) other
others_step row rows pid other process f rest true true e g = absurd (grind (arith, nat_tests, e, f, g))
others_step row rows pid other process f rest true false e g =
    here_step (with_in row (Some process)) (rows_with rows pid (Some process)) other ∙ rw g rest ∙ sym (here_step row rows other ∙ beside row.process)
  where
    beside : (o : Option Process) → or_behind row o other (here_of rows other) ≡ here_of rows other
    beside None = refl
    beside (Some p) = rw g refl
others_step row rows pid other process f rest false v e g = here_step row (rows_with rows pid (Some process)) other ∙ ap (or_behind row row.process other) rest ∙ sym (here_step row rows other)

others_rows : (rows : List Row) (pid other : ℕ) (process : Process) → (pid == other) ≡ false → here_of (rows_with rows pid (Some process)) other ≡ here_of rows other
others_rows [] pid other process f = refl
others_rows (row ∷ rows) pid other process f = others_step row rows pid other process f (others_rows rows pid other process f) (row.pid == pid) (row.pid == other) refl refl

-- one of the rows is of the process
abbrev pub HasRow : List Row → ℕ → Type 0
HasRow [] pid = ⊥
HasRow (row ∷ rows) pid = (row.pid == pid) ≡ false → HasRow rows pid

puts_rows : (rows : List Row) (pid other : ℕ) (process : Process) → HasRow rows pid → here_of (rows_with rows pid (Some process)) other ≡ (if pid == other then Some (part_held process) else here_of rows other)
puts_rows [] pid other process has = absurd has
puts_rows (row ∷ rows) pid other process has =
    puts_step row rows pid other process (λ e. puts_rows rows pid other process (has e)) (others_rows rows pid other process) (row.pid == pid) (pid == other) (row.pid == other) refl refl refl

pub puts_here : (t : TablesView) (pid : ℕ) (process : Process) → HasRow t.rows pid → PutsPart (kept_in t).here (kept_in (with_process t pid (Some process))).here pid (part_held process)
puts_here t pid process has other = puts_rows t.rows pid other process has

-- the row at a place is one
pub has_row : (rows : List Row) (place : ℕ) (d : Row) → place < length rows → HasRow rows (get_or rows place d).pid
has_row [] place d lt = absurd (omega (arith, lt))
has_row (row ∷ rows) zero d lt = λ e. absurd (let same : (row.pid == row.pid) ≡ true = grind (arith, nat_tests) in false≢true (sym e ∙ same))
has_row (row ∷ rows) (suc place) d lt = λ e. has_row rows place d (omega (arith, lt))

-- the public part is that of rows, whatever private parts are here
public_rows : (rows : List Row) (pid : ℕ) (process : Option Process) → map public_row (rows_with rows pid process) ≡ map public_row rows
public_rows [] pid process = refl
public_rows (row ∷ rows) pid process = by_test (public_rows rows pid process) (row.pid == pid)
  where
    by_test : map public_row (rows_with rows pid process) ≡ map public_row rows → (t : Bool) → map public_row ((if t then with_in row process else row) ∷ rows_with rows pid process) ≡ public_row row ∷ map public_row rows
    by_test rest true = ap (λ l. public_row row ∷ l) rest
    by_test rest false = ap (λ l. public_row row ∷ l) rest

pub public_same : (t : TablesView) (pid : ℕ) (process : Option Process) → (kept_in (with_process t pid process)).public ≡ (kept_in t).public
public_same t pid process = ap (λ procs. record (kept_in t).public { frame = record (public_frame t) { procs = procs } }) (public_rows t.rows pid process)
