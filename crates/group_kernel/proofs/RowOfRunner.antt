-- The row of a process that runs has its descriptors.
use Rattle.std.proofs.Common.{◌≡◌, ℕ, zero, suc, ◌<◌, ◌==◌, ◌&&◌, Bool, true, false, List, [], ◌∷◌, length, map, get_or, Some, refl, sym, ap, ◌∙◌, arith}
use Rattle.std.proofs.lemmas.Bool.Decides.{nat_tests}
use Rattle.std.specs.Prelude.{if◌then◌else◌, find}
use Rattle.std.specs.List.{AllByRecursion}
use Rattle.std.specs.Option.{option_map}
use Rattle.group_defs.specs.Group.{is_running, is_runner}
use Rattle.group_defs.specs.declared.frame.Proc.{Proc}
use Rattle.group_parts.specs.Parts.{public_process, shared_mappings}
use Rattle.group_kernel.specs.Held.{public_row}
use Rattle.group_kernel.specs.declared.row.Row.{Row}
use Rattle.group_kernel.proofs.RowPids.{PidsRise, at_above}

-- a row that isn't of this pid is passed over
passed_over : (row : Row) (rows : List Row) (pid : ℕ) (x : Proc) → (row.pid == pid) ≡ false → find (is_runner pid) (map public_row (row ∷ rows)) ≡ Some x → find (is_runner pid) (map public_row rows) ≡ Some x
passed_over row rows pid x differ = by_running (is_running (public_row row))
  where
    by_running : (b : Bool) → (if b && (row.pid == pid) then Some (public_row row) else find (is_runner pid) (map public_row rows)) ≡ Some x → find (is_runner pid) (map public_row rows) ≡ Some x
    by_running true found = sym (ap (λ (b : Bool). if b then Some (public_row row) else find (is_runner pid) (map public_row rows)) differ) ∙ found
    by_running false found = found

none_above : (pid : ℕ) (rows : List Row) (x : Proc) → AllByRecursion (λ (n : ℕ). pid < n) (map (λ (row : Row). row.pid) rows) → find (is_runner pid) (map public_row rows) ≡ Some x → ⊥
none_above pid [] x above found = absurd cc
none_above pid (row ∷ rows) x above found =
    let differ : (row.pid == pid) ≡ false = grind (arith, nat_tests, above.0) in
    none_above pid rows x above.1 (passed_over row rows pid x differ found)

found_row : (rows : List Row) (place : ℕ) (d : Row) (x : Proc) → PidsRise rows → place < length rows → find (is_runner (get_or rows place d).pid) (map public_row rows) ≡ Some x → x ≡ public_row (get_or rows place d)
found_row [] place d x rise lt found = absurd (omega (arith, lt))
found_row (row ∷ rows) zero d x rise lt found = by_test (is_runner row.pid (public_row row)) found
  where
    by_test : (t : Bool) → (if t then Some (public_row row) else find (is_runner row.pid) (map public_row rows)) ≡ Some x → x ≡ public_row row
    by_test true e = cc
    by_test false e = absurd (none_above row.pid rows x rise.0 e)
found_row (row ∷ rows) (suc place) d x rise lt found =
    let above : row.pid < (get_or rows place d).pid = at_above row.pid rows place d rise.0 (omega (arith, lt)) in
    let differ : (row.pid == (get_or rows place d).pid) ≡ false = grind (arith, nat_tests, above) in
    found_row rows place d x rise.1 (omega (arith, lt)) (passed_over row rows (get_or rows place d).pid x differ found)

-- the public process of a runner
public_found : (pid : ℕ) (procs : List Proc) → find (is_runner pid) (map public_process procs) ≡ option_map public_process (find (is_runner pid) procs)
public_found pid [] = refl
public_found pid (y ∷ ys) = ap (λ (b : Bool). if b then Some (public_process y) else find (is_runner pid) (map public_process ys)) (same (is_running y)) ∙ by_test (is_runner pid y) (public_found pid ys)
  where
    same : (b : Bool) → is_runner pid (if b then record y { pc = 0; regs = []; maps = shared_mappings y.maps } else y) ≡ is_runner pid y
    same true = refl
    same false = refl

    by_test : (t : Bool) → find (is_runner pid) (map public_process ys) ≡ option_map public_process (find (is_runner pid) ys)
        → (if t then Some (public_process y) else find (is_runner pid) (map public_process ys)) ≡ option_map public_process (if t then Some y else find (is_runner pid) ys)
    by_test true rest = refl
    by_test false rest = rest

public_fds : (p : Proc) → (public_process p).fds ≡ p.fds
public_fds p = by_test (is_running p)
  where
    by_test : (b : Bool) → (if b then record p { pc = 0; regs = []; maps = shared_mappings p.maps } else p).fds ≡ p.fds
    by_test true = refl
    by_test false = refl

pub row_fds : (rows : List Row) (procs : List Proc) (place : ℕ) (d : Row) (p : Proc) → PidsRise rows → map public_row rows ≡ map public_process procs → place < length rows
    → find (is_runner (get_or rows place d).pid) procs ≡ Some p → p.fds ≡ (get_or rows place d).fds.entries
row_fds rows procs place d p rise same lt is =
    let pid : ℕ = (get_or rows place d).pid in
    let found : find (is_runner pid) (map public_row rows) ≡ Some (public_process p) = ap (find (is_runner pid)) same ∙ public_found pid procs ∙ ap (option_map public_process) is in
    sym (public_fds p) ∙ ap (λ (x : Proc). x.fds) (found_row rows place d (public_process p) rise lt found)
