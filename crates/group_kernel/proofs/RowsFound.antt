-- The row of a process, and whether one of the rows' processes runs.
use Rattle.std.proofs.Common.{◌≡◌, ◌≢◌, ℕ, zero, suc, ◌<◌, ◌==◌, Bool, true, false, ◌||◌, List, [], ◌∷◌, length, map, get_or, Option, Some, None, refl, sym, ap, ◌∙◌, arith}
use Rattle.std.proofs.lemmas.Bool.Decides.{nat_tests}
use Rattle.std.proofs.lemmas.List.{get_or-map}
use Rattle.std.specs.Prelude.{All, IfNone, IfSome, find, if◌then◌else◌, slice_index_or}
use Rattle.std.specs.List.{list_any}
use Rattle.group_defs.specs.Group.{Group, is_running}
use Rattle.group_defs.specs.declared.frame.Proc.{Proc}
use Rattle.group_parts.specs.Kept.{StandsFor}
use Rattle.group_parts.specs.Parts.{public_part, public_process, shared_mappings}
use Rattle.run_defs.specs.Progress.{Lease}
use Rattle.tables.specs.Rising.{IsPlaceOf, entry_of}
use Rattle.tables.proofs.Only.{NonePasses, none_from_find}
use Rattle.group_kernel.specs.Held.{TablesView, kept_in, public_row}
use Rattle.group_kernel.specs.Placed.{is_running_row}
use Rattle.group_kernel.specs.declared.row.Row.{Row}
use Rattle.group_kernel.proofs.RowPlaces.{some_row}

abbrev pid_of : Row → ℕ
pid_of row = row.pid

-- the row at the place that was found is the process's
pub has_pid : (rows : List Row) (pid : ℕ) (o : Option ℕ) → IfSome o (IsPlaceOf pid_of rows pid) → IfSome o (λ place. slice_index_or (map pid_of rows) place 0 ≡ pid)
has_pid rows pid None is = tt
has_pid rows pid (Some place) is =
    let d : Row = some_row rows place is.within in
    get_or-map pid_of rows place d 0 is.within ∙ is.has d

-- where none was found, no row is
pub no_pid : (rows : List Row) (pid : ℕ) (o : Option ℕ) → IfNone o (entry_of pid_of rows pid ≡ None) → IfNone o (All (λ (row : Row). row.pid ≢ pid) rows)
no_pid rows pid None none = λ k d lt e.
    let other : ((get_or rows k d).pid == pid) ≡ false = none_from_find (λ (row : Row). row.pid == pid) rows none k d lt in
    absurd (grind (arith, nat_tests, other, e))
no_pid rows pid (Some place) none = tt

-- whether a process runs is the same in its public row
public_running : (p : Proc) → is_running (public_process p) ≡ is_running p
public_running p = by_test (is_running p) refl
  where
    by_test : (t : Bool) → is_running p ≡ t → is_running (if t then record p { pc = 0; regs = []; maps = shared_mappings p.maps } else p) ≡ is_running p
    by_test true e = refl
    by_test false e = refl

any_row : (rows : List Row) → list_any is_running_row rows ≡ list_any is_running (map public_row rows)
unfolding is_running_row
any_row [] = refl
any_row (row ∷ rows) = ap (λ (b : Bool). is_running (public_row row) || b) (any_row rows)

any_public : (procs : List Proc) → list_any is_running (map public_process procs) ≡ list_any is_running procs
any_public [] = refl
any_public (p ∷ ps) = ap (λ (b : Bool). b || list_any is_running (map public_process ps)) (public_running p) ∙ ap (λ (b : Bool). is_running p || b) (any_public ps)

-- one of the rows' processes runs just where one of the group's does
pub any_runs : (t : TablesView) (leases : List Lease) (g : Group) → StandsFor leases (kept_in t) g → list_any is_running_row t.rows ≡ list_any is_running g.frame.procs
unfolding public_part
any_runs t leases g stands = any_row t.rows ∙ ap (λ (x : Group). list_any is_running x.frame.procs) stands.public ∙ any_public g.frame.procs
