use Rattle.std.proofs.Common.{ℕ, List, Option, None, ◌≡◌, subst₂}
use Rattle.std.specs.Prelude.{IfNone, IfSome}
use Rattle.tables.specs.Rising.{IsPlaceOf, entry_of}
use Rattle.group_kernel.specs.declared.row.Row.{Row}
use Rattle.group_kernel.proofs.RowsFound.{has_pid, no_pid}
use Rattle.group_kernel.proofs.group_tables.GroupTables.place_of.Goals as goal

pub returns-clause-some : goal.returns-clause-some
returns-clause-some c =
    let some : IfSome c.find_in.result (IsPlaceOf (λ (row : Row). row.pid) c.deref.result.now c.from.result) = c.find_in.ensures.some in
    has_pid c.args.self.now.rows.items c.args.pid c.find_in.result
    (subst₂ (λ (rows : List Row) (n : ℕ). IfSome c.find_in.result (IsPlaceOf (λ (row : Row). row.pid) rows n)) c.deref.ensures.value c.from.ensures some)

pub returns-clause-none : goal.returns-clause-none
returns-clause-none c =
    let none : IfNone c.find_in.result (entry_of (λ (row : Row). row.pid) c.deref.result.now c.from.result ≡ None) = c.find_in.ensures.none in
    no_pid c.args.self.now.rows.items c.args.pid c.find_in.result
    (subst₂ (λ (rows : List Row) (n : ℕ). IfNone c.find_in.result (entry_of (λ (row : Row). row.pid) rows n ≡ None)) c.deref.ensures.value c.from.ensures none)
