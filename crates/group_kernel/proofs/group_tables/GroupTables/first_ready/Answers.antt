use Rattle.std.proofs.Common.{not, ◌≡◌, ◌∙◌, ℕ, ◌<◌, ◌≤◌, Bool, true, false, Option, Some, None, sym, refl, ap, arith, length, get_or, List, drop}
use Rattle.std.proofs.lemmas.Bool.Decides.{nat_tests}
use Rattle.std.specs.Prelude.{nat_lt}
use Rattle.group_kernel.specs.Held.{seen}
use Rattle.group_kernel.specs.Readiness.{is_ready_row, or_else}
use Rattle.group_kernel.specs.declared.row.Row.{Row}
use Rattle.group_kernel.proofs.FirstReady.{at_end, found, kept, or_none, or_some, passed_over}
use Rattle.group_kernel.proofs.group_tables.GroupTables.first_ready.Goals as goal
use Rattle.group_kernel.proofs.group_tables.GroupTables.first_ready.Goals.{then-is_ready+else-row-taken+then-is_none, then-is_ready+else-row-taken+else-is_none, else-is_ready}

pub returns-then-row-taken : goal.returns-then-row-taken
returns-then-row-taken c =
    let test : Row → Bool = is_ready_row (seen c.args.self.now) in
    let above : nat_lt c.args.taken c.row-item.result.pid ≡ true = grind (arith, nat_tests, c.if-row-taken.true) in
    let items = c.deref-row-items.ensures.value in
    let lt : c.loop-place.place < length c.args.self.now.rows.items = omega (arith, c.loop-place-test.true, ap (λ (l : List Row). length l) items) in
    let is : c.row-item.result ≡ get_or c.args.self.now.rows.items c.loop-place.place c.row-item.result = c.row-item.is ∙ ap (λ (l : List Row). get_or l c.loop-place.place c.row-item.result) items in
    sym (found test c.args.taken c.args.self.now.rows.items c.loop-place.place c.row-item.result c.loop-place.least lt is (sym c.is_ready.ensures ∙ c.if-is_ready.true) above) ∙ c.loop-place.invariant

pub loop-place-preserved : goal.loop-place-preserved
loop-place-preserved c =
    let test : Row → Bool = is_ready_row (seen c.args.self.now) in
    let items = c.deref-row-items.ensures.value in
    let lt : c.loop-place.place < length c.args.self.now.rows.items = omega (arith, c.loop-place-test.true, ap (λ (l : List Row). length l) items) in
    let is : c.row-item.result ≡ get_or c.args.self.now.rows.items c.loop-place.place c.row-item.result = c.row-item.is ∙ ap (λ (l : List Row). get_or l c.loop-place.place c.row-item.result) items in
    elim c.if-is_ready.branch [
      | then-is_ready+else-row-taken+then-is_none w ↦
          let below : nat_lt c.args.taken c.row-item.result.pid ≡ false = grind (arith, nat_tests, w.if-row-taken.false) in
          kept test c.args.taken c.args.self.now.rows.items c.loop-place.place c.row-item.result c.loop-place.least lt is (sym c.is_ready.ensures ∙ w.if-is_ready.true) below c.if-is_ready.least
          (w.least-is ∙ or_none c.loop-place.least c.loop-place.place (w.is_none.ensures ∙ ap not w.if-is_none.true)) ∙ c.loop-place.invariant
      | then-is_ready+else-row-taken+else-is_none w ↦
          let below : nat_lt c.args.taken c.row-item.result.pid ≡ false = grind (arith, nat_tests, w.if-row-taken.false) in
          kept test c.args.taken c.args.self.now.rows.items c.loop-place.place c.row-item.result c.loop-place.least lt is (sym c.is_ready.ensures ∙ w.if-is_ready.true) below c.if-is_ready.least
          (w.least-is ∙ or_some c.loop-place.least c.loop-place.place (w.is_none.ensures ∙ ap not w.if-is_none.false)) ∙ c.loop-place.invariant
      | else-is_ready w ↦
          passed_over test c.args.taken c.args.self.now.rows.items c.loop-place.place c.row-item.result c.loop-place.least lt is (sym c.is_ready.ensures ∙ w.if-is_ready.false) c.if-is_ready.least w.least-is ∙ c.loop-place.invariant
    ]

pub returns : goal.returns
returns c =
    let size : length c.args.self.now.rows.items ≤ c.loop-place.place = omega (arith, c.loop-place-test.false, ap (λ (l : List Row). length l) c.deref-row-items.ensures.value) in
    sym (at_end (is_ready_row (seen c.args.self.now)) c.args.taken c.args.self.now.rows.items c.loop-place.place c.loop-place.least size) ∙ c.loop-place.invariant
