use Rattle.std.proofs.Common.{List, None, Option, ap, arith, get_or, length, refl, sym, ◌<◌, ◌∙◌, ◌≡◌}
use Rattle.group_kernel.proofs.FirstFaces.{none_further, none_of, owned_by_none}
use Rattle.group_kernel.specs.FirstFaces.{face_in_process}
use Rattle.group_kernel.specs.Held.{seen}
use Rattle.group_kernel.specs.declared.row.Row.{Row}
use Rattle.group_kernel.proofs.group_tables.GroupTables.owner_of.Goals as goal

pub loop-place-init : goal.loop-place-init
loop-place-init c = refl

pub loop-place-preserved : goal.loop-place-preserved
loop-place-preserved c =
    let rows = c.args.self.now.rows.items in
    let size : length c.deref-row-items.result.now ≡ length rows = ap length c.deref-row-items.ensures.value in
    let lt : c.loop-place.place < length rows = omega (arith, size, c.loop-place-test.true) in
    let row : c.row-item.result ≡ get_or rows c.loop-place.place c.row-item.result = c.row-item.is ∙ ap (λ (l : List Row). get_or l c.loop-place.place c.row-item.result) c.deref-row-items.ensures.value in
    let none : face_in_process c.row-item.result.process c.args.number ≡ None = none_of (face_in_process c.row-item.result.process c.args.number) c.has_privately.result c.has_privately.ensures c.if-has_privately.false in
    none_further rows c.loop-place.place c.args.number c.row-item.result lt c.loop-place.invariant (ap (λ (r : Row). face_in_process r.process c.args.number) (sym row) ∙ none)

pub returns : goal.returns
returns c =
    let rows = c.args.self.now.rows.items in
    let size : length c.deref-row-items.result.now ≡ length rows = ap length c.deref-row-items.ensures.value in
    let past : length rows ≡ c.loop-place.place = omega (arith, size, c.loop-place-test.false, c.loop-place.auto.place-end) in
    owned_by_none (seen c.args.self.now) c.args.number c.loop-place.place (none_of _ c.has.result c.has.ensures c.if-has.false) (none_of _ c.has-2.result c.has-2.ensures c.if-has-2.false) past c.loop-place.invariant
