use Rattle.std.proofs.Common.{◌<◌, length, ◌∙◌, ap, arith}
use Rattle.address_maps.specs.Cut.{remains}
use Rattle.address_maps.specs.CutLaws.{trimmed_read, trimmed_some, trimmed_none}
use Rattle.address_maps.proofs.cutting.trim.Goals as goal
use Rattle.address_maps.proofs.cutting.trim.Goals.{in-Some, in_default}

pub part_left-requires-clause-mapping : goal.part_left-requires-clause-mapping
part_left-requires-clause-mapping c =
    let read = c.index.ensures ∙ trimmed_read _ _ _ _ _ c.loop-place.invariant.so_far c.index.result.now in
    rw read (c.requires.each c.loop-place.place c.index.result.now (omega arith))

pub part_left-requires-clause-part : goal.part_left-requires-clause-part
part_left-requires-clause-part c =
    let read = c.index.ensures ∙ trimmed_read _ _ _ _ _ c.loop-place.invariant.so_far c.index.result.now in
    rw read (c.requires.parts c.loop-place.place c.index.result.now (omega arith))

pub loop-place-preserved : goal.loop-place-preserved
loop-place-preserved c =
    let so_far = c.loop-place.invariant.so_far in
    let read = c.index.ensures ∙ trimmed_read _ _ _ _ _ so_far c.index.result.now in
    let lt : c.loop-place.place < length c.args.items.now.items = omega arith in
    elim c.match-part_left.branch [
      | in-Some w ↦ rw (w.items-is, w.kept-is) record {
        so_far = trimmed_some _ _ _ _ _ so_far c.index.result.now w.in-Some.part lt (w.in-Some.ensures ∙ ap (remains c.args.start c.args.end) read);
        capacity = c.loop-place.invariant.capacity;
      }
      | in_default w ↦ rw (w.items-is, w.kept-is) record {
        so_far = trimmed_none _ _ _ _ _ so_far c.index.result.now lt (w.in_default.ensures ∙ ap (remains c.args.start c.args.end) read);
        capacity = c.loop-place.invariant.capacity;
      }
    ]
