use Rattle.std.proofs.Common.{◌≡◌, ◌∙◌, ℕ, ◌+◌, ◌≤◌, List, [], Bool, Option, Some, None, true, false, refl, sym, ap, arith, subst}
use Rattle.std.specs.Prelude.{length}
use Rattle.group_parts.specs.Kept.{KeptParts}
use Rattle.group_kernel.specs.Held.{seen}
use Rattle.group_kernel.specs.View.{progress_of}
use Rattle.group_kernel.proofs.CommitMarks.{order, same_stands, valid}
use Rattle.group_kernel.proofs.MarkedFrames.{marked_free, out_valid}
use Rattle.group_kernel.proofs.kernel.Kernel.prepare.Goals as goal

pub reserve-requires-clause-order : goal.reserve-requires-clause-order
reserve-requires-clause-order c =
    let o = order _ _ _ _ _ c.self.invariant in
    let x = o.fetched in let y = o.made in let z = o.one_open in
    let last = c.self.invariant.counts.last in let fetched = c.self.invariant.counts.fetched in let acked = c.self.invariant.counts.acked in
    (omega (arith, x, y, z, last, fetched, acked), omega (arith, x, y, z, last, fetched, acked), omega (arith, x, y, z, last, fetched, acked), omega (arith, x, y, z, last, fetched, acked))

pub marked_frame-requires : goal.marked_frame-requires
marked_frame-requires c = out_valid (seen c.self.inside.tables) _ _ c.self.invariant.stands (valid _ _ _ _ _ c.self.invariant)

pub invariant_of-self-in_err-prepare_faces : goal.invariant_of-self-in_err-prepare_faces
invariant_of-self-in_err-prepare_faces c =
    same_stands _ _ _ _ _ c.self.invariant _ _ None false _ c.reserve.ensures.marks c.prepare_faces.ensures.kept (c.prepare_faces.ensures.faces _ _) c.prepare_faces.ensures.owners c.reserve.ensures.numbers
    (c.reserve.ensures.kept c.self.invariant.room) tt

pub invariant_of-self-2 : goal.invariant_of-self-2
invariant_of-self-2 c =
    same_stands _ _ _ _ _ c.self.invariant _ _ _ true _ c.reserve.ensures.marks c.prepare_faces.ensures.kept (c.prepare_faces.ensures.faces _ _) c.prepare_faces.ensures.owners c.reserve.ensures.numbers
    (c.reserve.ensures.kept c.self.invariant.room) (record {
      room = c.in_ok-reserve.ensures.room;
      frame = λ none. c.in_ok-frame.ensures
          ∙ marked_free (seen c.self.inside.tables) _ _ none c.self.invariant.stands (valid _ _ _ _ _ c.self.invariant);
      places = c.in_ok-frozen.ensures ∙ ap (λ (k : KeptParts). length k.public.frame.objects) (sym c.prepare_faces.ensures.kept);
      ready = c.in_ok-prepare_faces.ensures.ok;
    })
