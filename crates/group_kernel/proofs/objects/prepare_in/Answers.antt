use Rattle.std.proofs.Common.{Option, refl, subst, ◌≡◌}
use Rattle.std.specs.Prelude.{IfSome}
use Rattle.proc_lease.specs.Private.{view_of}
use Rattle.shadow_chains.specs.Entries.{entry_with}
use Rattle.shadow_chains.specs.Faces.{FaceView}
use Rattle.group_kernel.proofs.objects.prepare_in.Goals as goal

pub returns : goal.returns
returns c =
    let w = c.prepare_face.new.face in
    let same = subst (λ (o : Option FaceView). IfSome o (λ old. view_of (entry_with c.args.number w) ≡ view_of (entry_with c.args.number old))) c.in-Some.ensures.value (c.prepare_face.ensures.same c.args.number) in
    record { face = w; is = refl; same = same; ok = c.prepare_face.ensures.ok }
