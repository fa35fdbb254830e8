use Rattle.std.proofs.Common.{◌≡◌, length, sym, ap, arith}
use Rattle.std.proofs.lemmas.Result.{on_ok_weaker, on_err_weaker}
use Rattle.group_defs.specs.Cells.{bytes_in}
use Rattle.proc_lease.specs.Private.{memory_of, views_of, with_bytes}
use Rattle.proc_lease.proofs.Views.{face_bytes, face_there, replaced_views, same_views, stays_ready}
use Rattle.proc_lease.proofs.objects.write_to.Goals as goal

pub write_in-requires : goal.write_in-requires
write_in-requires c =
    let same : length (bytes_in (memory_of (views_of c.args.faces.now.entries)) c.args.object) ≡ length c.in-Some.face.now.bytes = ap length (face_bytes c.args.faces.now.entries c.args.object c.in-Some.face.now (sym c.in-Some.ensures.value)) in
    omega (arith, same, c.requires.inside)

pub unreachable-requires : goal.unreachable-requires
unreachable-requires c = face_there c.args.faces.now.entries c.args.object (omega (arith, c.requires.some, c.requires.inside)) (sym c.in-None.ensures.value)

pub returns-clause-ok : goal.returns-clause-ok
returns-clause-ok c =
    on_ok_weaker c.write_in.result (λ h. replaced_views c.args.faces.now.entries c.args.object c.in-Some.face.now c.write_in.new.face (with_bytes c.args.place c.args.bytes.now) (sym c.in-Some.ensures.value) (h c.args.object)) c.write_in.ensures.ok

pub returns-clause-err : goal.returns-clause-err
returns-clause-err c =
    on_err_weaker c.write_in.result (λ h. same_views c.args.faces.now.entries c.args.object c.in-Some.face.now c.write_in.new.face (sym c.in-Some.ensures.value) (h c.args.object)) c.write_in.ensures.err

pub returns-clause-ready : goal.returns-clause-ready
returns-clause-ready c = stays_ready c.args.faces.now.entries c.args.object c.in-Some.face.now c.write_in.new.face (sym c.in-Some.ensures.value) c.write_in.ensures.ready
