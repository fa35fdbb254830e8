use Rattle.std.proofs.Common.{ℕ, List, ◌≡◌, ◌∙◌, length, take, drop, sym, ap, arith}
use Rattle.group_defs.specs.Cells.{bytes_in}
use Rattle.proc_lease.specs.Private.{memory_of, views_of}
use Rattle.proc_lease.proofs.Views.{face_bytes, face_there}
use Rattle.proc_lease.proofs.objects.read_from.Goals as goal

pub read_in-requires : goal.read_in-requires
read_in-requires c =
    let same : length (bytes_in (memory_of (views_of c.args.faces.now.entries)) c.args.object) ≡ length c.in-Some.face.now.bytes = ap length (face_bytes c.args.faces.now.entries c.args.object c.in-Some.face.now (sym c.in-Some.ensures)) in
    omega (arith, same, c.requires.inside)

pub unreachable-requires : goal.unreachable-requires
unreachable-requires c = face_there c.args.faces.now.entries c.args.object (omega (arith, c.requires.some, c.requires.inside)) (sym c.in-None.ensures)

pub returns : goal.returns
returns c =
    c.read_in.ensures ∙ ap (λ (l : List ℕ). take (length c.args.into.now) (drop c.args.place l)) (sym (face_bytes c.args.faces.now.entries c.args.object c.in-Some.face.now (sym c.in-Some.ensures)))
