use Rattle.std.proofs.Common.{Bool, List, ◌≡◌, length, sym, ap, subst, arith}
use Rattle.std.proofs.lemmas.Result.{on_ok_weaker}
use Rattle.group_defs.specs.Cells.{bytes_in}
use Rattle.shadow_chains.specs.Chain.{HasRange}
use Rattle.proc_lease.specs.Private.{memory_of, views_of}
use Rattle.proc_lease.proofs.Views.{face_bytes, face_there, found_ready, replaced_ready, same_views, stays_ready}
use Rattle.proc_lease.proofs.objects.reserve_at.Goals as goal

pub reserve_in-requires : goal.reserve_in-requires
reserve_in-requires c =
    let same : length (bytes_in (memory_of (views_of c.args.faces.now.entries)) c.args.object) ≡ length c.in-Some.face.now.bytes = ap length (face_bytes c.args.faces.now.entries c.args.object c.in-Some.face.now (sym c.in-Some.ensures.value)) in
    omega (arith, same, c.requires.inside)

pub unreachable-requires : goal.unreachable-requires
unreachable-requires c = face_there c.args.faces.now.entries c.args.object (omega (arith, c.requires.some, c.requires.inside)) (sym c.in-None.ensures.value)

pub returns-clause-same : goal.returns-clause-same
returns-clause-same c = same_views c.args.faces.now.entries c.args.object c.in-Some.face.now c.reserve_in.new.face (sym c.in-Some.ensures.value) (c.reserve_in.ensures.same c.args.object)

pub returns-clause-ready : goal.returns-clause-ready
returns-clause-ready c = stays_ready c.args.faces.now.entries c.args.object c.in-Some.face.now c.reserve_in.new.face (sym c.in-Some.ensures.value) c.reserve_in.ensures.ready

pub returns-clause-ok : goal.returns-clause-ok
returns-clause-ok c =
    on_ok_weaker c.reserve_in.result (λ h. subst (λ (s : List Bool). HasRange s c.args.place c.args.n) (sym (replaced_ready c.args.faces.now.entries c.args.object c.in-Some.face.now c.reserve_in.new.face (sym c.in-Some.ensures.value))) h) c.reserve_in.ensures.ok

pub returns-clause-succeeds : goal.returns-clause-succeeds
returns-clause-succeeds c ready = c.reserve_in.ensures.succeeds (subst (λ (s : List Bool). HasRange s c.args.place c.args.n) (found_ready c.args.faces.now.entries c.args.object c.in-Some.face.now (sym c.in-Some.ensures.value)) ready)
