use Rattle.std.proofs.Common.{◌≡◌, ◌<◌, ◌≤◌, ap, arith, length}
use Rattle.group_kernel.proofs.PreparedFaces.{all_ready, kept_so, none_prepared, objects_same, prepares_next, same_so_far}
use Rattle.group_kernel.proofs.TablesTold.{faces_same, owners_same}
use Rattle.group_kernel.specs.Held.{seen}
use Rattle.proc_lease.specs.Private.{view_of}
use Rattle.group_kernel.proofs.group_tables.GroupTables.prepare_faces.Goals as goal

pub loop-place-init : goal.loop-place-init
loop-place-init c = none_prepared (seen c.args.self.now)

pub index-requires : goal.index-requires
index-requires c =
    let size : length c.loop-place.self.objects.items ≡ length c.args.self.now.objects.items = ap length (objects_same view_of (seen c.args.self.now) (seen c.loop-place.self) c.loop-place.invariant.same) in
    omega (arith, size, c.loop-place.self.objects.ok.0, c.args.self.now.objects.ok.0, c.loop-place-test.true, c.len-place-end.ensures)

pub returns-then-is_err-clause-kept : goal.returns-then-is_err-clause-kept
returns-then-is_err-clause-kept c =
    let size : length c.loop-place.self.objects.items ≡ length c.args.self.now.objects.items = ap length (objects_same view_of (seen c.args.self.now) (seen c.loop-place.self) c.loop-place.invariant.same) in
    let lt : c.loop-place.place < length c.loop-place.self.objects.items = omega (arith, size, c.args.self.now.objects.ok.0, c.loop-place-test.true, c.len-place-end.ensures) in
    kept_so (seen c.args.self.now) (seen c.prepare_object.new.self) (same_so_far (seen c.args.self.now) (seen c.loop-place.self) (seen c.prepare_object.new.self) c.loop-place.place c.index.result.now c.prepare_object.result c.loop-place.invariant lt c.index.ensures c.prepare_object.ensures)

pub returns-then-is_err-clause-faces : goal.returns-then-is_err-clause-faces
returns-then-is_err-clause-faces c =
    let size : length c.loop-place.self.objects.items ≡ length c.args.self.now.objects.items = ap length (objects_same view_of (seen c.args.self.now) (seen c.loop-place.self) c.loop-place.invariant.same) in
    let lt : c.loop-place.place < length c.loop-place.self.objects.items = omega (arith, size, c.args.self.now.objects.ok.0, c.loop-place-test.true, c.len-place-end.ensures) in
    λ memory touched. faces_same memory touched (seen c.args.self.now) (seen c.prepare_object.new.self) (same_so_far (seen c.args.self.now) (seen c.loop-place.self) (seen c.prepare_object.new.self) c.loop-place.place c.index.result.now c.prepare_object.result c.loop-place.invariant lt c.index.ensures c.prepare_object.ensures)

pub returns-then-is_err-clause-owners : goal.returns-then-is_err-clause-owners
returns-then-is_err-clause-owners c =
    let size : length c.loop-place.self.objects.items ≡ length c.args.self.now.objects.items = ap length (objects_same view_of (seen c.args.self.now) (seen c.loop-place.self) c.loop-place.invariant.same) in
    let lt : c.loop-place.place < length c.loop-place.self.objects.items = omega (arith, size, c.args.self.now.objects.ok.0, c.loop-place-test.true, c.len-place-end.ensures) in
    owners_same view_of (seen c.args.self.now) (seen c.prepare_object.new.self) (same_so_far (seen c.args.self.now) (seen c.loop-place.self) (seen c.prepare_object.new.self) c.loop-place.place c.index.result.now c.prepare_object.result c.loop-place.invariant lt c.index.ensures c.prepare_object.ensures)

pub loop-place-preserved : goal.loop-place-preserved
loop-place-preserved c =
    let size : length c.loop-place.self.objects.items ≡ length c.args.self.now.objects.items = ap length (objects_same view_of (seen c.args.self.now) (seen c.loop-place.self) c.loop-place.invariant.same) in
    let lt : c.loop-place.place < length c.loop-place.self.objects.items = omega (arith, size, c.args.self.now.objects.ok.0, c.loop-place-test.true, c.len-place-end.ensures) in
    prepares_next (seen c.args.self.now) (seen c.loop-place.self) (seen c.prepare_object.new.self) c.loop-place.place c.index.result.now c.prepare_object.result c.loop-place.invariant lt c.index.ensures c.prepare_object.ensures c.is_err.result c.is_err.ensures.value c.if-is_err.false

pub returns-clause-kept : goal.returns-clause-kept
returns-clause-kept c = kept_so (seen c.args.self.now) (seen c.loop-place.self) c.loop-place.invariant.same

pub returns-clause-faces : goal.returns-clause-faces
returns-clause-faces c = λ memory touched. faces_same memory touched (seen c.args.self.now) (seen c.loop-place.self) c.loop-place.invariant.same

pub returns-clause-owners : goal.returns-clause-owners
returns-clause-owners c = owners_same view_of (seen c.args.self.now) (seen c.loop-place.self) c.loop-place.invariant.same

pub returns-clause-ok : goal.returns-clause-ok
returns-clause-ok c =
    let size : length c.loop-place.self.objects.items ≡ length c.args.self.now.objects.items = ap length (objects_same view_of (seen c.args.self.now) (seen c.loop-place.self) c.loop-place.invariant.same) in
    let past : length c.loop-place.self.objects.items ≤ c.loop-place.place = omega (arith, size, c.args.self.now.objects.ok.0, c.loop-place-test.false, c.len-place-end.ensures) in
    all_ready (seen c.args.self.now) (seen c.loop-place.self) c.loop-place.place c.loop-place.invariant past
