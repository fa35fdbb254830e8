use Rattle.std.proofs.Common.{◌≡◌, ◌∙◌, ◌<◌, ◌≤◌, ◌+◌, List, ap, arith, get_or, length, subst, sym}
use Rattle.group_defs.specs.declared.frame.ObjectRec.{ObjectRec}
use Rattle.group_kernel.proofs.AllFrozen.{deltas_are, faces_are}
use Rattle.group_kernel.proofs.FrozenFaces.{FreezesUpTo, freezes_next, next_ready, none_frozen, placed}
use Rattle.group_kernel.proofs.PreparedFaces.{objects_same}
use Rattle.group_kernel.proofs.TablesTold.{kept_same, owners_same}
use Rattle.group_kernel.specs.FirstFaces.{bytes_of}
use Rattle.group_kernel.specs.Held.{seen}
use Rattle.group_kernel.proofs.group_tables.GroupTables.freeze_all.Goals as goal
use Rattle.group_kernel.proofs.group_tables.GroupTables.freeze_all.Goals.{in-Some, in_default}

pub loop-place-init : goal.loop-place-init
loop-place-init c = none_frozen (seen c.args.self.now) c.args.frozen.now c.requires.places

pub index-requires : goal.index-requires
index-requires c =
    let size : length c.loop-place.self.objects.items ≡ length c.args.self.now.objects.items = ap length (objects_same bytes_of (seen c.args.self.now) (seen c.loop-place.self) c.loop-place.invariant.same) in
    omega (arith, size, c.loop-place.self.objects.ok.0, c.loop-place-test.true, c.requires.places)

pub freeze_object-requires : goal.freeze_object-requires
freeze_object-requires c =
    let size : length c.loop-place.self.objects.items ≡ length c.args.self.now.objects.items = ap length (objects_same bytes_of (seen c.args.self.now) (seen c.loop-place.self) c.loop-place.invariant.same) in
    let lt : c.loop-place.place < length c.args.self.now.objects.items = omega (arith, size, c.loop-place-test.true, c.requires.places) in
    let here : c.index.result.now ≡ get_or c.args.self.now.objects.items c.loop-place.place c.index.result.now = c.index.ensures ∙ ap (λ (l : List ObjectRec). get_or l c.loop-place.place c.index.result.now) (objects_same bytes_of (seen c.args.self.now) (seen c.loop-place.self) c.loop-place.invariant.same) in
    next_ready (seen c.args.self.now) (seen c.loop-place.self) c.loop-place.place c.loop-place.frozen c.index.result.now c.loop-place.invariant c.requires.ready lt here

pub loop-place-preserved : goal.loop-place-preserved
loop-place-preserved c =
    let size : length c.loop-place.self.objects.items ≡ length c.args.self.now.objects.items = ap length (objects_same bytes_of (seen c.args.self.now) (seen c.loop-place.self) c.loop-place.invariant.same) in
    let lt : c.loop-place.place < length c.args.self.now.objects.items = omega (arith, size, c.loop-place-test.true, c.requires.places) in
    let here : c.index.result.now ≡ get_or c.args.self.now.objects.items c.loop-place.place c.index.result.now = c.index.ensures ∙ ap (λ (l : List ObjectRec). get_or l c.loop-place.place c.index.result.now) (objects_same bytes_of (seen c.args.self.now) (seen c.loop-place.self) c.loop-place.invariant.same) in
    let next = freezes_next (seen c.args.self.now) (seen c.loop-place.self) (seen c.freeze_object.new.self) c.loop-place.place c.loop-place.frozen c.index.result.now c.freeze_object.result c.requires.once c.loop-place.invariant lt here c.freeze_object.ensures in
    elim c.match-freeze_object.branch [
      | in-Some w ↦ subst (FreezesUpTo (seen c.args.self.now) (seen c.freeze_object.new.self) (c.loop-place.place + 1)) (ap (placed c.loop-place.frozen c.loop-place.place) w.in-Some.is ∙ sym w.frozen-is) next
      | in_default w ↦ subst (FreezesUpTo (seen c.args.self.now) (seen c.freeze_object.new.self) (c.loop-place.place + 1)) (ap (placed c.loop-place.frozen c.loop-place.place) w.in_default.is ∙ sym w.frozen-is) next
    ]

pub returns-clause-owners : goal.returns-clause-owners
returns-clause-owners c = owners_same bytes_of (seen c.args.self.now) (seen c.loop-place.self) c.loop-place.invariant.same

pub returns-clause-frozen : goal.returns-clause-frozen
returns-clause-frozen c =
    let past : length c.args.self.now.objects.items ≤ c.loop-place.place = omega (arith, c.requires.places, c.loop-place-test.false, c.loop-place.invariant.size) in
    record {
      kept = kept_same (seen c.args.self.now) (seen c.loop-place.self) c.loop-place.invariant.same;
      deltas = λ g memory touched stands valid faces.
          deltas_are (seen c.args.self.now) (seen c.loop-place.self) c.loop-place.place c.loop-place.frozen c.loop-place.invariant past g memory touched stands valid faces;
      faces = λ g memory touched stands valid faces.
          faces_are (seen c.args.self.now) (seen c.loop-place.self) c.loop-place.place c.loop-place.frozen c.loop-place.invariant past g memory touched stands valid faces c.len-shared.ensures.rise c.len-files.ensures.rise;
    }
