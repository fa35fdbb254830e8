use Rattle.ckpt_records.specs.Parts.{object_bytes}
use Rattle.group_kernel.proofs.NewFaces.{first_of_new, first_over_ok}
use Rattle.group_kernel.proofs.starting.face_of.Goals as goal

pub returns-then-epoch-eq0 : goal.returns-then-epoch-eq0
returns-then-epoch-eq0 c = first_of_new c.args.epoch c.args.object.number (object_bytes c.args.object.pages c.args.layer) c.new_face.result c.if-epoch-eq0.true c.new_face.ensures

pub returns-else-epoch-eq0 : goal.returns-else-epoch-eq0
returns-else-epoch-eq0 c =
    let made = c.of.ensures in
    first_over_ok c.args.epoch c.args.object.pages c.args.object.number c.args.layer c.of.result c.if-epoch-eq0.false c.pages_are_whole.ensures made.pages made.bytes made.base made.base_bytes made.touched
