use Rattle.std.proofs.Common.{refl, sym, ap, ◌∙◌, take_all}
use Rattle.shadow_chains.specs.Entries.{number_of}
use Rattle.group_kernel.proofs.FacesTaken.{but_none, that_none}
use Rattle.group_kernel.proofs.FacesMoved.{left_next, moved_next, taken_shared}
use Rattle.std.proofs.Common.{[], List}
use Rattle.address_maps.specs.declared.maps.Mapping.{Mapping}
use Rattle.group_defs.specs.Fork.{maps_privately}
use Rattle.group_kernel.specs.Starting.{faces_but, faces_that}
use Rattle.tables.specs.Rows.{Rows}
use Rattle.shadow_chains.specs.declared.entry.Entry.{Entry}
use Rattle.group_kernel.proofs.starting.private_faces.Goals as goal
use Rattle.group_kernel.proofs.starting.private_faces.Goals.{then-not-mapping+in_ok-move_face, else-not-mapping}

pub loop-mapping-init : goal.loop-mapping-init
loop-mapping-init c = record {
  taken = c.new-faces.ensures ∙ sym (that_none number_of (maps_privately []) (λ n. refl) c.args.all.now.entries);
  left = sym (but_none number_of (maps_privately []) (λ n. refl) c.args.all.now.entries);
}

pub loop-mapping-preserved : goal.loop-mapping-preserved
loop-mapping-preserved c =
    let before = c.loop-mapping.invariant in
    elim c.if-not-mapping.branch [
      | then-not-mapping+in_ok-move_face w ↦ record {
        taken = ap (λ (t : Rows Entry). t.entries) w.faces-is
            ∙ moved_next c.args.maps.now c.loop-mapping.mapping-index _ c.args.all.now.entries _ _ _ c.requires c.loop-mapping-test.true w.if-not-mapping.true before.taken before.left w.in_ok-move_face.ensures.to;
        left = ap (λ (t : Rows Entry). t.entries) w.all-is
            ∙ left_next c.args.maps.now c.loop-mapping.mapping-index _ c.args.all.now.entries _ _ c.loop-mapping-test.true w.if-not-mapping.true before.left w.in_ok-move_face.ensures.from;
      }
      | else-not-mapping w ↦
          let same = taken_shared c.args.maps.now c.loop-mapping.mapping-index _ c.args.all.now.entries c.loop-mapping-test.true w.if-not-mapping.false in
          record {
            taken = ap (λ (t : Rows Entry). t.entries) w.faces-is ∙ before.taken ∙ same.0;
            left = ap (λ (t : Rows Entry). t.entries) w.all-is ∙ before.left ∙ same.1;
          }
    ]

pub returns-clause-taken : goal.returns-clause-taken
returns-clause-taken c = c.loop-mapping.invariant.taken ∙ ap (λ (l : List Mapping). faces_that (maps_privately l) c.args.all.now.entries) (take_all c.loop-mapping.mapping-index c.args.maps.now c.loop-mapping-test.false)

pub returns-clause-left : goal.returns-clause-left
returns-clause-left c = c.loop-mapping.invariant.left ∙ ap (λ (l : List Mapping). faces_but (maps_privately l) c.args.all.now.entries) (take_all c.loop-mapping.mapping-index c.args.maps.now c.loop-mapping-test.false)
