use Rattle.std.proofs.Common.{sym, ap, ◌∙◌, List, false, take, get_or}
use Rattle.std.proofs.lemmas.List.{take_more}
use Rattle.std.specs.List.{filter}
use Rattle.address_maps.specs.declared.maps.Mapping.{Mapping}
use Rattle.shadow_chains.specs.declared.entry.Entry.{Entry}
use Rattle.group_kernel.specs.Ending.{stays_shared, without_unmapped}
use Rattle.group_kernel.proofs.RowsLeft.{all_stay, next_stays}
use Rattle.group_kernel.proofs.ending.drop_faces.Goals as goal

abbrev none : Mapping
none = record { start = 0; pages = 0; prot = 0; shared = false; object = 0; first = 0 }

pub loop-mapping-init : goal.loop-mapping-init
loop-mapping-init c = record { faces = sym (all_stay c.args.rows.now c.args.faces.now.entries) }

pub loop-mapping-preserved : goal.loop-mapping-preserved
loop-mapping-preserved c = record {
  faces = c.drop_face.ensures
      ∙ ap (without_unmapped c.args.rows.now (get_or c.args.shared.now c.loop-mapping.mapping-index none).object) c.loop-mapping.invariant.faces
      ∙ next_stays c.args.rows.now (take c.loop-mapping.mapping-index c.args.shared.now) (get_or c.args.shared.now c.loop-mapping.mapping-index none) c.args.faces.now.entries
      ∙ ap (λ (ms : List Mapping). filter (λ (e : Entry). stays_shared ms c.args.rows.now e.number) c.args.faces.now.entries) (sym (take_more c.args.shared.now c.loop-mapping.mapping-index none c.loop-mapping-test.true));
}
