use Rattle.std.proofs.Common.{refl, ◌∙◌}
use Rattle.std.proofs.lemmas.Bool.{le-ltb}
use Rattle.std.proofs.lemmas.List.{get_or_default}
use Rattle.address_maps.specs.ApartLaws.{taken_at, taken_past}
use Rattle.address_maps.proofs.search.is_taken.Goals as goal

pub returns-then-place-items : goal.returns-then-place-items
returns-then-place-items c =
    rw (c.from.ensures, c.end_of.ensures) (taken_at c.args.items.now c.requires.apart c.args.m.now.start _ c.place_ending_after-place.ensures.place c.args.m.now _ refl c.requires.each c.if-place-items.true (get_or_default c.args.items.now _ _ _ c.if-place-items.true))

pub returns-else-place-items : goal.returns-else-place-items
returns-else-place-items c =
    le-ltb _ _ c.if-place-items.false ∙ taken_past c.args.items.now c.requires.apart c.args.m.now.start _ c.place_ending_after-place.ensures.place c.args.m.now refl c.requires.each c.if-place-items.false
