use Rattle.std.proofs.Common.{◌≡◌, true, false, Some, sym, ◌∙◌, ap, arith, get_or}
use Rattle.std.proofs.lemmas.Bool.Decides.{nat_tests}
use Rattle.std.proofs.lemmas.List.{get_or_default}
use Rattle.address_maps.specs.Mappings.{has}
use Rattle.address_maps.specs.declared.maps.Place.{Place}
use Rattle.address_maps.specs.ApartLaws.{place_found, place_missed, place_past, ends_after, no_mapping}
use Rattle.address_maps.proofs.search.find_place.Goals as goal
use Rattle.address_maps.proofs.search.find_place.Goals.{else-place-items-via-then-place-items+else-items-place, else-place-items-via-else-place-items}

pub place_shown-requires-clause-has : goal.place_shown-requires-clause-has
place_shown-requires-clause-has c =
    let after = ends_after c.args.items.now c.requires.apart c.args.address c.place_ending_after-place.result c.place_ending_after-place.ensures.place no_mapping c.if-place-items.true in
    grind (arith, nat_tests, after, c.if-items-place.true)

pub returns-then-items-place : goal.returns-then-items-place
returns-then-items-place c =
    let place = c.place_ending_after-place.result in
    let m = get_or c.args.items.now place no_mapping in
    let after = ends_after c.args.items.now c.requires.apart c.args.address place c.place_ending_after-place.ensures.place no_mapping c.if-place-items.true in
    let hit : has c.args.address m ≡ true = grind (arith, nat_tests, after, c.if-items-place.true) in
    ap (λ (p : Place). Some p) c.place_shown.ensures ∙ sym (place_found c.args.items.now c.requires.apart c.args.address place c.place_ending_after-place.ensures.place m c.if-place-items.true (get_or_default c.args.items.now place no_mapping m c.if-place-items.true) hit)

pub returns-else-place-items : goal.returns-else-place-items
returns-else-place-items c =
    let place = c.place_ending_after-place.result in
    let m = get_or c.args.items.now place no_mapping in
    elim c.else-place-items.branch [
      | else-place-items-via-then-place-items+else-items-place w ↦
          let miss : has c.args.address m ≡ false = grind (arith, nat_tests, w.if-items-place.false) in
          sym (place_missed c.args.items.now c.requires.apart c.args.address place c.place_ending_after-place.ensures.place m w.if-place-items.true (get_or_default c.args.items.now place no_mapping m w.if-place-items.true) miss)
      | else-place-items-via-else-place-items w ↦ sym (place_past c.args.items.now c.requires.apart c.args.address place c.place_ending_after-place.ensures.place w.if-place-items.false)
    ]
