use Rattle.std.proofs.Common.{◌≡◌, ◌+◌, ◌*◌, ◌%◌, arith, ap}
use Rattle.std.specs.Option.{option_map}
use Rattle.address_maps.specs.Mappings.{place_shown}
use Rattle.address_maps.specs.ShownLaws.{nothing_inside, same_outside}
use Rattle.address_maps.proofs.laws.cut_unmaps_the_range.Goals as goal

pub returns-clause-inside : goal.returns-clause-inside
returns-clause-inside c maps start pages address valid at_page within low high =
    let end_at_page : (start + 4096 * pages) % 4096 ≡ 0 = omega (arith, at_page) in
    ap (option_map (place_shown address)) (nothing_inside start (start + 4096 * pages) at_page end_at_page within address low high maps valid.each)

pub returns-clause-outside : goal.returns-clause-outside
returns-clause-outside c maps start pages address valid at_page within outside =
    let end_at_page : (start + 4096 * pages) % 4096 ≡ 0 = omega (arith, at_page) in
    same_outside start (start + 4096 * pages) at_page end_at_page within address outside maps valid.each
