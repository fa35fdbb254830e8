use Rattle.std.proofs.Common.{◌∙◌, add-one}
use Rattle.std.proofs.lemmas.List.{get_or_default}
use Rattle.address_maps.specs.CutLaws.{set_inserted}
use Rattle.address_maps.proofs.cutting.split.Goals as goal

pub returns-clause-ok : goal.returns-clause-ok
returns-clause-ok c d =
    let read = rw c.reserve.ensures.items at c.index-whole.ensures in
    let whole = read ∙ get_or_default c.args.items.now.items c.args.place c.index-whole.result.now d c.requires.within in
    rw (c.insert.ensures.items, c.if-is_err.ensures.negation, c.reserve.ensures.items, c.below.ensures, c.above.ensures, ← whole, add-one) (set_inserted c.args.items.now.items c.args.place _ _ c.requires.within)
