use Rattle.address_maps.proofs.LowestGap.{computed_gap}
use Rattle.address_maps.proofs.address_map.Map.first_gap.Goals as goal

pub returns-clause-computed : goal.returns-clause-computed
returns-clause-computed c =
    let some = rw c.deref.ensures.value at c.first_gap.ensures.some in
    let none = rw c.deref.ensures.value at c.first_gap.ensures.none in
    rw (← c.self.view_is) (computed_gap _ c.self.invariant.each c.self.invariant.apart c.args.pages c.first_gap.result some none)
