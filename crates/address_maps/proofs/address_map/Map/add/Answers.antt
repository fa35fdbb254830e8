use Rattle.std.proofs.Common.{◌<◌, length, sym, ◌∙◌, arith}
use Rattle.address_maps.specs.ApartLaws.{rise_from_apart, start_is_new, added_mappings}
use Rattle.address_maps.proofs.address_map.Map.add.Goals as goal

pub insert_in-requires-clause-rise : goal.insert_in-requires-clause-rise
insert_in-requires-clause-rise c = rise_from_apart _ c.self.invariant.each c.self.invariant.apart

pub insert_in-requires-clause-new : goal.insert_in-requires-clause-new
insert_in-requires-clause-new c =
    let free = rw c.deref.ensures.value at (sym c.is_taken.ensures ∙ c.if-is_taken.false) in
    start_is_new _ c.self.invariant c.args.m c.requires free

pub invariant_of-self-2 : goal.invariant_of-self-2
invariant_of-self-2 c =
    let free = rw c.deref.ensures.value at (sym c.is_taken.ensures ∙ c.if-is_taken.false) in
    let room : length c.self.inside.items.items < 1024 = omega (arith, c.self.inside.items.ok.0, c.len.ensures, c.if-len-ge1024.false) in
    rw c.in_ok-insert_in.ensures.ok (added_mappings _ c.self.invariant c.args.m c.requires free room)
