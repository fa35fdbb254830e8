use Rattle.std.proofs.Common.{arith, get_or}
use Rattle.std.proofs.lemmas.List.{get_or_default}
use Rattle.address_maps.specs.Mappings.{IsMapping}
use Rattle.address_maps.specs.ApartLaws.{no_mapping}
use Rattle.address_maps.proofs.Free.{lowest_here, lowest_after, passed_more}
use Rattle.address_maps.proofs.gaps.lowest_free.Goals as goal

pub returns-then-low-size-clause-lowest : goal.returns-then-low-size-clause-lowest
returns-then-low-size-clause-lowest c =
    lowest_here _ _ _ _ c.requires.each c.requires.apart c.requires.some c.loop-m.invariant
    (λ d. rw (get_or_default c.args.items.now c.loop-m.m-index d no_mapping c.loop-m-test.true) c.if-low-size.true)

pub overflow_mul-m : goal.overflow_mul-m
unfolding IsMapping
overflow_mul-m c = let here = c.requires.each c.loop-m.m-index no_mapping c.loop-m-test.true in omega (arith, here)

pub overflow_add-m : goal.overflow_add-m
unfolding IsMapping
overflow_add-m c = let here = c.requires.each c.loop-m.m-index no_mapping c.loop-m-test.true in omega (arith, here)

pub loop-m-preserved : goal.loop-m-preserved
loop-m-preserved c =
    passed_more _ _ _ _ c.requires.each c.requires.apart c.requires.some c.loop-m.invariant (get_or c.args.items.now c.loop-m.m-index no_mapping) c.max-low.result c.loop-m-test.true (λ d. get_or_default c.args.items.now c.loop-m.m-index d no_mapping c.loop-m-test.true) c.if-low-size.false c.max-low.ensures

pub returns-clause-lowest : goal.returns-clause-lowest
returns-clause-lowest c = lowest_after _ _ _ _ c.requires.each c.requires.apart c.requires.some c.loop-m.invariant c.loop-m-test.false
