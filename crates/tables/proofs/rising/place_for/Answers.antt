use Rattle.std.proofs.Common.{rules}
use Rattle.std.specs.Prelude.{nat_lt}
use Rattle.std.proofs.lemmas.List.Sorted.{IsPartitionPoint-from_clause}
use Rattle.tables.specs.Rising.{Rise}
use Rattle.tables.proofs.Places.{parted, place_from_point}
use Rattle.tables.proofs.Numbers.{number_splits}
use Rattle.tables.proofs.rising.place_for.Goals as goal

pub returns-clause-place : goal.returns-clause-place
unfolding Rise
returns-clause-place g c =
    let key = g.T.Keyed.key in
    let splits = number_splits key c.args.key in
    let point = IsPartitionPoint-from_clause (λ x. nat_lt (key x) c.args.key) c.args.items.now c.partition_point.result c.partition_point.ensures.partitioned (parted _ _ _ splits c.args.items.now c.requires) (λ a r q k. search rules) in
    place_from_point _ _ _ splits c.args.items.now c.requires c.partition_point.result c.partition_point.ensures.bound point
