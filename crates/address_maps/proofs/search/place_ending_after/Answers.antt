use Rattle.std.proofs.Common.{rules}
use Rattle.std.specs.Prelude.{nat_le}
use Rattle.std.proofs.lemmas.List.Sorted.{IsPartitionPoint-from_clause}
use Rattle.tables.proofs.Places.{parted, place_from_point}
use Rattle.address_maps.specs.Mappings.{AreApart, end_of}
use Rattle.address_maps.specs.ApartLaws.{ends_split}
use Rattle.address_maps.proofs.search.place_ending_after.Goals as goal

pub returns-clause-place : goal.returns-clause-place
unfolding AreApart
returns-clause-place c =
    let splits = ends_split c.args.address in
    let point = IsPartitionPoint-from_clause (λ m. nat_le (end_of m) c.args.address) c.args.items.now c.partition_point.result c.partition_point.ensures.partitioned (parted _ _ _ splits c.args.items.now c.requires) (λ a r q k. search rules) in
    place_from_point _ _ _ splits c.args.items.now c.requires c.partition_point.result c.partition_point.ensures.bound point
