use Rattle.std.proofs.Common.{rules}
use Rattle.std.proofs.lemmas.List.Sorted.{IsPartitionPoint-from_clause}
use Rattle.tables.proofs.Places.{parted, place_from_point}
use Rattle.group_files.specs.Names.{is_before}
use Rattle.group_files.specs.Files.{NamesRise}
use Rattle.group_files.specs.NameLaws.{names_split}
use Rattle.group_files.proofs.search.place_of.Goals as goal

pub returns-clause-place : goal.returns-clause-place
unfolding NamesRise
returns-clause-place c =
    let splits = names_split c.args.name.now in
    let point = IsPartitionPoint-from_clause (λ f. is_before f.name c.args.name.now) c.args.files.now c.partition_point.result c.partition_point.ensures.partitioned (parted _ _ _ splits c.args.files.now c.requires) (λ a r q k. search rules) in
    place_from_point _ _ _ splits c.args.files.now c.requires c.partition_point.result c.partition_point.ensures.bound point
