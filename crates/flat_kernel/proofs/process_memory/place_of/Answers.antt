use Rattle.std.proofs.Common.{rules}
use Rattle.std.proofs.lemmas.List.Sorted.{IsPartitionPoint-from_clause}
use Rattle.flat_kernel.proofs.MemoryPlaces.{below, lower_first, place_within, place_number}
use Rattle.flat_kernel.proofs.process_memory.place_of.Goals as goal

pub returns-clause-within : goal.returns-clause-within
returns-clause-within c =
    let point = IsPartitionPoint-from_clause (below c.args.number) c.args.objects.now c.partition_point.result c.partition_point.ensures.partitioned (lower_first c.args.objects.now c.args.number c.requires.rise) (λ a r q k. search rules) in
    place_within c.args.objects.now c.args.number c.partition_point.result c.requires.rise point c.requires.some

pub returns-clause-number : goal.returns-clause-number
returns-clause-number c =
    let point = IsPartitionPoint-from_clause (below c.args.number) c.args.objects.now c.partition_point.result c.partition_point.ensures.partitioned (lower_first c.args.objects.now c.args.number c.requires.rise) (λ a r q k. search rules) in
    place_number c.args.objects.now c.args.number c.partition_point.result c.requires.rise point c.requires.some
