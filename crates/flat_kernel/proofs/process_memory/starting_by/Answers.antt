use Rattle.std.proofs.Common.{rules, ◌≡◌, get_or, true, false, arith}
use Rattle.std.proofs.lemmas.List.Sorted.{IsPartitionPoint-from_clause}
use Rattle.flat_kernel.proofs.MemoryMaps.{starts_by, starts_first}
use Rattle.flat_kernel.proofs.process_memory.starting_by.Goals as goal

pub returns-clause-point : goal.returns-clause-point
returns-clause-point c =
    let point = IsPartitionPoint-from_clause (starts_by c.args.address) c.args.maps.now c.partition_point.result c.partition_point.ensures.partitioned (starts_first c.args.maps.now c.args.address c.requires) (λ a r q k. search rules) in (
      λ k d low less. let hit : starts_by c.args.address (get_or c.args.maps.now k d) ≡ true = point.0 k d low less in grind (arith, hit),
      λ k d low less. let miss : starts_by c.args.address (get_or c.args.maps.now k d) ≡ false = point.1 k d low less in grind (arith, miss),
    )
