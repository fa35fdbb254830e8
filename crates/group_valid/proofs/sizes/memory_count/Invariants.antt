use Rattle.std.proofs.Common.{◌≡◌, ◌≤◌, take, length, not, filter}
use Rattle.group_defs.specs.Objects as of_objects
use Rattle.group_valid.proofs.sizes.memory_count.Given as goal

abbrev pub invariant-loop-o : goal.invariant-loop-o
invariant-loop-o l = record { is : l.count ≡ length (filter (λ o. not (of_objects.is_of_file l.files o.number)) (take l.o-index l.objects)); small : l.count ≤ l.o-index }
