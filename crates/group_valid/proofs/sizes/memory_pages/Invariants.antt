use Rattle.std.proofs.Common.{◌≡◌, ◌≤◌, ◌*◌, ◌^◌, take, not, filter, sum_by}
use Rattle.group_defs.specs.Objects as of_objects
use Rattle.group_valid.proofs.sizes.memory_pages.Given as goal

abbrev pub invariant-loop-o : goal.invariant-loop-o
invariant-loop-o l = record { is : l.pages ≡ sum_by (λ o. o.pages) (filter (λ o. not (of_objects.is_of_file l.files o.number)) (take l.o-index l.objects)); small : l.pages ≤ l.o-index * 2 ^ 64 }
