use Rattle.std.proofs.Common.{◌≡◌, map, take}
use Rattle.flat_kernel.specs.Placing.{memory_pages}
use Rattle.flat_kernel.proofs.freezing.pages_in_objects.Given as goal

abbrev pub invariant-loop-object : goal.invariant-loop-object
invariant-loop-object l = l.pages.items ≡ memory_pages (map (λ o. (o.0, o.1.items)) (take l.object-index l.objects))
