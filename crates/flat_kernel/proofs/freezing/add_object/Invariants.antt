use Rattle.std.proofs.Common.{◌≡◌, ◌++◌}
use Rattle.flat_kernel.specs.Placing.{pages_up_to}
use Rattle.flat_kernel.proofs.freezing.add_object.Given as goal

abbrev pub invariant-loop-page : goal.invariant-loop-page
invariant-loop-page l = l.pages.items ≡ l.initial.pages.items ++ pages_up_to l.object l.bytes l.page
