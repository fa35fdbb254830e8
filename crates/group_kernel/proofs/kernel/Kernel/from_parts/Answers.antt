use Rattle.std.proofs.Common.{◌≡◌, ◌∙◌, ℕ, ◌+◌, ◌≤◌, List, [], Bool, Option, Some, None, true, false, refl, sym, ap, arith, subst}
use Rattle.group_kernel.proofs.Beginnings.{begins}
use Rattle.group_kernel.proofs.kernel.Kernel.from_parts.Goals as goal

pub invariant_of-result : goal.invariant_of-result
invariant_of-result c =
    begins c.of-start.result.value c.args.parts c.args.epoch c.args.limits _ _ c.of-start.ensures c.requires.parts c.requires.limits c.in_ok-tables.ensures.parts c.in_ok-tables.ensures.faces c.in_ok-tables.ensures.owners
    c.new.ensures.marks c.new.ensures.none c.new.ensures.epochs _ c.new.ensures.marks
