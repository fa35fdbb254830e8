use Rattle.std.proofs.Common.{◌≡◌, ◌∙◌, ℕ, ◌+◌, ◌≤◌, List, [], Bool, Option, Some, None, true, false, refl, sym, ap, arith, subst}
use Rattle.group_kernel.proofs.CommitMarks.{fetch_leaves, fetch_open}
use Rattle.group_kernel.proofs.kernel.Kernel.fetch.Goals as goal

pub fetch-requires-clause-open : goal.fetch-requires-clause-open
fetch-requires-clause-open c = fetch_open _ _ _ _ _ c.self.invariant c.in-Some.ckpt (sym c.replace.ensures.value ∙ c.in-Some.is)

pub invariant_of-self : goal.invariant_of-self
invariant_of-self c =
    fetch_leaves _ _ _ _ _ c.self.invariant c.in-Some.ckpt (sym c.replace.ensures.value ∙ c.in-Some.is) _ _ _ _ c.replace.ensures.after c.fetch.ensures.marks c.fetch.ensures.numbers c.fetch.ensures.left
