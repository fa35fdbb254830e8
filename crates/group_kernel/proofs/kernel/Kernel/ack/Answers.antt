use Rattle.std.proofs.Common.{◌≡◌, ◌∙◌, ℕ, ◌+◌, ◌≤◌, List, [], Bool, Option, Some, None, true, false, refl, sym, ap, arith, subst}
use Rattle.group_kernel.specs.View.{KernelView, progress_of}
use Rattle.group_kernel.proofs.CommitMarks.{ack_last, ack_leaves, ack_open}
use Rattle.run_defs.specs.Legal.{AckAllowed}
use Rattle.group_kernel.proofs.kernel.Kernel.ack.Goals as goal

pub ack-requires-clause-last : goal.ack-requires-clause-last
ack-requires-clause-last c = ack_last _ _ _ _ _ c.self.invariant c.args.epoch (subst (λ (v : KernelView). AckAllowed (progress_of v) c.args.epoch) (sym c.self.view_is) c.requires.fetched)

pub ack-requires-clause-open : goal.ack-requires-clause-open
ack-requires-clause-open c = ack_open _ _ _ _ _ c.self.invariant c.args.epoch (subst (λ (v : KernelView). AckAllowed (progress_of v) c.args.epoch) (sym c.self.view_is) c.requires.fetched)

pub invariant_of-self : goal.invariant_of-self
invariant_of-self c =
    ack_leaves _ _ _ _ _ c.self.invariant c.args.epoch (subst (λ (v : KernelView). AckAllowed (progress_of v) c.args.epoch) (sym c.self.view_is) c.requires.fetched)
    _ _ _ c.ack.ensures.marks c.ack.ensures.numbers c.ack.ensures.left
