use Rattle.std.proofs.Common.{◌≡◌, List, [], ◌∷◌, ℕ, arith, subst}
use Rattle.descriptors.specs.Owners.{OwnersAre}
use Rattle.group_kernel.proofs.ClosedFds.{close_from, closed_leave, closed_owners, none_from, same_opens}
use Rattle.group_kernel.proofs.OwnedLeft.{none_leaves}
use Rattle.group_kernel.proofs.ending.close_all.Goals as goal

pub loop-fd-init : goal.loop-fd-init
loop-fd-init c = record { from = λ k d lt. omega arith; left = none_leaves c.args.opens.now.entries; exact = λ others are. are }

pub loop-fd-preserved : goal.loop-fd-preserved
loop-fd-preserved c = record {
  from = close_from c.close-closed.result c.loop-fd.fds.entries c.close-closed.new.self.entries c.loop-fd.fd (c.close-closed.new.opens ≡ c.loop-fd.opens) c.close-closed.ensures.bad_fd c.close-closed.ensures.fds c.close-closed.ensures.err c.loop-fd.invariant.from;
  left = closed_leave c.close-closed.result c.loop-fd.fds.entries c.loop-fd.fd c.args.opens.now.entries c.loop-fd.opens.entries c.close-closed.new.opens.entries (c.close-closed.new.self.entries ≡ c.loop-fd.fds.entries) c.close-closed.ensures.owners (same_opens c.close-closed.result (c.close-closed.new.self.entries ≡ c.loop-fd.fds.entries) c.loop-fd.opens c.close-closed.new.opens c.close-closed.ensures.err) c.loop-fd.invariant.left;
  exact = λ others are. closed_owners c.close-closed.result c.loop-fd.fds.entries c.close-closed.new.self.entries c.loop-fd.opens.entries c.close-closed.new.opens.entries c.close-closed.ensures.exact (same_opens c.close-closed.result (c.close-closed.new.self.entries ≡ c.loop-fd.fds.entries) c.loop-fd.opens c.close-closed.new.opens c.close-closed.ensures.err) others (c.loop-fd.invariant.exact others are);
}

pub returns-clause-fds : goal.returns-clause-fds
returns-clause-fds c = none_from c.loop-fd.fds.entries c.loop-fd.fd c.loop-fd-test.false c.loop-fd.invariant.from c.len-none.ensures.descriptors.small

pub returns-clause-left : goal.returns-clause-left
returns-clause-left c = c.loop-fd.invariant.left

pub returns-clause-exact : goal.returns-clause-exact
returns-clause-exact c others are =
    subst (λ (l : List (ℕ × ℕ)). OwnersAre (l ∷ others) [] c.loop-fd.opens.entries) (none_from c.loop-fd.fds.entries c.loop-fd.fd c.loop-fd-test.false c.loop-fd.invariant.from c.len-none.ensures.descriptors.small)
    (c.loop-fd.invariant.exact others are)
