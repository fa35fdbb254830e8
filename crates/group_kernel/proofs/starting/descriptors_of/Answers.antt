use Rattle.std.proofs.Common.{[], get_or, refl, sym, ap, ◌∙◌}
use Rattle.descriptors.specs.Opens.{descriptions}
use Rattle.group_kernel.proofs.DescriptorsMade.{free_next, list_next, open_next, owners_none, same_descriptions, small_next}
use Rattle.group_kernel.proofs.starting.descriptors_of.Goals as goal

pub loop-entry-init : goal.loop-entry-init
loop-entry-init c = record {
  fds = c.new-fds.ensures;
  same = refl;
  exact = λ others are. owners_none others [] c.args.opens.now.entries are;
}

pub install-requires-clause-small : goal.install-requires-clause-small
install-requires-clause-small c = small_next c.args.list.now c.loop-entry.entry-index (0, 0) c.loop-entry-test.true c.requires.fits

pub install-requires-clause-free : goal.install-requires-clause-free
install-requires-clause-free c =
    rw c.loop-entry.invariant.fds (free_next c.args.list.now c.loop-entry.entry-index (0, 0) c.loop-entry-test.true c.requires.fits)

pub loop-entry-preserved : goal.loop-entry-preserved
loop-entry-preserved c =
    let list = c.args.list.now in
    let k = c.loop-entry.entry-index in
    let before = c.loop-entry.invariant in
    let number = (get_or list k (0, 0)).1 in
    let fds = c.in_ok-install.ensures.fds ∙ list_next list c.loop-entry.fds.entries k (0, 0) c.loop-entry-test.true c.requires.fits before.fds in
    record {
      fds = fds;
      same = ap descriptions c.in_ok-install.ensures.owners ∙ same_descriptions c.loop-entry.opens.entries number ∙ before.same;
      exact = λ others are. rw (sym fds) (c.in_ok-install.ensures.exact others []
          (open_next list k (0, 0) c.args.opens.now.entries c.loop-entry.opens.entries c.loop-entry-test.true before.same c.requires.open)
          (rw before.fds (before.exact others are)));
    }
