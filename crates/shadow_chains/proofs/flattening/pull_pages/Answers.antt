use Rattle.shadow_chains.proofs.Joins.{joins_all, shows_itself}
use Rattle.shadow_chains.proofs.flattening.pull_pages.Goals as goal

pub returns-in_err-reserve-clause-same : goal.returns-in_err-reserve-clause-same
returns-in_err-reserve-clause-same c = rw c.reserve.ensures.items (shows_itself _ _)

pub returns-clause-same : goal.returns-clause-same
returns-clause-same c = rw (c.replace.ensures.after, c.new.ensures) (joins_all _ _ _ (rw (c.reserve.ensures.items, c.into_slots-pages.ensures.same, c.replace.ensures.value) at c.move_missing.ensures.joins))
