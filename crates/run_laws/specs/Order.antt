-- The order that the rules for marks leave.
use Rattle.std.specs.Prelude.{◌≡◌, ℕ, ◌+◌, ◌≤◌, length, All}
use Rattle.run_defs.specs.Progress.{Progress}
use Rattle.run_defs.specs.declared.run.Limits.{Limits}
use Rattle.run_defs.specs.declared.run.Mark.{Mark}
use Rattle.run_defs.specs.declared.run.Mark.TheVariants.{Take, Turn, Barrier, Fetch, Ack}

-- What each legal trace keeps to: an Ack follows its Fetch and a Fetch its Barrier, at most the last Barrier has no Ack, the
-- turns that are made and taken stay within the limits, and no checkpoint has an epoch past the last Barrier's.
pub record IsInOrder (limits : Limits) (origin_epoch : ℕ) (r : Progress) : Type 0 where
  pub begins : origin_epoch ≤ r.state.standing.acked
  pub fetched : r.state.standing.acked ≤ r.fetched
  pub made : r.fetched ≤ r.state.standing.last
  pub one_open : r.state.standing.last ≤ r.state.standing.acked + 1
  pub turns : r.turns + length r.leases ≤ limits.turns
  pub interval : r.turns_since + length r.leases ≤ limits.every
  pub epochs : All (λ c. c.epoch ≤ r.state.standing.last) r.checkpoints

-- what may stand behind a mark: behind a Take its Turn, behind a Barrier its Fetch, behind a Fetch its Ack
abbrev pub Follows : Mark → Mark → Type 0
Follows (Take worker pid) m = (n : ℕ) × (m ≡ Turn worker pid n)
Follows (Turn worker pid n) m = Unit {0}
Follows (Barrier epoch) m = m ≡ Fetch epoch
Follows (Fetch epoch) m = m ≡ Ack epoch
Follows (Ack epoch) m = Unit {0}
