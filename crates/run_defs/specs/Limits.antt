-- The limits of a run.
use Rattle.std.specs.Prelude.{◌≤◌}
use Rattle.run_defs.specs.declared.run.Limits.{Limits}

-- a run's turns, the steps of a turn, the turns before a barrier, the threads for processes and those for pages
pub record LimitsFit (limits : Limits) : Type 0 where
  pub turns : (1 ≤ limits.turns) × (limits.turns ≤ 1000000)
  pub quantum : (1 ≤ limits.quantum) × (limits.quantum ≤ 100000)
  pub every : (1 ≤ limits.every) × (limits.every ≤ 10000)
  pub workers : limits.workers ≤ 16
  pub flushers : (1 ≤ limits.flushers) × (limits.flushers ≤ 8)
