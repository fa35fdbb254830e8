-- The local steps of a turn.
use Rattle.std.specs.Prelude.{◌≡◌, ℕ, IsTrue}
use Rattle.group_defs.specs.Standing.{Standing}
use Rattle.run_defs.specs.Turns.{AllLocal, steps_of}
use Rattle.flat_kernel.specs.Engine.{IsRunnable, group_in, state_in}
use Rattle.flat_kernel.specs.declared.engine_group.EngineGroup.{EngineGroup}

-- n local steps were made, whatever stands beside the group, and the process still runs in a valid group
pub record HasStepped (g h : EngineGroup) (n : ℕ) : Type 0 where
  pub group : (standing : Standing) → group_in h ≡ (steps_of (state_in g standing) g.fixed.pid n).group
  pub all_local : (standing : Standing) → AllLocal (state_in g standing) g.fixed.pid n
  pub running : IsTrue h.running
  pub runnable : IsRunnable (group_in h)
  pub out : h.out ≡ g.out
  pub fixed : h.fixed ≡ g.fixed
