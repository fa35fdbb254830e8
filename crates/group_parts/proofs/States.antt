-- Of the group a step in a run is the step of the group: a process that doesn't run, or waits, changes nothing there either.
use Rattle.std.proofs.Common.{Bool, None, Option, Some, false, refl, sym, true, ℕ, ◌||◌, ◌≡◌}
use Rattle.std.specs.Prelude.{if◌then◌else◌, is_none}
use Rattle.group_defs.specs.Group.{runner}
use Rattle.group_defs.specs.Standing.{State, is_durable}
use Rattle.group_defs.specs.Step.{do_step, group_step, is_waiting, stands_still, step_to}
use Rattle.group_defs.specs.declared.frame.Proc.{Proc}
use Rattle.group_laws.proofs.OthersStay.{step_is}
use Rattle.group_laws.proofs.StepLaws.{waiting_stays}

pub step_group : (s : State) (pid : ℕ) → (do_step s pid).group ≡ group_step (is_durable s.standing pid) s.group pid
unfolding do_step is_waiting
step_group s pid = by_still (stands_still s pid) refl
  where
    still : (o : Option Proc) → runner s.group pid ≡ o → (is_none o || is_waiting s pid) ≡ true → s.group ≡ group_step (is_durable s.standing pid) s.group pid
    still None is e = sym ((step_is (is_durable s.standing pid) s.group pid).0 is)
    still (Some p) is e = sym (waiting_stays (is_durable s.standing pid) s.group pid e)

    by_still : (b : Bool) → stands_still s pid ≡ b → (if b then s else step_to s pid (group_step (is_durable s.standing pid) s.group pid)).group ≡ group_step (is_durable s.standing pid) s.group pid
    by_still true e = still (runner s.group pid) refl e
    by_still false e = refl
