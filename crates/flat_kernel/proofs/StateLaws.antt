-- A step of a group with its standing, and whether a process waits there. No call that is served reads the standing.
use Rattle.std.proofs.Common.{◌≡◌, ℕ, ◌||◌, Bool, true, false, Option, Some, None, refl, sym, ◌∙◌}
use Rattle.std.specs.Prelude.{if◌then◌else◌, is_none}
use Rattle.group_defs.specs.Group.{runner}
use Rattle.group_defs.specs.Standing.{State, is_durable}
use Rattle.group_defs.specs.Step.{do_step, group_step, group_waits, is_waiting, stands_still, step_to}
use Rattle.group_defs.specs.declared.frame.Proc.{Proc}
use Rattle.group_laws.proofs.ServedLaws.{step_unread, waits_unread}
use Rattle.group_laws.proofs.StepLaws.{waiting_stays}

pub waits_same : (s : State) (pid : ℕ) → is_waiting s pid ≡ group_waits true s.group pid
unfolding is_waiting
waits_same s pid = waits_unread (is_durable s.standing pid) true s.group pid

-- where it doesn't run, or waits, a step of the group changes nothing either
still_same : (s : State) (pid : ℕ) → stands_still s pid ≡ true → s.group ≡ group_step true s.group pid
unfolding group_step
still_same s pid = by_runner (runner s.group pid) refl
  where
    by_runner : (o : Option Proc) → runner s.group pid ≡ o → (is_none o || is_waiting s pid) ≡ true → s.group ≡ group_step true s.group pid
    by_runner None is still = sym (rw (is, group_step) refl)
    by_runner (Some p) is still = sym (waiting_stays true s.group pid (sym (waits_same s pid) ∙ still))

pub step_same : (s : State) (pid : ℕ) → (do_step s pid).group ≡ group_step true s.group pid
unfolding do_step
step_same s pid = by_test (stands_still s pid) refl
  where
    by_test : (t : Bool) → stands_still s pid ≡ t → (if t then s else step_to s pid (group_step (is_durable s.standing pid) s.group pid)).group ≡ group_step true s.group pid
    by_test true e = still_same s pid e
    by_test false e = step_unread (is_durable s.standing pid) true s.group pid
