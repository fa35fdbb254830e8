-- Steps and turns of a group with its standing.
use Rattle.std.proofs.Common.{◌≡◌, ℕ, zero, suc, ◌<◌, ◌==◌, ◌&&◌, ◌||◌, not, Bool, true, false, map, Option, Some, None, refl, ap, sym, ◌∙◌, subst, arith}
use Rattle.std.specs.Prelude.{if◌then◌else◌, filter, is_none}
use Rattle.std.proofs.lemmas.List.Elements.{filter_agree}
use Rattle.group_defs.specs.Group.{Group, is_running, runner}
use Rattle.group_defs.specs.Standing.{State, is_durable, stepped}
use Rattle.group_defs.specs.Step.{after_effect, do_step, effect_in, group_step, group_waits, is_local, is_waiting, stands_still, step_to}
use Rattle.group_defs.specs.declared.frame.Proc.{Proc}
use Rattle.group_laws.proofs.ServedLaws.{step_unread, waits_unread}
use Rattle.group_laws.proofs.StepLaws.{waiting_stays}
use Rattle.run_defs.specs.Legal.{ready}
use Rattle.run_defs.specs.Turns.{AllLocal, IsTurn, steps_of, turned}

-- what a step does to a group with its standing: nothing, or a step of the group
pub step_cases : (P : State → Type 0) (s : State) (pid : ℕ) → P s → P (step_to s pid (group_step (is_durable s.standing pid) s.group pid)) → P (do_step s pid)
unfolding do_step
step_cases P s pid still moved = by_test (stands_still s pid)
  where
    by_test : (b : Bool) → P (if b then s else step_to s pid (group_step (is_durable s.standing pid) s.group pid))
    by_test true = still
    by_test false = moved

-- no step changes the epochs of the last barrier and of the last acknowledgement
steps_epochs : (s : State) (pid n : ℕ) → ((steps_of s pid n).standing.last ≡ s.standing.last) × ((steps_of s pid n).standing.acked ≡ s.standing.acked)
unfolding steps_of stepped
steps_epochs s pid zero = (refl, refl)
steps_epochs s pid (suc n) = step_cases (λ t. (t.standing.last ≡ s.standing.last) × (t.standing.acked ≡ s.standing.acked)) (steps_of s pid n) pid (steps_epochs s pid n) (steps_epochs s pid n)

pub turn_epochs : (quantum : ℕ) (s : State) (pid n : ℕ) → ((turned quantum s pid n).standing.last ≡ s.standing.last) × ((turned quantum s pid n).standing.acked ≡ s.standing.acked)
turn_epochs quantum s pid n = steps_epochs s pid _

-- How many local steps a turn has is fixed.
local_below : (s : State) (pid n i : ℕ) → AllLocal s pid n → i < n → is_local (steps_of s pid i).group pid ≡ true
unfolding AllLocal
local_below s pid zero i all lt = absurd (omega (arith, lt))
local_below s pid (suc n) i all lt = by_place (i == n) refl (λ below. local_below s pid n i all.0 below)
  where
    by_place : (t : Bool) → (i == n) ≡ t → (i < n → is_local (steps_of s pid i).group pid ≡ true) → is_local (steps_of s pid i).group pid ≡ true
    by_place true e rest = let same : n ≡ i = grind (arith, e) in let P : ℕ → Type 0 = λ k. is_local (steps_of s pid k).group pid ≡ true in subst P same all.1
    by_place false e rest = rest (grind (arith, e, lt))

not_less : (quantum : ℕ) (s : State) (pid n k : ℕ) → IsTurn quantum s pid n → IsTurn quantum s pid k → n < k → ⊥
not_less quantum s pid n k a b lt =
    let still : is_local (steps_of s pid n).group pid ≡ true = local_below s pid k n b.all_local lt in
    let over : is_local (steps_of s pid n).group pid ≡ false = a.no_more (omega (arith, lt, b.within)) in
    cc

pub one_length : (quantum : ℕ) (s : State) (pid n k : ℕ) → IsTurn quantum s pid n → IsTurn quantum s pid k → n ≡ k
one_length quantum s pid n k a b =
    let low : n < k → ⊥ = not_less quantum s pid n k a b in
    let high : k < n → ⊥ = not_less quantum s pid k n b a in
    omega (arith, low, high)

-- ---- as long as no call that is served reads the standing, steps and turns read the group alone

pub waits_same : (s : State) (pid : ℕ) → is_waiting s pid ≡ group_waits true s.group pid
unfolding is_waiting
waits_same s pid = waits_unread (is_durable s.standing pid) true s.group pid

still_same : (s : State) (pid : ℕ) → stands_still s pid ≡ true → s.group ≡ group_step true s.group pid
unfolding group_step
still_same s pid still = by_runner (runner s.group pid) refl still
  where
    by_runner : (o : Option Proc) → runner s.group pid ≡ o → (is_none o || is_waiting s pid) ≡ true → s.group ≡ group_step true s.group pid
    by_runner None is h = sym (ap (λ (o : Option Proc). elim o as (λ z. Group) [ None ↦ s.group | Some p ↦ after_effect true s.group p (effect_in s.group p) ]) is)
    by_runner (Some p) is h = sym (waiting_stays true s.group pid (sym (waits_same s pid) ∙ h))

pub step_same : (s : State) (pid : ℕ) → (do_step s pid).group ≡ group_step true s.group pid
unfolding do_step
step_same s pid = by_test (stands_still s pid) refl
  where
    by_test : (t : Bool) → stands_still s pid ≡ t → (if t then s else step_to s pid (group_step (is_durable s.standing pid) s.group pid)).group ≡ group_step true s.group pid
    by_test true e = still_same s pid e
    by_test false e = step_unread (is_durable s.standing pid) true s.group pid

pub steps_alone : (s t : State) (pid n : ℕ) → s.group ≡ t.group → (steps_of s pid n).group ≡ (steps_of t pid n).group
unfolding steps_of
steps_alone s t pid zero same = same
steps_alone s t pid (suc n) same = step_same (steps_of s pid n) pid ∙ ap (λ (g : Group). group_step true g pid) (steps_alone s t pid n same) ∙ sym (step_same (steps_of t pid n) pid)

all_local_alone : (s t : State) (pid n : ℕ) → s.group ≡ t.group → AllLocal s pid n → AllLocal t pid n
unfolding AllLocal
all_local_alone s t pid zero same all = tt
all_local_alone s t pid (suc n) same all = (all_local_alone s t pid n same all.0, ap (λ (g : Group). is_local g pid) (sym (steps_alone s t pid n same)) ∙ all.1)

pub turn_alone : (quantum : ℕ) (s t : State) (pid n : ℕ) → s.group ≡ t.group → IsTurn quantum s pid n → IsTurn quantum t pid n
turn_alone quantum s t pid n same x = record { within = x.within; all_local = all_local_alone s t pid n same x.all_local; no_more = λ lt. ap (λ (g : Group). is_local g pid) (sym (steps_alone s t pid n same)) ∙ x.no_more lt }

pub ready_alone : (s t : State) → s.group ≡ t.group → ready s ≡ ready t
unfolding ready
ready_alone s t same =
    ap (map (λ (p : Proc). p.pid))
    (filter_agree (λ (p : Proc). is_running p && not (is_waiting s p.pid)) (λ (p : Proc). is_running p && not (is_waiting t p.pid)) (λ p. ap (λ (b : Bool). is_running p && not b) (waits_same s p.pid ∙ ap (λ (g : Group). group_waits true g p.pid) same ∙ sym (waits_same t p.pid))) s.group.frame.procs
    ∙ ap (λ (g : Group). filter (λ (p : Proc). is_running p && not (is_waiting t p.pid)) g.frame.procs) same)
