-- Turns of the process.
use Rattle.std.proofs.Common.{◌≡◌, ℕ, ◌<◌, ◌≤◌, ◌==◌, true, false, sym, ap, ◌∙◌, arith}
use Rattle.group_defs.specs.Group.{Group}
use Rattle.group_defs.specs.Standing.{Standing, State}
use Rattle.group_defs.specs.Step.{group_step, is_local}
use Rattle.run_defs.specs.Turns.{steps_of, IsTurn, turned}
use Rattle.flat_kernel.specs.Engine.{group_in, state_in}
use Rattle.flat_kernel.specs.Turning.{HasStepped}
use Rattle.flat_kernel.specs.declared.engine_group.EngineGroup.{EngineGroup}
use Rattle.flat_kernel.specs.declared.engine_group.Fixed.{Fixed}
use Rattle.flat_kernel.proofs.StateLaws.{step_same}

pid_is : (start g : EngineGroup) (n : ℕ) → HasStepped start g n → g.fixed.pid ≡ start.fixed.pid
pid_is start g n way = ap (λ (f : Fixed). f.pid) way.fixed

-- ---- turns, of as many local steps as the quantum and of fewer

module _ (quantum n : ℕ) (start g : EngineGroup) (way : HasStepped start g n) (standing : Standing) where
  abbrev pid : ℕ
  pid = start.fixed.pid

  abbrev s : State
  s = state_in start standing

  pub turned_whole : n ≡ quantum → group_in g ≡ (turned quantum s pid n).group
  turned_whole whole = let e : (n == quantum) ≡ true = grind (arith, whole) in rw e (way.group standing)

  pub turned_short : (k : Group) → n < quantum → k ≡ group_step true (group_in g) g.fixed.pid → k ≡ (turned quantum s pid n).group
  unfolding steps_of
  turned_short k short step =
      let e : (n == quantum) ≡ false = grind (arith, short) in
      rw e (step ∙ ap (group_step true (group_in g)) (pid_is start g n way) ∙ ap (λ (x : Group). group_step true x pid) (way.group standing) ∙ sym (step_same (steps_of s pid n) pid))

  pub is_a_turn : n ≤ quantum → (n < quantum → is_local (group_in g) g.fixed.pid ≡ false) → IsTurn quantum s pid n
  is_a_turn within stops = record {
    within = within;
    all_local = way.all_local standing;
    no_more = λ short. ap (λ (x : Group). is_local x pid) (sym (way.group standing)) ∙ ap (is_local (group_in g)) (sym (pid_is start g n way)) ∙ stops short;
  }
