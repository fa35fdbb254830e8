-- When the process waits, and when it is ready.
use Rattle.std.proofs.Common.{◌≡◌, ◌≢◌, inl, inr, ℕ, ◌==◌, ◌&&◌, not, Bool, true, false, List, [], ◌∷◌, Option, Some, None, refl, sym, ap, subst, ◌∙◌, arith}
use Rattle.std.specs.Prelude.{if◌then◌else◌, All, IsTrue}
use Rattle.rv64_isa.specs.declared.regs.Regs.{Regs}
use Rattle.rv64_isa.specs.Instruction.{Effect, steps, calls, traps, instruction}
use Rattle.rv64_isa.specs.Memory.{Cells}
use Rattle.rv64_isa.specs.Registers.{a1, a2, call_number}
use Rattle.group_defs.specs.declared.frame.Out.{Out}
use Rattle.group_defs.specs.declared.frame.Proc.{Proc}
use Rattle.address_maps.specs.declared.maps.Mapping.{Mapping}
use Rattle.group_defs.specs.Calls.{waits, answers, fd_of}
use Rattle.group_defs.specs.Built.{IsPlain}
use Rattle.group_defs.specs.Cells.{cells_of, sight}
use Rattle.group_defs.specs.Changes.{open_at}
use Rattle.group_defs.specs.Group.{Group, regs_of, runner}
use Rattle.run_defs.specs.Legal.{ready}
use Rattle.group_defs.specs.Output.{room}
use Rattle.group_defs.specs.ReadWrite.{write_outside, put_outside}
use Rattle.group_defs.specs.Standing.{Standing, State}
use Rattle.group_defs.specs.Step.{effect_in, group_waits, is_wait, is_waiting, is_waiting_at, reply_to}
use Rattle.flat_kernel.specs.Descriptors.{is_at_outside, must_wait}
use Rattle.flat_kernel.specs.Engine.{cells_in, group_in, process_in, running_process, running_group, state_in, IsRunnable}
use Rattle.flat_kernel.specs.Memory.{memory_in}
use Rattle.flat_kernel.specs.declared.engine_group.EngineGroup.{EngineGroup}
use Rattle.flat_kernel.specs.declared.engine_group.Fixed.{Fixed}
use Rattle.flat_kernel.proofs.CallLaws.{reply_exit, reply_none, reply_write}
use Rattle.flat_kernel.proofs.EngineLaws.{ended_in, running_in, runnable_in}
use Rattle.flat_kernel.proofs.StateLaws.{waits_same}
use Rattle.flat_kernel.proofs.StepLaws.{runner_is}

put_waits_not : (h : Group) (o : Option (List ℕ)) → is_wait (put_outside h o) ≡ false
put_waits_not h None = refl
put_waits_not h (Some bytes) = refl

wait_by : (h : Group) (o : Option (List ℕ)) (t u : Bool) → is_wait (if t then answers 0 h [] else if u then waits else put_outside h o) ≡ (not t && u)
wait_by h o true u = refl
wait_by h o false true = refl
wait_by h o false false = put_waits_not h o

-- a write to the outside
wait_write : (h : Group) (seen : Cells) (buf n : ℕ) → is_wait (write_outside h seen buf n) ≡ (not (n == 0) && (room h.frame.out == 0))
wait_write h seen buf n = wait_by h _ _ _

effect_waits_not : (h : Group) (q : Proc) (e : Effect) → (e ≡ calls → ⊥) → is_waiting_at true h q e ≡ false
effect_waits_not h q (steps r' write) no_call = refl
effect_waits_not h q calls no_call = absurd (no_call refl)
effect_waits_not h q (traps status) no_call = refl

module _ (h : Group) (p : Proc) (plain : All (λ o. IsPlain o.kind) h.frame.opens) where
  abbrev r : Regs
  r = regs_of p

  abbrev at_outside : Bool
  at_outside = is_at_outside (open_at p.fds h.frame.opens (fd_of r))

  -- a call that isn't a write
  waits_not : (t u : Bool) → call_number r ≢ 64 → (call_number r == 93) ≡ t → (call_number r == 94) ≡ u → is_wait (reply_to true h p) ≡ false
  waits_not true u other e f = let number : call_number r ≡ 93 = grind (arith, e) in ap is_wait (reply_exit h p (inl number))
  waits_not false true other e f = let number : call_number r ≡ 94 = grind (arith, f) in ap is_wait (reply_exit h p (inr number))
  waits_not false false other e f =
      let no_exit : call_number r ≢ 93 = grind (arith, e) in
      let no_exit_group : call_number r ≢ 94 = grind (arith, f) in
      ap is_wait (reply_none h p other no_exit no_exit_group)

  -- the calls that wait are the writes to the outside of some bytes, while there is no room
  wait_number : (t u : Bool) → (call_number r == 64) ≡ t → at_outside ≡ u → is_wait (reply_to true h p) ≡ ((t && u) && (not (a2 r == 0) && (room h.frame.out == 0)))
  wait_number true true e f = let number : call_number r ≡ 64 = grind (arith, e) in ap is_wait (reply_write h p true plain number f) ∙ wait_write h (sight h p) (a1 r) (a2 r)
  wait_number true false e f = let number : call_number r ≡ 64 = grind (arith, e) in ap is_wait (reply_write h p false plain number f)
  wait_number false u e f = let other : call_number r ≢ 64 = grind (arith, e) in waits_not _ _ other refl refl

  pub wait_when : is_wait (reply_to true h p) ≡ (((call_number r == 64) && at_outside) && (not (a2 r == 0) && (room h.frame.out == 0)))
  wait_when = wait_number _ _ refl refl

module _ (fixed : Fixed) (maps : List Mapping) (r : Regs) (memory : List (ℕ × List ℕ)) (out : Out) where
  abbrev g : Group
  g = running_group fixed maps r memory out

  abbrev p : Proc
  p = running_process fixed maps r

  pub waiting_is : group_waits true g fixed.pid ≡ is_waiting_at true g p (instruction (cells_of memory maps) r)
  unfolding group_waits
  waiting_is = ap waiting (runner_is fixed maps r memory out)
    where
      waiting : Option Proc → Bool
      waiting o = elim o [ None ↦ false | Some q ↦ is_waiting_at true g q (effect_in g q) ]

  pub ready_by : (standing : Standing) (t : Bool) → is_waiting (record { group = g; standing = standing }) fixed.pid ≡ t → ready (record { group = g; standing = standing }) ≡ (let pids : List ℕ = if not t then fixed.pid ∷ [] else [] in pids)
  unfolding ready
  ready_by standing true e = rw e refl
  ready_by standing false e = rw e refl

module _ (g : EngineGroup) (runs : IsTrue g.running) (standing : Standing) where
  abbrev with_standing : Group → State
  with_standing h = record { group = h; standing = standing }

  waiting_in : is_waiting (state_in g standing) g.fixed.pid ≡ is_waiting_at true (group_in g) (process_in g) (instruction (cells_in g) g.regs)
  waiting_in =
      waits_same (state_in g standing) g.fixed.pid
      ∙ subst (λ (h : Group). group_waits true h g.fixed.pid ≡ is_waiting_at true h (process_in g) (instruction (cells_in g) g.regs)) (sym (running_in g runs)) (waiting_is g.fixed g.memory.maps g.regs (memory_in g.memory.objects.items) g.out)

  -- at a call it waits where that writes some bytes to the outside, which has no room
  pub waits_at_call : IsRunnable (group_in g) → instruction (cells_in g) g.regs ≡ calls → is_waiting (state_in g standing) g.fixed.pid ≡ must_wait g
  waits_at_call runnable call =
      waiting_in
      ∙ ap (is_waiting_at true (group_in g) (process_in g)) call
      ∙ ap (λ (h : Group). is_wait (reply_to true h (process_in g))) (running_in g runs)
      ∙ wait_when _ (process_in g) (runnable_in g runs runnable).built.opens

  -- elsewhere it doesn't wait
  pub waits_nowhere_else : (instruction (cells_in g) g.regs ≡ calls → ⊥) → is_waiting (state_in g standing) g.fixed.pid ≡ false
  waits_nowhere_else no_call = waiting_in ∙ effect_waits_not (group_in g) (process_in g) _ no_call

  -- the process is ready where it doesn't wait
  pub ready_is : (t : Bool) → is_waiting (state_in g standing) g.fixed.pid ≡ t → ready (state_in g standing) ≡ (let pids : List ℕ = if not t then g.fixed.pid ∷ [] else [] in pids)
  ready_is t e =
      ap (λ (h : Group). ready (with_standing h)) (running_in g runs)
      ∙ ready_by g.fixed g.memory.maps g.regs (memory_in g.memory.objects.items) g.out standing t (sym (ap (λ (h : Group). is_waiting (with_standing h) g.fixed.pid) (running_in g runs)) ∙ e)

-- and an ended process doesn't wait, nor is it ready
module _ (g : EngineGroup) (ended : g.running ≡ false) (standing : Standing) where
  pub ended_waits_not : is_waiting (state_in g standing) g.fixed.pid ≡ false
  unfolding group_waits runner
  ended_waits_not = waits_same (state_in g standing) g.fixed.pid ∙ ap (λ (h : Group). group_waits true h g.fixed.pid) (ended_in g ended)

  pub ended_not_ready : ready (state_in g standing) ≡ []
  unfolding ready
  ended_not_ready = ap (λ (h : Group). let s : State = record { group = h; standing = standing } in ready s) (ended_in g ended)
