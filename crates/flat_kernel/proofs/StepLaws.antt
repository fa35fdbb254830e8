-- A step of the process that runs.
use Rattle.std.proofs.Common.{◌≡◌, ℕ, ◌==◌, Bool, true, false, List, [], ◌∷◌, Option, Some, None, refl, ap, sym, subst, ◌∙◌, arith, rules}
use Rattle.std.specs.Prelude.{if◌then◌else◌, All, IsTrue}
use Rattle.std.specs.List.{cons_option, filter, find}
use Rattle.std.proofs.Math.Path.{fun_ext}
use Rattle.rv64_isa.specs.declared.regs.Regs.{Regs}
use Rattle.rv64_isa.specs.Instruction.{instruction, is_step}
use Rattle.rv64_isa.specs.Memory.{Cells, private_cells, private_of}
use Rattle.group_defs.specs.declared.frame.ObjectRec.{ObjectRec}
use Rattle.group_defs.specs.declared.frame.Out.{Out}
use Rattle.group_defs.specs.declared.frame.Proc.{Proc}
use Rattle.address_maps.specs.declared.maps.Mapping.{Mapping}
use Rattle.descriptors.specs.declared.opens.Open.{Open}
use Rattle.group_defs.specs.Built.{IsAlone}
use Rattle.group_defs.specs.Cells.{cell_in, cells_of}
use Rattle.address_maps.specs.Mappings.{has, mapping_at}
use Rattle.group_defs.specs.Changes.{with_procs}
use Rattle.group_defs.specs.Family.{ended}
use Rattle.group_defs.specs.Group.{Group, is_runner, runner}
use Rattle.group_defs.specs.Held.{is_held, is_kept, settled}
use Rattle.tables.specs.Lists.{on_first}
use Rattle.group_defs.specs.Objects.{is_of_file}
use Rattle.group_defs.specs.Step.{after_effect, continued, effect_in, group_step, is_local, is_local_at}
use Rattle.flat_kernel.specs.Engine.{cells_in, ended_group, frame_with, group_in, process_in, running_group, running_process, IsRunnable}
use Rattle.flat_kernel.specs.Memory.{memory_in}
use Rattle.flat_kernel.specs.declared.engine_group.EngineGroup.{EngineGroup}
use Rattle.flat_kernel.specs.declared.engine_group.Fixed.{Fixed}
use Rattle.flat_kernel.proofs.EngineLaws.{running_in, runnable_in}
use Rattle.flat_kernel.proofs.MemoryReads.{found_has}

-- ---- one process

itself : (n : ℕ) → (n == n) ≡ true
itself n = search rules

some_by : {X : Type 0} (t : Bool) (x : X) → t ≡ true → (let o : Option X = if t then Some x else None in o) ≡ Some x
some_by true x e = refl
some_by false x e = absurd (cc)

first_by : {X : Type 0} (t : Bool) (x y : X) → t ≡ true → (let l : List X = if t then y ∷ [] else x ∷ [] in l) ≡ y ∷ []
first_by true x y e = refl
first_by false x y e = absurd (cc)

none_kept : {X : Type 0} (xs : List X) → filter (λ x. false) xs ≡ []
none_kept [] = refl
none_kept (x ∷ xs) = none_kept xs

none_by : {X : Type 0} (t : Bool) (o : Option X) → t ≡ true → cons_option (if t then None else o) [] ≡ []
none_by true o e = refl
none_by false o e = absurd (cc)

module _ (fixed : Fixed) (maps : List Mapping) (r : Regs) (memory : List (ℕ × List ℕ)) (out : Out) where
  -- it is found by its pid
  pub found_is : find (is_runner fixed.pid) (running_process fixed maps r ∷ []) ≡ Some (running_process fixed maps r)
  found_is = some_by (fixed.pid == fixed.pid) (running_process fixed maps r) (itself fixed.pid)

  pub runner_is : runner (running_group fixed maps r memory out) fixed.pid ≡ Some (running_process fixed maps r)
  unfolding runner
  runner_is = found_is

  -- it goes on with other registers
  pub goes_on : (r' : Regs) → continued (running_group fixed maps r memory out) (running_process fixed maps r) r' ≡ running_group fixed maps r' memory out
  unfolding on_first
  goes_on r' =
      ap (λ (l : List Proc). let g : Group = record { frame = frame_with l fixed.objects fixed.opens fixed.next out; memory = memory } in g)
      (first_by (fixed.pid == fixed.pid) (running_process fixed maps r) (running_process fixed maps r') (itself fixed.pid))

  -- nothing is left but the next numbers and the output
  pub ends_all : (status : ℕ) → ended (running_group fixed maps r memory out) (running_process fixed maps r) status ≡ ended_group fixed.next out
  unfolding ended settled is_of_file is_held is_kept
  ends_all status =
      ap (λ (l : List Proc). settled (with_procs (running_group fixed maps r memory out) l)) (none_by (fixed.pid == fixed.pid) _ (itself fixed.pid))
      ∙ ap (λ (l : List ObjectRec). left l (filter (λ o. false) fixed.opens) (filter (λ o. false) memory)) (none_kept fixed.objects)
      ∙ ap (λ (l : List Open). left [] l (filter (λ o. false) memory)) (none_kept fixed.opens)
      ∙ ap (λ (l : List (ℕ × List ℕ)). left [] [] l) (none_kept memory)
    where
      left : List ObjectRec → List Open → List (ℕ × List ℕ) → Group
      left objects opens bytes = record { frame = frame_with [] objects opens fixed.next out; memory = bytes }

  -- the next step
  pub step_is : group_step true (running_group fixed maps r memory out) fixed.pid ≡ after_effect true (running_group fixed maps r memory out) (running_process fixed maps r) (instruction (cells_of memory maps) r)
  unfolding group_step
  step_is = ap stepped runner_is
    where
      stepped : Option Proc → Group
      stepped o = elim o [ None ↦ running_group fixed maps r memory out | Some p ↦ after_effect true (running_group fixed maps r memory out) p (effect_in (running_group fixed maps r memory out) p) ]

-- ---- all of its memory is private

private_by : (memory : List (ℕ × List ℕ)) (a : ℕ) (o : Option Mapping) → ((m : Mapping) → o ≡ Some m → m.shared ≡ false)
    → private_of (elim o [ None ↦ None | Some m ↦ Some (cell_in memory a m) ]) ≡ (elim o [ None ↦ None | Some m ↦ Some (cell_in memory a m) ])
private_by memory a None all = refl
private_by memory a (Some m) all = rw (all m refl) refl

pub all_private : (memory : List (ℕ × List ℕ)) (maps : List Mapping) → All (λ m. m.shared ≡ false) maps → private_cells (cells_of memory maps) ≡ cells_of memory maps
unfolding cells_of
all_private memory maps all = fun_ext (λ a. private_by memory a (mapping_at maps a) (λ m is. (found_has (λ (n : Mapping). n.shared ≡ false) (has a) maps m all is).0))

module _ (fixed : Fixed) (maps : List Mapping) (r : Regs) (memory : List (ℕ × List ℕ)) (out : Out) (runs : IsRunnable (running_group fixed maps r memory out)) where
  mappings_private : All (λ m. m.shared ≡ false) maps
  unfolding IsAlone
  mappings_private = (runs.built.alone 0 (running_process fixed maps r) (omega arith)).1

  -- whether the next step is local
  pub local_is : is_local (running_group fixed maps r memory out) fixed.pid ≡ is_step (instruction (cells_of memory maps) r)
  unfolding is_local
  local_is =
      ap local (runner_is fixed maps r memory out)
      ∙ ap (λ (cells : Cells). is_step (instruction cells r)) (all_private memory maps mappings_private)
    where
      local : Option Proc → Bool
      local o = elim o [ None ↦ false | Some p ↦ is_local_at (running_group fixed maps r memory out) p ]

-- ---- the same of the engine's group

module _ (g : EngineGroup) (runs : IsTrue g.running) where
  abbrev table : List (ℕ × List ℕ)
  table = memory_in g.memory.objects.items

  pub continued_in : (r : Regs) → group_in (record g { regs = r }) ≡ continued (group_in g) (process_in g) r
  continued_in r = running_in (record g { regs = r }) runs ∙ sym (ap (λ (h : Group). continued h (process_in g) r) (running_in g runs) ∙ goes_on g.fixed g.memory.maps g.regs table g.out r)

  pub ends_in : (status : ℕ) → ended_group g.fixed.next g.out ≡ ended (group_in g) (process_in g) status
  ends_in status = sym (ap (λ (h : Group). ended h (process_in g) status) (running_in g runs) ∙ ends_all g.fixed g.memory.maps g.regs table g.out status)

  pub step_in : group_step true (group_in g) g.fixed.pid ≡ after_effect true (group_in g) (process_in g) (instruction (cells_in g) g.regs)
  step_in = subst (λ (h : Group). group_step true h g.fixed.pid ≡ after_effect true h (process_in g) (instruction (cells_in g) g.regs)) (sym (running_in g runs)) (step_is g.fixed g.memory.maps g.regs table g.out)

  pub local_in : IsRunnable (group_in g) → is_local (group_in g) g.fixed.pid ≡ is_step (instruction (cells_in g) g.regs)
  local_in runnable = ap (λ (h : Group). is_local h g.fixed.pid) (running_in g runs) ∙ local_is g.fixed g.memory.maps g.regs table g.out (runnable_in g runs runnable)
