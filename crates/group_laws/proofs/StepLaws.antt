-- What holds of each step of a process.
use Rattle.std.proofs.Common.{◌≡◌, ℕ, Bool, true, false, ◌==◌, Option, Some, None, refl, ap, sym, ◌∙◌, subst}
use Rattle.std.specs.Prelude.{IsTrue, find}
use Rattle.rv64_isa.specs.LocalLaws.{local_is_step, local_is_written}
use Rattle.rv64_isa.specs.Instruction.{Effect, steps, calls, traps, instruction, is_step, list_of}
use Rattle.rv64_isa.specs.Memory.{Write, private_cells, stored_all}
use Rattle.rv64_isa.specs.declared.regs.Regs.{Regs}
use Rattle.group_defs.specs.declared.frame.Proc.{Proc}
use Rattle.group_defs.specs.Calls.{Reply, waits, refuses, answers, ends}
use Rattle.group_defs.specs.Cells.{cells_of, sight}
use Rattle.group_defs.specs.Changes.{on_caller}
use Rattle.group_defs.specs.Group.{Group, is_runner, runner, regs_of, with_regs}
use Rattle.group_defs.specs.Step.{effect_in, reply_to, after_reply, after_effect, group_step, is_local_at, is_local, is_wait, is_waiting_at, group_waits}
use Rattle.group_defs.specs.Valid.{GroupIsValid}
use Rattle.group_laws.proofs.Inside.{valid_inside}
use Rattle.group_laws.proofs.ReplyLaws.{changed_runs, found_pid}
use Rattle.group_laws.proofs.SeenLaws.{stored_writes}

-- A waiting process's step changes nothing.
waited : (g : Group) (p : Proc) (r : Reply Group) → is_wait r ≡ true → after_reply g p r ≡ g
waited g p waits w = refl
waited g p (refuses errno) w = cc
waited g p (answers value h writes) w = cc
waited g p (ends status) w = cc

waits_in : (durable : Bool) (g : Group) (p : Proc) (e : Effect) → is_waiting_at durable g p e ≡ true → after_effect durable g p e ≡ g
waits_in durable g p (steps r stored) w = cc
waits_in durable g p calls w = waited g p (reply_to durable g p) w
waits_in durable g p (traps status) w = cc

pub waiting_stays : (durable : Bool) (g : Group) (pid : ℕ) → IsTrue (group_waits durable g pid) → group_step durable g pid ≡ g
unfolding group_waits group_step
waiting_stays durable g pid w = found (runner g pid) w
  where
    found : (o : Option Proc) → (elim o [ None ↦ false | Some p ↦ is_waiting_at durable g p (effect_in g p) ]) ≡ true → (elim o [ None ↦ g | Some p ↦ after_effect durable g p (effect_in g p) ]) ≡ g
    found None w = cc
    found (Some p) w = waits_in durable g p (effect_in g p) w

-- A waiting process isn't local.
not_both : (durable : Bool) (g : Group) (p : Proc) (e : Effect) → is_step e ≡ true → is_waiting_at durable g p e ≡ false
not_both durable g p (steps r stored) s = refl
not_both durable g p calls s = cc
not_both durable g p (traps status) s = cc

pub local_waits_not : (durable : Bool) (g : Group) (pid : ℕ) → IsTrue (is_local g pid) → group_waits durable g pid ≡ false
unfolding group_waits is_local
local_waits_not durable g pid l = found (runner g pid) l
  where
    found : (o : Option Proc) → (elim o [ None ↦ false | Some p ↦ is_local_at g p ]) ≡ true → (elim o [ None ↦ false | Some p ↦ is_waiting_at durable g p (effect_in g p) ]) ≡ false
    found None l = refl
    found (Some p) l =
        let same : effect_in g p ≡ instruction (private_cells (sight g p)) (regs_of p) = local_is_step (sight g p) (regs_of p) l in
        not_both durable g p (effect_in g p) (ap is_step same ∙ l)

-- A local step is the step on the cells of private mappings alone.
pub local_is_private : (durable : Bool) (g : Group) (pid : ℕ) (p : Proc) → runner g pid ≡ Some p → IsTrue (is_local g pid) → group_step durable g pid ≡ after_effect durable g p (instruction (private_cells (sight g p)) (regs_of p))
unfolding is_local group_step
local_is_private durable g pid p is l =
    let Local : Option Proc → Type 0 = λ o. (elim o [ None ↦ false | Some q ↦ is_local_at g q ]) ≡ true in
    let here : is_local_at g p ≡ true = subst Local is l in
    let Done : Option Proc → Type 0 = λ o. (elim o [ None ↦ g | Some q ↦ after_effect durable g q (effect_in g q) ]) ≡ after_effect durable g p (instruction (private_cells (sight g p)) (regs_of p)) in
    subst Done (sym is) (ap (after_effect durable g p) (local_is_step (sight g p) (regs_of p) here))

-- It is made from the process's registers and what it sees of its private mappings, and so are these afterwards.
pub local_is_own : (durable : Bool) (g : Group) (pid : ℕ) (p : Proc) → GroupIsValid g → runner g pid ≡ Some p → IsTrue (is_local g pid) → (r : Regs) × (stored : Option Write) × (instruction (private_cells (sight g p)) (regs_of p) ≡ steps r stored)
    × (runner (group_step durable g pid) pid ≡ Some (with_regs r p)) × (private_cells (cells_of (group_step durable g pid).memory p.maps) ≡ stored_all (private_cells (sight g p)) (list_of stored))
unfolding is_local runner
local_is_own durable g pid p valid is l = by_effect (instruction (private_cells (sight g p)) (regs_of p)) refl (let Local : Option Proc → Type 0 = λ o. (elim o [ None ↦ false | Some q ↦ is_local_at g q ]) ≡ true in subst Local is l)
  where
    by_effect : (e : Effect) → instruction (private_cells (sight g p)) (regs_of p) ≡ e → is_step e ≡ true → (r : Regs) × (stored : Option Write) × (instruction (private_cells (sight g p)) (regs_of p) ≡ steps r stored)
        × (find (is_runner pid) (group_step durable g pid).frame.procs ≡ Some (with_regs r p)) × (private_cells (cells_of (group_step durable g pid).memory p.maps) ≡ stored_all (private_cells (sight g p)) (list_of stored))
    by_effect (steps r stored) e s =
        let mine : p.pid ≡ pid = found_pid g.frame.procs pid p is in
        let after : group_step durable g pid ≡ after_effect durable g p (steps r stored) = local_is_private durable g pid p is l ∙ ap (after_effect durable g p) e in
        let found : find (is_runner p.pid) g.frame.procs ≡ Some p = ap (λ k. find (is_runner k) g.frame.procs) mine ∙ is in (
          r,
          stored,
          e,
          ap (λ (h : Group). find (is_runner pid) h.frame.procs) after ∙ ap (λ k. find (is_runner k) (on_caller g p (with_regs r)).frame.procs) (sym mine) ∙ changed_runs g p (with_regs r) (λ q hit. hit) found,
          ap (λ (h : Group). private_cells (cells_of h.memory p.maps)) after ∙ ap private_cells (stored_writes g.memory p.maps (list_of stored) (valid_inside g pid p valid is)) ∙ local_is_written (sight g p) (regs_of p) r stored e,
        )
    by_effect calls e s = absurd (cc)
    by_effect (traps status) e s = absurd (cc)
