-- The calls that are served, one by one: for laws on replies that aren't yet told of every call.
use Rattle.std.proofs.Common.{◌≡◌, ◌⊎◌, inl, inr, ℕ, Bool, true, false, ◌||◌, ◌==◌, List, [], ◌∷◌, Option, Some, None, refl, ap, sym, subst}
use Rattle.std.specs.Prelude.{find, if◌then◌else◌}
use Rattle.std.specs.List.{list_any}
use Rattle.std.proofs.lemmas.Bool.{cases_Bool, eqb-true}
use Rattle.group_defs.specs.Calls.{Reply, refuses}
use Rattle.group_defs.specs.declared.calls.TheConstants.{ENOSYS}
use Rattle.group_defs.specs.Cells.{sight}
use Rattle.group_defs.specs.Family.{exit}
use Rattle.group_defs.specs.Group.{Group, regs_of, runner}
use Rattle.group_defs.specs.ReadWrite.{write}
use Rattle.group_defs.specs.Step.{after_effect, after_reply, call_in, effect_in, group_step, group_waits, is_wait, is_waiting_at, reply_in, served}
use Rattle.group_defs.specs.declared.frame.Proc.{Proc}
use Rattle.rv64_isa.specs.Instruction.{Effect, calls, steps, traps}
use Rattle.rv64_isa.specs.Registers.{call_number}

-- What holds of write, of exit and of a refusal holds of every reply.
pub served_reply : (Holds : ℕ → Reply Group → Type 0) (durable : Bool) (g : Group) (p : Proc) → Holds 64 (write g p (sight g p) (regs_of p)) → Holds 93 (exit (regs_of p)) → Holds 94 (exit (regs_of p)) → ((n : ℕ) → list_any (λ m. m == n) served ≡ false → Holds n (refuses ENOSYS)) → (number : ℕ) → Holds number (reply_in durable g p number)
unfolding reply_in served call_in
served_reply Holds durable g p of_write of_exit of_exit_group of_other number = by_write (cases_Bool (64 == number))
  where
    by_last : (94 == number ≡ true) ⊎ (94 == number ≡ false) → 64 == number ≡ false → 93 == number ≡ false → Holds number (if list_any (λ n. n == number) served then call_in durable g p number else refuses ENOSYS)
    by_last (inl e) a b = subst (λ n. Holds n (reply_in durable g p n)) (eqb-true 94 number e) of_exit_group
    by_last (inr e) a b = let none : list_any (λ m. m == number) served ≡ false = rw (a, b, e) refl in rw none (of_other number none)

    by_exit : (93 == number ≡ true) ⊎ (93 == number ≡ false) → 64 == number ≡ false → Holds number (if list_any (λ n. n == number) served then call_in durable g p number else refuses ENOSYS)
    by_exit (inl e) a = subst (λ n. Holds n (reply_in durable g p n)) (eqb-true 93 number e) of_exit
    by_exit (inr e) a = by_last (cases_Bool (94 == number)) a e

    by_write : (64 == number ≡ true) ⊎ (64 == number ≡ false) → Holds number (if list_any (λ n. n == number) served then call_in durable g p number else refuses ENOSYS)
    by_write (inl e) = subst (λ n. Holds n (reply_in durable g p n)) (eqb-true 64 number e) of_write
    by_write (inr e) = by_exit (cases_Bool (93 == number)) e

-- As long as fsync isn't served, no step reads what is durable.
pub reply_unread : (a b : Bool) (g : Group) (p : Proc) (number : ℕ) → reply_in a g p number ≡ reply_in b g p number
unfolding reply_in served call_in
reply_unread a b g p number = served_reply (λ n r. r ≡ reply_in b g p n) a g p refl refl refl (λ n none. ap (λ (x : Bool). if x then call_in b g p n else refuses ENOSYS) (sym none)) number

pub step_unread : (a b : Bool) (g : Group) (pid : ℕ) → group_step a g pid ≡ group_step b g pid
unfolding group_step
step_unread a b g pid = by_runner (runner g pid)
  where
    by_effect : (p : Proc) (x : Effect) → after_effect a g p x ≡ after_effect b g p x
    by_effect p (steps r stored) = refl
    by_effect p calls = ap (after_reply g p) (reply_unread a b g p (call_number (regs_of p)))
    by_effect p (traps status) = refl

    by_runner : (o : Option Proc) → elim o as (λ z. Group) [ None ↦ g | Some p ↦ after_effect a g p (effect_in g p) ] ≡ elim o as (λ z. Group) [ None ↦ g | Some p ↦ after_effect b g p (effect_in g p) ]
    by_runner None = refl
    by_runner (Some p) = by_effect p (effect_in g p)

pub waits_unread : (a b : Bool) (g : Group) (pid : ℕ) → group_waits a g pid ≡ group_waits b g pid
unfolding group_waits
waits_unread a b g pid = by_runner (runner g pid)
  where
    by_effect : (p : Proc) (x : Effect) → is_waiting_at a g p x ≡ is_waiting_at b g p x
    by_effect p (steps r stored) = refl
    by_effect p calls = ap is_wait (reply_unread a b g p (call_number (regs_of p)))
    by_effect p (traps status) = refl

    by_runner : (o : Option Proc) → elim o as (λ z. Bool) [ None ↦ false | Some p ↦ is_waiting_at a g p (effect_in g p) ] ≡ elim o as (λ z. Bool) [ None ↦ false | Some p ↦ is_waiting_at b g p (effect_in g p) ]
    by_runner None = refl
    by_runner (Some p) = by_effect p (effect_in g p)
