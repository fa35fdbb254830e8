-- Local steps keep a group valid, however near its numbers are to their types' ends.
use Rattle.std.proofs.Common.{Bool, None, Option, Some, ap, false, refl, subst, suc, sym, true, zero, ℕ, ◌∙◌, ◌≡◌}
use Rattle.std.proofs.lemmas.Bool.{false≢true}
use Rattle.std.specs.Prelude.{IsTrue, find}
use Rattle.group_defs.specs.Cells.{sight}
use Rattle.group_defs.specs.Group.{Group, is_runner, regs_of, runner}
use Rattle.group_defs.specs.Standing.{State, is_durable}
use Rattle.group_defs.specs.Step.{after_effect, effect_in, group_step, is_local, is_local_at}
use Rattle.group_defs.specs.Valid.{GroupIsValid}
use Rattle.group_defs.specs.declared.frame.Proc.{Proc}
use Rattle.group_laws.proofs.InstructionLaws.{EffectFits, instruction_fits}
use Rattle.group_laws.proofs.OthersStay.{step_is}
use Rattle.group_laws.proofs.ReplyLaws.{found_pid, goes_on, maps_no_file}
use Rattle.group_laws.proofs.StoreLaws.{written_valid}
use Rattle.group_parts.proofs.States.{step_group}
use Rattle.run_defs.specs.Turns.{AllLocal, steps_of}
use Rattle.rv64_isa.specs.Instruction.{Effect, calls, is_step, list_of, steps, traps}
use Rattle.rv64_isa.specs.LocalLaws.{local_is_step}
use Rattle.rv64_isa.specs.Memory.{stored}

local_step_valid : (durable : Bool) (g : Group) (pid : ℕ) → GroupIsValid g → IsTrue (is_local g pid) → GroupIsValid (group_step durable g pid)
unfolding is_local runner
local_step_valid durable g pid valid local = by_runner (find (is_runner pid) g.frame.procs) refl local
  where
    by_effect : (p : Proc) (found : find (is_runner p.pid) g.frame.procs ≡ Some p) (e : Effect) → is_step e ≡ true → EffectFits e → GroupIsValid (after_effect durable g p e)
    by_effect p found (steps r stored) s fits = goes_on _ p p r fits.0 found (written_valid g p.maps (list_of stored) (maps_no_file g p found valid) fits.1 valid)
    by_effect p found calls s fits = absurd (false≢true s)
    by_effect p found (traps status) s fits = absurd (false≢true s)

    by_runner : (o : Option Proc) → find (is_runner pid) g.frame.procs ≡ o → (elim o [ None ↦ false | Some p ↦ is_local_at g p ]) ≡ true → GroupIsValid (group_step durable g pid)
    by_runner None e l = absurd (false≢true l)
    by_runner (Some p) e l =
        let found : find (is_runner p.pid) g.frame.procs ≡ Some p = ap (λ k. find (is_runner k) g.frame.procs) (found_pid g.frame.procs pid p e) ∙ e in
        subst GroupIsValid (sym ((step_is durable g pid).1 p e)) (by_effect p found (effect_in g p) (ap is_step (local_is_step (sight g p) (regs_of p) l) ∙ l) (instruction_fits g p found valid))

pub local_steps_valid : (s : State) (pid n : ℕ) → GroupIsValid s.group → AllLocal s pid n → GroupIsValid (steps_of s pid n).group
unfolding steps_of AllLocal
local_steps_valid s pid zero valid all = valid
local_steps_valid s pid (suc n) valid all =
    let before : GroupIsValid (steps_of s pid n).group = local_steps_valid s pid n valid all.0 in
    subst GroupIsValid (sym (step_group (steps_of s pid n) pid)) (local_step_valid (is_durable (steps_of s pid n).standing pid) (steps_of s pid n).group pid before all.1)
