-- A step leaves a valid group, whatever its next numbers are: by an instruction, and by a call that is served so far.
use Rattle.std.proofs.Common.{◌≡◌, ℕ, ◌^◌, ◌≤◌, true, Option, Some, None, refl, ap, subst, ◌∙◌, arith}
use Rattle.std.specs.Prelude.{find}
use Rattle.rv64_isa.specs.declared.regs.Regs.{Regs}
use Rattle.rv64_isa.specs.Instruction.{Effect, steps, calls, traps, list_of}
use Rattle.rv64_isa.specs.Memory.{Write}
use Rattle.rv64_isa.specs.Registers.{call_number}
use Rattle.group_defs.specs.declared.frame.Proc.{Proc}
use Rattle.group_defs.specs.Calls.{Reply}
use Rattle.group_defs.specs.Group.{Group, is_runner, regs_of, runner}
use Rattle.group_defs.specs.Output.{last_position}
use Rattle.group_defs.specs.Step.{after_effect, continued, effect_in, group_step, reply_in, reply_to, written}
use Rattle.group_defs.specs.Valid.{GroupIsValid}
use Rattle.group_laws.proofs.EndingLaws.{ended_valid}
use Rattle.group_laws.proofs.FamilyLaws.{exit_keeps}
use Rattle.group_laws.proofs.InstructionLaws.{EffectFits, instruction_fits}
use Rattle.group_laws.proofs.ReplyLaws.{ReplyKeeps, found_pid, goes_on, maps_no_file, reply_valid}
use Rattle.group_laws.proofs.ServedLaws.{served_reply}
use Rattle.group_laws.proofs.StoreLaws.{written_valid}
use Rattle.group_laws.proofs.WriteFileLaws.{write_file_keeps}
use Rattle.group_laws.proofs.WriteLaws.{write_keeps}

module _ (g : Group) (p : Proc) (found : find (is_runner p.pid) g.frame.procs ≡ Some p) (v : GroupIsValid g) where
  stepped_valid : (s : Regs) (write : Option Write) → EffectFits (steps s write) → GroupIsValid (continued (written g p (list_of write)) p s)
  stepped_valid s write fits = goes_on (written g p (list_of write)) p p s fits.0 found (written_valid g p.maps (list_of write) (maps_no_file g p found v) fits.1 v)

  -- an instruction that neither calls nor traps
  pub instruction_valid : (s : Regs) (write : Option Write) → effect_in g p ≡ steps s write → GroupIsValid (continued (written g p (list_of write)) p s)
  instruction_valid s write is = stepped_valid s write (subst EffectFits is (instruction_fits g p found v))

  served_keeps : last_position g.frame.out ≤ 2 ^ 63 → (number : ℕ) → ReplyKeeps p (reply_in true g p number)
  served_keeps low number =
      let exits = exit_keeps p (regs_of p) in
      served_reply (λ (n : ℕ) (reply : Reply Group). ReplyKeeps p reply) true g p (write_keeps g p found v low (λ o object buf n at is. write_file_keeps g p found v o object at is buf n) (regs_of p)) exits exits (λ n none. (omega arith, omega arith)) number

  effect_valid : last_position g.frame.out ≤ 2 ^ 63 → (e : Effect) → EffectFits e → GroupIsValid (after_effect true g p e)
  effect_valid low (steps s write) fits = stepped_valid s write fits
  effect_valid low calls fits = reply_valid g p (reply_to true g p) found v (served_keeps low (call_number (regs_of p)))
  effect_valid low (traps status) fits = ended_valid g p status v.sound found fits

-- any step, where the last position is far from its type's end
pub served_step_valid : (g : Group) (pid : ℕ) → GroupIsValid g → last_position g.frame.out ≤ 2 ^ 63 → GroupIsValid (group_step true g pid)
unfolding group_step runner
served_step_valid g pid v low = by_runner (find (is_runner pid) g.frame.procs) refl
  where
    by_runner : (o : Option Proc) → find (is_runner pid) g.frame.procs ≡ o → GroupIsValid (elim o [ None ↦ g | Some p ↦ after_effect true g p (effect_in g p) ])
    by_runner None e = v
    by_runner (Some p) e =
        let mine : find (is_runner p.pid) g.frame.procs ≡ Some p = ap (λ n. find (is_runner n) g.frame.procs) (found_pid g.frame.procs pid p e) ∙ e in
        effect_valid g p mine v low (effect_in g p) (instruction_fits g p mine v)
