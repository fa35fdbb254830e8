-- The law: a step of a running process keeps a group valid.
use Rattle.std.proofs.Common.{◌≡◌, ℕ, Bool, true, false, ◌||◌, ◌==◌, Option, Some, None, refl, ap, ◌∙◌, arith}
use Rattle.std.specs.List.{list_any}
use Rattle.std.specs.Prelude.{find, if◌then◌else◌}
use Rattle.group_defs.specs.Cells.{sight}
use Rattle.group_defs.specs.Group.{Group, is_runner, regs_of, runner}
use Rattle.group_defs.specs.ReadWrite.{write}
use Rattle.group_defs.specs.Standing.{State, is_durable}
use Rattle.group_defs.specs.Step.{stands_still, after_effect, after_reply, do_step, effect_in, group_step, call_in, reply_in, reply_to, served, step_to}
use Rattle.group_defs.specs.Valid.{GroupIsValid}
use Rattle.group_defs.specs.declared.frame.Proc.{Proc}
use Rattle.rv64_isa.specs.Instruction.{Effect, calls, list_of, steps, traps}
use Rattle.rv64_isa.specs.Registers.{call_number}
use Rattle.group_laws.proofs.BreakLaws.{brk_keeps}
use Rattle.group_laws.proofs.InstructionLaws.{EffectFits, instruction_fits}
use Rattle.group_laws.proofs.EndsLaws.{pipe2_keeps}
use Rattle.group_laws.proofs.MessageLaws.{sendmsg_keeps}
use Rattle.group_laws.proofs.ReceiveLaws.{recvmsg_keeps}
use Rattle.group_laws.proofs.MmapLaws.{mmap_keeps}
use Rattle.group_laws.proofs.PairEndsLaws.{socketpair_keeps}
use Rattle.group_laws.proofs.PostLaws.{recvfrom_keeps, sendto_keeps}
use Rattle.group_laws.proofs.ReadLaws.{read_keeps}
use Rattle.group_laws.proofs.WriteFileLaws.{write_file_keeps}
use Rattle.group_laws.proofs.WriteLaws.{write_keeps}
use Rattle.group_laws.proofs.DescriptorCallLaws.{close_keeps, dup3_keeps, dup_keeps, fsync_keeps, if_keeps}
use Rattle.group_laws.proofs.EndingLaws.{ended_valid}
use Rattle.group_laws.proofs.ForkLaws.{clone_keeps}
use Rattle.group_laws.proofs.FamilyLaws.{exit_keeps, getpid_keeps, getppid_keeps, sched_yield_keeps}
use Rattle.group_laws.proofs.OffsetLaws.{lseek_keeps}
use Rattle.group_laws.proofs.OpenatLaws.{openat_keeps}
use Rattle.group_laws.proofs.ReplyLaws.{ReplyKeeps, found_pid, goes_on, maps_no_file, reply_valid}
use Rattle.group_laws.proofs.StoreLaws.{written_valid}
use Rattle.group_laws.specs.Fresh.{IsFresh}
use Rattle.group_laws.proofs.UnmapLaws.{munmap_keeps}
use Rattle.group_laws.proofs.WaitLaws.{wait4_keeps}

module _ (g : Group) (p : Proc) (found : find (is_runner p.pid) g.frame.procs ≡ Some p) (v : GroupIsValid g) (low : IsFresh g) where
  -- each call, served or not
  pub call_keeps : (durable : Bool) (number : ℕ) → ReplyKeeps p (call_in durable g p number)
  unfolding call_in
  call_keeps durable number =
      if_keeps p (number == 23) _ _ (λ e. dup_keeps g p found v (regs_of p)) (λ e.
      if_keeps p (number == 24) _ _ (λ e. dup3_keeps g p found v (regs_of p)) (λ e.
      if_keeps p (number == 56) _ _ (λ e. openat_keeps g p found v low.descr low.object (regs_of p)) (λ e.
      if_keeps p (number == 57) _ _ (λ e. close_keeps g p found v (regs_of p)) (λ e.
      if_keeps p (number == 59) _ _ (λ e. pipe2_keeps g p found v low.descr low.pipe (regs_of p)) (λ e.
      if_keeps p (number == 62) _ _ (λ e. lseek_keeps g p found v (regs_of p)) (λ e.
      if_keeps p (number == 63) _ _ (λ e. read_keeps g p found v (regs_of p)) (λ e.
      if_keeps p (number == 64) _ _ (λ e. write_keeps g p found v low.position (λ o object buf n at is. write_file_keeps g p found v o object at is buf n) (regs_of p)) (λ e.
      if_keeps p (number == 82) _ _ (λ e. fsync_keeps g p found v durable (regs_of p)) (λ e.
      if_keeps p ((number == 93) || (number == 94)) _ _ (λ e. exit_keeps p (regs_of p)) (λ e.
      if_keeps p (number == 124) _ _ (λ e. sched_yield_keeps g p found v) (λ e.
      if_keeps p (number == 172) _ _ (λ e. getpid_keeps g p found v) (λ e.
      if_keeps p (number == 173) _ _ (λ e. getppid_keeps g p found v) (λ e.
      if_keeps p (number == 199) _ _ (λ e. socketpair_keeps g p found v low.descr low.pair (regs_of p)) (λ e.
      if_keeps p (number == 206) _ _ (λ e. sendto_keeps g p found v (regs_of p)) (λ e.
      if_keeps p (number == 207) _ _ (λ e. recvfrom_keeps g p found v (regs_of p)) (λ e.
      if_keeps p (number == 211) _ _ (λ e. sendmsg_keeps g p found v (regs_of p)) (λ e.
      if_keeps p (number == 212) _ _ (λ e. recvmsg_keeps g p found v (regs_of p)) (λ e.
      if_keeps p (number == 214) _ _ (λ e. brk_keeps g p found v low.object (regs_of p)) (λ e.
      if_keeps p (number == 215) _ _ (λ e. munmap_keeps g p found v (regs_of p)) (λ e.
      if_keeps p (number == 220) _ _ (λ e. clone_keeps g p found v low.object (regs_of p)) (λ e.
      if_keeps p (number == 222) _ _ (λ e. mmap_keeps g p found v low.object (regs_of p)) (λ e.
      if_keeps p (number == 260) _ _ (λ e. wait4_keeps g p found v (sight g p) (regs_of p)) (λ e. (omega arith, omega arith))))))))))))))))))))))))

  reply_keeps : (durable : Bool) (number : ℕ) → ReplyKeeps p (reply_in durable g p number)
  unfolding reply_in
  reply_keeps durable number = if_keeps p (list_any (λ n. n == number) served) _ _ (λ e. call_keeps durable number) (λ e. (omega arith, omega arith))

  effect_valid : (durable : Bool) (x : Effect) → EffectFits x → GroupIsValid (after_effect durable g p x)
  effect_valid durable (steps r write) fits =
      goes_on _ p p r fits.0 found (written_valid g p.maps (list_of write) (maps_no_file g p found v) fits.1 v)
  effect_valid durable calls fits = reply_valid g p (reply_to durable g p) found v (reply_keeps durable (call_number (regs_of p)))
  effect_valid durable (traps status) fits = ended_valid g p status v.sound found fits

-- what a call makes of the group, whether the program has it or not
pub call_valid : (durable : Bool) (g : Group) (pid number : ℕ) (p : Proc) → GroupIsValid g → IsFresh g → runner g pid ≡ Some p → GroupIsValid (after_reply g p (call_in durable g p number))
unfolding runner
call_valid durable g pid number p v low is =
    let mine : find (is_runner p.pid) g.frame.procs ≡ Some p = ap (λ n. find (is_runner n) g.frame.procs) (found_pid g.frame.procs pid p is) ∙ is in
    reply_valid g p (call_in durable g p number) mine v (call_keeps g p mine v low durable number)

pub group_step_valid : (durable : Bool) (g : Group) (pid : ℕ) → GroupIsValid g → IsFresh g → GroupIsValid (group_step durable g pid)
unfolding group_step runner
group_step_valid durable g pid v low = by_runner (find (is_runner pid) g.frame.procs) refl
  where
    by_runner : (o : Option Proc) → find (is_runner pid) g.frame.procs ≡ o → GroupIsValid (elim o [ None ↦ g | Some p ↦ after_effect durable g p (effect_in g p) ])
    by_runner None e = v
    by_runner (Some p) e =
        let mine : find (is_runner p.pid) g.frame.procs ≡ Some p = ap (λ n. find (is_runner n) g.frame.procs) (found_pid g.frame.procs pid p e) ∙ e in
        effect_valid g p mine v low durable (effect_in g p) (instruction_fits g p mine v)

-- with the standing beside it, which validity doesn't read
pub step_valid : (s : State) (pid : ℕ) → GroupIsValid s.group → IsFresh s.group → GroupIsValid (do_step s pid).group
unfolding do_step
step_valid s pid v low = by_wait (stands_still s pid)
  where
    by_wait : (b : Bool) → GroupIsValid (if b then s else step_to s pid (group_step (is_durable s.standing pid) s.group pid)).group
    by_wait true = v
    by_wait false = group_step_valid (is_durable s.standing pid) s.group pid v low
