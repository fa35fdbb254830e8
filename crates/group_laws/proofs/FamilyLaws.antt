-- exit, wait4, getpid, getppid and sched_yield keep a group valid.
use Rattle.std.proofs.Common.{◌≡◌, ◌⊎◌, inl, inr, ◌^◌, ◌<◌, [], Some, arith}
use Rattle.std.specs.Prelude.{find}
use Rattle.group_defs.specs.Family.{exit, getpid, getppid, sched_yield}
use Rattle.group_defs.specs.Group.{Group, is_runner}
use Rattle.group_defs.specs.Processes.{EndedValid, HasParent, IsWaitStatus, ProcValid, RunningValid, StateValid}
use Rattle.group_defs.specs.Valid.{GroupIsValid}
use Rattle.group_defs.specs.declared.frame.Proc.{Proc}
use Rattle.group_defs.specs.declared.frame.ProcState.{ProcState}
use Rattle.group_defs.specs.declared.frame.ProcState.TheVariants.{Running, Ended}
use Rattle.rv64_isa.specs.declared.regs.Regs.{Regs}
use Rattle.group_laws.proofs.DescriptorCallLaws.{nothing_stored}
use Rattle.group_laws.proofs.Lists.{found_all}
use Rattle.group_laws.proofs.ReplyLaws.{ReplyKeeps, same_keeps}

pub exit_keeps : (p : Proc) (r : Regs) → ReplyKeeps p (exit r)
unfolding IsWaitStatus
exit_keeps p r = inl (omega arith, omega arith)

module _ (g : Group) (p : Proc) (found : find (is_runner p.pid) g.frame.procs ≡ Some p) (v : GroupIsValid g) where
  pub sched_yield_keeps : ReplyKeeps p (sched_yield g)
  sched_yield_keeps = same_keeps g p 0 [] found v (omega arith) nothing_stored

  pub getpid_keeps : ReplyKeeps p (getpid g p)
  getpid_keeps = let below = found_all (is_runner p.pid) (λ q. q.pid < g.frame.next.pid) g.frame.procs p found v.sound.frame.procs.below in let most = v.sound.frame.next.2 in same_keeps g p p.pid [] found v (omega (arith, below, most)) nothing_stored

  parent_fits : p.parent < 2 ^ 64
  unfolding ProcValid RunningValid EndedValid HasParent
  parent_fits = by_state p.state (found_all (is_runner p.pid) (ProcValid g.frame.procs) g.frame.procs p found v.sound.frame.procs.states)
    where
      below : p.pid < 32768
      below = let less = found_all (is_runner p.pid) (λ q. q.pid < g.frame.next.pid) g.frame.procs p found v.sound.frame.procs.below in let most = v.sound.frame.next.2 in omega (arith, less, most)

      of_parent : HasParent g.frame.procs p → p.parent < 2 ^ 64
      of_parent (k, q, lt, is, both) = let same = both.1 in let less = both.2 in omega (arith, same, less, below)

      by_either : (p.parent ≡ 0) ⊎ HasParent g.frame.procs p → p.parent < 2 ^ 64
      by_either (inl none) = omega (arith, none)
      by_either (inr has) = of_parent has

      by_state : (s : ProcState) → StateValid g.frame.procs p s → p.parent < 2 ^ 64
      by_state Running valid = by_either valid.2
      by_state (Ended code) valid = of_parent valid.0

  pub getppid_keeps : ReplyKeeps p (getppid g p)
  getppid_keeps = same_keeps g p p.parent [] found v parent_fits nothing_stored
