-- A step that ends its process touches no page.
use Rattle.std.proofs.Common.{◌≡◌, ◌≢◌, inl, inr, ℕ, ◌++◌, ◌==◌, Bool, true, false, List, [], Option, Some, None, refl, sym, ap, ◌∙◌, arith, subst, append-nil}
use Rattle.std.specs.Prelude.{if◌then◌else◌, find}
use Rattle.group_defs.specs.Calls.{Reply, waits, refuses, answers, ends, fd_of}
use Rattle.group_defs.specs.Cells.{sight}
use Rattle.group_defs.specs.Changes.{open_at}
use Rattle.group_defs.specs.Family.{ended}
use Rattle.group_defs.specs.Group.{Group, is_runner, regs_of, runner}
use Rattle.group_defs.specs.Pages.{touched_by_effect, touched_by_reply, touched_with_step}
use Rattle.group_defs.specs.ReadWrite.{put_outside, write_outside}
use Rattle.group_defs.specs.Step.{after_effect, after_reply, continued, effect_in, group_step, reply_to, written}
use Rattle.group_defs.specs.Valid.{GroupIsValid}
use Rattle.group_defs.specs.declared.frame.Proc.{Proc}
use Rattle.group_laws.proofs.OthersStay.{step_is}
use Rattle.group_laws.proofs.ReplyLaws.{found_pid}
use Rattle.group_parts.proofs.Ended.{part_of_end}
use Rattle.group_parts.proofs.Served.{part_continued}
use Rattle.group_parts.specs.Parts.{part_in, part_of}
use Rattle.group_parts.specs.Served.{answered_part}
use Rattle.rv64_isa.specs.Instruction.{Effect, calls, list_of, steps, traps}
use Rattle.rv64_isa.specs.Memory.{Cells, Write}
use Rattle.rv64_isa.specs.Registers.{a1, a2, answered, call_number}
use Rattle.rv64_isa.specs.declared.regs.Regs.{Regs}
use Rattle.group_kernel.specs.Calls.{HasOnlyServedTables}
use Rattle.syscalls_io.specs.Outside.{is_at_outside}
use Rattle.group_kernel.proofs.ServedReplies.{reply_exit, reply_none, reply_write}

-- What answers leaves the processes as they were.
abbrev KeepsProcs : Group → Reply Group → Type 0
KeepsProcs g waits = Unit {0}
KeepsProcs g (refuses errno) = Unit {0}
KeepsProcs g (answers value h writes) = h.frame.procs ≡ g.frame.procs
KeepsProcs g (ends status) = Unit {0}

module _ (g : Group) (served : HasOnlyServedTables g.frame) where
  put_keeps : (o : Option (List ℕ)) → KeepsProcs g (put_outside g o)
  put_keeps None = tt
  put_keeps (Some bytes) = refl

  write_by : (o : Option (List ℕ)) (t u : Bool) → KeepsProcs g (if t then answers 0 g [] else if u then waits else put_outside g o)
  write_by o true u = refl
  write_by o false true = tt
  write_by o false false = put_keeps o

  write_keeps : (cells : Cells) (buf n : ℕ) → KeepsProcs g (write_outside g cells buf n)
  write_keeps cells buf n = write_by _ _ _

  reply_keeps : (durable : Bool) (p : Proc) (t u v w : Bool) → (call_number (regs_of p) == 64) ≡ t → (call_number (regs_of p) == 93) ≡ u → (call_number (regs_of p) == 94) ≡ v → is_at_outside (open_at p.fds g.frame.opens (fd_of (regs_of p))) ≡ w → KeepsProcs g (reply_to durable g p)
  reply_keeps durable p true u v true e f i at = let number : call_number (regs_of p) ≡ 64 = grind (arith, e) in subst (KeepsProcs g) (sym (reply_write durable g p true served.opens number at)) (write_keeps (sight g p) (a1 (regs_of p)) (a2 (regs_of p)))
  reply_keeps durable p true u v false e f i at = let number : call_number (regs_of p) ≡ 64 = grind (arith, e) in subst (KeepsProcs g) (sym (reply_write durable g p false served.opens number at)) tt
  reply_keeps durable p false true v w e f i at = let number : call_number (regs_of p) ≡ 93 = grind (arith, f) in subst (KeepsProcs g) (sym (reply_exit durable g p (inl number))) tt
  reply_keeps durable p false false true w e f i at = let number : call_number (regs_of p) ≡ 94 = grind (arith, i) in subst (KeepsProcs g) (sym (reply_exit durable g p (inr number))) tt
  reply_keeps durable p false false false w e f i at =
      let a : call_number (regs_of p) ≢ 64 = grind (arith, e) in
      let b : call_number (regs_of p) ≢ 93 = grind (arith, f) in
      let c : call_number (regs_of p) ≢ 94 = grind (arith, i) in
      subst (KeepsProcs g) (sym (reply_none durable g p a b c)) tt

module _ (g : Group) (valid : GroupIsValid g) (pid : ℕ) (p : Proc) (is : runner g pid ≡ Some p) (status : ℕ) where
  -- who goes on has a part, who has ended hasn't
  goes_on_not : (h : Group) → h.frame.procs ≡ g.frame.procs → (r : Regs) (writes : List Write) → continued (written h p writes) p r ≡ ended g p status → ⊥
  unfolding runner
  goes_on_not h same r writes e =
      let there : runner h pid ≡ Some p = ap (λ (l : List Proc). find (is_runner pid) l) same ∙ is in
      let some : part_of (continued (written h p writes) p r) pid ≡ Some (answered_part (part_in h p) r p.maps writes) = part_continued pid p p (found_pid g.frame.procs pid p is) h there r writes in
      let none : part_of (continued (written h p writes) p r) pid ≡ None = ap (λ (x : Group). part_of x pid) e ∙ part_of_end g valid pid p is status in
      let never : None ≡ Some (answered_part (part_in h p) r p.maps writes) = sym none ∙ some in
      cc

  by_reply : (so_far : List (ℕ × ℕ)) (number : ℕ) (r : Reply Group) → KeepsProcs g r → after_reply g p r ≡ ended g p status → touched_by_reply g p so_far number r ≡ []
  by_reply so_far number waits keeps e = refl
  by_reply so_far number (refuses errno) keeps e = refl
  by_reply so_far number (answers value h writes) keeps e = absurd (goes_on_not h keeps (answered (regs_of p) value) writes e)
  by_reply so_far number (ends s) keeps e = refl

  by_effect : (durable : Bool) (so_far : List (ℕ × ℕ)) → HasOnlyServedTables g.frame → (x : Effect) → after_effect durable g p x ≡ ended g p status → touched_by_effect durable g p so_far x ≡ []
  by_effect durable so_far served (steps r stored) e = absurd (goes_on_not g refl r (list_of stored) e)
  by_effect durable so_far served calls e = by_reply so_far (call_number (regs_of p)) (reply_to durable g p) (reply_keeps g served durable p _ _ _ _ refl refl refl refl) e
  by_effect durable so_far served (traps s) e = refl

  pub end_touches_none : (durable : Bool) (so_far : List (ℕ × ℕ)) → HasOnlyServedTables g.frame → group_step durable g pid ≡ ended g p status → touched_with_step durable g pid so_far ≡ so_far
  unfolding touched_with_step
  end_touches_none durable so_far served step =
      ap (λ (o : Option Proc). so_far ++ elim o [ None ↦ [] | Some q ↦ touched_by_effect durable g q so_far (effect_in g q) ]) is
      ∙ ap (λ (l : List (ℕ × ℕ)). so_far ++ l) (by_effect durable so_far served (effect_in g p) (sym ((step_is durable g pid).1 p is) ∙ step))
      ∙ append-nil so_far
