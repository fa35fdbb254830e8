-- A served call does to registers and output what the group's reply says.
use Rattle.std.proofs.Common.{◌≡◌, ◌≢◌, ◌⊎◌, inl, inr, ℕ, ◌*◌, ◌%◌, ◌==◌, ◌&&◌, ◌||◌, Bool, true, false, List, [], Option, Some, None, refl, sym, ap, ◌∙◌, arith, subst}
use Rattle.std.specs.Prelude.{All, if◌then◌else◌, min, pos}
use Rattle.descriptors.specs.declared.opens.Open.{Open}
use Rattle.group_defs.specs.Built.{IsPlain}
use Rattle.group_defs.specs.Calls.{Reply, waits, refuses, answers, ends, fd_of}
use Rattle.group_defs.specs.Cells.{sight}
use Rattle.group_defs.specs.Changes.{open_at, with_out}
use Rattle.group_defs.specs.Group.{Group, regs_of}
use Rattle.group_defs.specs.Output.{room, with_output}
use Rattle.group_defs.specs.ReadWrite.{put_outside, write_outside}
use Rattle.group_defs.specs.Step.{reply_to}
use Rattle.group_defs.specs.declared.calls.TheConstants.{EBADF, ENOSYS, EXIT, EXIT_GROUP}
use Rattle.group_defs.specs.declared.frame.Out.{Out}
use Rattle.group_defs.specs.declared.frame.Proc.{Proc}
use Rattle.group_kernel.specs.ServedCalls.{CallEnd, after_call, after_outcome, call_end, going_on, refused}
use Rattle.group_kernel.specs.declared.calls.StepEnd.{StepEnd}
use Rattle.group_kernel.specs.declared.calls.StepEnd.TheVariants.{Ends, GoesOn}
use Rattle.rv64_isa.specs.Memory.{Cells, Write, readable}
use Rattle.rv64_isa.specs.Registers.{a0, a1, a2, answered, call_number}
use Rattle.rv64_isa.specs.declared.regs.Regs.{Regs}
use Rattle.syscalls_io.specs.IoCalls.{Outcome, after_io_call, after_reading, after_write, done, is_io_call, outcome}
use Rattle.syscalls_io.specs.IoCalls as io
use Rattle.syscalls_io.specs.Outside.{is_at_outside}
use Rattle.syscalls_io.specs.declared.answer.CallAnswer.TheVariants.{Waits}
use Rattle.syscalls_io.proofs.WritesCarriedOut.{to_nothing, to_outside}
use Rattle.group_kernel.proofs.CallsCarriedOut.{called_exit, called_io, called_other}
use Rattle.group_kernel.proofs.ServedReplies.{reply_exit, reply_none, reply_write}

-- an answer: the call writes to the outside, stores nothing, and only the output changes
pub record AnswersOutside (g : Group) (p : Proc) (value : ℕ) (h : Group) (writes : List Write) (e : CallEnd) : Type 0 where
  pub number : call_number (regs_of p) ≡ 64
  pub outside : is_at_outside (open_at p.fds g.frame.opens (fd_of (regs_of p))) ≡ true
  pub out : Out
  pub group : h ≡ with_out g out
  pub stored : writes ≡ []
  pub end : e ≡ going_on (answered (regs_of p) value) out

abbrev pub ComesOf : Group → Proc → Reply Group → CallEnd → Type 0
ComesOf g p waits e = e ≡ going_on (regs_of p) g.frame.out
ComesOf g p (refuses errno) e = e ≡ refused (regs_of p) g.frame.out errno
ComesOf g p (answers value h writes) e = AnswersOutside g p value h writes e
ComesOf g p (ends status) e = e ≡ call_end (Ends status) (regs_of p) g.frame.out

module _ (durable : Bool) (g : Group) (p : Proc) (plain : All (λ o. IsPlain o.kind) g.frame.opens) where
  abbrev e : CallEnd
  e = after_call p.fds g.frame.opens (sight g p) (regs_of p) g.frame.out

  abbrev at_outside : Bool
  at_outside = is_at_outside (open_at p.fds g.frame.opens (fd_of (regs_of p)))

  module _ (number : call_number (regs_of p) ≡ 64) (outside : at_outside ≡ true) where
    read_comes : (o : Option (List ℕ)) → ComesOf g p (put_outside g o) (after_outcome (regs_of p) (after_reading g.frame.out o))
    read_comes None = refl
    read_comes (Some bytes) = record { number = number; outside = outside; out = with_output g.frame.out bytes; group = refl; stored = refl; end = refl }

    write_by : (t u : Bool) (o : Option (List ℕ)) → ComesOf g p (if t then answers 0 g [] else if u then waits else put_outside g o) (after_outcome (regs_of p) (if t then done (pos 0) g.frame.out else if u then outcome Waits g.frame.out else after_reading g.frame.out o))
    write_by true u o = record { number = number; outside = outside; out = g.frame.out; group = refl; stored = refl; end = refl }
    write_by false true o = refl
    write_by false false o = read_comes o

    write_comes : (cells : Cells) → ComesOf g p (write_outside g cells (a1 (regs_of p)) (a2 (regs_of p))) (after_outcome (regs_of p) (after_write cells (regs_of p) g.frame.out))
    unfolding after_write
    write_comes cells = write_by (a2 (regs_of p) == 0) (room g.frame.out == 0) (readable cells (a1 (regs_of p)) (min (a2 (regs_of p)) (room g.frame.out)))

  both : (r r' : Reply Group) (x x' : CallEnd) → r ≡ r' → x ≡ x' → ComesOf g p r' x' → ComesOf g p r x
  both r r' x x' same alike comes = subst (λ (y : CallEnd). ComesOf g p r y) (sym alike) (subst (λ (s : Reply Group). ComesOf g p s x') (sym same) comes)

  exits : (call_number (regs_of p) ≡ 93) ⊎ (call_number (regs_of p) ≡ 94) → ComesOf g p (reply_to durable g p) e
  exits number =
      both (reply_to durable g p) (ends (256 * (a0 (regs_of p) % 256))) e (call_end (Ends (256 * (a0 (regs_of p) % 256))) (regs_of p) g.frame.out)
      (reply_exit durable g p number) (called_exit (sight g p) (regs_of p) g.frame.out p.fds g.frame.opens number) refl

  writes : (v : Bool) → call_number (regs_of p) ≡ 64 → at_outside ≡ v → ComesOf g p (reply_to durable g p) e
  writes true number at =
      let is : e ≡ after_outcome (regs_of p) (after_write (sight g p) (regs_of p) g.frame.out) =
      called_io (sight g p) (regs_of p) g.frame.out p.fds g.frame.opens number ∙ ap (after_outcome (regs_of p)) (to_outside (sight g p) (regs_of p) g.frame.out p.fds g.frame.opens at) in
      both (reply_to durable g p) (write_outside g (sight g p) (a1 (regs_of p)) (a2 (regs_of p))) e (after_outcome (regs_of p) (after_write (sight g p) (regs_of p) g.frame.out))
      (reply_write durable g p true plain number at) is (write_comes number at (sight g p))
  writes false number at =
      let is : e ≡ after_outcome (regs_of p) (io.refused g.frame.out EBADF) =
      called_io (sight g p) (regs_of p) g.frame.out p.fds g.frame.opens number ∙ ap (after_outcome (regs_of p)) (to_nothing (sight g p) (regs_of p) g.frame.out p.fds g.frame.opens at) in
      both (reply_to durable g p) (refuses EBADF) e (refused (regs_of p) g.frame.out EBADF)
      (reply_write durable g p false plain number at) is refl

  by_number : (t u v : Bool) → (call_number (regs_of p) == 64) ≡ t → (call_number (regs_of p) == 93) ≡ u → (call_number (regs_of p) == 94) ≡ v → ComesOf g p (reply_to durable g p) e
  by_number true u v a b c = let number : call_number (regs_of p) ≡ 64 = grind (arith, a) in writes at_outside number refl
  by_number false true v a b c = let number : call_number (regs_of p) ≡ 93 = grind (arith, b) in exits (inl number)
  by_number false false true a b c = let number : call_number (regs_of p) ≡ 94 = grind (arith, c) in exits (inr number)
  by_number false false false a b c =
      let no_write : call_number (regs_of p) ≢ 64 = grind (arith, a) in
      let no_exit : call_number (regs_of p) ≢ 93 = grind (arith, b) in
      let no_exit_group : call_number (regs_of p) ≢ 94 = grind (arith, c) in
      both (reply_to durable g p) (refuses ENOSYS) e (refused (regs_of p) g.frame.out ENOSYS)
      (reply_none durable g p no_write no_exit no_exit_group) (called_other (sight g p) (regs_of p) g.frame.out p.fds g.frame.opens no_write no_exit no_exit_group) refl

  pub call_comes : ComesOf g p (reply_to durable g p) e
  call_comes = by_number _ _ _ refl refl refl

-- ---- an end changes neither registers nor output

abbrev StaysWhereEnded : Regs → Out → Regs → Out → StepEnd → Type 0
StaysWhereEnded r out r' out' GoesOn = Unit {0}
StaysWhereEnded r out r' out' (Ends status) = (r' ≡ r) × (out' ≡ out)

abbrev AsItWas : Regs → Out → CallEnd → Type 0
AsItWas r out e = StaysWhereEnded r out e.regs e.out e.end

module _ (fds : List (ℕ × ℕ)) (opens : List Open) (cells : Cells) (r : Regs) (out : Out) where
  as_called : (t u : Bool) (o : Outcome)
      → AsItWas r out (if t then after_outcome r o else if u then call_end (Ends (256 * (a0 r % 256))) r out else refused r out ENOSYS)
  as_called true u o = tt
  as_called false true o = (refl, refl)
  as_called false false o = tt

  as_it_was : AsItWas r out (after_call fds opens cells r out)
  unfolding after_call
  as_it_was = as_called (is_io_call (call_number r)) ((call_number r == EXIT) || (call_number r == EXIT_GROUP)) (after_io_call fds opens cells r out)

  pub ended_as_it_was : (status : ℕ) (r' : Regs) (out' : Out) → call_end (Ends status) r' out' ≡ after_call fds opens cells r out → (r' ≡ r) × (out' ≡ out)
  ended_as_it_was status r' out' e = subst (AsItWas r out) (sym e) as_it_was
