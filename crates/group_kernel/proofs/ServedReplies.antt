-- What the calls that are served reply.
use Rattle.std.proofs.Common.{◌≡◌, ◌≢◌, ◌⊎◌, inl, inr, ℕ, ◌*◌, ◌%◌, ◌<◌, ◌≤◌, ◌==◌, ◌&&◌, not, Bool, true, false, List, [], Option, Some, None, refl, sym, ap, ◌∙◌, arith}
use Rattle.std.specs.Prelude.{All, if◌then◌else◌}
use Rattle.std.specs.List.{list_any}
use Rattle.rv64_isa.specs.declared.regs.Regs.{Regs}
use Rattle.rv64_isa.specs.Memory.{Cells}
use Rattle.rv64_isa.specs.Registers.{a0, a1, a2, call_number}
use Rattle.group_defs.specs.declared.frame.Proc.{Proc}
use Rattle.descriptors.specs.Descriptors.{number_at}
use Rattle.descriptors.specs.declared.opens.Open.{Open}
use Rattle.descriptors.specs.declared.opens.OpenKind.{OpenKind}
use Rattle.descriptors.specs.declared.opens.OpenKind.TheVariants.{Nothing, Outside, File, PipeRead, PipeWrite, PairEnd}
use Rattle.group_defs.specs.Built.{IsPlain}
use Rattle.group_defs.specs.Calls.{Reply, waits, refuses, answers, ends, fd_of}
use Rattle.group_defs.specs.declared.calls.TheConstants.{EBADF, ENOSYS}
use Rattle.group_defs.specs.Cells.{sight}
use Rattle.group_defs.specs.Changes.{open_at}
use Rattle.group_defs.specs.Group.{Group, regs_of}
use Rattle.group_defs.specs.Output.{room}
use Rattle.group_defs.specs.ReadWrite.{put_outside, write_kind, write_open, write_outside}
use Rattle.group_defs.specs.Step.{call_in, is_wait, reply_in, reply_to, served}
use Rattle.group_laws.proofs.Inside.{found_has}
use Rattle.tables.specs.Rising.{entry_of}
use Rattle.syscalls_io.specs.Outside.{is_at_outside, is_outside, waits_for_room, writes_to_outside}

-- Of the descriptions that are built so far only the outside can be written to.
kind_by : (g : Group) (cells : Cells) (o : Open) (buf n : ℕ) (kind : OpenKind) → IsPlain kind → write_kind g cells o buf n kind ≡ (let w : Reply Group = if is_outside kind then write_outside g cells buf n else refuses EBADF in w)
kind_by g cells o buf n Nothing plain = refl
kind_by g cells o buf n Outside plain = refl
kind_by g cells o buf n (File object) plain = absurd plain
kind_by g cells o buf n (PipeRead pipe) plain = absurd plain
kind_by g cells o buf n (PipeWrite pipe) plain = absurd plain
kind_by g cells o buf n (PairEnd pair end) plain = absurd plain

-- a description is plain, where there is one
abbrev IsPlainAt : Option Open → Type 0
IsPlainAt None = Unit {0}
IsPlainAt (Some o) = IsPlain o.kind

found_plain : (opens : List Open) (number : ℕ) (o : Option Open) → All (λ o. IsPlain o.kind) opens → entry_of (λ o. o.number) opens number ≡ o → IsPlainAt o
found_plain opens number None all is = tt
found_plain opens number (Some o) all is = (found_has (λ (x : Open). IsPlain x.kind) (λ (x : Open). x.number == number) opens o all is).0

numbered_plain : (opens : List Open) (number : Option ℕ) → All (λ o. IsPlain o.kind) opens → IsPlainAt (elim number [ None ↦ None | Some n ↦ entry_of (λ o. o.number) opens n ])
numbered_plain opens None all = tt
numbered_plain opens (Some n) all = found_plain opens n (entry_of (λ (o : Open). o.number) opens n) all refl

open_by : (g : Group) (cells : Cells) (r : Regs) (o : Option Open) → IsPlainAt o → write_open g cells r o ≡ (let w : Reply Group = if is_at_outside o then write_outside g cells (a1 r) (a2 r) else refuses EBADF in w)
open_by g cells r None plain = refl
open_by g cells r (Some o) plain = kind_by g cells o (a1 r) (a2 r) o.kind plain

written_by : (g : Group) (cells : Cells) (r : Regs) (fds : List (ℕ × ℕ)) (opens : List Open) → All (λ o. IsPlain o.kind) opens
    → write_open g cells r (open_at fds opens (fd_of r)) ≡ (let w : Reply Group = if is_at_outside (open_at fds opens (fd_of r)) then write_outside g cells (a1 r) (a2 r) else refuses EBADF in w)
written_by g cells r fds opens all = open_by g cells r (open_at fds opens (fd_of r)) (numbered_plain opens (number_at fds (fd_of r)) all)

chosen : (a b : Reply Group) (t u : Bool) → t ≡ u → (let w : Reply Group = if t then a else b in w) ≡ (let w : Reply Group = if u then a else b in w)
chosen a b t u same = ap (λ (x : Bool). let w : Reply Group = if x then a else b in w) same

put_waits_not : (h : Group) (o : Option (List ℕ)) → is_wait (put_outside h o) ≡ false
put_waits_not h None = refl
put_waits_not h (Some bytes) = refl

wait_by : (h : Group) (o : Option (List ℕ)) (t u : Bool) → is_wait (if t then answers 0 h [] else if u then waits else put_outside h o) ≡ (not t && u)
wait_by h o true u = refl
wait_by h o false true = refl
wait_by h o false false = put_waits_not h o

-- a write to the outside
wait_write : (h : Group) (seen : Cells) (buf n : ℕ) → is_wait (write_outside h seen buf n) ≡ (not (n == 0) && (room h.frame.out == 0))
wait_write h seen buf n = wait_by h _ _ _

module _ (durable : Bool) (h : Group) (p : Proc) where
  abbrev r : Regs
  r = regs_of p

  pub reply_write : (t : Bool) → All (λ o. IsPlain o.kind) h.frame.opens → call_number r ≡ 64 → is_at_outside (open_at p.fds h.frame.opens (fd_of r)) ≡ t
      → reply_to durable h p ≡ (let w : Reply Group = if t then write_outside h (sight h p) (a1 r) (a2 r) else refuses EBADF in w)
  unfolding reply_in served call_in
  reply_write t plain is at = ap (reply_in durable h p) is ∙ written_by h (sight h p) r p.fds h.frame.opens plain ∙ chosen (write_outside h (sight h p) (a1 r) (a2 r)) (refuses EBADF) _ t at

  pub reply_exit : (call_number r ≡ 93) ⊎ (call_number r ≡ 94) → reply_to durable h p ≡ ends (256 * (a0 r % 256))
  unfolding reply_in served call_in
  reply_exit (inl is) = ap (reply_in durable h p) is
  reply_exit (inr is) = ap (reply_in durable h p) is

  pub reply_none : call_number r ≢ 64 → call_number r ≢ 93 → call_number r ≢ 94 → reply_to durable h p ≡ refuses ENOSYS
  unfolding reply_in served
  reply_none a b c =
      let not_write : (64 == call_number r) ≡ false = grind (arith, a) in
      let not_exit : (93 == call_number r) ≡ false = grind (arith, b) in
      let not_exit_group : (94 == call_number r) ≡ false = grind (arith, c) in
      let none : list_any (λ n. n == call_number r) served ≡ false = rw (not_write, not_exit, not_exit_group) refl in
      rw none refl

  -- a call that isn't a write
  waits_not : (t u : Bool) → call_number r ≢ 64 → (call_number r == 93) ≡ t → (call_number r == 94) ≡ u → is_wait (reply_to durable h p) ≡ false
  waits_not true u other e f = let number : call_number r ≡ 93 = grind (arith, e) in ap is_wait (reply_exit (inl number))
  waits_not false true other e f = let number : call_number r ≡ 94 = grind (arith, f) in ap is_wait (reply_exit (inr number))
  waits_not false false other e f =
      let no_exit : call_number r ≢ 93 = grind (arith, e) in
      let no_exit_group : call_number r ≢ 94 = grind (arith, f) in
      ap is_wait (reply_none other no_exit no_exit_group)

  -- the calls that wait are the writes to the outside of some bytes, while there is no room
  wait_number : All (λ o. IsPlain o.kind) h.frame.opens → (t u : Bool) → (call_number r == 64) ≡ t → is_at_outside (open_at p.fds h.frame.opens (fd_of r)) ≡ u → is_wait (reply_to durable h p) ≡ ((t && u) && (not (a2 r == 0) && (room h.frame.out == 0)))
  wait_number plain true true e f = let number : call_number r ≡ 64 = grind (arith, e) in ap is_wait (reply_write true plain number f) ∙ wait_write h (sight h p) (a1 r) (a2 r)
  wait_number plain true false e f = let number : call_number r ≡ 64 = grind (arith, e) in ap is_wait (reply_write false plain number f)
  wait_number plain false u e f = let other : call_number r ≢ 64 = grind (arith, e) in waits_not _ _ other refl refl

  pub waits_when : All (λ o. IsPlain o.kind) h.frame.opens → is_wait (reply_to durable h p) ≡ waits_for_room p.fds h.frame.opens h.frame.out r
  waits_when plain = wait_number plain _ _ refl refl
