-- What the step of the process comes to where it isn't local.
use Rattle.std.proofs.Common.{◌≡◌, ◌≢◌, ◌⊎◌, inl, inr, ℕ, ◌*◌, ◌%◌, ◌<◌, ◌≤◌, ◌==◌, Bool, true, false, List, [], ◌++◌, length, Option, Some, None, refl, sym, ap, ap₂, subst, ◌∙◌, arith}
use Rattle.std.specs.Prelude.{All, if◌then◌else◌, is_some, IsTrue, MatchOption}
use Rattle.std.specs.List.{list_any}
use Rattle.rv64_isa.specs.declared.regs.Regs.{Regs}
use Rattle.rv64_isa.specs.Instruction.{Effect, steps, calls, traps, instruction, is_step}
use Rattle.rv64_isa.specs.Memory.{Cells}
use Rattle.rv64_isa.specs.Registers.{a0, a1, a2, answered, call_number}
use Rattle.group_defs.specs.declared.frame.Out.{Out}
use Rattle.group_defs.specs.declared.frame.Proc.{Proc}
use Rattle.address_maps.specs.declared.maps.Mapping.{Mapping}
use Rattle.descriptors.specs.Descriptors.{number_at}
use Rattle.descriptors.specs.declared.opens.Open.{Open}
use Rattle.descriptors.specs.declared.opens.OpenKind.{OpenKind}
use Rattle.descriptors.specs.declared.opens.OpenKind.TheVariants.{Nothing, Outside, File, PipeRead, PipeWrite, PairEnd}
use Rattle.group_defs.specs.Built.{IsPlain}
use Rattle.group_defs.specs.Calls.{Reply, refuses, answers, ends, fd_of}
use Rattle.group_defs.specs.declared.calls.TheConstants.{EBADF, ENOSYS}
use Rattle.group_defs.specs.Cells.{sight, with_writes}
use Rattle.group_defs.specs.Changes.{open_at, with_out}
use Rattle.group_defs.specs.Group.{Group, regs_of}
use Rattle.group_defs.specs.Output.{with_output}
use Rattle.group_defs.specs.ReadWrite.{put_outside, write_kind, write_open, write_outside}
use Rattle.group_defs.specs.Step.{after_effect, after_reply, call_in, continued, group_step, is_local, reply_in, reply_to, served}
use Rattle.tables.specs.Rising.{entry_of}
use Rattle.flat_kernel.specs.Engine.{cells_in, ended_group, group_in, process_in, running_group, running_process, IsRunnable}
use Rattle.flat_kernel.specs.Memory.{memory_in}
use Rattle.flat_kernel.specs.declared.engine_group.EngineGroup.{EngineGroup}
use Rattle.flat_kernel.specs.Descriptors.{is_outside, is_at_outside}
use Rattle.flat_kernel.specs.declared.engine_group.Fixed.{Fixed}
use Rattle.flat_kernel.proofs.EngineLaws.{running_in, runnable_in}
use Rattle.flat_kernel.proofs.MemoryReads.{found_has}
use Rattle.flat_kernel.proofs.ReadLaws.{IsCount}
use Rattle.flat_kernel.proofs.StepLaws.{ends_in, goes_on, local_in, step_in}

-- ---- the replies

-- Of the descriptions that are built so far only the outside can be written to.
kind_by : (g : Group) (cells : Cells) (o : Open) (buf n : ℕ) (kind : OpenKind) → IsPlain kind → write_kind g cells o buf n kind ≡ (let w : Reply Group = if is_outside kind then write_outside g cells buf n else refuses EBADF in w)
kind_by g cells o buf n Nothing plain = refl
kind_by g cells o buf n Outside plain = refl
kind_by g cells o buf n (File object) plain = absurd plain
kind_by g cells o buf n (PipeRead pipe) plain = absurd plain
kind_by g cells o buf n (PipeWrite pipe) plain = absurd plain
kind_by g cells o buf n (PairEnd pair end) plain = absurd plain

-- a description is plain, where there is one
abbrev IsPlainAt : Option Open → Type 0
IsPlainAt None = Unit {0}
IsPlainAt (Some o) = IsPlain o.kind

found_plain : (opens : List Open) (number : ℕ) (o : Option Open) → All (λ o. IsPlain o.kind) opens → entry_of (λ o. o.number) opens number ≡ o → IsPlainAt o
found_plain opens number None all is = tt
found_plain opens number (Some o) all is = (found_has (λ (x : Open). IsPlain x.kind) (λ (x : Open). x.number == number) opens o all is).0

numbered_plain : (opens : List Open) (number : Option ℕ) → All (λ o. IsPlain o.kind) opens → IsPlainAt (elim number [ None ↦ None | Some n ↦ entry_of (λ o. o.number) opens n ])
numbered_plain opens None all = tt
numbered_plain opens (Some n) all = found_plain opens n (entry_of (λ (o : Open). o.number) opens n) all refl

open_by : (g : Group) (cells : Cells) (r : Regs) (o : Option Open) → IsPlainAt o → write_open g cells r o ≡ (let w : Reply Group = if is_at_outside o then write_outside g cells (a1 r) (a2 r) else refuses EBADF in w)
open_by g cells r None plain = refl
open_by g cells r (Some o) plain = kind_by g cells o (a1 r) (a2 r) o.kind plain

pub written_by : (g : Group) (cells : Cells) (r : Regs) (fds : List (ℕ × ℕ)) (opens : List Open) → All (λ o. IsPlain o.kind) opens
    → write_open g cells r (open_at fds opens (fd_of r)) ≡ (let w : Reply Group = if is_at_outside (open_at fds opens (fd_of r)) then write_outside g cells (a1 r) (a2 r) else refuses EBADF in w)
written_by g cells r fds opens all = open_by g cells r (open_at fds opens (fd_of r)) (numbered_plain opens (number_at fds (fd_of r)) all)

pub exit_number : (n : ℕ) → 93 ≤ n → n < 95 → (n ≡ 93) ⊎ (n ≡ 94)
exit_number n low high = grind arith

-- by whether the descriptor is at the outside
chosen : (a b : Reply Group) (t u : Bool) → t ≡ u → (let w : Reply Group = if t then a else b in w) ≡ (let w : Reply Group = if u then a else b in w)
chosen a b t u same = ap (λ (x : Bool). let w : Reply Group = if x then a else b in w) same

module _ (h : Group) (p : Proc) where
  abbrev r : Regs
  r = regs_of p

  pub reply_write : (t : Bool) → All (λ o. IsPlain o.kind) h.frame.opens → call_number r ≡ 64 → is_at_outside (open_at p.fds h.frame.opens (fd_of r)) ≡ t
      → reply_to true h p ≡ (let w : Reply Group = if t then write_outside h (sight h p) (a1 r) (a2 r) else refuses EBADF in w)
  unfolding reply_in served call_in
  reply_write t plain is at = ap (reply_in true h p) is ∙ written_by h (sight h p) r p.fds h.frame.opens plain ∙ chosen (write_outside h (sight h p) (a1 r) (a2 r)) (refuses EBADF) _ t at

  pub reply_exit : (call_number r ≡ 93) ⊎ (call_number r ≡ 94) → reply_to true h p ≡ ends (256 * (a0 r % 256))
  unfolding reply_in served call_in
  reply_exit (inl is) = ap (reply_in true h p) is
  reply_exit (inr is) = ap (reply_in true h p) is

  pub reply_none : call_number r ≢ 64 → call_number r ≢ 93 → call_number r ≢ 94 → reply_to true h p ≡ refuses ENOSYS
  unfolding reply_in served
  reply_none a b c =
      let not_write : (64 == call_number r) ≡ false = grind (arith, a) in
      let not_exit : (93 == call_number r) ≡ false = grind (arith, b) in
      let not_exit_group : (94 == call_number r) ≡ false = grind (arith, c) in
      let none : list_any (λ n. n == call_number r) served ≡ false = rw (not_write, not_exit, not_exit_group) refl in
      rw none refl

  -- a write of no bytes
  pub wrote_nothing : (seen : Cells) (buf n : ℕ) → n ≡ 0 → continued h p (answered r 0) ≡ after_reply h p (write_outside h seen buf n)
  unfolding with_writes
  wrote_nothing seen buf n none = sym (ap (λ (k : ℕ). after_reply h p (write_outside h seen buf k)) none)

-- ---- the group after a call

-- an answer with an output, and nothing stored
pub answered_with : (fixed : Fixed) (maps : List Mapping) (r : Regs) (memory : List (ℕ × List ℕ)) (out after : Out) (value : ℕ)
    → (let g : Group = running_group fixed maps r memory out in after_reply g (running_process fixed maps r) (answers value (with_out g after) [])) ≡ running_group fixed maps (answered r value) memory after
unfolding with_writes
answered_with fixed maps r memory out after value = goes_on fixed maps r memory after (answered r value)

module _ (g : EngineGroup) (runs : IsTrue g.running) where
  -- the bytes that were read are behind the output
  pub put_done : (o : Option (List ℕ)) (n : ℕ) (behind : List ℕ) → IsCount n o → is_some o ≡ true → MatchOption o (behind ≡ g.out.bytes) (λ bytes. behind ≡ g.out.bytes ++ bytes)
      → group_in (record g { regs = answered g.regs n; out = record g.out { bytes = behind } }) ≡ after_reply (group_in g) (process_in g) (put_outside (group_in g) o)
  put_done None n behind count able read = absurd (cc)
  put_done (Some bytes) n behind count able read =
      let parts : List ℕ → ℕ → Group = λ l k. running_group g.fixed g.memory.maps (answered g.regs k) (memory_in g.memory.objects.items) (record g.out { bytes = l }) in
      running_in (record g { regs = answered g.regs n; out = record g.out { bytes = behind } }) runs
      ∙ ap₂ parts read (sym count)
      ∙ subst (λ (h : Group). parts (g.out.bytes ++ bytes) (length bytes) ≡ after_reply h (process_in g) (put_outside h (Some bytes))) (sym (running_in g runs))
      (sym (answered_with g.fixed g.memory.maps g.regs (memory_in g.memory.objects.items) g.out (with_output g.out bytes) (length bytes)))

  -- at a call it does the call
  pub step_calls : instruction (cells_in g) g.regs ≡ calls → after_reply (group_in g) (process_in g) (reply_to true (group_in g) (process_in g)) ≡ group_step true (group_in g) g.fixed.pid
  step_calls call = sym (step_in g runs ∙ ap (after_effect true (group_in g) (process_in g)) call)

  trap_ends : (e : Effect) → is_step e ≡ false → (e ≡ calls → ⊥) → ended_group g.fixed.next g.out ≡ after_effect true (group_in g) (process_in g) e
  trap_ends (steps r' write) other no_call = absurd (cc)
  trap_ends calls other no_call = absurd (no_call refl)
  trap_ends (traps status) other no_call = ends_in g runs status

  -- at neither a local step nor a call it ends
  pub step_ends : IsRunnable (group_in g) → is_local (group_in g) g.fixed.pid ≡ false → (instruction (cells_in g) g.regs ≡ calls → ⊥) → ended_group g.fixed.next g.out ≡ group_step true (group_in g) g.fixed.pid
  step_ends runnable other no_call = trap_ends (instruction (cells_in g) g.regs) (sym (local_in g runs runnable) ∙ other) no_call ∙ sym (step_in g runs)

  -- what is done is what the call replies
  pub write_replies : (t : Bool) → IsRunnable (group_in g) → call_number g.regs ≡ 64 → is_at_outside (open_at g.fixed.fds g.fixed.opens (fd_of g.regs)) ≡ t
      → reply_to true (group_in g) (process_in g) ≡ (let w : Reply Group = if t then write_outside (group_in g) (cells_in g) (a1 g.regs) (a2 g.regs) else refuses EBADF in w)
  write_replies t runnable is at =
      subst (λ (h : Group). reply_to true h (process_in g) ≡ (let w : Reply Group = if t then write_outside h (cells_in g) (a1 g.regs) (a2 g.regs) else refuses EBADF in w)) (sym (running_in g runs))
      (reply_write (running_group g.fixed g.memory.maps g.regs (memory_in g.memory.objects.items) g.out) (process_in g) t (runnable_in g runs runnable).built.opens is at)
