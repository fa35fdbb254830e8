-- What calls and steps leave of the output, and what a write to the outside appends to it.
use Rattle.std.proofs.Common.{Bool, List, None, Option, Some, [], ap, arith, false, min, refl, subst, sym, true, ℕ, ◌++◌, ◌==◌, ◌∙◌, ◌≡◌}
use Rattle.std.proofs.lemmas.Bool.{and_parts, eqb-true, false≢true}
use Rattle.std.proofs.lemmas.List.{append-nil}
use Rattle.std.specs.Prelude.{if◌then◌else◌}
use Rattle.descriptors.specs.declared.opens.Open.{Open}
use Rattle.descriptors.specs.declared.opens.OpenKind.{OpenKind}
use Rattle.descriptors.specs.declared.opens.OpenKind.TheVariants as kinds
use Rattle.group_defs.specs.Calls.{Reply, answers, ends, fd_of, refuses, waits}
use Rattle.group_defs.specs.Cells.{sight}
use Rattle.group_defs.specs.Changes.{open_at}
use Rattle.group_defs.specs.Family.{ended}
use Rattle.group_defs.specs.Fork.{Copy, forked}
use Rattle.group_defs.specs.Group.{Group, regs_of, runner}
use Rattle.group_defs.specs.Held.{settled}
use Rattle.group_defs.specs.Output.{room, with_output}
use Rattle.group_defs.specs.ReadWrite.{put_outside, write, write_kind, write_open, write_outside}
use Rattle.group_defs.specs.Step.{after_effect, after_reply, call_in, effect_in, group_step, reply_in, served}
use Rattle.group_defs.specs.declared.frame.Proc.{Proc}
use Rattle.group_laws.proofs.Replies.{Leaves, Plain, call_holds, clone_leaves, openat_leaves, served_or_refused, written_reply}
use Rattle.group_laws.specs.Outside.{bytes_for_outside, effect_writes_outside, is_open_outside, is_outside_kind, step_writes_outside, call_writes_outside}
use Rattle.rv64_isa.specs.Instruction.{Effect, calls, steps, traps}
use Rattle.rv64_isa.specs.Memory.{bytes_with, readable}
use Rattle.rv64_isa.specs.Registers.{a1, a2, call_number}

-- The output after another call, and after a step that isn't a write to the outside.
module _ (g : Group) (p : Proc) where
  abbrev Stays : Group → Type 0
  Stays h = h.frame.out ≡ g.frame.out

  plain_stays : Plain g p Stays
  unfolding settled
  plain_stays = record {
    same = refl;
    fds = λ fds. refl;
    closed = λ fds. refl;
    offsets = λ number offset. refl;
    pipes = λ pipes. refl;
    pairs = λ pairs. refl;
    dropped = λ pairs. refl;
    received = λ pairs fds. refl;
    new_pipe = λ fds. refl;
    new_pair = λ fds. refl;
    break = λ brk. refl;
    grown = λ start pages brk. refl;
    shrunk = λ start pages brk. refl;
    unmapped = λ start pages. refl;
    one_more = λ start pages prot shared. refl;
    instead = λ start pages prot shared. refl;
    reaped = λ wanted q e. refl;
  }

  forked_stays : (copies : List Copy) → Stays (forked g p copies)
  unfolding forked
  forked_stays copies = refl

  write_elsewhere : (x : Option Open) → is_open_outside x ≡ false → Leaves Stays (write_open g (sight g p) (regs_of p) x)
  write_elsewhere x elsewhere =
      written_reply (Leaves Stays) g (sight g p) tt (λ errno. tt) refl (λ value pipes. refl) (λ value pairs. refl) (regs_of p) x
      (λ o at is. absurd (false≢true (sym elsewhere ∙ ap is_open_outside at ∙ ap is_outside_kind is))) (λ o at object is bytes within. refl)

  call_leaves : (durable : Bool) (number : ℕ) → call_writes_outside g p number ≡ false → Leaves Stays (call_in durable g p number)
  unfolding call_writes_outside
  call_leaves durable =
      call_holds durable g p Stays plain_stays (λ n r. call_writes_outside g p n ≡ false → Leaves Stays r) (λ n r leaves e. leaves)
      (λ e. openat_leaves g p Stays (record { old = λ f flags fds is. refl; cleared = λ f flags fds is. refl; made = λ name flags fds. refl }) (sight g p) (regs_of p))
      (λ e. write_elsewhere (open_at p.fds g.frame.opens (fd_of (regs_of p))) e) (λ e. clone_leaves g p Stays (λ can. forked_stays _) (regs_of p))

  after_leaves : (r : Reply Group) → Leaves Stays r → Stays (after_reply g p r)
  unfolding ended settled
  after_leaves waits leaves = refl
  after_leaves (refuses errno) leaves = refl
  after_leaves (answers value h writes) leaves = leaves
  after_leaves (ends status) leaves = refl

  effect_leaves : (durable : Bool) (e : Effect) → effect_writes_outside g p e ≡ false → Stays (after_effect durable g p e)
  unfolding ended settled
  effect_leaves durable (steps r stored) elsewhere = refl
  effect_leaves durable calls elsewhere = after_leaves (reply_in durable g p number) (served_or_refused durable g p (Leaves Stays) number (call_leaves durable number elsewhere) tt)
    where
      number : ℕ
      number = call_number (regs_of p)
  effect_leaves durable (traps status) elsewhere = refl

pub output_left_by_calls : (durable : Bool) (g : Group) (p : Proc) (number : ℕ) → call_writes_outside g p number ≡ false → (after_reply g p (call_in durable g p number)).frame.out ≡ g.frame.out
output_left_by_calls durable g p number elsewhere = after_leaves g p (call_in durable g p number) (call_leaves g p durable number elsewhere)

pub output_left_by_steps : (durable : Bool) (g : Group) (pid : ℕ) → step_writes_outside g pid ≡ false → (group_step durable g pid).frame.out ≡ g.frame.out
unfolding group_step step_writes_outside
output_left_by_steps durable g pid elsewhere = by_runner (runner g pid) elsewhere
  where
    result : Option Proc → Group
    result o = elim o [ None ↦ g | Some p ↦ after_effect durable g p (effect_in g p) ]

    by_runner : (o : Option Proc) → (elim o [ None ↦ false | Some p ↦ effect_writes_outside g p (effect_in g p) ]) ≡ false → (result o).frame.out ≡ g.frame.out
    by_runner None e = refl
    by_runner (Some p) e = effect_leaves g p durable (effect_in g p) e

-- What a write to the outside appends.
module _ (g : Group) (p : Proc) where
  abbrev taken : Option (List ℕ) → List ℕ
  taken x = elim x [ None ↦ [] | Some bytes ↦ bytes ]

  abbrev Appends : List ℕ → Reply Group → Type 0
  Appends bytes r = (after_reply g p r).frame.out ≡ with_output g.frame.out bytes

  nothing : (bytes : List ℕ) → bytes ≡ [] → g.frame.out ≡ with_output g.frame.out bytes
  nothing bytes none = sym (ap (λ (bs : List ℕ). record g.frame.out { bytes = bs }) (ap (λ (bs : List ℕ). g.frame.out.bytes ++ bs) none ∙ append-nil g.frame.out.bytes))

  none_read : (buf n : ℕ) → n ≡ 0 → taken (readable (sight g p) buf n) ≡ []
  unfolding bytes_with
  none_read buf n none = let P : ℕ → Type 0 = λ k. taken (bytes_with 1 (sight g p) buf k) ≡ [] in subst P (sym none) refl

  put_appends : (x : Option (List ℕ)) → Appends (taken x) (put_outside g x)
  put_appends None = nothing [] refl
  put_appends (Some bytes) = refl

  outside_appends : (buf n : ℕ) → Appends (taken (readable (sight g p) buf (min n (room g.frame.out)))) (write_outside g (sight g p) buf n)
  outside_appends buf n = by_count (n == 0) refl
    where
      read : Option (List ℕ)
      read = readable (sight g p) buf (min n (room g.frame.out))

      by_room : (b : Bool) → (room g.frame.out == 0) ≡ b → Appends (taken read) (if b then waits else put_outside g read)
      by_room true e = let full = eqb-true (room g.frame.out) 0 e in nothing (taken read) (none_read buf (min n (room g.frame.out)) (omega (arith, full)))
      by_room false e = put_appends read

      by_count : (b : Bool) → (n == 0) ≡ b → Appends (taken read) (if b then answers 0 g [] else if room g.frame.out == 0 then waits else put_outside g read)
      by_count true e = let none = eqb-true n 0 e in nothing (taken read) (none_read buf (min n (room g.frame.out)) (omega (arith, none)))
      by_count false e = by_room (room g.frame.out == 0) refl

  kind_appends : (o : Open) (kind : OpenKind) → is_outside_kind kind ≡ true → Appends (bytes_for_outside g p) (write_kind g (sight g p) o (a1 (regs_of p)) (a2 (regs_of p)) kind)
  unfolding bytes_for_outside
  kind_appends o kinds.Outside is = outside_appends (a1 (regs_of p)) (a2 (regs_of p))
  kind_appends o kinds.Nothing is = absurd (false≢true is)
  kind_appends o (kinds.File object) is = absurd (false≢true is)
  kind_appends o (kinds.PipeRead pipe) is = absurd (false≢true is)
  kind_appends o (kinds.PipeWrite pipe) is = absurd (false≢true is)
  kind_appends o (kinds.PairEnd pair end) is = absurd (false≢true is)

  open_appends : (x : Option Open) → is_open_outside x ≡ true → Appends (bytes_for_outside g p) (write_open g (sight g p) (regs_of p) x)
  open_appends None is = absurd (false≢true is)
  open_appends (Some o) is = kind_appends o o.kind is

  -- a reply to write, by whatever number
  write_appends : (reply : ℕ → Reply Group) → reply 64 ≡ write g p (sight g p) (regs_of p) → (number : ℕ) → call_writes_outside g p number ≡ true → Appends (bytes_for_outside g p) (reply number)
  unfolding call_writes_outside
  write_appends reply its number is =
      let both = and_parts (number == 64) (is_open_outside (open_at p.fds g.frame.opens (fd_of (regs_of p)))) is in
      subst (λ n. Appends (bytes_for_outside g p) (reply n)) (sym (eqb-true number 64 both.0)) (subst (Appends (bytes_for_outside g p)) (sym its) (open_appends (open_at p.fds g.frame.opens (fd_of (regs_of p))) both.1))

  effect_appends : (durable : Bool) (e : Effect) → effect_writes_outside g p e ≡ true → (after_effect durable g p e).frame.out ≡ with_output g.frame.out (bytes_for_outside g p)
  unfolding reply_in served call_in
  effect_appends durable (steps r stored) is = absurd (false≢true is)
  effect_appends durable calls is = write_appends (reply_in durable g p) refl (call_number (regs_of p)) is
  effect_appends durable (traps status) is = absurd (false≢true is)

pub written_by_calls : (durable : Bool) (g : Group) (p : Proc) (number : ℕ) → call_writes_outside g p number ≡ true → (after_reply g p (call_in durable g p number)).frame.out ≡ with_output g.frame.out (bytes_for_outside g p)
unfolding call_in
written_by_calls durable g p number is = write_appends g p (call_in durable g p) refl number is

pub written_by_steps : (durable : Bool) (g : Group) (pid : ℕ) (p : Proc) → runner g pid ≡ Some p → step_writes_outside g pid ≡ true → (group_step durable g pid).frame.out ≡ with_output g.frame.out (bytes_for_outside g p)
unfolding group_step step_writes_outside
written_by_steps durable g pid p found is =
    let Writes : Option Proc → Type 0 = λ o. (elim o [ None ↦ false | Some q ↦ effect_writes_outside g q (effect_in g q) ]) ≡ true in
    let Appended : Option Proc → Type 0 = λ o. (elim o as (λ z. Group) [ None ↦ g | Some q ↦ after_effect durable g q (effect_in g q) ]).frame.out ≡ with_output g.frame.out (bytes_for_outside g p) in
    subst Appended (sym found) (effect_appends g p durable (effect_in g p) (subst Writes found is))
