-- How far a step raises the numbers of a group that only rise.
use Rattle.std.proofs.Common.{Bool, List, None, Option, Some, ap, arith, false, length, length-append, refl, true, ℕ, ◌+◌, ◌≡◌, ◌≤◌}
use Rattle.std.proofs.lemmas.Bool.{and_parts, leb-true}
use Rattle.std.specs.Prelude.{if◌then◌else◌, nat_le, sum_by}
use Rattle.address_maps.specs.Cut.{cut}
use Rattle.group_defs.specs.Calls.{Reply, answers, ends, refuses, waits}
use Rattle.group_defs.specs.Cells.{sight}
use Rattle.group_defs.specs.Changes.{with_break, with_fds, with_maps, with_offset, with_opens, with_out, with_pairs, with_pipes}
use Rattle.group_defs.specs.Family.{ended, without_proc}
use Rattle.group_defs.specs.FileCalls.{write_place}
use Rattle.group_defs.specs.Fork.{can_copy, copies_from, forked, to_copy}
use Rattle.group_defs.specs.Group.{Group, regs_of, runner}
use Rattle.group_defs.specs.Held.{settled}
use Rattle.group_defs.specs.MapCalls.{mapped, new_mapping}
use Rattle.group_defs.specs.Objects.{memory_objects}
use Rattle.group_defs.specs.Output.{last_position, room, with_output}
use Rattle.group_defs.specs.ReadWrite.{write}
use Rattle.group_defs.specs.Standing.{State, is_durable}
use Rattle.group_defs.specs.Step.{after_effect, after_reply, call_in, do_step, effect_in, group_step, reply_in, stands_still, step_to}
use Rattle.group_defs.specs.Valid.{GroupIsValid, OutValid}
use Rattle.group_defs.specs.declared.frame.Next.{Next}
use Rattle.group_defs.specs.declared.frame.Proc.{Proc}
use Rattle.group_laws.proofs.ForkLists.{copies_length}
use Rattle.group_laws.proofs.Replies.{Leaves, Opened, Plain, call_holds, clone_leaves, openat_leaves, served_or_refused, with_put, write_reply}
use Rattle.group_laws.specs.Fresh.{Rises}
use Rattle.rv64_isa.specs.Instruction.{Effect, calls, steps, traps}
use Rattle.rv64_isa.specs.Registers.{call_number}

pub settled_rises : (g h : Group) → Rises g h → Rises g (settled h)
unfolding settled
settled_rises g h r = record { object = r.object; descr = r.descr; pipe = r.pipe; pair = r.pair; position = r.position }

module _ (g : Group) where
  same : (h : Group) → h.frame.next ≡ g.frame.next → h.frame.out ≡ g.frame.out → Rises g h
  same h next out =
      let a = ap (λ (x : Next). x.object) next in let b = ap (λ (x : Next). x.descr) next in let c = ap (λ (x : Next). x.pipe) next in let d = ap (λ (x : Next). x.pair) next in let e = ap last_position out in
      record { object = omega (arith, a); descr = omega (arith, b); pipe = omega (arith, c); pair = omega (arith, d); position = omega (arith, e) }

  settled_same : (h : Group) → h.frame.next ≡ g.frame.next → h.frame.out ≡ g.frame.out → Rises g (settled h)
  settled_same h next out = settled_rises g h (same h next out)

  -- up to so many
  more : (h : Group) → h.frame.next.object ≤ g.frame.next.object + 4096 → h.frame.next.descr ≤ g.frame.next.descr + 2 → h.frame.next.pipe ≤ g.frame.next.pipe + 1 → h.frame.next.pair ≤ g.frame.next.pair + 1 → h.frame.out ≡ g.frame.out → Rises g h
  more h a b c d out = let e = ap last_position out in record { object = a; descr = b; pipe = c; pair = d; position = omega (arith, e) }

  module _ (p : Proc) where
    plain_rises : Plain g p (Rises g)
    plain_rises = record {
      same = same g refl refl;
      fds = λ fds. same (with_fds g p fds) refl refl;
      closed = λ fds. settled_same (with_fds g p fds) refl refl;
      offsets = λ number offset. same (with_opens g (with_offset g.frame.opens number offset)) refl refl;
      pipes = λ pipes. same (with_pipes g pipes) refl refl;
      pairs = λ pairs. same (with_pairs g pairs) refl refl;
      dropped = λ pairs. settled_same (with_pairs g pairs) refl refl;
      received = λ pairs fds. same (with_fds (with_pairs g pairs) p fds) refl refl;
      new_pipe = λ fds. more _ (omega arith) (omega arith) (omega arith) (omega arith) refl;
      new_pair = λ fds. more _ (omega arith) (omega arith) (omega arith) (omega arith) refl;
      break = λ brk. same (with_break g p brk) refl refl;
      grown = λ start pages brk. more _ (omega arith) (omega arith) (omega arith) (omega arith) refl;
      shrunk = λ start pages brk. settled_same (with_break (with_maps g p (cut p.maps start pages)) p brk) refl refl;
      unmapped = λ start pages. settled_same (with_maps g p (cut p.maps start pages)) refl refl;
      one_more = λ start pages prot shared. more _ (omega arith) (omega arith) (omega arith) (omega arith) refl;
      instead = λ start pages prot shared. settled_rises g (mapped g p (cut p.maps start pages) (new_mapping g start pages prot shared)) (more _ (omega arith) (omega arith) (omega arith) (omega arith) refl);
      reaped = λ wanted q e. same (without_proc g q.pid) refl refl;
    }

    opened_rises : Opened g p (Rises g)
    opened_rises = record {
      old = λ f flags fds is. more _ (omega arith) (omega arith) (omega arith) (omega arith) refl;
      cleared = λ f flags fds is. more _ (omega arith) (omega arith) (omega arith) (omega arith) refl;
      made = λ name flags fds. more _ (omega arith) (omega arith) (omega arith) (omega arith) refl;
    }

    forked_rises : can_copy g.frame (to_copy g.frame p) ≡ true → Rises g (forked g p (copies_from g.frame.next.object (to_copy g.frame p)))
    unfolding forked
    forked_rises can =
        let both = and_parts (nat_le (length (memory_objects g.frame) + length (to_copy g.frame p)) 4096) (nat_le (sum_by (λ o. o.pages) (memory_objects g.frame) + sum_by (λ o. o.pages) (to_copy g.frame p)) 65536) can in
        let few = leb-true (length (memory_objects g.frame) + length (to_copy g.frame p)) 4096 both.0 in
        let size = copies_length g.frame.next.object (to_copy g.frame p) in
        more _ (omega (arith, few, size)) (omega arith) (omega arith) (omega arith) refl

    -- what goes to the outside is at most the room there
    out_rises : GroupIsValid g → (bytes : List ℕ) → length bytes ≤ room g.frame.out → Rises g (with_out g (with_output g.frame.out bytes))
    unfolding OutValid
    out_rises v bytes few =
        let mark = v.sound.frame.out.positions.1 in
        let size = length-append g.frame.out.bytes bytes in
        record { object = omega arith; descr = omega arith; pipe = omega arith; pair = omega arith; position = omega (arith, few, mark, size) }

    call_leaves : (durable : Bool) → GroupIsValid g → (number : ℕ) → Leaves (Rises g) (call_in durable g p number)
    call_leaves durable v =
        call_holds durable g p (Rises g) plain_rises (λ n r. Leaves (Rises g) r) (λ n r leaves. leaves) (openat_leaves g p (Rises g) opened_rises (sight g p) (regs_of p))
        (write_reply (Leaves (Rises g)) g (sight g p) tt (λ errno. tt) (same g refl refl) (out_rises v) (λ value pipes. same (with_pipes g pipes) refl refl) (λ value pairs. same (with_pairs g pairs) refl refl) p (regs_of p) (λ o at object is bytes within. same (with_put g o object (write_place g o object) bytes) refl refl))
        (clone_leaves g p (Rises g) forked_rises (regs_of p))

  ended_rises : (p : Proc) (status : ℕ) → Rises g (ended g p status)
  unfolding ended
  ended_rises p status = settled_same _ refl refl

  after_reply_rises : (p : Proc) (r : Reply Group) → Leaves (Rises g) r → Rises g (after_reply g p r)
  after_reply_rises p waits rises = same _ refl refl
  after_reply_rises p (refuses errno) rises = same _ refl refl
  after_reply_rises p (answers value h writes) rises = record { object = rises.object; descr = rises.descr; pipe = rises.pipe; pair = rises.pair; position = rises.position }
  after_reply_rises p (ends status) rises = ended_rises p status

  effect_rises : (durable : Bool) (p : Proc) (x : Effect) → GroupIsValid g → Rises g (after_effect durable g p x)
  effect_rises durable p (steps r write) v = same _ refl refl
  effect_rises durable p calls v = after_reply_rises p (reply_in durable g p number) (served_or_refused durable g p (Leaves (Rises g)) number (call_leaves p durable v number) tt)
    where
      number : ℕ
      number = call_number (regs_of p)
  effect_rises durable p (traps status) v = ended_rises p status

  pub call_rises : (durable : Bool) (p : Proc) (number : ℕ) → GroupIsValid g → Rises g (after_reply g p (call_in durable g p number))
  call_rises durable p number v = after_reply_rises p (call_in durable g p number) (call_leaves p durable v number)

  pub group_step_rises : (durable : Bool) (pid : ℕ) → GroupIsValid g → Rises g (group_step durable g pid)
  unfolding group_step
  group_step_rises durable pid v = by_runner (runner g pid)
    where
      by_runner : (o : Option Proc) → Rises g (elim o [ None ↦ g | Some p ↦ after_effect durable g p (effect_in g p) ])
      by_runner None = same _ refl refl
      by_runner (Some p) = effect_rises durable p (effect_in g p) v

pub step_rises : (s : State) (pid : ℕ) → GroupIsValid s.group → Rises s.group (do_step s pid).group
unfolding do_step
step_rises s pid v = by_wait (stands_still s pid)
  where
    by_wait : (b : Bool) → Rises s.group (if b then s else step_to s pid (group_step (is_durable s.standing pid) s.group pid)).group
    by_wait true = same s.group s.group refl refl
    by_wait false = group_step_rises s.group (is_durable s.standing pid) pid v
