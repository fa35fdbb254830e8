-- A step that isn't local leaves a valid group, with at most as much output as there was room for.
use Rattle.std.proofs.Common.{◌≡◌, ℕ, ◌+◌, ◌-◌, ◌*◌, ◌%◌, ◌^◌, ◌<◌, ◌≤◌, ◌==◌, Bool, true, false, List, [], length, Option, Some, None, refl, sym, ap, subst, ◌∙◌, arith, length-append}
use Rattle.std.specs.Prelude.{if◌then◌else◌, min, IsTrue}
use Rattle.rv64_isa.specs.declared.regs.Regs.{Regs}
use Rattle.rv64_isa.specs.Instruction.{Effect, steps, calls, traps, instruction, is_step}
use Rattle.rv64_isa.specs.Memory.{readable}
use Rattle.rv64_isa.specs.Registers.{a0, a1, a2, answered, call_number}
use Rattle.group_defs.specs.declared.frame.Out.{Out}
use Rattle.group_defs.specs.declared.frame.Proc.{Proc}
use Rattle.address_maps.specs.declared.maps.Mapping.{Mapping}
use Rattle.group_defs.specs.Built.{OnlyBuilt}
use Rattle.group_defs.specs.Calls.{Reply, waits, refuses, answers, ends, fd_of}
use Rattle.group_defs.specs.declared.calls.TheConstants.{EBADF, EFAULT, ENOSYS}
use Rattle.group_defs.specs.Cells.{cells_of}
use Rattle.group_defs.specs.Changes.{open_at, with_out}
use Rattle.group_defs.specs.Group.{Group}
use Rattle.group_defs.specs.Output.{last_position, room, with_output}
use Rattle.group_defs.specs.ReadWrite.{write, write_outside, put_outside}
use Rattle.group_defs.specs.Step.{after_effect, after_reply, group_step, is_local, reply_to}
use Rattle.group_defs.specs.Valid.{GroupIsValid, OutValid}
use Rattle.group_laws.proofs.ServedLaws.{served_reply}
use Rattle.flat_kernel.specs.Descriptors.{is_at_outside}
use Rattle.flat_kernel.specs.Engine.{cells_in, group_in, process_in, running_process, running_group, IsRunnable}
use Rattle.flat_kernel.specs.Memory.{memory_in}
use Rattle.flat_kernel.specs.declared.engine_group.EngineGroup.{EngineGroup}
use Rattle.flat_kernel.specs.declared.engine_group.Fixed.{Fixed}
use Rattle.flat_kernel.proofs.BuiltLaws.{ended_built, running_built}
use Rattle.flat_kernel.proofs.CallLaws.{answered_with, written_by}
use Rattle.flat_kernel.proofs.ReadLaws.{IsCount, read_count}
use Rattle.flat_kernel.proofs.EngineLaws.{out_in, running_in, runnable_in}
use Rattle.flat_kernel.proofs.StepLaws.{goes_on, ends_all, local_in, step_is}
use Rattle.flat_kernel.proofs.ValidLaws.{served_step_valid}

-- ---- the output after a call

-- the marks stay, and it ends within the room
pub record Grew (before after : Out) : Type 0 where
  pub from : after.from ≡ before.from
  pub mark : after.mark ≡ before.mark
  pub most : last_position after ≤ before.mark + 1048576

grew_none : (out : Out) → OutValid out → Grew out out
unfolding OutValid
grew_none out valid = record { from = refl; mark = refl; most = valid.4 }

-- as many bytes behind it as there is room for
grew_by : (out : Out) (n : ℕ) (new : List ℕ) → OutValid out → n ≤ room out → length new ≡ n → Grew out (with_output out new)
unfolding OutValid
grew_by out n new valid fits count =
    let last : last_position (with_output out new) ≡ last_position out + n = omega (arith, count, length-append out.bytes new) in
    record { from = refl; mark = refl; most = omega (arith, last, fits, valid.1, valid.4) }

-- ---- the group after a step

-- a group of what is built, whose output grew
record Goes (before : Out) (h : Group) : Type 0 where
  built : OnlyBuilt h.frame
  grew : Grew before h.frame.out

-- a valid one
pub record Follows (before : Out) (h : Group) : Type 0 where
  pub runnable : IsRunnable h
  pub grew : Grew before h.frame.out

module _ (fixed : Fixed) (maps : List Mapping) (r : Regs) (memory : List (ℕ × List ℕ)) (out : Out) (runs : IsRunnable (running_group fixed maps r memory out)) where
  abbrev g : Group
  g = running_group fixed maps r memory out

  abbrev p : Proc
  p = running_process fixed maps r

  output_valid : OutValid out
  output_valid = runs.valid.sound.frame.out.positions

  -- it goes on after a call
  goes_with : (s : Regs) (after : Out) → Grew out after → Goes out (running_group fixed maps s memory after)
  goes_with s after grew = record { built = running_built fixed maps r s memory memory out after runs.built; grew = grew }

  answer_goes : (after : Out) (value : ℕ) → Grew out after → Goes out (after_reply g p (answers value (with_out g after) []))
  answer_goes after value grew = subst (Goes out) (sym (answered_with fixed maps r memory out after value)) (goes_with (answered r value) after grew)

  refusal_goes : (errno : ℕ) → Goes out (after_reply g p (refuses errno))
  refusal_goes errno = subst (Goes out) (sym (goes_on fixed maps r memory out (answered r (2 ^ 64 - errno)))) (goes_with (answered r (2 ^ 64 - errno)) out (grew_none out output_valid))

  wait_goes : Goes out (after_reply g p waits)
  wait_goes = record { built = runs.built; grew = grew_none out output_valid }

  end_goes : (status : ℕ) → Goes out (after_reply g p (ends status))
  end_goes status = subst (Goes out) (sym (ends_all fixed maps r memory out status)) (record { built = ended_built fixed.next out; grew = grew_none out output_valid })

  -- a write to the outside
  put_goes : (n : ℕ) (o : Option (List ℕ)) → n ≤ room out → IsCount n o → Goes out (after_reply g p (put_outside g o))
  put_goes n None fits count = refusal_goes EFAULT
  put_goes n (Some new) fits count = answer_goes (with_output out new) (length new) (grew_by out n new output_valid fits count)

  outside_by : (n : ℕ) (o : Option (List ℕ)) (t u : Bool) → n ≤ room out → IsCount n o → Goes out (after_reply g p (if t then answers 0 g [] else if u then waits else put_outside g o))
  outside_by n o true u fits count = answer_goes out 0 (grew_none out output_valid)
  outside_by n o false true fits count = wait_goes
  outside_by n o false false fits count = put_goes n o fits count

  outside_goes : (buf n : ℕ) → Goes out (after_reply g p (write_outside g (cells_of memory maps) buf n))
  outside_goes buf n =
      let most = min n (room out) in
      outside_by most (readable (cells_of memory maps) buf most) (n == 0) (room out == 0) (omega arith) (read_count (cells_of memory maps) 1 buf most)

  chosen_goes : (reply : Reply Group) (t : Bool) → Goes out (after_reply g p reply) → Goes out (after_reply g p (if t then reply else refuses EBADF))
  chosen_goes reply true goes = goes
  chosen_goes reply false goes = refusal_goes EBADF

  write_goes : Goes out (after_reply g p (write g p (cells_of memory maps) r))
  write_goes =
      subst (λ (reply : Reply Group). Goes out (after_reply g p reply)) (sym (written_by g (cells_of memory maps) r fixed.fds fixed.opens runs.built.opens))
      (chosen_goes (write_outside g (cells_of memory maps) (a1 r) (a2 r)) (is_at_outside (open_at fixed.fds fixed.opens (fd_of r))) (outside_goes (a1 r) (a2 r)))

  call_goes : Goes out (after_reply g p (reply_to true g p))
  call_goes =
      let exits = end_goes (256 * (a0 r % 256)) in
      served_reply (λ (n : ℕ) (reply : Reply Group). Goes out (after_reply g p reply)) true g p write_goes exits exits (λ n none. refusal_goes ENOSYS) (call_number r)

  effect_goes : (e : Effect) → is_step e ≡ false → Goes out (after_effect true g p e)
  effect_goes (steps s write) other = absurd (cc)
  effect_goes calls other = call_goes
  effect_goes (traps status) other = end_goes status

-- whatever the step is that isn't local
pub other_follows : (g : EngineGroup) (k : Group) → IsTrue g.running → IsRunnable (group_in g) → is_local (group_in g) g.fixed.pid ≡ false → last_position g.out + 1048576 < 2 ^ 63
    → k ≡ group_step true (group_in g) g.fixed.pid → Follows g.out k
other_follows g k runs valid other room_left step =
    let runnable = runnable_in g runs valid in
    let effect_other : is_step (instruction (cells_in g) g.regs) ≡ false = sym (local_in g runs valid) ∙ other in
    let done : k ≡ after_effect true (running_group g.fixed g.memory.maps g.regs (memory_in g.memory.objects.items) g.out) (process_in g) (instruction (cells_in g) g.regs) =
    step ∙ ap (λ (x : Group). group_step true x g.fixed.pid) (running_in g runs) ∙ step_is g.fixed g.memory.maps g.regs (memory_in g.memory.objects.items) g.out in
    let goes = subst (Goes g.out) (sym done) (effect_goes g.fixed g.memory.maps g.regs (memory_in g.memory.objects.items) g.out runnable (instruction (cells_in g) g.regs) effect_other) in
    let low : last_position (group_in g).frame.out ≤ 2 ^ 63 = subst (λ (o : Out). last_position o ≤ 2 ^ 63) (sym (out_in g)) (omega (arith, room_left)) in
    record { runnable = record { valid = subst GroupIsValid (sym step) (served_step_valid (group_in g) g.fixed.pid valid.valid low); built = goes.built }; grew = goes.grew }
