-- The smallest runs, by computation.
use Rattle.std.proofs.Common.{◌≡◌, ℕ, ◌<◌, List, [], ◌∷◌, refl, arith, inl, inr}
use Rattle.std.specs.Prelude.{IsTrue, map, slice_index}
use Rattle.std.specs.List.{list_any}
use Rattle.rv64_isa.specs.Memory.{bytes_with}
use Rattle.rv64_isa.specs.Numbers.{number_of}
use Rattle.rv64_isa.specs.Instruction.{act_of}
use Rattle.rv64_isa.specs.Reading.{op_imm_by, imm_by, system_by, imm_i, imm_u, instr_by}
use Rattle.tables.specs.Lists.{on_first}
use Rattle.group_defs.specs.Held.{is_end_held, is_held, is_kept, settled}
use Rattle.group_defs.specs.Group.{is_running, runner}
use Rattle.group_defs.specs.Cells.{cells_of, with_writes}
use Rattle.group_defs.specs.Family.{ended}
use Rattle.group_defs.specs.Objects.{is_of_file, maps_object}
use Rattle.group_defs.specs.Standing.{is_durable, state_at, stepped}
use Rattle.group_defs.specs.Step.{call_in, do_step, group_step, group_waits, is_local, is_waiting, reply_in, served}
use Rattle.group_defs.specs.declared.frame.Proc.{Proc}
use Rattle.run_defs.specs.Ends.{IsDone, HasEnded}
use Rattle.run_defs.specs.Legal.{BarrierAllowed, Legal, ready}
use Rattle.run_defs.specs.Progress.{EachMark, Progress, progress_after, progress_at}
use Rattle.run_laws.specs.Smallest.{default_limits, exits_at_once, exit_trace, says_hi, hi_trace, asks_in_vain, family, family_left, two_processes, two_workers, two_workers_trace}
use Rattle.run_defs.specs.Solo.{IsSoloTrace}
use Rattle.run_defs.specs.Turns.{steps_of, AllLocal}
use Rattle.run_defs.specs.declared.run.Limits.{Limits}
use Rattle.run_defs.specs.declared.run.Mark.TheVariants.{Take, Turn}

-- No Barrier without a Turn or before its time, and no end while a process is ready.
no_turn : (limits : Limits) (r : Progress) → r.turns_since ≡ 0 → (epoch : ℕ) → BarrierAllowed limits r epoch → ⊥
no_turn limits r none epoch b = omega (arith, none, b.cause.turn)

not_due : (limits : Limits) (r : Progress) → r.turns_since < limits.every → r.turns < limits.turns → (ready r.state ≡ [] → ⊥) → (epoch : ℕ) → BarrierAllowed limits r epoch → ⊥
not_due limits r few less some epoch b = elim b.cause.cause [ inl e ↦ omega (arith, few, e) | inr (inl e) ↦ omega (arith, less, e) | inr (inr e) ↦ some e ]

goes_on : (limits : Limits) (r : Progress) → IsTrue (list_any is_running r.state.group.frame.procs) → (ready r.state ≡ [] → ⊥) → r.turns < limits.turns → HasEnded limits r → ⊥
goes_on limits r runs some few (settled, inl done) = cc
goes_on limits r runs some few (settled, inr (inl stuck)) = some stuck.all_wait
goes_on limits r runs some few (settled, inr (inr spent)) = omega (arith, few, spent.turns)

turns_stand : (limits : Limits) (r : Progress) → 0 < r.turns_since → HasEnded limits r → ⊥
turns_stand limits r some (settled, end) = omega (arith, some, settled.no_turn)

pub exit_solo : (rest stack : List ℕ) → IsSoloTrace (exits_at_once rest stack) 0 default_limits exit_trace
unfolding EachMark ready is_local group_waits AllLocal runner cells_of bytes_with number_of act_of imm_by imm_i imm_u op_imm_by instr_by on_first with_writes group_step do_step is_waiting is_durable stepped steps_of reply_in served call_in ended settled system_by is_of_file maps_object is_held is_kept is_end_held
exit_solo rest stack =
    let r = progress_at 0 (exits_at_once rest stack) in
    record {
      so_far = (
        (
          record { worker_is = omega arith; idle = refl; next = refl; interval = omega arith; turns = omega arith },
          record { worker_is = refl; rests = record { no_lease = refl; acked = refl }; no_barrier = no_turn default_limits r refl; goes_on = goes_on default_limits r refl (λ e. absurd (cc)) (omega arith) },
        ),
        (
          (record { leased = refl; turn = record { within = omega arith; all_local = ((tt, refl), refl); no_more = λ _. refl }; moves = refl }, tt),
          (
            (record { rises = refl; rests = record { no_lease = refl; acked = refl }; cause = record { turn = omega arith; cause = inr (inr refl) } }, tt),
            ((record { made = omega arith; first = omega arith }, tt), ((record { fetched = omega arith; first = omega arith }, tt), tt)),
          ),
        ),
      );
      ended = (record { rests = record { no_lease = refl; acked = refl }; no_turn = refl }, inl refl);
    }

pub exit_done : (rest stack : List ℕ) → IsDone (progress_after 1000 (progress_at 0 (exits_at_once rest stack)) exit_trace).state.group
unfolding EachMark ready is_local group_waits AllLocal runner cells_of bytes_with number_of act_of imm_by imm_i imm_u op_imm_by instr_by on_first with_writes group_step do_step is_waiting is_durable stepped steps_of reply_in served call_in ended settled system_by is_of_file maps_object is_held is_kept is_end_held
exit_done rest stack = refl

pub exit_output : (rest stack : List ℕ) → (progress_after 1000 (progress_at 0 (exits_at_once rest stack)) exit_trace).output ≡ []
unfolding EachMark ready is_local group_waits AllLocal runner cells_of bytes_with number_of act_of imm_by imm_i imm_u op_imm_by instr_by on_first with_writes group_step do_step is_waiting is_durable stepped steps_of reply_in served call_in ended settled system_by is_of_file maps_object is_held is_kept is_end_held
exit_output rest stack = refl

pub hi_solo : (rest stack : List ℕ) → IsSoloTrace (says_hi rest stack) 0 default_limits hi_trace
unfolding EachMark ready is_local group_waits AllLocal runner cells_of bytes_with number_of act_of imm_by imm_i imm_u op_imm_by instr_by on_first with_writes group_step do_step is_waiting is_durable stepped steps_of reply_in served call_in ended settled system_by is_of_file maps_object is_held is_kept is_end_held
hi_solo rest stack =
    let r = progress_at 0 (says_hi rest stack) in
    let r2 = progress_after 1000 r (Take 0 1 ∷ Turn 0 1 5 ∷ []) in
    record {
      so_far = (
        (
          record { worker_is = omega arith; idle = refl; next = refl; interval = omega arith; turns = omega arith },
          record { worker_is = refl; rests = record { no_lease = refl; acked = refl }; no_barrier = no_turn default_limits r refl; goes_on = goes_on default_limits r refl (λ e. absurd (cc)) (omega arith) },
        ),
        (
          (record { leased = refl; turn = record { within = omega arith; all_local = (((((tt, refl), refl), refl), refl), refl); no_more = λ _. refl }; moves = refl }, tt),
          (
            (
              record { worker_is = omega arith; idle = refl; next = refl; interval = omega arith; turns = omega arith },
              record { worker_is = refl; rests = record { no_lease = refl; acked = refl }; no_barrier = not_due default_limits r2 (omega arith) (omega arith) (λ e. absurd (cc)); goes_on = turns_stand default_limits r2 (omega arith) },
            ),
            (
              (record { leased = refl; turn = record { within = omega arith; all_local = ((tt, refl), refl); no_more = λ _. refl }; moves = refl }, tt),
              (
                (record { rises = refl; rests = record { no_lease = refl; acked = refl }; cause = record { turn = omega arith; cause = inr (inr refl) } }, tt),
                ((record { made = omega arith; first = omega arith }, tt), ((record { fetched = omega arith; first = omega arith }, tt), tt)),
              ),
            ),
          ),
        ),
      );
      ended = (record { rests = record { no_lease = refl; acked = refl }; no_turn = refl }, inl refl);
    }

pub hi_done : (rest stack : List ℕ) → IsDone (progress_after 1000 (progress_at 0 (says_hi rest stack)) hi_trace).state.group
unfolding EachMark ready is_local group_waits AllLocal runner cells_of bytes_with number_of act_of imm_by imm_i imm_u op_imm_by instr_by on_first with_writes group_step do_step is_waiting is_durable stepped steps_of reply_in served call_in ended settled system_by is_of_file maps_object is_held is_kept is_end_held
hi_done rest stack = refl

pub hi_output : (rest stack : List ℕ) → (progress_after 1000 (progress_at 0 (says_hi rest stack)) hi_trace).output ≡ 0x68 ∷ 0x69 ∷ 0x0a ∷ []
unfolding EachMark ready is_local group_waits AllLocal runner cells_of bytes_with number_of act_of imm_by imm_i imm_u op_imm_by instr_by on_first with_writes group_step do_step is_waiting is_durable stepped steps_of reply_in served call_in ended settled system_by is_of_file maps_object is_held is_kept is_end_held
hi_output rest stack = refl

pub refused_at : (rest stack : List ℕ) → map (λ (p : Proc). slice_index p.regs 9) (steps_of (state_at 0 (asks_in_vain rest stack)) 1 3).group.frame.procs ≡ 18446744073709551607 ∷ []
unfolding runner cells_of bytes_with number_of act_of imm_by imm_i imm_u op_imm_by instr_by on_first with_writes group_step do_step is_waiting group_waits is_durable stepped steps_of reply_in served call_in ended settled system_by is_of_file maps_object is_held is_kept is_end_held
refused_at rest stack = refl

pub unreadable_at : (rest stack : List ℕ) → map (λ (p : Proc). slice_index p.regs 9) (steps_of (state_at 0 (asks_in_vain rest stack)) 1 7).group.frame.procs ≡ 18446744073709551602 ∷ []
unfolding runner cells_of bytes_with number_of act_of imm_by imm_i imm_u op_imm_by instr_by on_first with_writes group_step do_step is_waiting group_waits is_durable stepped steps_of reply_in served call_in ended settled system_by is_of_file maps_object is_held is_kept is_end_held
unreadable_at rest stack = refl

pub unknown_at : (rest stack : List ℕ) → map (λ (p : Proc). slice_index p.regs 9) (steps_of (state_at 0 (asks_in_vain rest stack)) 1 9).group.frame.procs ≡ 18446744073709551578 ∷ []
unfolding runner cells_of bytes_with number_of act_of imm_by imm_i imm_u op_imm_by instr_by on_first with_writes group_step do_step is_waiting group_waits is_durable stepped steps_of reply_in served call_in ended settled system_by is_of_file maps_object is_held is_kept is_end_held
unknown_at rest stack = refl

pub family_ends : (rest parents childs : List ℕ) → (steps_of (state_at 0 (family rest parents childs)) 2 3).group ≡ family_left parents childs
unfolding runner cells_of bytes_with number_of act_of imm_by imm_i imm_u op_imm_by instr_by on_first with_writes group_step do_step is_waiting group_waits is_durable stepped steps_of reply_in served call_in ended settled system_by is_of_file maps_object is_held is_kept is_end_held
family_ends rest parents childs = refl

-- two workers' leases out at once, in a run from epoch 1
pub two_legal : (rest others : List ℕ) → Legal (two_processes rest others) 1 two_workers two_workers_trace
unfolding EachMark ready is_local group_waits AllLocal runner cells_of bytes_with number_of act_of imm_by imm_i imm_u op_imm_by instr_by on_first with_writes group_step do_step is_waiting is_durable stepped steps_of reply_in served call_in ended settled system_by is_of_file maps_object is_held is_kept is_end_held
two_legal rest others = (
  record { worker_is = omega arith; idle = refl; next = refl; interval = omega arith; turns = omega arith },
  (
    record { worker_is = omega arith; idle = refl; next = refl; interval = omega arith; turns = omega arith },
    (
      record { leased = refl; turn = record { within = omega arith; all_local = tt; no_more = λ _. refl }; moves = refl },
      (
        record { leased = refl; turn = record { within = omega arith; all_local = tt; no_more = λ _. refl }; moves = refl },
        (
          record { rises = refl; rests = record { no_lease = refl; acked = refl }; cause = record { turn = omega arith; cause = inl refl } },
          (
            record { made = omega arith; first = omega arith },
            (
              record { fetched = omega arith; first = omega arith },
              (
                record { worker_is = omega arith; idle = refl; next = refl; interval = omega arith; turns = omega arith },
                (
                  record { worker_is = omega arith; idle = refl; next = refl; interval = omega arith; turns = omega arith },
                  (
                    record { leased = refl; turn = record { within = omega arith; all_local = (tt, refl); no_more = λ _. refl }; moves = refl },
                    (
                      record { leased = refl; turn = record { within = omega arith; all_local = (tt, refl); no_more = λ _. refl }; moves = refl },
                      (
                        record { rises = refl; rests = record { no_lease = refl; acked = refl }; cause = record { turn = omega arith; cause = inl refl } },
                        (
                          record { made = omega arith; first = omega arith },
                          (
                            record { fetched = omega arith; first = omega arith },
                            tt,
                          ),
                        ),
                      ),
                    ),
                  ),
                ),
              ),
            ),
          ),
        ),
      ),
    ),
  ),
)

pub two_done : (rest others : List ℕ) → let r = progress_after 1000 (progress_at 1 (two_processes rest others)) two_workers_trace in IsDone r.state.group
unfolding EachMark ready is_local group_waits AllLocal runner cells_of bytes_with number_of act_of imm_by imm_i imm_u op_imm_by instr_by on_first with_writes group_step do_step is_waiting is_durable stepped steps_of reply_in served call_in ended settled system_by is_of_file maps_object is_held is_kept is_end_held
two_done rest others = refl

pub two_acked : (rest others : List ℕ) → let r = progress_after 1000 (progress_at 1 (two_processes rest others)) two_workers_trace in r.state.standing.acked ≡ 3
unfolding EachMark ready is_local group_waits AllLocal runner cells_of bytes_with number_of act_of imm_by imm_i imm_u op_imm_by instr_by on_first with_writes group_step do_step is_waiting is_durable stepped steps_of reply_in served call_in ended settled system_by is_of_file maps_object is_held is_kept is_end_held
two_acked rest others = refl
