-- No step makes files, pipes, pairs, or descriptions of these.
use Rattle.std.proofs.Common.{◌≡◌, ◌≢◌, ◌⊎◌, inl, inr, ℕ, ◌==◌, Bool, true, false, List, [], ◌∷◌, map, Option, Some, None, refl, sym, ap, ◌∙◌, arith, subst}
use Rattle.std.proofs.lemmas.List.Elements.{All-filter}
use Rattle.std.specs.Prelude.{All, if◌then◌else◌, length, min}
use Rattle.std.specs.List.{filter, filter_map}
use Rattle.rv64_isa.specs.Instruction.{Effect, steps, calls, traps, list_of}
use Rattle.rv64_isa.specs.Memory.{Cells, readable}
use Rattle.rv64_isa.specs.Registers.{a0, a1, a2, call_number}
use Rattle.rv64_isa.specs.declared.regs.Regs.{Regs}
use Rattle.descriptors.specs.declared.opens.Open.{Open}
use Rattle.pipes_socks.specs.declared.streams.Pair.{Pair}
use Rattle.pipes_socks.specs.declared.streams.Pipe.{Pipe}
use Rattle.group_defs.specs.Built.{IsPlain}
use Rattle.group_defs.specs.Calls.{Reply, waits, refuses, answers, ends, fd_of}
use Rattle.group_defs.specs.declared.calls.TheConstants.{EBADF}
use Rattle.group_defs.specs.Cells.{sight}
use Rattle.group_defs.specs.Changes.{open_at, with_procs}
use Rattle.group_defs.specs.Family.{after_end, ended}
use Rattle.group_defs.specs.Group.{Group, regs_of, runner}
use Rattle.group_defs.specs.Held.{held_opens, held_pairs, held_pipes, is_held, settled}
use Rattle.group_defs.specs.Output.{room}
use Rattle.group_defs.specs.ReadWrite.{put_outside, write_outside}
use Rattle.group_defs.specs.Step.{after_effect, after_reply, effect_in, group_step, reply_to}
use Rattle.group_defs.specs.declared.frame.Proc.{Proc}
use Rattle.group_kernel.specs.Calls.{HasOnlyServedTables}
use Rattle.syscalls_io.specs.Outside.{is_at_outside}
use Rattle.group_kernel.proofs.ServedReplies.{reply_exit, reply_none, reply_write}

abbrev KeptBy : Reply Group → Type 0
KeptBy waits = Unit {0}
KeptBy (refuses errno) = Unit {0}
KeptBy (answers value h writes) = HasOnlyServedTables h.frame
KeptBy (ends status) = Unit {0}

after_step : Bool → Group → Option Proc → Group
after_step durable g None = g
after_step durable g (Some p) = after_effect durable g p (effect_in g p)

step_is : (durable : Bool) (g : Group) (pid : ℕ) → group_step durable g pid ≡ after_step durable g (runner g pid)
unfolding group_step after_step
step_is durable g pid = by_found (runner g pid)
  where
    by_found : (o : Option Proc) → elim o [ None ↦ g | Some p ↦ after_effect durable g p (effect_in g p) ] ≡ after_step durable g o
    by_found None = refl
    by_found (Some p) = refl

module _ (g : Group) (served : HasOnlyServedTables g.frame) where
  ended_kept : (p : Proc) (status : ℕ) → HasOnlyServedTables (ended g p status).frame
  unfolding ended settled
  ended_kept p status =
      let procs : List Proc = filter_map (after_end p status) g.frame.procs in
      let pairs : List Pair = held_pairs procs g.frame.opens g.frame.pairs in
      record {
        files = served.files;
        pipes = ap (held_pipes (held_opens procs pairs g.frame.opens)) served.pipes;
        pairs = ap (held_pairs procs g.frame.opens) served.pairs;
        opens = All-filter (λ (o : Open). is_held procs pairs o.number) (λ o. IsPlain o.kind) g.frame.opens served.opens;
      }

  reply_kept : (p : Proc) (r : Reply Group) → KeptBy r → HasOnlyServedTables (after_reply g p r).frame
  reply_kept p waits kept = served
  reply_kept p (refuses errno) kept = record { files = served.files; pipes = served.pipes; pairs = served.pairs; opens = served.opens }
  reply_kept p (answers value h writes) kept = record { files = kept.files; pipes = kept.pipes; pairs = kept.pairs; opens = kept.opens }
  reply_kept p (ends status) kept = ended_kept p status

  put_kept : (o : Option (List ℕ)) → KeptBy (put_outside g o)
  put_kept None = tt
  put_kept (Some bytes) = record { files = served.files; pipes = served.pipes; pairs = served.pairs; opens = served.opens }

  write_by : (o : Option (List ℕ)) (t u : Bool) → KeptBy (if t then answers 0 g [] else if u then waits else put_outside g o)
  write_by o true u = served
  write_by o false true = tt
  write_by o false false = put_kept o

  write_kept : (cells : Cells) (buf n : ℕ) → KeptBy (write_outside g cells buf n)
  write_kept cells buf n = write_by _ _ _

  call_kept : (durable : Bool) (p : Proc) (t u v w : Bool) → (call_number (regs_of p) == 64) ≡ t → (call_number (regs_of p) == 93) ≡ u → (call_number (regs_of p) == 94) ≡ v → is_at_outside (open_at p.fds g.frame.opens (fd_of (regs_of p))) ≡ w → KeptBy (reply_to durable g p)
  call_kept durable p true u v true e f i at = let number : call_number (regs_of p) ≡ 64 = grind (arith, e) in subst KeptBy (sym (reply_write durable g p true served.opens number at)) (write_kept (sight g p) (a1 (regs_of p)) (a2 (regs_of p)))
  call_kept durable p true u v false e f i at = let number : call_number (regs_of p) ≡ 64 = grind (arith, e) in subst KeptBy (sym (reply_write durable g p false served.opens number at)) tt
  call_kept durable p false true v w e f i at = let number : call_number (regs_of p) ≡ 93 = grind (arith, f) in subst KeptBy (sym (reply_exit durable g p (inl number))) tt
  call_kept durable p false false true w e f i at = let number : call_number (regs_of p) ≡ 94 = grind (arith, i) in subst KeptBy (sym (reply_exit durable g p (inr number))) tt
  call_kept durable p false false false w e f i at =
      let a : call_number (regs_of p) ≢ 64 = grind (arith, e) in
      let b : call_number (regs_of p) ≢ 93 = grind (arith, f) in
      let c : call_number (regs_of p) ≢ 94 = grind (arith, i) in
      subst KeptBy (sym (reply_none durable g p a b c)) tt

  effect_kept : (durable : Bool) (p : Proc) (e : Effect) → HasOnlyServedTables (after_effect durable g p e).frame
  effect_kept durable p (steps r stored) = record { files = served.files; pipes = served.pipes; pairs = served.pairs; opens = served.opens }
  effect_kept durable p calls = reply_kept p (reply_to durable g p) (call_kept durable p _ _ _ _ refl refl refl refl)
  effect_kept durable p (traps status) = ended_kept p status

  step_by : (durable : Bool) (o : Option Proc) → HasOnlyServedTables (after_step durable g o).frame
  unfolding after_step
  step_by durable None = served
  step_by durable (Some p) = effect_kept durable p (effect_in g p)

pub step_keeps_served : (durable : Bool) (g : Group) (pid : ℕ) → HasOnlyServedTables g.frame → HasOnlyServedTables (group_step durable g pid).frame
step_keeps_served durable g pid served = subst (λ (h : Group). HasOnlyServedTables h.frame) (sym (step_is durable g pid)) (step_by g served durable (runner g pid))
