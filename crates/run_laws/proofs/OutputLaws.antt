-- A group's output: steps append to it, barriers drop its beginning, and what a group holds is the end of all output.
use Rattle.std.proofs.Common.{◌≡◌, ℕ, zero, suc, ◌+◌, ◌-◌, ◌≤◌, Bool, List, [], ◌∷◌, ◌++◌, length, drop, Option, Some, None, refl, ap, sym, ◌∙◌, subst, arith, append_assoc, append-nil, length-append, length-drop, drop-drop}
use Rattle.std.proofs.lemmas.List.{drop-append-le}
use Rattle.std.proofs.Math.Seq.{drop-append_seam}
use Rattle.rv64_isa.specs.Instruction.{Effect, steps, calls, traps}
use Rattle.rv64_isa.specs.Registers.{call_number}
use Rattle.group_defs.specs.declared.frame.Out.{Out}
use Rattle.group_defs.specs.declared.frame.Proc.{Proc}
use Rattle.run_defs.specs.declared.run.Mark.{Mark}
use Rattle.run_defs.specs.declared.run.Mark.TheVariants.{Take, Turn, Barrier, Fetch, Ack}
use Rattle.group_defs.specs.Calls.{Reply, waits, refuses, answers, ends}
use Rattle.group_defs.specs.Cells.{sight}
use Rattle.group_defs.specs.Family.{ended}
use Rattle.group_defs.specs.Fork.{Copy, forked}
use Rattle.group_defs.specs.Group.{Group, runner, regs_of}
use Rattle.group_defs.specs.Held.{settled}
use Rattle.group_defs.specs.Step.{after_effect, after_reply, effect_in, group_step, reply_in}
use Rattle.group_defs.specs.Standing.{State, is_durable}
use Rattle.group_defs.specs.Output.{last_position, room, with_output, out_after_barrier}
use Rattle.run_defs.specs.Progress.{Progress, after_mark, appended, progress_after, progress_at}
use Rattle.run_laws.proofs.TurnLaws.{step_cases}
use Rattle.run_defs.specs.Turns.{steps_of, turned}
use Rattle.group_laws.proofs.Replies.{Leaves, Plain, clone_leaves, openat_leaves, reply_holds, write_reply}

-- the second is the first with bytes appended
abbrev Grows : Out → Out → Type 0
Grows a b = (more : List ℕ) × (b ≡ with_output a more)

stays : (a : Out) → Grows a a
stays a = ([], ap (λ bs. record a { bytes = bs }) (sym (append-nil a.bytes)))

then_grows : (a b c : Out) → Grows a b → Grows b c → Grows a c
then_grows a b c (more, e) (next, f) = (more ++ next, f ∙ ap (λ o. with_output o next) e ∙ ap (λ bs. record a { bytes = bs }) (append_assoc a.bytes more next))

-- what a reply leaves of the output
module _ (g : Group) (p : Proc) where
  abbrev OutGrows : Group → Type 0
  OutGrows h = Grows g.frame.out h.frame.out

  plain_grows : Plain g p OutGrows
  unfolding settled
  plain_grows =
      let as_was : Grows g.frame.out g.frame.out = stays g.frame.out in
      record {
        same = as_was;
        fds = λ fds. as_was;
        closed = λ fds. as_was;
        offsets = λ number offset. as_was;
        pipes = λ pipes. as_was;
        pairs = λ pairs. as_was;
        dropped = λ pairs. as_was;
        received = λ pairs fds. as_was;
        new_pipe = λ fds. as_was;
        new_pair = λ fds. as_was;
        break = λ brk. as_was;
        grown = λ start pages brk. as_was;
        shrunk = λ start pages brk. as_was;
        unmapped = λ start pages. as_was;
        one_more = λ start pages prot shared. as_was;
        instead = λ start pages prot shared. as_was;
        reaped = λ wanted q e. as_was;
      }

  forked_grows : (copies : List Copy) → OutGrows (forked g p copies)
  unfolding forked
  forked_grows copies = stays g.frame.out

  reply_grows : (durable : Bool) (number : ℕ) → Leaves OutGrows (reply_in durable g p number)
  reply_grows durable =
      let as_was : Grows g.frame.out g.frame.out = stays g.frame.out in
      reply_holds durable g p OutGrows plain_grows (λ n r. Leaves OutGrows r) (λ n r leaves. leaves)
      (openat_leaves g p OutGrows (record { old = λ f flags fds is. as_was; cleared = λ f flags fds is. as_was; made = λ name flags fds. as_was }) (sight g p) (regs_of p))
      (write_reply (Leaves OutGrows) g (sight g p) tt (λ errno. tt) as_was (λ bytes few. (bytes, refl)) (λ value pipes. as_was) (λ value pairs. as_was) p (regs_of p) (λ o at object is bytes within. as_was))
      (clone_leaves g p OutGrows (λ can. forked_grows _) (regs_of p))

  replied_out : (r : Reply Group) → Leaves OutGrows r → Grows g.frame.out (after_reply g p r).frame.out
  unfolding ended settled
  replied_out waits h = stays g.frame.out
  replied_out (refuses errno) h = stays g.frame.out
  replied_out (answers value after writes) h = h
  replied_out (ends status) h = stays g.frame.out

effect_grows : (durable : Bool) (g : Group) (p : Proc) (e : Effect) → Grows g.frame.out (after_effect durable g p e).frame.out
unfolding ended settled
effect_grows durable g p (steps r write) = stays g.frame.out
effect_grows durable g p calls = replied_out g p (reply_in durable g p (call_number (regs_of p))) (reply_grows g p durable (call_number (regs_of p)))
effect_grows durable g p (traps status) = stays g.frame.out

step_grows : (durable : Bool) (g : Group) (pid : ℕ) → Grows g.frame.out (group_step durable g pid).frame.out
unfolding group_step
step_grows durable g pid = found (runner g pid)
  where
    result : Option Proc → Group
    result o = elim o [ None ↦ g | Some p ↦ after_effect durable g p (effect_in g p) ]

    found : (o : Option Proc) → Grows g.frame.out (result o).frame.out
    found None = stays g.frame.out
    found (Some p) = effect_grows durable g p (effect_in g p)

pub steps_grow : (s : State) (pid n : ℕ) → Grows s.group.frame.out (steps_of s pid n).group.frame.out
unfolding steps_of
steps_grow s pid zero = stays s.group.frame.out
steps_grow s pid (suc n) =
    let t = steps_of s pid n in
    step_cases (λ x. Grows s.group.frame.out x.group.frame.out) t pid (steps_grow s pid n) (then_grows _ _ _ (steps_grow s pid n) (step_grows (is_durable t.standing pid) t.group pid))

-- a turn's bytes are those before it and those that it appends
pub turn_appends : (quantum : ℕ) (s : State) (pid n : ℕ) → (turned quantum s pid n).group.frame.out ≡ with_output s.group.frame.out (appended s.group (turned quantum s pid n).group)
turn_appends quantum s pid n =
    let after = (turned quantum s pid n).group.frame.out in let out = s.group.frame.out in
    let grown : Grows out after = steps_grow s pid _ in
    let bytes : drop (length out.bytes) after.bytes ≡ grown.0 = ap (λ (o : Out). drop (length out.bytes) o.bytes) grown.1 ∙ drop-append_seam out.bytes grown.0 in
    grown.1 ∙ ap (with_output out) (sym bytes)

-- The bytes so far, from a first position on, end in what a group holds.
pub record Holds (first : ℕ) (so_far : List ℕ) (o : Out) : Type 0 where
  pub begins : first ≤ o.from
  pub within : o.from - first ≤ length so_far
  pub bytes : drop (o.from - first) so_far ≡ o.bytes
  pub mark_above : o.from ≤ o.mark
  pub mark_below : o.mark ≤ last_position o

held_more : (first : ℕ) (so_far more : List ℕ) (o : Out) → Holds first so_far o → Holds first (so_far ++ more) (with_output o more)
held_more first so_far more o h = record {
  begins = h.begins;
  within = omega (arith, length-append so_far more, h.within);
  bytes = drop-append-le (o.from - first) so_far more h.within ∙ ap (λ bs. bs ++ more) h.bytes;
  mark_above = h.mark_above;
  mark_below = omega (arith, length-append o.bytes more, h.mark_below);
}

held_barrier : (first : ℕ) (so_far : List ℕ) (o : Out) → Holds first so_far o → Holds first so_far (out_after_barrier o)
held_barrier first so_far o h =
    let size : length o.bytes ≡ length so_far - (o.from - first) = ap length (sym h.bytes) ∙ length-drop (o.from - first) so_far in
    let apart : o.mark - first ≡ (o.from - first) + (o.mark - o.from) = omega (arith, h.begins, h.mark_above) in
    record {
      begins = omega (arith, h.begins, h.mark_above);
      within = omega (arith, h.begins, h.mark_above, h.within, h.mark_below, size);
      bytes = ap (λ (n : ℕ). drop n so_far) apart ∙ sym (drop-drop (o.mark - o.from) (o.from - first) so_far) ∙ ap (drop (o.mark - o.from)) h.bytes;
      mark_above = h.mark_below;
      mark_below = omega (arith, length-drop (o.mark - o.from) o.bytes, h.mark_above, h.mark_below);
    }

module _ (first quantum : ℕ) where
  abbrev IsHeld : Progress → Type 0
  IsHeld r = Holds first r.output r.state.group.frame.out

  pub held_mark : (r : Progress) (m : Mark) → IsHeld r → IsHeld (after_mark quantum r m)
  held_mark r (Take worker pid) h = h
  held_mark r (Turn worker pid n) h =
      let more = appended r.state.group (turned quantum r.state pid n).group in
      subst (Holds first (r.output ++ more)) (sym (turn_appends quantum r.state pid n)) (held_more first r.output more r.state.group.frame.out h)
  held_mark r (Barrier epoch) h = held_barrier first r.output r.state.group.frame.out h
  held_mark r (Fetch epoch) h = h
  held_mark r (Ack epoch) h = h

  held_after : (r : Progress) (marks : List Mark) → IsHeld r → IsHeld (progress_after quantum r marks)
  held_after r [] h = h
  held_after r (m ∷ ms) h = held_after (after_mark quantum r m) ms (held_mark r m h)

pub held_at : (origin : ℕ) (g : Group) → g.frame.out.from ≤ g.frame.out.mark → g.frame.out.mark ≤ last_position g.frame.out → Holds g.frame.out.from (progress_at origin g).output g.frame.out
held_at origin g above below = record {
  begins = omega arith;
  within = omega arith;
  bytes = let none : g.frame.out.from - g.frame.out.from ≡ 0 = omega arith in ap (λ (n : ℕ). drop n g.frame.out.bytes) none;
  mark_above = above;
  mark_below = below;
}

pub output_held : (quantum origin : ℕ) (g : Group) (marks : List Mark) → g.frame.out.from ≤ g.frame.out.mark → g.frame.out.mark ≤ last_position g.frame.out
    → let r = progress_after quantum (progress_at origin g) marks in Holds g.frame.out.from r.output r.state.group.frame.out
output_held quantum origin g marks above below = held_after g.frame.out.from quantum (progress_at origin g) marks (held_at origin g above below)

pub held_last : (first : ℕ) (so_far : List ℕ) (o : Out) → Holds first so_far o → last_position o ≡ first + length so_far
held_last first so_far o h =
    let size : length o.bytes ≡ length so_far - (o.from - first) = ap length (sym h.bytes) ∙ length-drop (o.from - first) so_far in
    omega (arith, size, h.begins, h.within)

pub barrier_last : (o : Out) → o.from ≤ o.mark → o.mark ≤ last_position o → last_position (out_after_barrier o) ≡ last_position o
barrier_last o above below = omega (arith, length-drop (o.mark - o.from) o.bytes, above, below)

pub barrier_room : (o : Out) → o.from ≤ o.mark → o.mark ≤ last_position o → room (out_after_barrier o) ≡ 1048576
barrier_room o above below = omega (arith, barrier_last o above below)
