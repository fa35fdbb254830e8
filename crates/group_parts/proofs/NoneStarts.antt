-- No step and no call but clone lets another process run than those that ran.
use Rattle.std.proofs.Common.{Bool, List, None, Option, Some, [], ap, false, inl, inr, not, refl, sym, true, ℕ, ◌&&◌, ◌++◌, ◌-◌, ◌==◌, ◌^◌, ◌∙◌, ◌∷◌, ◌≡◌, ◌⊎◌}
use Rattle.std.proofs.lemmas.Bool.{false≢true}
use Rattle.std.specs.List.{filter_map, cons_option}
use Rattle.std.specs.Option.{option_map}
use Rattle.std.specs.Prelude.{filter, find, if◌then◌else◌}
use Rattle.address_maps.specs.Cut.{cut}
use Rattle.address_maps.specs.declared.maps.Mapping.{Mapping}
use Rattle.group_defs.specs.Calls.{Reply, answers, ends, refuses, waits}
use Rattle.group_defs.specs.Cells.{sight}
use Rattle.group_defs.specs.Changes.{on_caller, with_break, with_fds, with_maps, with_object}
use Rattle.group_defs.specs.Family.{after_end, ended}
use Rattle.group_defs.specs.Fork.{Copy, child_of, clone, copies_from, forked, to_copy}
use Rattle.group_defs.specs.Group.{Group, is_runner, is_running, regs_of, runner, with_regs}
use Rattle.group_defs.specs.Held.{settled}
use Rattle.group_defs.specs.MapCalls.{mapped, new_mapping}
use Rattle.group_defs.specs.Step.{after_effect, after_reply, call_in, effect_in, group_step, reply_in}
use Rattle.group_defs.specs.Valid.{GroupIsValid}
use Rattle.group_defs.specs.declared.calls.TheConstants.{CLONE}
use Rattle.group_defs.specs.declared.frame.Proc.{Proc}
use Rattle.group_laws.proofs.OthersStay.{found_other, not_both, skipped, step_is}
use Rattle.group_laws.proofs.Replies.{Leaves, Opened, Plain, call_holds, clone_leaves, openat_leaves, served_or_refused, write_reply}
use Rattle.group_laws.proofs.ReplyLaws.{found_pid}
use Rattle.group_parts.proofs.OthersParts.{calls_leave_parts, steps_leave_parts}
use Rattle.group_parts.specs.Parts.{PrivatePart, part_in, part_of}
use Rattle.group_parts.specs.Served.{effect_clones, step_clones}
use Rattle.rv64_isa.specs.Instruction.{Effect, calls, steps, traps}
use Rattle.rv64_isa.specs.Registers.{answered, call_number}
use Rattle.tables.specs.Rising.{added}

none_filter : {X : Type 0} (t keep : X → Bool) (xs : List X) → find t xs ≡ None → find t (filter keep xs) ≡ None
none_filter t keep [] none = refl
none_filter t keep (x ∷ xs) none = by_tests (t x) (keep x) refl none (none_filter t keep xs)
  where
    by_tests : (b c : Bool) → t x ≡ b → (if b then Some x else find t xs) ≡ None → (find t xs ≡ None → find t (filter keep xs) ≡ None) → find t (if c then x ∷ filter keep xs else filter keep xs) ≡ None
    by_tests true c hit none rest = absurd (cc)
    by_tests false true miss none rest = ap (λ (b : Bool). if b then Some x else find t (filter keep xs)) miss ∙ rest none
    by_tests false false miss none rest = rest none

none_append : {X : Type 0} (t : X → Bool) (xs : List X) (x : X) → find t xs ≡ None → t x ≡ false → find t (xs ++ x ∷ []) ≡ None
none_append t [] x none miss = ap (λ (b : Bool). if b then Some x else None) miss
none_append t (y ∷ ys) x none miss = by_test (t y) none (none_append t ys x)
  where
    by_test : (b : Bool) → (if b then Some y else find t ys) ≡ None → (find t ys ≡ None → t x ≡ false → find t (ys ++ x ∷ []) ≡ None) → (if b then Some y else find t (ys ++ x ∷ [])) ≡ None
    by_test true none rest = absurd (cc)
    by_test false none rest = rest none miss

module _ (durable : Bool) (g : Group) (p : Proc) (q : ℕ) (differ : (p.pid == q) ≡ false) (none : find (is_runner q) g.frame.procs ≡ None) where
  abbrev Rests : Group → Type 0
  Rests h = find (is_runner q) h.frame.procs ≡ None

  pub by_caller : (f : Proc → Proc) → ((y : Proc) → is_runner q (f y) ≡ is_runner q y) → (h : Group) → Rests h → Rests (on_caller h p f)
  by_caller f kept h e = found_other (is_runner p.pid) (is_runner q) f kept (λ y hit. not_both p.pid q y differ hit) h.frame.procs ∙ e

  rests_mapped : (list : List Mapping) (m : Mapping) → Rests (mapped g p list m)
  rests_mapped list m = by_caller (λ x. record x { maps = added (λ n. n.start) list m }) (λ y. refl) (with_object g m.pages) none

  plain_rests : Plain g p Rests
  unfolding settled
  plain_rests =
      let fds : (list : List (ℕ × ℕ)) → Rests (with_fds g p list) = λ list. by_caller (λ x. record x { fds = list }) (λ y. refl) g none in
      let maps : (list : List Mapping) (h : Group) → Rests h → Rests (with_maps h p list) = λ list. by_caller (λ x. record x { maps = list }) (λ y. refl) in
      let break : (brk : ℕ) (h : Group) → Rests h → Rests (with_break h p brk) = λ brk. by_caller (λ x. record x { brk = brk }) (λ y. refl) in
      record {
        same = none;
        fds = fds;
        closed = fds;
        offsets = λ number offset. none;
        pipes = λ pipes. none;
        pairs = λ pairs. none;
        dropped = λ pairs. none;
        received = λ pairs list. fds list;
        new_pipe = fds;
        new_pair = fds;
        break = λ brk. break brk g none;
        grown = λ start pages brk. break brk (mapped g p p.maps (new_mapping g start pages 3 false)) (rests_mapped p.maps (new_mapping g start pages 3 false));
        shrunk = λ start pages brk. break brk (with_maps g p (cut p.maps start pages)) (maps (cut p.maps start pages) g none);
        unmapped = λ start pages. maps (cut p.maps start pages) g none;
        one_more = λ start pages prot shared. rests_mapped p.maps (new_mapping g start pages prot shared);
        instead = λ start pages prot shared. rests_mapped (cut p.maps start pages) (new_mapping g start pages prot shared);
        reaped = λ wanted x e. none_filter (is_runner q) (λ y. not (y.pid == x.pid)) g.frame.procs none;
      }

  opened_rests : Opened g p Rests
  opened_rests =
      let fds : (list : List (ℕ × ℕ)) → Rests (with_fds g p list) = λ list. by_caller (λ x. record x { fds = list }) (λ y. refl) g none in
      record { old = λ f flags list is. fds list; cleared = λ f flags list is. fds list; made = λ name flags list. fds list }

  -- a child has the next pid
  forked_rests : (g.frame.next.pid == q) ≡ false → (copies : List Copy) → Rests (forked g p copies)
  unfolding forked
  forked_rests new copies = none_append (is_runner q) g.frame.procs (child_of g.frame.next.pid copies p) none (not_new (is_running p))
    where
      not_new : (b : Bool) → (b && (g.frame.next.pid == q)) ≡ false
      not_new true = new
      not_new false = refl

  -- each call, where it isn't clone or q isn't the child
  abbrev IsOther : ℕ → Type 0
  IsOther number = ((number == CLONE) ≡ false) ⊎ ((g.frame.next.pid == q) ≡ false)

  clone_rests : IsOther 220 → Leaves Rests (clone g p (regs_of p))
  clone_rests (inl other) = absurd (false≢true (sym other))
  clone_rests (inr new) = clone_leaves g p Rests (λ can. forked_rests new (copies_from g.frame.next.object (to_copy g.frame p))) (regs_of p)

  call_leaves : (number : ℕ) → IsOther number → Leaves Rests (call_in durable g p number)
  call_leaves number =
      call_holds durable g p Rests plain_rests (λ n r. IsOther n → Leaves Rests r) (λ n r leaves other. leaves) (λ other. openat_leaves g p Rests opened_rests (sight g p) (regs_of p))
      (λ other. write_reply (Leaves Rests) g (sight g p) tt (λ errno. tt) none (λ bytes few. none) (λ value pipes. none) (λ value pairs. none) p (regs_of p) (λ o at object is bytes within. none))
      clone_rests number

  after_ends : (status : ℕ) (procs : List Proc) → find (is_runner q) procs ≡ None → find (is_runner q) (filter_map (after_end p status) procs) ≡ None
  after_ends status [] none = refl
  after_ends status (y ∷ ys) none = by_test (is_runner q y) refl none (after_ends status ys)
    where
      by_test : (b : Bool) → is_runner q y ≡ b → (if b then Some y else find (is_runner q) ys) ≡ None → (find (is_runner q) ys ≡ None → find (is_runner q) (filter_map (after_end p status) ys) ≡ None) → find (is_runner q) (cons_option (after_end p status y) (filter_map (after_end p status) ys)) ≡ None
      by_test true hit none rest = absurd (cc)
      by_test false miss none rest = skipped p status q differ y (filter_map (after_end p status) ys) miss ∙ rest none

  pub end_rests : (status : ℕ) → Rests (ended g p status)
  unfolding ended settled
  end_rests status = after_ends status g.frame.procs none

  after_rests : (r : Reply Group) → Leaves Rests r → Rests (after_reply g p r)
  after_rests waits leaves = none
  after_rests (refuses errno) leaves = by_caller (with_regs (answered (regs_of p) (2 ^ 64 - errno))) (λ y. refl) g none
  after_rests (answers value h writes) leaves = by_caller (with_regs (answered (regs_of p) value)) (λ y. refl) h leaves
  after_rests (ends status) leaves = end_rests status

  pub call_rests : (number : ℕ) → IsOther number → Rests (after_reply g p (call_in durable g p number))
  call_rests number other = after_rests (call_in durable g p number) (call_leaves number other)

  replies : (number : ℕ) → IsOther number → Leaves Rests (reply_in durable g p number)
  replies number other = served_or_refused durable g p (Leaves Rests) number (call_leaves number other) tt

  pub effect_rests : (e : Effect) → (effect_clones p e ≡ false) ⊎ ((g.frame.next.pid == q) ≡ false) → Rests (after_effect durable g p e)
  effect_rests (steps r stored) other = by_caller (with_regs r) (λ y. refl) g none
  effect_rests calls other = after_rests (reply_in durable g p (call_number (regs_of p))) (replies (call_number (regs_of p)) other)
  effect_rests (traps status) other = end_rests status

-- who has no part doesn't run
pub no_part : (g : Group) (q : ℕ) → part_of g q ≡ None → runner g q ≡ None
unfolding part_of
no_part g q e = by_runner (runner g q) e
  where
    by_runner : (o : Option Proc) → option_map (part_in g) o ≡ None → o ≡ None
    by_runner None e = refl
    by_runner (Some p) e = absurd (cc)

none_has : (h : Group) (q : ℕ) → runner h q ≡ None → part_of h q ≡ None
unfolding part_of
none_has h q e = ap (option_map (part_in h)) e

-- So every other process has the part that it had, or none.
pub others_by : (durable : Bool) (g : Group) (pid q : ℕ) → GroupIsValid g → (pid == q) ≡ false → (runner g q ≡ None → runner (group_step durable g pid) q ≡ None) → part_of (group_step durable g pid) q ≡ part_of g q
others_by durable g pid q valid differ rests = by_part (part_of g q) refl
  where
    by_part : (o : Option PrivatePart) → part_of g q ≡ o → part_of (group_step durable g pid) q ≡ o
    by_part None e = none_has (group_step durable g pid) q (rests (no_part g q e))
    by_part (Some part) e = steps_leave_parts durable g pid q part valid differ e

steps_leave : (durable : Bool) (g : Group) (pid q : ℕ) → GroupIsValid g → (pid == q) ≡ false → (step_clones g pid ≡ false) ⊎ ((g.frame.next.pid == q) ≡ false) → part_of (group_step durable g pid) q ≡ part_of g q
unfolding runner step_clones
steps_leave durable g pid q valid differ other = others_by durable g pid q valid differ (λ none. rests none (find (is_runner pid) g.frame.procs) refl)
  where
    either : (p : Proc) → find (is_runner pid) g.frame.procs ≡ Some p → (step_clones g pid ≡ false) ⊎ ((g.frame.next.pid == q) ≡ false) → (effect_clones p (effect_in g p) ≡ false) ⊎ ((g.frame.next.pid == q) ≡ false)
    either p e (inl no_clone) = inl (sym (ap (λ (o : Option Proc). elim o [ None ↦ false | Some x ↦ effect_clones x (effect_in g x) ]) e) ∙ no_clone)
    either p e (inr new) = inr new

    rests : find (is_runner q) g.frame.procs ≡ None → (o : Option Proc) → find (is_runner pid) g.frame.procs ≡ o → find (is_runner q) (group_step durable g pid).frame.procs ≡ None
    rests none None e = ap (λ (h : Group). find (is_runner q) h.frame.procs) ((step_is durable g pid).0 e) ∙ none
    rests none (Some p) e =
        ap (λ (h : Group). find (is_runner q) h.frame.procs) ((step_is durable g pid).1 p e)
        ∙ effect_rests durable g p q (ap (λ k. k == q) (found_pid g.frame.procs pid p e) ∙ differ) none (effect_in g p) (either p e other)

pub steps_leave_others : (durable : Bool) (g : Group) (pid q : ℕ) → GroupIsValid g → (pid == q) ≡ false → step_clones g pid ≡ false → part_of (group_step durable g pid) q ≡ part_of g q
steps_leave_others durable g pid q valid differ other = steps_leave durable g pid q valid differ (inl other)

pub steps_leave_all : (durable : Bool) (g : Group) (pid q : ℕ) → GroupIsValid g → (pid == q) ≡ false → (g.frame.next.pid == q) ≡ false → part_of (group_step durable g pid) q ≡ part_of g q
steps_leave_all durable g pid q valid differ new = steps_leave durable g pid q valid differ (inr new)

pub calls_leave_others : (durable : Bool) (g : Group) (pid q number : ℕ) (p : Proc) → GroupIsValid g → (pid == q) ≡ false → runner g pid ≡ Some p → (number == CLONE) ≡ false → part_of (after_reply g p (call_in durable g p number)) q ≡ part_of g q
unfolding runner
calls_leave_others durable g pid q number p valid differ is other = by_part (part_of g q) refl
  where
    h : Group
    h = after_reply g p (call_in durable g p number)

    by_part : (o : Option PrivatePart) → part_of g q ≡ o → part_of h q ≡ o
    by_part None e = none_has h q (call_rests durable g p q (ap (λ k. k == q) (found_pid g.frame.procs pid p is) ∙ differ) (no_part g q e) number (inl other))
    by_part (Some part) e = calls_leave_parts durable g pid q number p part valid differ is e
