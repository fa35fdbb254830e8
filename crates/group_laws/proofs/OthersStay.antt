-- What a step of one process leaves of the others.
use Rattle.std.proofs.Common.{Bool, List, None, Option, Some, [], ap, false, inl, inr, not, refl, subst, sym, true, ℕ, ⊎_elim, ◌&&◌, ◌-◌, ◌==◌, ◌^◌, ◌∙◌, ◌∷◌, ◌≡◌, ◌⊎◌}
use Rattle.std.proofs.lemmas.Bool.{and_parts, eq-eqb, eqb-true}
use Rattle.std.specs.List.{cons_option, filter_map}
use Rattle.std.specs.Prelude.{filter, find, if◌then◌else◌}
use Rattle.address_maps.specs.Cut.{cut}
use Rattle.address_maps.specs.declared.maps.Mapping.{Mapping}
use Rattle.group_defs.specs.Calls.{Reply, answers, ends, refuses, waits}
use Rattle.group_defs.specs.Cells.{sight}
use Rattle.group_defs.specs.Changes.{on_caller, with_break, with_fds, with_maps, with_object, with_pairs}
use Rattle.group_defs.specs.Family.{after_end, ended, ended_process, is_child, without_proc}
use Rattle.group_defs.specs.Fork.{Copy, child_of, copies_from, forked, to_copy}
use Rattle.group_defs.specs.Group.{Group, is_runner, is_running, regs_of, runner, with_regs}
use Rattle.group_defs.specs.Held.{settled}
use Rattle.group_defs.specs.MapCalls.{mapped, new_mapping}
use Rattle.group_defs.specs.Step.{after_effect, after_reply, call_in, effect_in, group_step, reply_in}
use Rattle.group_defs.specs.declared.frame.Proc.{Proc}
use Rattle.group_laws.proofs.ForkLists.{found_first}
use Rattle.group_laws.proofs.Inside.{found_has}
use Rattle.group_laws.proofs.Lists.{any_weaker, found_is}
use Rattle.group_laws.proofs.Replies.{Leaves, Opened, Plain, call_holds, clone_leaves, openat_leaves, served_or_refused, write_reply}
use Rattle.group_laws.proofs.ReplyLaws.{found_pid}
use Rattle.group_laws.proofs.SettledLaws.{rise_unique}
use Rattle.rv64_isa.specs.Instruction.{Effect, calls, steps, traps}
use Rattle.rv64_isa.specs.Memory.{stored}
use Rattle.rv64_isa.specs.Registers.{answered, call_number}
use Rattle.tables.specs.Lists.{on_first}
use Rattle.tables.specs.Rising.{Rise, added}

-- the same process, but for a parent of this pid, who may be none then
abbrev pub IsSame : ℕ → Proc → Proc → Type 0
IsSame pid before after = (after ≡ record before { parent = after.parent }) × ((after.parent ≡ before.parent) ⊎ ((after.parent ≡ 0) × (before.parent ≡ pid)))

abbrev pub IsKept : ℕ → ℕ → Proc → Group → Type 0
IsKept pid other x h = (y : Proc) × (find (is_runner other) h.frame.procs ≡ Some y) × IsSame pid x y

-- who runs under one pid doesn't run under another
pub not_both : (mine other : ℕ) (y : Proc) → (mine == other) ≡ false → is_runner other y ≡ true → is_runner mine y ≡ false
not_both mine other y differ hit = by_test (is_runner mine y) refl
  where
    by_test : (b : Bool) → is_runner mine y ≡ b → b ≡ false
    by_test false e = refl
    by_test true e =
        let its : y.pid ≡ other = eqb-true y.pid other (and_parts (is_running y) (y.pid == other) hit).1 in
        let also : y.pid ≡ mine = eqb-true y.pid mine (and_parts (is_running y) (y.pid == mine) e).1 in
        let same : (mine == other) ≡ true = eq-eqb mine other (sym also ∙ its) in
        absurd (cc)

-- what passes another test is found as it was where one is changed
module _ {X : Type 0} (t u : X → Bool) (f : X → X) (kept : (y : X) → u (f y) ≡ u y) (apart : (y : X) → u y ≡ true → t y ≡ false) where
  pub found_other : (xs : List X) → find u (on_first t f xs) ≡ find u xs
  unfolding on_first
  found_other [] = refl
  found_other (y ∷ ys) = by_test (t y) (u y) refl refl (found_other ys)
    where
      by_test : (b c : Bool) → t y ≡ b → u y ≡ c → find u (on_first t f ys) ≡ find u ys → find u (if b then f y ∷ ys else y ∷ on_first t f ys) ≡ (if c then Some y else find u ys)
      by_test true true hit here ih = let miss = apart y here in absurd (cc)
      by_test true false hit here ih = ap (λ (b : Bool). if b then Some (f y) else find u ys) (kept y ∙ here)
      by_test false c hit here ih = ap (λ (b : Bool). if b then Some y else find u (on_first t f ys)) here ∙ ap (λ (o : Option X). if c then Some y else o) ih

-- where some others go, it is found too
pub kept_other : {X : Type 0} (t keep : X → Bool) (xs : List X) (x : X) → find t xs ≡ Some x → keep x ≡ true → find t (filter keep xs) ≡ Some x
kept_other t keep [] x e k = absurd (cc)
kept_other t keep (y ∷ ys) x e k = by_test (t y) (keep y) refl refl e (λ later. kept_other t keep ys x later k)
  where
    by_test : (b c : Bool) → t y ≡ b → keep y ≡ c → (if b then Some y else find t ys) ≡ Some x → (find t ys ≡ Some x → find t (filter keep ys) ≡ Some x) → find t (if c then y ∷ filter keep ys else filter keep ys) ≡ Some x
    by_test true true hit stays e ih = ap (λ (b : Bool). if b then Some y else find t (filter keep ys)) hit ∙ e
    by_test true false hit goes e ih = let same : y ≡ x = cc in let over : keep y ≡ true = ap keep same ∙ k in absurd (cc)
    by_test false true miss stays e ih = ap (λ (b : Bool). if b then Some y else find t (filter keep ys)) miss ∙ ih e
    by_test false false miss goes e ih = ih e

-- the end of a process
module _ (p : Proc) (status other : ℕ) (differ : (p.pid == other) ≡ false) where
  after_of : (y : Proc) → is_runner other y ≡ true → (z : Proc) × (after_end p status y ≡ Some z) × (is_runner other z ≡ true) × IsSame p.pid y z
  after_of y hit = by_child (y.parent == p.pid) refl
    where
      miss : is_runner p.pid y ≡ false
      miss = not_both p.pid other y differ hit

      runs : is_running y ≡ true
      runs = (and_parts (is_running y) (y.pid == other) hit).0

      by_child : (b : Bool) → (y.parent == p.pid) ≡ b → (z : Proc) × (after_end p status y ≡ Some z) × (is_runner other z ≡ true) × IsSame p.pid y z
      by_child true its = (record y { parent = 0 }, rw (miss, its, runs) refl, hit, (refl, inr (refl, eqb-true y.parent p.pid its)))
      by_child false its = (y, rw (miss, its) refl, hit, (refl, inl refl))

  pub skipped : (y : Proc) (rest : List Proc) → is_runner other y ≡ false → find (is_runner other) (cons_option (after_end p status y) rest) ≡ find (is_runner other) rest
  skipped y rest miss = by_cases (is_runner p.pid y) (p.parent == 0) (y.parent == p.pid) (is_running y)
    where
      skips : (z : Proc) → is_runner other z ≡ false → find (is_runner other) (z ∷ rest) ≡ find (is_runner other) rest
      skips z none = ap (λ (t : Bool). if t then Some z else find (is_runner other) rest) none

      by_cases : (a b c d : Bool) → find (is_runner other) (cons_option (if a then (if b then None else Some (ended_process p status)) else if c then (if d then Some (record y { parent = 0 }) else None) else Some y) rest) ≡ find (is_runner other) rest
      by_cases true true c d = refl
      by_cases true false c d = refl
      by_cases false b true true = skips (record y { parent = 0 }) miss
      by_cases false b true false = refl
      by_cases false b false d = skips y miss

  pub ended_other : (procs : List Proc) (x : Proc) → find (is_runner other) procs ≡ Some x → (y : Proc) × (find (is_runner other) (filter_map (after_end p status) procs) ≡ Some y) × IsSame p.pid x y
  ended_other [] x e = absurd (cc)
  ended_other (y ∷ ys) x e = by_test (is_runner other y) refl e (ended_other ys x)
    where
      by_test : (b : Bool) → is_runner other y ≡ b → (if b then Some y else find (is_runner other) ys) ≡ Some x → (find (is_runner other) ys ≡ Some x → (z : Proc) × (find (is_runner other) (filter_map (after_end p status) ys) ≡ Some z) × IsSame p.pid x z)
          → (z : Proc) × (find (is_runner other) (cons_option (after_end p status y) (filter_map (after_end p status) ys)) ≡ Some z) × IsSame p.pid x z
      by_test true hit e ih =
          let a = after_of y hit in
          let same : y ≡ x = cc in
          let rest : List Proc = filter_map (after_end p status) ys in
          (a.0, ap (λ (o : Option Proc). find (is_runner other) (cons_option o rest)) a.1 ∙ ap (λ (t : Bool). if t then Some a.0 else find (is_runner other) rest) a.2, subst (λ v. IsSame p.pid v a.0) same a.3)
      by_test false miss e ih = let later = ih e in (later.0, skipped y (filter_map (after_end p status) ys) miss ∙ later.1, later.2)

-- Each call leaves another process as it is.
module _ (durable : Bool) (g : Group) (p : Proc) (other : ℕ) (x : Proc) (differ : (p.pid == other) ≡ false) (rise : Rise (λ q. q.pid) g.frame.procs) (there : find (is_runner other) g.frame.procs ≡ Some x) where
  abbrev Runs : Group → Type 0
  Runs h = find (is_runner other) h.frame.procs ≡ Some x

  by_caller : (f : Proc → Proc) → ((y : Proc) → is_runner other (f y) ≡ is_runner other y) → (h : Group) → Runs h → Runs (on_caller h p f)
  by_caller f kept h e = found_other (is_runner p.pid) (is_runner other) f kept (λ y hit. not_both p.pid other y differ hit) h.frame.procs ∙ e

  by_settling : (h : Group) → Runs h → Runs (settled h)
  unfolding settled
  by_settling h e = e

  -- a child that waited to be removed is another one
  without_child : (wanted : ℕ) (q : Proc) → find (λ y. is_child p.pid wanted y && not (is_running y)) g.frame.procs ≡ Some q → Runs (without_proc g q.pid)
  without_child wanted q e = kept_other (is_runner other) (λ y. not (y.pid == q.pid)) g.frame.procs x there (by_test (x.pid == q.pid) refl)
    where
      its : Unit {0} × (is_runner other x ≡ true)
      its = found_has (λ y. Unit {0}) (is_runner other) g.frame.procs x (λ k d lt. tt) there

      stopped : not (is_running q) ≡ true
      stopped = (and_parts (is_child p.pid wanted q) (not (is_running q)) (found_has (λ y. Unit {0}) (λ y. is_child p.pid wanted y && not (is_running y)) g.frame.procs q (λ k d lt. tt) e).1).1

      by_test : (b : Bool) → (x.pid == q.pid) ≡ b → not b ≡ true
      by_test false miss = refl
      by_test true hit =
          let one : x ≡ q = rise_unique (λ y. y.pid) g.frame.procs x q rise
          (any_weaker (λ y. (y ≡ x) × (is_runner other y ≡ true)) (λ y. y ≡ x) g.frame.procs (λ y both. both.0) (found_is (is_runner other) g.frame.procs x there))
          (any_weaker (λ y. (y ≡ q) × ((is_child p.pid wanted y && not (is_running y)) ≡ true)) (λ y. y ≡ q) g.frame.procs (λ y both. both.0) (found_is (λ y. is_child p.pid wanted y && not (is_running y)) g.frame.procs q e))
          (eqb-true x.pid q.pid hit) in
          let runs : is_running q ≡ true = ap is_running (sym one) ∙ (and_parts (is_running x) (x.pid == other) its.1).0 in
          let over : not true ≡ true = ap not (sym runs) ∙ stopped in
          absurd (cc)

  runs_mapped : (list : List Mapping) (m : Mapping) → Runs (mapped g p list m)
  runs_mapped list m = by_caller (λ q. record q { maps = added (λ n. n.start) list m }) (λ y. refl) (with_object g m.pages) there

  pub plain_runs : Plain g p Runs
  plain_runs =
      let fds : (list : List (ℕ × ℕ)) (h : Group) → Runs h → Runs (with_fds h p list) = λ list. by_caller (λ q. record q { fds = list }) (λ y. refl) in
      let maps : (list : List Mapping) (h : Group) → Runs h → Runs (with_maps h p list) = λ list. by_caller (λ q. record q { maps = list }) (λ y. refl) in
      let break : (brk : ℕ) (h : Group) → Runs h → Runs (with_break h p brk) = λ brk. by_caller (λ q. record q { brk = brk }) (λ y. refl) in
      record {
        same = there;
        fds = λ list. fds list g there;
        closed = λ list. by_settling (with_fds g p list) (fds list g there);
        offsets = λ number offset. there;
        pipes = λ pipes. there;
        pairs = λ pairs. there;
        dropped = λ pairs. by_settling (with_pairs g pairs) there;
        received = λ pairs list. fds list g there;
        new_pipe = λ list. fds list g there;
        new_pair = λ list. fds list g there;
        break = λ brk. break brk g there;
        grown = λ start pages brk. break brk (mapped g p p.maps (new_mapping g start pages 3 false)) (runs_mapped p.maps (new_mapping g start pages 3 false));
        shrunk = λ start pages brk. by_settling (with_break (with_maps g p (cut p.maps start pages)) p brk) (break brk (with_maps g p (cut p.maps start pages)) (maps (cut p.maps start pages) g there));
        unmapped = λ start pages. by_settling (with_maps g p (cut p.maps start pages)) (maps (cut p.maps start pages) g there);
        one_more = λ start pages prot shared. runs_mapped p.maps (new_mapping g start pages prot shared);
        instead = λ start pages prot shared. by_settling (mapped g p (cut p.maps start pages) (new_mapping g start pages prot shared)) (runs_mapped (cut p.maps start pages) (new_mapping g start pages prot shared));
        reaped = without_child;
      }

  pub opened_runs : Opened g p Runs
  opened_runs =
      let fds : (list : List (ℕ × ℕ)) → Runs (with_fds g p list) = λ list. by_caller (λ q. record q { fds = list }) (λ y. refl) g there in
      record { old = λ f flags list is. fds list; cleared = λ f flags list is. fds list; made = λ name flags list. fds list }

  pub forked_runs : (copies : List Copy) → Runs (forked g p copies)
  unfolding forked
  forked_runs copies = found_first (is_runner other) g.frame.procs (child_of g.frame.next.pid copies p ∷ []) x there

  -- what each call and each step leaves of it
  call_runs : (number : ℕ) → Leaves Runs (call_in durable g p number)
  call_runs =
      call_holds durable g p Runs plain_runs (λ n r. Leaves Runs r) (λ n r leaves. leaves) (openat_leaves g p Runs opened_runs (sight g p) (regs_of p))
      (write_reply (Leaves Runs) g (sight g p) tt (λ errno. tt) there (λ bytes few. there) (λ value pipes. there) (λ value pairs. there) p (regs_of p) (λ o at object is bytes within. there))
      (clone_leaves g p Runs (λ can. forked_runs (copies_from g.frame.next.object (to_copy g.frame p))) (regs_of p))

  over : (status : ℕ) → IsKept p.pid other x (ended g p status)
  unfolding ended settled
  over status = ended_other p status other differ g.frame.procs x there

  replied : (r : Reply Group) → Leaves Runs r → IsKept p.pid other x (after_reply g p r)
  replied waits leaves = (x, there, (refl, inl refl))
  replied (refuses errno) leaves = (x, by_caller (with_regs (answered (regs_of p) (2 ^ 64 - errno))) (λ y. refl) g there, (refl, inl refl))
  replied (answers value h writes) leaves = (x, by_caller (with_regs (answered (regs_of p) value)) (λ y. refl) h leaves, (refl, inl refl))
  replied (ends status) leaves = over status

  pub call_stays : (number : ℕ) → IsKept p.pid other x (after_reply g p (call_in durable g p number))
  call_stays number = replied (call_in durable g p number) (call_runs number)

  pub effect_stays : (e : Effect) → IsKept p.pid other x (after_effect durable g p e)
  effect_stays (steps r stored) = (x, by_caller (with_regs r) (λ y. refl) g there, (refl, inl refl))
  effect_stays calls = replied (reply_in durable g p number) (served_or_refused durable g p (Leaves Runs) number (call_runs number) tt)
    where
      number : ℕ
      number = call_number (regs_of p)
  effect_stays (traps status) = over status

-- A call leaves every other running process as it is, but for a parent that it ended.
pub others_stay_by_calls : (durable : Bool) (g : Group) (pid other number : ℕ) (p x : Proc) → Rise (λ q. q.pid) g.frame.procs → (pid == other) ≡ false → runner g pid ≡ Some p → runner g other ≡ Some x
    → (y : Proc) × (runner (after_reply g p (call_in durable g p number)) other ≡ Some y) × (y ≡ record x { parent = y.parent }) × ((y.parent ≡ x.parent) ⊎ ((y.parent ≡ 0) × (x.parent ≡ pid)))
unfolding runner
others_stay_by_calls durable g pid other number p x rise differ found there =
    let mine : p.pid ≡ pid = found_pid g.frame.procs pid p found in
    let kept = call_stays durable g p other x (ap (λ n. n == other) mine ∙ differ) rise there number in
    (kept.0, kept.1, kept.2.0, ⊎_elim (λ same. inl same) (λ both. inr (both.0, both.1 ∙ mine)) kept.2.1)

-- A step of another process than p, who runs under its pid.
pub step_is : (durable : Bool) (g : Group) (pid : ℕ) → (runner g pid ≡ None → group_step durable g pid ≡ g) × ((p : Proc) → runner g pid ≡ Some p → group_step durable g pid ≡ after_effect durable g p (effect_in g p))
unfolding group_step
step_is durable g pid = (λ none. ap result none, λ p is. ap result is)
  where
    result : Option Proc → Group
    result o = elim o [ None ↦ g | Some p ↦ after_effect durable g p (effect_in g p) ]

-- A step leaves every other running process as it is, but for a parent that it ended.
pub others_stay : (durable : Bool) (g : Group) (pid other : ℕ) (x : Proc) → Rise (λ q. q.pid) g.frame.procs → (pid == other) ≡ false → runner g other ≡ Some x
    → (y : Proc) × (runner (group_step durable g pid) other ≡ Some y) × (y ≡ record x { parent = y.parent }) × ((y.parent ≡ x.parent) ⊎ ((y.parent ≡ 0) × (x.parent ≡ pid)))
unfolding runner
others_stay durable g pid other x rise differ there = let kept = by_runner (find (is_runner pid) g.frame.procs) refl in (kept.0, kept.1, kept.2.0, kept.2.1)
  where
    by_runner : (o : Option Proc) → find (is_runner pid) g.frame.procs ≡ o → IsKept pid other x (group_step durable g pid)
    by_runner None e = subst (IsKept pid other x) (sym ((step_is durable g pid).0 e)) (x, there, (refl, inl refl))
    by_runner (Some p) e =
        let mine : p.pid ≡ pid = found_pid g.frame.procs pid p e in
        let kept = effect_stays durable g p other x (ap (λ n. n == other) mine ∙ differ) rise there (effect_in g p) in
        subst (IsKept pid other x) (sym ((step_is durable g pid).1 p e)) (kept.0, kept.1, (kept.2.0, ⊎_elim (λ same. inl same) (λ both. inr (both.0, both.1 ∙ mine)) kept.2.1))
