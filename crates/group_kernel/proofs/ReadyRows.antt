-- The rows whose processes are here and don't wait are those of the ready processes without a lease.
use Rattle.std.proofs.Common.{◌≡◌, ◌⊎◌, inl, inr, ℕ, zero, suc, ◌+◌, ◌<◌, ◌==◌, ◌&&◌, not, Bool, true, false, List, [], ◌∷◌, length, map, get_or, Option, Some, None, refl, sym, ap, ◌∙◌, arith, subst}
use Rattle.std.proofs.lemmas.Bool.{and_parts, eq-eqb, false≢true}
use Rattle.std.specs.Prelude.{All, Any, if◌then◌else◌, find}
use Rattle.std.proofs.lemmas.List.Elements.{recursion_from_All}
use Rattle.std.specs.List.{AllByRecursion, AllZip, filter}
use Rattle.std.specs.Option.{option_map}
use Rattle.descriptors.specs.Opens.{descriptions}
use Rattle.descriptors.specs.declared.opens.Open.{Open}
use Rattle.group_defs.specs.Group.{Group, is_runner, is_running, regs_of, runner}
use Rattle.group_defs.specs.Standing.{State, is_durable}
use Rattle.group_defs.specs.Step.{effect_in, group_waits, is_wait, is_waiting, is_waiting_at, reply_to}
use Rattle.group_defs.specs.Valid.{GroupIsValid}
use Rattle.group_defs.specs.declared.frame.Out.{Out}
use Rattle.group_defs.specs.declared.frame.Proc.{Proc}
use Rattle.group_laws.proofs.Inside.{found_has}
use Rattle.group_laws.proofs.Lists.{any_at, any_weaker, found_is}
use Rattle.group_laws.proofs.ReplyLaws.{found_pid}
use Rattle.group_laws.proofs.SettledLaws.{rise_unique}
use Rattle.group_parts.specs.Kept.{StandsFor, kept_part}
use Rattle.group_parts.specs.Parts.{PrivatePart, part_in, part_of, public_part, public_process, shared_mappings}
use Rattle.group_parts.proofs.OthersParts.{behind}
use Rattle.group_parts.proofs.Runners.{runner_found}
use Rattle.proc_lease.specs.declared.process.Process.{Process}
use Rattle.run_defs.specs.Legal.{is_unleased, ready}
use Rattle.run_defs.specs.Progress.{Lease}
use Rattle.rv64_isa.specs.Instruction.{Effect, steps, calls, traps, instruction}
use Rattle.rv64_isa.specs.declared.regs.Regs.{Regs}
use Rattle.group_kernel.specs.Calls.{HasOnlyServedTables}
use Rattle.group_kernel.specs.Held.{FileFacesOfFiles, TablesView, kept_in, public_row}
use Rattle.group_kernel.specs.Leases.{part_held}
use Rattle.syscalls_io.specs.Outside.{waits_for_room}
use Rattle.group_kernel.specs.Readiness.{is_call, is_ready_row, is_ready_with, waits_here}
use Rattle.proc_lease.specs.Sight.{cells_between}
use Rattle.group_kernel.specs.declared.row.Row.{Row}
use Rattle.group_kernel.proofs.HereParts.{here_of}
use Rattle.group_kernel.proofs.RowPids.{here_at, pids_rise}
use Rattle.group_kernel.proofs.SeenInGroup.{effect_is, part_is}
use Rattle.group_kernel.proofs.ServedReplies.{waits_when}

-- ---- rows and processes side by side
abbrev IsRowOf : Row → Proc → Type 0
IsRowOf row p = public_row row ≡ public_process p

first_same : {X : Type 0} (a b : X) (xs ys : List X) → a ∷ xs ≡ b ∷ ys → a ≡ b
first_same a b xs ys same = cc

rest_same : {X : Type 0} (a b : X) (xs ys : List X) → a ∷ xs ≡ b ∷ ys → xs ≡ ys
rest_same a b xs ys same = cc

side_by_side : (rows : List Row) (procs : List Proc) → map public_row rows ≡ map public_process procs → AllZip IsRowOf rows procs
side_by_side [] [] same = tt
side_by_side [] (p ∷ ps) same = absurd cc
side_by_side (row ∷ rows) [] same = absurd cc
side_by_side (row ∷ rows) (p ∷ ps) same = (
  first_same (public_row row) (public_process p) (map public_row rows) (map public_process ps) same,
  side_by_side rows ps (rest_same (public_row row) (public_process p) (map public_row rows) (map public_process ps) same),
)

public_fields : (p : Proc) (t : Bool) → ((if t then record p { pc = 0; regs = []; maps = shared_mappings p.maps } else p).pid ≡ p.pid) × ((if t then record p { pc = 0; regs = []; maps = shared_mappings p.maps } else p).fds ≡ p.fds)
public_fields p true = (refl, refl)
public_fields p false = (refl, refl)

-- ---- whether a process waits
module _ (t : TablesView) (leases : List Lease) (s : State) (stands : StandsFor leases (kept_in t) s.group) (valid : GroupIsValid s.group) (served : HasOnlyServedTables s.group.frame) (only : FileFacesOfFiles t) where
  opens_are : s.group.frame.opens ≡ descriptions t.io.opens.entries
  unfolding public_part
  opens_are = sym (ap (λ (x : Group). x.frame.opens) stands.public)

  out_is : s.group.frame.out ≡ t.io.out
  unfolding public_part
  out_is = sym (ap (λ (x : Group). x.frame.out) stands.public)

  pub waits_is : (row : Row) (p : Proc) (process : Process) → IsRowOf row p → runner s.group row.pid ≡ Some p → is_unleased leases row.pid ≡ true → kept_part (kept_in t).here row.pid ≡ Some (part_held process) → is_waiting s row.pid ≡ waits_here t row process
  unfolding is_waiting group_waits
  waits_is row p process same runs free here =
      let durable : Bool = is_durable s.standing row.pid in
      let regs : process.regs ≡ regs_of p = ap (λ (x : PrivatePart). x.regs) (part_is t leases s.group row.pid process p stands valid free runs here) in
      let effect : instruction (cells_between process t.shared) process.regs ≡ effect_in s.group p = effect_is t leases s.group row.pid process p stands valid free runs here only in
      let fds : p.fds ≡ row.fds.entries = sym (ap (λ (x : Proc). x.fds) same ∙ (public_fields p (is_running p)).1) in
      ap (λ (o : Option Proc). elim o [ None ↦ false | Some q ↦ is_waiting_at durable s.group q (effect_in s.group q) ]) runs
      ∙ by_effect durable p (effect_in s.group p)
      ∙ ap (λ (e : Effect). is_call e && waits_for_room p.fds s.group.frame.opens s.group.frame.out (regs_of p)) (sym effect)
      ∙ ap (λ (l : List (ℕ × ℕ)). is_call (instruction (cells_between process t.shared) process.regs) && waits_for_room l s.group.frame.opens s.group.frame.out (regs_of p)) fds
      ∙ ap (λ (l : List Open). is_call (instruction (cells_between process t.shared) process.regs) && waits_for_room row.fds.entries l s.group.frame.out (regs_of p)) opens_are
      ∙ ap (λ (o : Out). is_call (instruction (cells_between process t.shared) process.regs) && waits_for_room row.fds.entries (descriptions t.io.opens.entries) o (regs_of p)) out_is
      ∙ ap (λ (r : Regs). is_call (instruction (cells_between process t.shared) process.regs) && waits_for_room row.fds.entries (descriptions t.io.opens.entries) t.io.out r) (sym regs)
    where
      by_effect : (durable : Bool) (q : Proc) (e : Effect) → is_waiting_at durable s.group q e ≡ (is_call e && waits_for_room q.fds s.group.frame.opens s.group.frame.out (regs_of q))
      by_effect durable q (steps r stored) = refl
      by_effect durable q calls = waits_when durable s.group q served.opens
      by_effect durable q (traps status) = refl

  -- ---- one row
  abbrev IsReady : Proc → Bool
  IsReady p = is_running p && not (is_waiting s p.pid)

  found_runs : (row : Row) (p : Proc) (part : PrivatePart) → row.pid ≡ p.pid → Any (λ q. q ≡ p) s.group.frame.procs → part_of s.group row.pid ≡ Some part → is_running p ≡ true
  unfolding runner
  found_runs row p part pid there is =
      let (q, found, same) = behind s.group row.pid part is in
      let runs : is_running q ≡ true = (and_parts (is_running q) (q.pid == row.pid) (found_has (λ (x : Proc). Unit {0}) (is_runner row.pid) s.group.frame.procs q (λ k d lt. tt) found).1).0 in
      let in_list : Any (λ x. x ≡ q) s.group.frame.procs = any_weaker (λ (x : Proc). (x ≡ q) × (is_runner row.pid x ≡ true)) (λ x. x ≡ q) s.group.frame.procs (λ x both. both.0) (found_is (is_runner row.pid) s.group.frame.procs q found) in
      let one : q ≡ p = rise_unique (λ (x : Proc). x.pid) s.group.frame.procs q p valid.sound.frame.procs.rise in_list there (found_pid s.group.frame.procs row.pid q found ∙ pid) in
      sym (ap (λ (x : Proc). is_running x) one) ∙ runs

  runs_here : (row : Row) (p : Proc) → row.pid ≡ p.pid → Any (λ q. q ≡ p) s.group.frame.procs → is_running p ≡ true → runner s.group row.pid ≡ Some p
  unfolding runner
  runs_here row p pid there runs = ap (λ (n : ℕ). find (is_runner n) s.group.frame.procs) pid ∙ runner_found s.group.frame.procs p valid.sound.frame.procs.rise there runs

  one_ready : (row : Row) (p : Proc) → IsRowOf row p → Any (λ q. q ≡ p) s.group.frame.procs → here_of t.rows row.pid ≡ option_map part_held row.process
      → is_ready_row t row ≡ (IsReady p && is_unleased leases p.pid)
  unfolding part_of
  one_ready row p same there here = by_process row.process refl (is_running p) (is_unleased leases row.pid) refl refl
    where
      pid : row.pid ≡ p.pid
      pid = ap (λ (x : Proc). x.pid) same ∙ (public_fields p (is_running p)).0

      at : (u : Bool) → is_unleased leases row.pid ≡ u → here_of t.rows row.pid ≡ (if u then part_of s.group row.pid else None)
      at u e = stands.here row.pid ∙ ap (λ (b : Bool). if b then part_of s.group row.pid else None) e

      free : (u : Bool) → is_unleased leases row.pid ≡ u → is_unleased leases p.pid ≡ u
      free u e = ap (is_unleased leases) (sym pid) ∙ e

      no_lease : (b : Bool) → (b && false) ≡ false
      no_lease true = refl
      no_lease false = refl

      both : (b : Bool) → (b && true) ≡ b
      both true = refl
      both false = refl

      by_process : (o : Option Process) → row.process ≡ o → (r u : Bool) → is_running p ≡ r → is_unleased leases row.pid ≡ u → is_ready_with t row o ≡ ((is_running p && not (is_waiting s p.pid)) && is_unleased leases p.pid)
      by_process None e true true f i =
          let some : option_map part_held row.process ≡ option_map (part_in s.group) (Some p) = sym here ∙ at true i ∙ ap (option_map (part_in s.group)) (runs_here row p pid there f) in
          let none : option_map part_held row.process ≡ None = ap (option_map part_held) e in
          absurd (let never : None ≡ Some (part_in s.group p) = sym none ∙ some in cc)
      by_process None e true false f i = sym (ap (λ (b : Bool). (is_running p && not (is_waiting s p.pid)) && b) (free false i) ∙ no_lease (is_running p && not (is_waiting s p.pid)))
      by_process None e false u f i = sym (ap (λ (b : Bool). (b && not (is_waiting s p.pid)) && is_unleased leases p.pid) f)
      by_process (Some q) e r false f i = absurd (let never : Some (part_held q) ≡ None = sym (here ∙ ap (option_map part_held) e) ∙ at false i in cc)
      by_process (Some q) e false true f i =
          let is : part_of s.group row.pid ≡ Some (part_held q) = sym (at true i) ∙ here ∙ ap (option_map part_held) e in
          absurd (false≢true (sym f ∙ found_runs row p (part_held q) pid there is))
      by_process (Some q) e true true f i =
          ap not (sym (waits_is row p q same (runs_here row p pid there f) i (here ∙ ap (option_map part_held) e)))
          ∙ ap (λ (n : ℕ). not (is_waiting s n)) pid
          ∙ sym (ap (λ (b : Bool). (b && not (is_waiting s p.pid)) && is_unleased leases p.pid) f ∙ ap (λ (b : Bool). not (is_waiting s p.pid) && b) (free true i) ∙ both (not (is_waiting s p.pid)))

  -- ---- all rows
  all_ready : (rows : List Row) (procs : List Proc) → AllZip IsRowOf rows procs → AllByRecursion (λ (row : Row). here_of t.rows row.pid ≡ option_map part_held row.process) rows → AllByRecursion (λ (p : Proc). Any (λ q. q ≡ p) s.group.frame.procs) procs
      → filter (is_unleased leases) (map (λ (p : Proc). p.pid) (filter IsReady procs)) ≡ map (λ (row : Row). row.pid) (filter (is_ready_row t) rows)
  all_ready [] [] zip here there = refl
  all_ready [] (p ∷ ps) zip here there = absurd zip
  all_ready (row ∷ rows) [] zip here there = absurd zip
  all_ready (row ∷ rows) (p ∷ ps) zip here there =
      one_more row p rows ps (ap (λ (x : Proc). x.pid) zip.0 ∙ (public_fields p (is_running p)).0) (one_ready row p zip.0 there.0 here.0) (all_ready rows ps zip.1 here.1 there.1) (IsReady p) (is_unleased leases p.pid) refl refl
    where
      one_more : (row : Row) (p : Proc) (rows : List Row) (ps : List Proc) → row.pid ≡ p.pid → is_ready_row t row ≡ (IsReady p && is_unleased leases p.pid)
          → filter (is_unleased leases) (map (λ (q : Proc). q.pid) (filter IsReady ps)) ≡ map (λ (x : Row). x.pid) (filter (is_ready_row t) rows) → (r u : Bool) → IsReady p ≡ r → is_unleased leases p.pid ≡ u
          → filter (is_unleased leases) (map (λ (q : Proc). q.pid) (filter IsReady (p ∷ ps))) ≡ map (λ (x : Row). x.pid) (filter (is_ready_row t) (row ∷ rows))
      one_more row p rows ps pid test rest true true e f =
          let passes : is_ready_row t row ≡ true = test ∙ ap (λ (b : Bool). b && is_unleased leases p.pid) e ∙ f in
          ap (λ (b : Bool). filter (is_unleased leases) (map (λ (q : Proc). q.pid) (if b then p ∷ filter IsReady ps else filter IsReady ps))) e
          ∙ ap (λ (b : Bool). if b then p.pid ∷ filter (is_unleased leases) (map (λ (q : Proc). q.pid) (filter IsReady ps)) else filter (is_unleased leases) (map (λ (q : Proc). q.pid) (filter IsReady ps))) f
          ∙ ap (λ (l : List ℕ). p.pid ∷ l) rest ∙ ap (λ (n : ℕ). n ∷ map (λ (x : Row). x.pid) (filter (is_ready_row t) rows)) (sym pid)
          ∙ sym (ap (λ (b : Bool). map (λ (x : Row). x.pid) (if b then row ∷ filter (is_ready_row t) rows else filter (is_ready_row t) rows)) passes)
      one_more row p rows ps pid test rest true false e f =
          let fails : is_ready_row t row ≡ false = test ∙ ap (λ (b : Bool). b && is_unleased leases p.pid) e ∙ f in
          ap (λ (b : Bool). filter (is_unleased leases) (map (λ (q : Proc). q.pid) (if b then p ∷ filter IsReady ps else filter IsReady ps))) e
          ∙ ap (λ (b : Bool). if b then p.pid ∷ filter (is_unleased leases) (map (λ (q : Proc). q.pid) (filter IsReady ps)) else filter (is_unleased leases) (map (λ (q : Proc). q.pid) (filter IsReady ps))) f
          ∙ rest ∙ sym (ap (λ (b : Bool). map (λ (x : Row). x.pid) (if b then row ∷ filter (is_ready_row t) rows else filter (is_ready_row t) rows)) fails)
      one_more row p rows ps pid test rest false u e f =
          let fails : is_ready_row t row ≡ false = test ∙ ap (λ (b : Bool). b && is_unleased leases p.pid) e in
          ap (λ (b : Bool). filter (is_unleased leases) (map (λ (q : Proc). q.pid) (if b then p ∷ filter IsReady ps else filter IsReady ps))) e
          ∙ rest ∙ sym (ap (λ (b : Bool). map (λ (x : Row). x.pid) (if b then row ∷ filter (is_ready_row t) rows else filter (is_ready_row t) rows)) fails)

  -- THOSE THAT MAY BE TAKEN
  pub ready_rows : filter (is_unleased leases) (ready s) ≡ map (λ (row : Row). row.pid) (filter (is_ready_row t) t.rows)
  unfolding ready public_part
  ready_rows =
      all_ready t.rows s.group.frame.procs (side_by_side t.rows s.group.frame.procs (ap (λ (x : Group). x.frame.procs) stands.public))
      (recursion_from_All (λ (row : Row). here_of t.rows row.pid ≡ option_map part_held row.process) t.rows (λ k d lt. here_at t.rows k d (pids_rise t leases s.group stands valid) lt))
      (recursion_from_All (λ (p : Proc). Any (λ q. q ≡ p) s.group.frame.procs) s.group.frame.procs (λ k d lt. any_at (λ (q : Proc). q ≡ get_or s.group.frame.procs k d) s.group.frame.procs k d lt refl))
