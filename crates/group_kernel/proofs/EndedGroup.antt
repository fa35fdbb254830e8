-- The rows of a group in which a process runs: its own, and those of ended processes, which have nothing.
use Rattle.std.proofs.Common.{◌≡◌, ℕ, ◌<◌, ◌==◌, Bool, true, false, List, [], ◌∷◌, length, map, get_or, Option, Some, None, refl, sym, ap, ◌∙◌, subst}
use Rattle.std.proofs.lemmas.Bool.{and_parts, eq-eqb, eqb-true, false≢true}
use Rattle.std.proofs.lemmas.List.Elements.{All-from_recursion, recursion_from_All}
use Rattle.std.specs.Prelude.{Any, if◌then◌else◌}
use Rattle.std.specs.List.{AllByRecursion}
use Rattle.std.specs.Option.{option_map}
use Rattle.group_defs.specs.Group.{Group, is_runner, is_running, runner}
use Rattle.group_defs.specs.Processes.{EndedValid, IsCleared, ProcValid, StateValid}
use Rattle.group_defs.specs.Valid.{GroupIsValid}
use Rattle.group_defs.specs.declared.frame.Proc.{Proc}
use Rattle.group_defs.specs.declared.frame.ProcState.{ProcState}
use Rattle.group_defs.specs.declared.frame.ProcState.TheVariants.{Running, Ended}
use Rattle.group_laws.proofs.Inside.{found_has}
use Rattle.group_laws.proofs.Lists.{any_all, any_at, any_weaker, found_is}
use Rattle.group_laws.proofs.ReplyLaws.{found_pid}
use Rattle.group_laws.proofs.SettledLaws.{rise_unique}
use Rattle.group_parts.proofs.OthersParts.{behind}
use Rattle.group_parts.specs.Kept.{StandsFor}
use Rattle.group_parts.specs.Parts.{part_of, public_part, public_process, shared_mappings}
use Rattle.proc_lease.specs.declared.process.Process.{Process}
use Rattle.run_defs.specs.Legal.{is_unleased}
use Rattle.run_defs.specs.Progress.{Lease}
use Rattle.tables.proofs.Ordered.{each_both, each_weaker}
use Rattle.group_kernel.specs.Held.{TablesView, kept_in, public_row}
use Rattle.group_kernel.specs.Leases.{part_held}
use Rattle.group_kernel.specs.declared.row.Row.{Row}
use Rattle.group_kernel.proofs.HereParts.{here_of}
use Rattle.group_kernel.proofs.RowPids.{here_at, pids_rise, public_pid}

abbrev pub IsPublicOf : List Row → Group → Type 0
IsPublicOf rows g = map public_row rows ≡ map public_process g.frame.procs

pub public_is : (t : TablesView) (leases : List Lease) (g : Group) → StandsFor leases (kept_in t) g → IsPublicOf t.rows g
unfolding public_part
public_is t leases g stands = ap (λ (x : Group). x.frame.procs) stands.public

same_state : (q : Proc) → is_running (public_process q) ≡ is_running q
same_state q = by_test (is_running q)
  where
    by_test : (t : Bool) → is_running (if t then record q { pc = 0; regs = []; maps = shared_mappings q.maps } else q) ≡ is_running q
    by_test true = refl
    by_test false = refl

same_fds : (q : Proc) → (public_process q).fds ≡ q.fds
same_fds q = by_test (is_running q)
  where
    by_test : (t : Bool) → (if t then record q { pc = 0; regs = []; maps = shared_mappings q.maps } else q).fds ≡ q.fds
    by_test true = refl
    by_test false = refl

cleared_fds : (procs : List Proc) (q : Proc) (s : ProcState) → StateValid procs q s → (elim s [ Running ↦ true | Ended status ↦ false ]) ≡ false → q.fds ≡ []
unfolding EndedValid IsCleared
cleared_fds procs q Running valid e = absurd (false≢true (sym e))
cleared_fds procs q (Ended status) valid e = valid.2.5

first_same : {X : Type 0} (a b : X) (xs ys : List X) → a ∷ xs ≡ b ∷ ys → a ≡ b
first_same a b xs ys same = cc

rest_same : {X : Type 0} (a b : X) (xs ys : List X) → a ∷ xs ≡ b ∷ ys → xs ≡ ys
rest_same a b xs ys same = cc

-- each row beside its process
module _ (g : Group) (valid : GroupIsValid g) where
  abbrev IsThere : Proc → Type 0
  IsThere q = Any (λ x. x ≡ q) g.frame.procs

  abbrev IsBeside : Row → Type 0
  IsBeside row = (q : Proc) × (public_row row ≡ public_process q) × IsThere q

  each_beside : (rows : List Row) (procs : List Proc) → map public_row rows ≡ map public_process procs → AllByRecursion IsThere procs → AllByRecursion IsBeside rows
  each_beside [] [] same there = tt
  each_beside [] (p ∷ ps) same there = absurd cc
  each_beside (row ∷ rows) [] same there = absurd cc
  each_beside (row ∷ rows) (p ∷ ps) same there = (
    (p, first_same (public_row row) (public_process p) (map public_row rows) (map public_process ps) same, there.0),
    each_beside rows ps (rest_same (public_row row) (public_process p) (map public_row rows) (map public_process ps) same) there.1,
  )

  beside : (rows : List Row) → IsPublicOf rows g → AllByRecursion IsBeside rows
  beside rows same = each_beside rows g.frame.procs same (recursion_from_All IsThere g.frame.procs (λ k d lt. any_at (λ (q : Proc). q ≡ get_or g.frame.procs k d) g.frame.procs k d lt refl))

  pid_is : (row : Row) (q : Proc) → public_row row ≡ public_process q → row.pid ≡ q.pid
  pid_is row q same = ap (λ (x : Proc). x.pid) same ∙ public_pid q

  running_is : (row : Row) (q : Proc) → public_row row ≡ public_process q → is_running (public_row row) ≡ is_running q
  running_is row q same = ap (λ (x : Proc). is_running x) same ∙ same_state q

  found_there : (n : ℕ) (p : Proc) → runner g n ≡ Some p → IsThere p
  unfolding runner
  found_there n p is = any_weaker (λ (x : Proc). (x ≡ p) × (is_runner n x ≡ true)) (λ x. x ≡ p) g.frame.procs (λ x both. both.0) (found_is (is_runner n) g.frame.procs p is)

  found_runs : (n : ℕ) (p : Proc) → runner g n ≡ Some p → is_running p ≡ true
  unfolding runner
  found_runs n p is = (and_parts (is_running p) (p.pid == n) (found_has (λ (x : Proc). Unit {0}) (is_runner n) g.frame.procs p (λ k d lt. tt) is).1).0

  found_at : (n : ℕ) (p : Proc) → runner g n ≡ Some p → p.pid ≡ n
  unfolding runner
  found_at n p is = found_pid g.frame.procs n p is

  -- an ended process has no descriptors
  ended_fds : (q : Proc) → IsThere q → is_running q ≡ false → q.fds ≡ []
  unfolding ProcValid
  ended_fds q there e = of_any (any_all (λ (x : Proc). x ≡ q) (ProcValid g.frame.procs) g.frame.procs there valid.sound.frame.procs.states)
    where
      of_any : Any (λ (x : Proc). (x ≡ q) × ProcValid g.frame.procs x) g.frame.procs → q.fds ≡ []
      of_any (k, x, lt, is, both) =
          let state : ProcValid g.frame.procs q = subst (ProcValid g.frame.procs) both.0 both.1 in
          cleared_fds g.frame.procs q q.state state e

  closed_by : (row : Row) → IsBeside row → is_running (public_row row) ≡ false → row.fds.entries ≡ []
  closed_by row (q, same, there) e = ap (λ (x : Proc). x.fds) same ∙ same_fds q ∙ ended_fds q there (sym (running_is row q same) ∙ e)

  pub closed_rows : (rows : List Row) → IsPublicOf rows g → AllByRecursion (λ (row : Row). is_running (public_row row) ≡ false → row.fds.entries ≡ []) rows
  closed_rows rows same = each_weaker IsBeside (λ (row : Row). is_running (public_row row) ≡ false → row.fds.entries ≡ []) rows closed_by (beside rows same)

  -- ---- the row of a process that runs
  module _ (pid : ℕ) (p : Proc) (is : runner g pid ≡ Some p) where
    pub own_pid : p.pid ≡ pid
    own_pid = found_at pid p is

    pub own_runs : is_running p ≡ true
    own_runs = found_runs pid p is

    own_by : (row : Row) → IsBeside row → (row.pid == p.pid) ≡ true → public_row row ≡ public_process p
    own_by row (q, same, there) e =
        same ∙ ap public_process (rise_unique (λ (x : Proc). x.pid) g.frame.procs q p valid.sound.frame.procs.rise there (found_there pid p is) (sym (pid_is row q same) ∙ eqb-true row.pid p.pid e))

    pub own_rows : (rows : List Row) → IsPublicOf rows g → AllByRecursion (λ (row : Row). (row.pid == p.pid) ≡ true → public_row row ≡ public_process p) rows
    own_rows rows same = each_weaker IsBeside (λ (row : Row). (row.pid == p.pid) ≡ true → public_row row ≡ public_process p) rows own_by (beside rows same)

    -- its shared mappings stand there
    pub own_shared : (rows : List Row) → IsPublicOf rows g → (place : ℕ) (d : Row) → place < length rows → (get_or rows place d).pid ≡ pid → (get_or rows place d).shared ≡ shared_mappings p.maps
    own_shared rows same place d lt at =
        ap (λ (x : Proc). x.maps) (All-from_recursion (λ (row : Row). (row.pid == p.pid) ≡ true → public_row row ≡ public_process p) rows (own_rows rows same) place d lt (eq-eqb (get_or rows place d).pid p.pid (at ∙ sym own_pid)))
        ∙ ap (λ (b : Bool). let w : Proc = if b then record p { pc = 0; regs = []; maps = shared_mappings p.maps } else p in w.maps) own_runs

  -- ---- an ended process has no private part
  none_by : (t : TablesView) (leases : List Lease) → StandsFor leases (kept_in t) g → (row : Row) → IsBeside row → here_of t.rows row.pid ≡ option_map part_held row.process → is_running (public_row row) ≡ false → row.process ≡ None
  none_by t leases stands row (q, same, there) here e = by_process row.process refl
    where
      never : (x : Process) → part_of g row.pid ≡ Some (part_held x) → false ≡ true
      never x is =
          let (r, runs, its) = behind g row.pid (part_held x) is in
          let one : r ≡ q = rise_unique (λ (y : Proc). y.pid) g.frame.procs r q valid.sound.frame.procs.rise (found_there row.pid r runs) there (found_at row.pid r runs ∙ pid_is row q same) in
          sym (sym (running_is row q same) ∙ e) ∙ sym (ap (λ (y : Proc). is_running y) one) ∙ found_runs row.pid r runs

      by_lease : (x : Process) (b : Bool) → Some (part_held x) ≡ (if b then part_of g row.pid else None) → part_of g row.pid ≡ Some (part_held x)
      by_lease x true is = sym is
      by_lease x false is = absurd cc

      by_process : (o : Option Process) → row.process ≡ o → row.process ≡ None
      by_process None f = f
      by_process (Some x) f = absurd (false≢true (never x (by_lease x (is_unleased leases row.pid) (sym (here ∙ ap (option_map part_held) f) ∙ stands.here row.pid))))

  pub none_rows : (t : TablesView) (leases : List Lease) → StandsFor leases (kept_in t) g → AllByRecursion (λ (row : Row). is_running (public_row row) ≡ false → row.process ≡ None) t.rows
  none_rows t leases stands =
      each_both IsBeside (λ (row : Row). here_of t.rows row.pid ≡ option_map part_held row.process) (λ (row : Row). is_running (public_row row) ≡ false → row.process ≡ None) t.rows (none_by t leases stands) (beside t.rows (public_is t leases g stands))
      (recursion_from_All (λ (row : Row). here_of t.rows row.pid ≡ option_map part_held row.process) t.rows (λ k d lt. here_at t.rows k d (pids_rise t leases g stands valid) lt))
