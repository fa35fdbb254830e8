-- A kernel that hands out a lease, and one that takes it back: what its calls need, and what stands after them.
use Rattle.std.proofs.Common.{◌≡◌, ◌≢◌, ◌⊎◌, inl, inr, ℕ, zero, suc, ◌+◌, ◌-◌, ◌++◌, ◌<◌, ◌≤◌, ◌==◌, ◌&&◌, ◌||◌, max, Bool, true, false, not, List, [], ◌∷◌, length, map, get_or, Option, Some, None, refl, sym, ap, ◌∙◌, arith, subst, length-append, append-nil}
use Rattle.std.proofs.Math.Bool.{or-true}
use Rattle.std.proofs.lemmas.Bool.{eq-eqb, eqb-true, false≢true}
use Rattle.std.proofs.lemmas.Bool.Decides.{nat_tests}
use Rattle.std.proofs.lemmas.List.Elements.{All-from_recursion, recursion_from_All}
use Rattle.std.proofs.lemmas.List.Folds.{list_any-append}
use Rattle.std.specs.Prelude.{All, IfSome, IsTrue, if◌then◌else◌, nat_le}
use Rattle.std.specs.List.{AllByRecursion, filter, find, list_any}
use Rattle.std.specs.Option.{option_map}
use Rattle.group_defs.specs.Group.{Group, is_runner, is_running, runner}
use Rattle.group_defs.specs.Standing.{State}
use Rattle.group_defs.specs.Step.{group_step, is_local}
use Rattle.group_defs.specs.Valid.{GroupIsValid, OutValid}
use Rattle.group_defs.specs.declared.frame.Proc.{Proc}
use Rattle.group_parts.specs.Kept.{KeptParts, StandsFor, kept_part}
use Rattle.group_parts.specs.Leases.{IsLeaseOf, LeasesStand}
use Rattle.group_parts.specs.Local.{is_local_part, pages_of_steps}
use Rattle.group_parts.specs.Parts.{IsApart, PrivatePart, part_of, public_part}
use Rattle.group_parts.proofs.Apart.{valid_apart}
use Rattle.group_parts.proofs.Callers.{taken_here}
use Rattle.group_parts.proofs.KeptLaws.{back_stands, take_begins, turn_allowed}
use Rattle.group_parts.proofs.LeasesKept.{marks_stand, start_stands}
use Rattle.group_parts.proofs.OthersParts.{behind}
use Rattle.group_parts.proofs.Unleased.{unleased_turned}
use Rattle.proc_lease.specs.Private.{ObjectView, views_of}
use Rattle.proc_lease.specs.declared.process.Process.{Process}
use Rattle.proc_lease.specs.declared.lease.Lease as lent
use Rattle.run_defs.specs.Legal.{TakeAllowed, TurnAllowed, is_idle, is_unleased, next_pid, ready}
use Rattle.run_defs.specs.Progress.{Lease, Progress, after_mark, is_lease, leases_after_turn, progress_at}
use Rattle.run_defs.specs.Turns.{does_something, steps_of}
use Rattle.run_defs.specs.declared.run.Limits.{Limits}
use Rattle.run_defs.specs.declared.run.Mark.{Mark}
use Rattle.run_defs.specs.declared.run.Mark.TheVariants.{Take, Turn}
use Rattle.run_laws.proofs.LegalLaws.{in_order}
use Rattle.run_laws.proofs.ReadyLaws.{next_some}
use Rattle.run_laws.proofs.RunLaws.{each_in_valid, each_step_valid, run_valid}
use Rattle.run_laws.specs.Order.{IsInOrder}
use Rattle.shadow_chains.specs.Entries.{number_of}
use Rattle.tables.specs.Rising.{Rise}
use Rattle.group_kernel.specs.Calls.{HasOnlyServedTables, HasTaken, IsNoneTaken}
use Rattle.group_kernel.specs.Faces.{AllStandOver, base_memory}
use Rattle.group_kernel.specs.Held.{FacesStandOver, FileFacesOfFiles, TablesView, kept_in, pid_at, with_process}
use Rattle.group_kernel.specs.Leases.{IsLeased, MayGive, part_held}
use Rattle.group_kernel.specs.Placed.{process_at}
use Rattle.group_kernel.specs.SameTables.{IsSameTables}
use Rattle.group_kernel.specs.SeenTables.{AllSeenFit}
use Rattle.proc_lease.specs.Sight.{SeenFits, seen_by}
use Rattle.group_kernel.specs.Standing.{HasRoom, IsCountOf, IsPrepared, Stands}
use Rattle.group_kernel.specs.Steps.{MakesStep}
use Rattle.group_kernel.specs.View.{KernelView, logged, progress_of}
use Rattle.group_kernel.specs.declared.ckpt.Ckpt.{Ckpt}
use Rattle.group_kernel.specs.declared.ckpt.Prepared.{Prepared}
use Rattle.group_kernel.specs.declared.log.Log.{Log}
use Rattle.group_kernel.specs.declared.row.Row.{Row}
use Rattle.group_kernel.proofs.AccessSteps.{given_fits}
use Rattle.group_kernel.proofs.Gives.{give_short, give_whole}
use Rattle.group_kernel.proofs.HereParts.{HasRow, has_row, public_same, puts_here}
use Rattle.group_kernel.proofs.OtherRows.{all_seen_fit, rows_rise}
use Rattle.group_kernel.proofs.RowPids.{here_at, same_pids}
use Rattle.group_kernel.proofs.RowPlaces.{ordered_pids, pid_at_is, process_at_is, some_row}
use Rattle.group_kernel.proofs.ServedKept.{step_keeps_served}
use Rattle.group_kernel.proofs.Standings.{one_more, stands_at, stands_logged}
use Rattle.group_kernel.proofs.TablesKept.{faces_stay_over, kept_stays, owners_stay}
use Rattle.group_kernel.proofs.Takes.{take_leaves}

-- a process that runs has a row
no_runner : (pid : ℕ) (procs : List Proc) → AllByRecursion (λ (n : ℕ). n ≢ pid) (map (λ (p : Proc). p.pid) procs) → find (is_runner pid) procs ≡ None
no_runner pid [] none = refl
no_runner pid (p ∷ ps) none = by_test (no_runner pid ps none.1) (p.pid == pid) refl (is_running p)
  where
    by_test : find (is_runner pid) ps ≡ None → (b : Bool) → (p.pid == pid) ≡ b → (c : Bool) → (if c && (p.pid == pid) then Some p else find (is_runner pid) ps) ≡ None
    by_test rest true e c = absurd (none.0 (eqb-true p.pid pid e))
    by_test rest false e true = rw e rest
    by_test rest false e false = rest

pids_differ : (pid : ℕ) (rows : List Row) → AllByRecursion (λ (row : Row). row.pid ≢ pid) rows → AllByRecursion (λ (n : ℕ). n ≢ pid) (map (λ (row : Row). row.pid) rows)
pids_differ pid [] each = tt
pids_differ pid (row ∷ rows) each = (each.0, pids_differ pid rows each.1)

has_lease : (t : Lease → Bool) (leases : List Lease) → list_any t leases ≡ true → 1 ≤ length leases
has_lease t [] out = absurd (false≢true out)
has_lease t (l ∷ ls) out = omega arith

none_next : (last : ℕ) (pids : List ℕ) → next_pid last pids ≡ None → pids ≡ []
none_next last [] none = refl
none_next last (x ∷ xs) none = let (pid, is) = next_some last x xs in let bad : Some pid ≡ None = sym is ∙ none in absurd cc

none_touched : (touched : List (ℕ × ℕ)) (part : PrivatePart) → touched ++ pages_of_steps part 0 ≡ touched
unfolding pages_of_steps
none_touched touched part = append-nil touched

-- a lease over what stands
record HasLease (r : Progress) (worker pid done : ℕ) (process : Process) : Type 0 where
  pub out : IsTrue (list_any (is_lease worker pid) r.leases)
  pub part : IsLeaseOf r.state.group pid done (part_held process)
  pub faces : AllStandOver (base_memory r) (r.touched ++ pages_of_steps part.taken done) (views_of process.faces.entries)

abbrev IsReserved : Log → Log → Type 0
IsReserved log log' = log' ≡ record log { marks = log'.marks }

module _ (v : KernelView) (t : TablesView) (log : Log) (prepared : Option Prepared) (frozen : Option Ckpt) (s : Stands v t log prepared frozen) where
  abbrev r : Progress
  r = progress_of v

  order : IsInOrder v.limits v.origin_epoch r
  order = in_order v.start v.origin_epoch v.limits v.marks s.legal

  pub valid : GroupIsValid r.state.group
  valid = (run_valid v.limits v.origin_epoch s.limits v.start s.start_valid s.unworn.numbers v.marks s.legal).0

  stand : LeasesStand r
  stand =
      marks_stand v.limits (progress_at v.origin_epoch v.start) v.marks (each_in_valid v.limits v.origin_epoch s.limits v.start [] v.marks s.start_valid s.unworn.numbers s.legal)
      (start_stands v.origin_epoch v.start)

  -- ---- what the calls below need

  pub order_of_log : (log.fetched ≤ log.last) × (log.last ≤ log.fetched + 1) × (log.acked ≤ log.last) × (log.last ≤ log.acked + 1)
  order_of_log =
      let x = order.fetched in let y = order.made in let z = order.one_open in
      let last = s.counts.last in let fetched = s.counts.fetched in let acked = s.counts.acked in
      (omega (arith, x, y, z, last, fetched, acked), omega (arith, x, y, z, last, fetched, acked), omega (arith, x, y, z, last, fetched, acked), omega (arith, x, y, z, last, fetched, acked))

  pub not_over : (log.turns_since + log.leases ≤ v.limits.every) × (log.turns + log.leases ≤ v.limits.turns)
  not_over =
      let x = order.interval in let y = order.turns in let a = s.counts.turns in let b = s.counts.turns_since in let c = s.counts.leases in
      (omega (arith, x, a, b, c), omega (arith, y, a, b, c))

  pub few_leases : log.leases ≤ 10000
  few_leases = let x = not_over.0 in let y = s.limits.every.1 in omega (arith, x, y)

  pub few_turns : (log.turns ≤ 1000000) × (log.turns_since ≤ 10000)
  few_turns =
      let x = not_over.0 in let y = s.limits.every.1 in let z = not_over.1 in let u = s.limits.turns.1 in
      (omega (arith, z, u), omega (arith, x, y))

  pub pids_rising : Rise (λ row. row.pid) t.rows
  pids_rising = rows_rise t r.leases r.state.group s.stands valid

  pub each_fits : AllSeenFit t
  each_fits = all_seen_fit t r.leases r.state.group s.stands valid s.faces.files

  pub out_is_valid : OutValid t.io.out
  unfolding public_part
  out_is_valid = subst OutValid (sym (ap (λ (x : Group). x.frame.out) s.stands.public)) valid.sound.frame.out.positions

  -- ---- none taken

  pub none_by_limits : (nat_le v.limits.every (log.turns_since + log.leases) || nat_le v.limits.turns (log.turns + log.leases)) ≡ true → IsNoneTaken v
  none_by_limits full = by_test (nat_le v.limits.every (log.turns_since + log.leases)) refl full
    where
      by_test : (b : Bool) → nat_le v.limits.every (log.turns_since + log.leases) ≡ b → (b || nat_le v.limits.turns (log.turns + log.leases)) ≡ true → IsNoneTaken v
      by_test true e over = let le : v.limits.every ≤ log.turns_since + log.leases = grind (arith, nat_tests, e) in let b = s.counts.turns_since in let c = s.counts.leases in inr (inl (omega (arith, le, b, c)))
      by_test false e over = let le : v.limits.turns ≤ log.turns + log.leases = grind (arith, nat_tests, over) in let b = s.counts.turns in let c = s.counts.leases in inr (inr (inl (omega (arith, le, b, c))))

  pub none_by_next : next_pid log.taken (filter (is_unleased r.leases) (ready r.state)) ≡ None → IsNoneTaken v
  none_by_next none = inr (inr (inr (none_next log.taken (filter (is_unleased r.leases) (ready r.state)) none)))

  pub next_at : (o : Option ℕ) → ((x : State) (leases : List Lease) → StandsFor leases (kept_in t) x.group → GroupIsValid x.group → HasOnlyServedTables x.group.frame → FileFacesOfFiles t → next_pid log.taken (filter (is_unleased leases) (ready x)) ≡ option_map (pid_at t) o)
      → next_pid log.taken (filter (is_unleased r.leases) (ready r.state)) ≡ option_map (pid_at t) o
  next_at o gives = gives r.state r.leases s.stands valid s.served s.faces.files

  -- ---- the Take

  module _ (worker place : ℕ) (one : worker < max 1 v.limits.workers) (idle : IsTrue (is_idle r.leases worker)) (lt : place < length t.rows)
      (next : next_pid log.taken (filter (is_unleased r.leases) (ready r.state)) ≡ Some (pid_at t place)) (room : (nat_le v.limits.every (log.turns_since + log.leases) || nat_le v.limits.turns (log.turns + log.leases)) ≡ false) where
    abbrev pid : ℕ
    pid = pid_at t place

    pub allowed : TakeAllowed v.limits r worker pid
    allowed = record {
      worker_is = one;
      idle = idle;
      next = subst (λ (n : ℕ). next_pid n (filter (is_unleased r.leases) (ready r.state)) ≡ Some pid) s.counts.taken next;
      interval = let b = s.counts.turns_since in let c = s.counts.leases in let le = (halves (nat_le v.limits.every (log.turns_since + log.leases)) (nat_le v.limits.turns (log.turns + log.leases)) room).0 in let lt' : log.turns_since + log.leases < v.limits.every = grind (arith, nat_tests, le) in omega (arith, lt', b, c);
      turns = let b = s.counts.turns in let c = s.counts.leases in let le = (halves (nat_le v.limits.every (log.turns_since + log.leases)) (nat_le v.limits.turns (log.turns + log.leases)) room).1 in let lt' : log.turns + log.leases < v.limits.turns = grind (arith, nat_tests, le) in omega (arith, lt', b, c);
    }
      where
        halves : (a b : Bool) → (a || b) ≡ false → (a ≡ false) × (b ≡ false)
        halves true b e = absurd (false≢true (sym e))
        halves false b e = (refl, e)

    d : Row
    d = some_row t.rows place lt

    part_there : kept_part (kept_in t).here pid ≡ option_map part_held (process_at t place)
    part_there =
        ap (kept_part (kept_in t).here) (pid_at_is t place d lt) ∙ here_at t.rows place d (ordered_pids t.rows pids_rising) lt ∙ ap (option_map part_held) (sym (process_at_is t place d lt))

    -- its process is here
    pub is_here : process_at t place ≡ None → ⊥
    is_here none =
        let (part, there) = taken_here v.limits r (kept_in t) worker pid s.stands allowed in
        let bad : Some part ≡ None = sym there ∙ part_there ∙ ap (option_map part_held) none in
        absurd cc

    leased_at : (process : Process) → process_at t place ≡ Some process → HasLease (after_mark v.limits.quantum r (Take worker pid)) worker pid 0 process
    leased_at process is = record {
      out = list_any-append (is_lease worker pid) r.leases (record { worker = worker; pid = pid; moved = false } ∷ [])
          ∙ ap (λ (b : Bool). list_any (is_lease worker pid) r.leases || (b || false)) itself ∙ or-true (list_any (is_lease worker pid) r.leases);
      part = begins;
      faces = subst (λ (l : List (ℕ × ℕ)). AllStandOver (base_memory r) l (views_of process.faces.entries)) (sym (none_touched r.touched begins.taken)) over;
    }
      where
        itself : ((worker == worker) && (pid == pid)) ≡ true
        itself = ap (λ (b : Bool). b && (pid == pid)) (eq-eqb worker worker refl) ∙ eq-eqb pid pid refl

        begins : IsLeaseOf r.state.group pid 0 (part_held process)
        begins = take_begins v.limits r (kept_in t) worker pid (part_held process) s.stands allowed (part_there ∙ ap (option_map part_held) is)

        over : AllStandOver (base_memory r) r.touched (views_of process.faces.entries)
        over = subst (λ (o : Option Process). IfSome o (λ p. AllStandOver (base_memory r) r.touched (views_of p.faces.entries))) (sym (process_at_is t place d lt) ∙ is) (s.faces.private place d lt)

    pub leased : (process : Process) → process_at t place ≡ Some process → Rise number_of process.faces.entries → IsLeased (logged v (Take worker pid) false) worker (record { pid = pid; done = 0; process = process })
    leased process is rise =
        let has : HasLease (progress_of (logged v (Take worker pid) false)) worker pid 0 process =
        subst (λ (x : Progress). HasLease x worker pid 0 process) (sym (one_more v (Take worker pid) false)) (leased_at process is) in
        record { out = has.out; once = rise; part = has.part; faces = has.faces }

    pub take_stands_after : (log1 log2 : Log) (t' : TablesView) (marks : List Mark) → IsReserved log log1 → log2 ≡ record log1 { marks = log2.marks; leases = log1.leases + 1; taken = pid } → HasRoom log2 0
        → t' ≡ with_process t pid None → marks ≡ v.marks ++ Take worker pid ∷ [] → Stands (record v { marks = marks; prepared = false }) t' log2 None frozen
    take_stands_after log1 log2 t' marks e1 e2 enough tables more =
        subst (λ (x : TablesView). Stands (record v { marks = marks; prepared = false }) x log2 None frozen) (sym tables)
        (subst (λ (l : List Mark). Stands (record v { marks = l; prepared = false }) (with_process t pid None) log2 None frozen) (sym more)
        (stands_logged v (Take worker pid) false t (with_process t pid None) log log2 prepared None frozen frozen s allowed
        (take_leaves v.limits r worker pid t log log2 prepared frozen (stands_at v t log prepared frozen s) allowed
        (e2 ∙ ap (λ (l : Log). record l { marks = log2.marks; leases = l.leases + 1; taken = pid }) e1) enough)))

    -- ... with the pid as it stands in the row
    module _ (named : ℕ) (e : named ≡ pid) where
      pub taken_stands : (log1 log2 : Log) (t' : TablesView) (marks : List Mark) → IsReserved log log1 → log2 ≡ record log1 { marks = log2.marks; leases = log1.leases + 1; taken = named } → HasRoom log2 0
          → t' ≡ with_process t pid None → marks ≡ v.marks ++ Take worker named ∷ [] → Stands (record v { marks = marks; prepared = false }) t' log2 None frozen
      taken_stands log1 log2 t' marks e1 e2 enough tables more =
          take_stands_after log1 log2 t' marks e1 (subst (λ (n : ℕ). log2 ≡ record log1 { marks = log2.marks; leases = log1.leases + 1; taken = n }) e e2) enough tables
          (subst (λ (n : ℕ). marks ≡ v.marks ++ Take worker n ∷ []) e more)

      pub has_taken : (process : Process) (marks : List Mark) → process_at t place ≡ Some process → Rise number_of process.faces.entries → v.stopped ≡ false → marks ≡ v.marks ++ Take worker named ∷ []
          → HasTaken v (record v { marks = marks; prepared = false }) worker (record { pid = named; done = 0; process = process })
      has_taken process marks is rise running more =
          subst (λ (l : List Mark). HasTaken v (record v { marks = l; prepared = false }) worker (record { pid = named; done = 0; process = process })) (sym more)
          (subst (λ (n : ℕ). HasTaken v (logged v (Take worker n) false) worker (record { pid = n; done = 0; process = process })) (sym e)
          (record { running = running; allowed = allowed; log = refl; no_steps = refl; leased = leased process is rise }))

      pub taken_seen : (old : KernelView) → v ≡ old → (process : Process) (marks : List Mark) → process_at t place ≡ Some process → Rise number_of process.faces.entries → v.stopped ≡ false → marks ≡ v.marks ++ Take worker named ∷ []
          → HasTaken old (record v { marks = marks; prepared = false }) worker (record { pid = named; done = 0; process = process })
      taken_seen old is_old process marks is rise running more =
          subst (λ (x : KernelView). HasTaken x (record v { marks = marks; prepared = false }) worker (record { pid = named; done = 0; process = process })) is_old (has_taken process marks is rise running more)

  -- ---- the log alone, and tables that stay

  pub same_after : (log' : Log) (t' : TablesView) (marks : List Mark) (is_prepared : Bool) → IsSameTables t t' → IsReserved log log' → HasRoom log' 0 → marks ≡ v.marks → Stands (record v { marks = marks; prepared = is_prepared }) t' log' None frozen
  same_after log' t' marks is_prepared same e room equal = subst (λ (l : List Mark). Stands (record v { marks = l; prepared = is_prepared }) t' log' None frozen) (sym equal) (record {
    start_valid = s.start_valid;
    unworn = s.unworn;
    limits = s.limits;
    legal = s.legal;
    stands = subst (λ (k : KeptParts). StandsFor r.leases k r.state.group) (sym (kept_stays t t' same)) s.stands;
    faces = faces_stay_over t t' same (base_memory r) r.touched s.faces;
    owners = owners_stay t t' same s.owners;
    served = s.served;
    counts = record {
      turns = ap (λ (l : Log). l.turns) e ∙ s.counts.turns;
      turns_since = ap (λ (l : Log). l.turns_since) e ∙ s.counts.turns_since;
      leases = ap (λ (l : Log). l.leases) e ∙ s.counts.leases;
      taken = ap (λ (l : Log). l.taken) e ∙ s.counts.taken;
      last = ap (λ (l : Log). l.last) e ∙ s.counts.last;
      fetched = ap (λ (l : Log). l.fetched) e ∙ s.counts.fetched;
      acked = ap (λ (l : Log). l.acked) e ∙ s.counts.acked;
    };
    room = room;
    prepared_is = tt;
    frozen_is = s.frozen_is;
    fetched = λ none. ap (λ (l : Log). l.fetched) e ∙ s.fetched none ∙ sym (ap (λ (l : Log). l.last) e);
  })

  -- where no memory was found for a Take's mark
  pub reserved_after : (log' : Log) (marks : List Mark) → IsReserved log log' → ((n : ℕ) → HasRoom log n → HasRoom log' n) → marks ≡ v.marks → Stands (record v { marks = marks }) t log' prepared frozen
  reserved_after log' marks e stays equal =
      let at : Stands (record v { marks = marks; prepared = v.prepared }) t log' None frozen = same_after log' t marks v.prepared (record { rows = refl; objects = refl; shared = refl; io = refl }) e (stays 0 s.room) equal in
      let here : IfSome prepared (IsPrepared r t log') = by_prepared prepared s.prepared_is in
      record {
        start_valid = at.start_valid;
        unworn = at.unworn;
        limits = at.limits;
        legal = at.legal;
        stands = at.stands;
        faces = at.faces;
        owners = at.owners;
        served = at.served;
        counts = at.counts;
        room = at.room;
        prepared_is = subst (λ (l : List Mark). IfSome prepared (IsPrepared (progress_of (record v { marks = l })) t log')) (sym equal) here;
        frozen_is = at.frozen_is;
        fetched = at.fetched;
      }
    where
      by_prepared : (o : Option Prepared) → IfSome o (IsPrepared r t log) → IfSome o (IsPrepared r t log')
      by_prepared None is = tt
      by_prepared (Some p) is = record { room = stays 3 is.room; frame = is.frame; places = is.places; ready = is.ready }

  -- ---- the Turn

  module _ (worker : ℕ) (lease : lent.Lease) (l : IsLeased v worker lease) (may : MayGive v.limits.quantum lease) where
    abbrev did : Bool
    did = does_something r.state lease.pid lease.done

    turn : TurnAllowed v.limits r worker lease.pid lease.done
    turn = turn_allowed v.limits r worker lease.pid lease.done (part_held lease.process) stand (valid_apart r.state.group valid) l.out l.part may

    pub one_leased : 1 ≤ log.leases
    one_leased = let one = has_lease (is_lease worker lease.pid) r.leases l.out in let c = s.counts.leases in omega (arith, one, c)

    pub has_place : All (λ row. row.pid ≢ lease.pid) t.rows → ⊥
    unfolding runner
    has_place none =
        let (p, found, same) = behind r.state.group lease.pid l.part.taken l.part.taken_is in
        let bad : Some p ≡ None = sym found
        ∙ no_runner lease.pid r.state.group.frame.procs (subst (AllByRecursion (λ (n : ℕ). n ≢ lease.pid)) (same_pids t r.leases r.state.group s.stands) (pids_differ lease.pid t.rows (recursion_from_All (λ (row : Row). row.pid ≢ lease.pid) t.rows none))) in
        absurd cc

    module _ (place : ℕ) (lt : place < length t.rows) (at : pid_at t place ≡ lease.pid) where
      its : Row
      its = some_row t.rows place lt

      row : HasRow t.rows lease.pid
      row = subst (HasRow t.rows) (sym (pid_at_is t place its lt) ∙ at) (has_row t.rows place its lt)

      step_valid : GroupIsValid (steps_of r.state lease.pid lease.done).group
      step_valid = (each_step_valid v.limits v.origin_epoch s.limits v.start s.start_valid s.unworn.numbers v.marks s.legal lease.pid lease.done turn.turn.within).0

      back : StandsFor (leases_after_turn worker lease.pid did r.leases) (kept_in (with_process t lease.pid (Some lease.process))) (steps_of r.state lease.pid lease.done).group
      back =
          subst (λ (x : Group). StandsFor (leases_after_turn worker lease.pid did r.leases) (record { public = x; here = (kept_in (with_process t lease.pid (Some lease.process))).here }) (steps_of r.state lease.pid lease.done).group)
          (sym (public_same t lease.pid (Some lease.process)))
          (back_stands r worker lease.pid lease.done (part_held lease.process) stand (valid_apart r.state.group valid) l.out l.part (kept_in t) (kept_in (with_process t lease.pid (Some lease.process))).here did s.stands (puts_here t lease.pid lease.process row))

      free : is_unleased (leases_after_turn worker lease.pid did r.leases) lease.pid ≡ true
      free = unleased_turned r.leases worker lease.pid did lease.pid stand.once l.out ∙ ap (λ (b : Bool). if b then true else is_unleased r.leases lease.pid) (eq-eqb lease.pid lease.pid refl)

      pub given_sees : SeenFits (seen_by lease.process t.shared)
      given_sees =
          given_fits t place lease.process lt s.faces.files (leases_after_turn worker lease.pid did r.leases) (steps_of r.state lease.pid lease.done).group step_valid
          (ap (is_unleased (leases_after_turn worker lease.pid did r.leases)) at ∙ free)
          (subst (λ (n : ℕ). StandsFor (leases_after_turn worker lease.pid did r.leases) (kept_in (with_process t n (Some lease.process))) (steps_of r.state lease.pid lease.done).group) (sym at) back)

      module _ (log1 log2 : Log) (marks : List Mark) (e1 : IsReserved log log1) (e2 : log2 ≡ record log1 { marks = log2.marks; leases = log1.leases - 1; turns = log1.turns + 1; turns_since = log1.turns_since + 1 })
          (enough : HasRoom log2 0) (more : marks ≡ v.marks ++ Turn worker lease.pid lease.done ∷ []) where
        is_logged : log2 ≡ record log { marks = log2.marks; leases = log.leases - 1; turns = log.turns + 1; turns_since = log.turns_since + 1 }
        is_logged = e2 ∙ ap (λ (x : Log). record x { marks = log2.marks; leases = x.leases - 1; turns = x.turns + 1; turns_since = x.turns_since + 1 }) e1

        pub whole_after : (t' : TablesView) → lease.done ≡ v.limits.quantum → t' ≡ with_process t (pid_at t place) (Some lease.process) → Stands (record v { marks = marks; prepared = false }) t' log2 None frozen
        whole_after t' whole tables =
            subst (λ (x : TablesView). Stands (record v { marks = marks; prepared = false }) x log2 None frozen) (sym (tables ∙ ap (λ (n : ℕ). with_process t n (Some lease.process)) at))
            (subst (λ (x : List Mark). Stands (record v { marks = x; prepared = false }) (with_process t lease.pid (Some lease.process)) log2 None frozen) (sym more)
            (stands_logged v (Turn worker lease.pid lease.done) false t (with_process t lease.pid (Some lease.process)) log log2 prepared None frozen frozen s turn
            (give_whole v.limits r t log log2 prepared frozen (stands_at v t log prepared frozen s) valid stand worker lease.pid lease.done lease.process l.out l.part l.faces row is_logged enough whole)))

        pub short_after : (t' : TablesView) → (lease.done ≡ v.limits.quantum → ⊥) → MakesStep (with_process t (pid_at t place) (Some lease.process)) t' (pid_at t place) → Stands (record v { marks = marks; prepared = false }) t' log2 None frozen
        short_after t' short makes =
            let within = turn.turn.within in
            let less : lease.done < v.limits.quantum = by_end may in
            subst (λ (x : List Mark). Stands (record v { marks = x; prepared = false }) t' log2 None frozen) (sym more)
            (stands_logged v (Turn worker lease.pid lease.done) false t t' log log2 prepared None frozen frozen s turn
            (give_short v.limits r t log log2 prepared frozen (stands_at v t log prepared frozen s) valid stand worker lease.pid lease.done lease.process l.out l.part l.faces row is_logged enough t' less step_valid (turn.turn.no_more less)
            (λ durable g is served. step_keeps_served durable g lease.pid served)
            (subst (λ (n : ℕ). MakesStep (with_process t n (Some lease.process)) t' n) at makes)))
          where
            by_end : MayGive v.limits.quantum lease → lease.done < v.limits.quantum
            by_end (inl same) = absurd (short same)
            by_end (inr less) = less.0

        pub given_stands : (t' : TablesView) → ((lease.done == v.limits.quantum) ≡ true → t' ≡ with_process t (pid_at t place) (Some lease.process)) → ((lease.done == v.limits.quantum) ≡ false → MakesStep (with_process t (pid_at t place) (Some lease.process)) t' (pid_at t place))
            → Stands (record v { marks = marks; prepared = false }) t' log2 None frozen
        given_stands t' whole step = by_test (lease.done == v.limits.quantum) refl
          where
            by_test : (b : Bool) → (lease.done == v.limits.quantum) ≡ b → Stands (record v { marks = marks; prepared = false }) t' log2 None frozen
            by_test true e = whole_after t' (eqb-true lease.done v.limits.quantum e) (whole e)
            by_test false e = short_after t' (λ same. false≢true (sym e ∙ eq-eqb lease.done v.limits.quantum same)) (step e)
