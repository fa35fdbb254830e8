-- A served call, as a step of the tables.
use Rattle.std.proofs.Common.{◌≡◌, ℕ, ◌<◌, ◌==◌, ◌++◌, Bool, true, false, List, [], length, map, get_or, Option, Some, None, refl, sym, ap, ◌∙◌, subst}
use Rattle.std.proofs.lemmas.Bool.{eqb-true}
use Rattle.std.specs.Prelude.{if◌then◌else◌}
use Rattle.descriptors.specs.Opens.{descriptions}
use Rattle.descriptors.specs.Owners.{OwnersAre}
use Rattle.descriptors.specs.declared.opens.Open.{Open}
use Rattle.descriptors.specs.declared.opens.OpenKind.{OpenKind}
use Rattle.descriptors.specs.declared.opens.OpenKind.TheVariants.{Nothing, Outside, File, PipeRead, PipeWrite, PairEnd}
use Rattle.group_defs.specs.Calls.{Reply, waits, refuses, answers, ends, fd_of}
use Rattle.group_defs.specs.Cells.{sight, with_writes}
use Rattle.group_defs.specs.Changes.{open_at, with_out}
use Rattle.group_defs.specs.Group.{Group, regs_of, runner}
use Rattle.group_defs.specs.Pages.{pages_of_file_write, pages_of_writes, pages_written_to, touched_beside, touched_by_reply, touched_with_step}
use Rattle.group_defs.specs.Step.{after_effect, after_reply, effect_in, group_step, reply_to}
use Rattle.group_defs.specs.declared.frame.Out.{Out}
use Rattle.group_defs.specs.declared.frame.Proc.{Proc}
use Rattle.group_laws.proofs.OthersStay.{step_is}
use Rattle.group_parts.proofs.Served.{answer_served, refusal_served, wait_served}
use Rattle.group_parts.specs.Kept.{PutsPart, StandsFor, kept_part}
use Rattle.group_parts.specs.Parts.{PrivatePart, part_in, public_part, public_process}
use Rattle.group_kernel.specs.Held.{FacesStandOver, FileFacesOfFiles, TablesView, kept_in, pid_at, public_row, with_process}
use Rattle.group_kernel.specs.Leases.{part_held}
use Rattle.syscalls_io.specs.Outside.{is_at_outside, is_outside}
use Rattle.group_kernel.specs.ServedCalls.{CallEnd, after_call, call_end}
use Rattle.proc_lease.specs.Sight.{cells_between}
use Rattle.group_kernel.specs.Standing.{OwnersCounted}
use Rattle.group_kernel.specs.Stepping.{HasCalled}
use Rattle.group_kernel.specs.Steps.{ComesToEnd, MakesStep, StandsBefore}
use Rattle.group_kernel.specs.declared.calls.StepEnd.{StepEnd}
use Rattle.group_kernel.specs.declared.calls.StepEnd.TheVariants.{Ends, GoesOn}
use Rattle.syscalls_io.specs.declared.io_tables.IoTables.{IoTables}
use Rattle.group_kernel.specs.declared.row.Row.{Row}
use Rattle.group_kernel.proofs.AccessSteps.{faces_after, public_after, puts_after, runs, same_rows, touched_is}
use Rattle.group_kernel.proofs.AnsweredCalls.{ComesOf, call_comes}
use Rattle.group_kernel.proofs.HereTables.{here_with}
use Rattle.group_kernel.proofs.RowOfRunner.{row_fds}
use Rattle.group_kernel.proofs.RowPids.{PidsRise, pids_rise}
use Rattle.group_kernel.proofs.RowPlaces.{pid_at_is}
use Rattle.group_kernel.proofs.SeenInGroup.{effect_is, part_is, seen_is_sight}
use Rattle.proc_lease.specs.declared.process.Process.{Process}
use Rattle.run_defs.specs.Progress.{Lease}
use Rattle.rv64_isa.specs.Instruction.{calls}
use Rattle.rv64_isa.specs.Memory.{Cells, Write}
use Rattle.rv64_isa.specs.Registers.{call_number}
use Rattle.rv64_isa.specs.declared.regs.Regs.{Regs}
use Rattle.shadow_chains.specs.Entries.{number_of}
use Rattle.shadow_chains.specs.declared.entry.Entry.{Entry}
use Rattle.tables.proofs.Ordered.{IsOrdered}
use Rattle.tables.specs.Rising.{Rise}
use Rattle.tables.specs.Rows.{Rows}

-- ---- a write to the outside touches no page of an object

none_by : (g : Group) (o : Open) (count : ℕ) (kind : OpenKind) → is_outside kind ≡ true → pages_of_file_write g o count kind ≡ []
none_by g o count Nothing at = absurd cc
none_by g o count Outside at = refl
none_by g o count (File object) at = absurd cc
none_by g o count (PipeRead pipe) at = absurd cc
none_by g o count (PipeWrite pipe) at = absurd cc
none_by g o count (PairEnd pair end) at = absurd cc

none_written : (g : Group) (count : ℕ) (o : Option Open) → is_at_outside o ≡ true → pages_written_to g count o ≡ []
none_written g count None at = refl
none_written g count (Some o) at = none_by g o count o.kind at

none_beside : (g : Group) (p : Proc) (touched : List (ℕ × ℕ)) (number value : ℕ) (h : Group) → number ≡ 64 → is_at_outside (open_at p.fds g.frame.opens (fd_of (regs_of p))) ≡ true → touched_beside g p touched number value h ≡ []
unfolding touched_beside
none_beside g p touched number value h is at = ap (λ (n : ℕ). touched_beside g p touched n value h) is ∙ none_written g value (open_at p.fds g.frame.opens (fd_of (regs_of p))) at

none_touched : (g : Group) (p : Proc) (touched : List (ℕ × ℕ)) (r : Reply Group) (e : CallEnd) → ComesOf g p r e → touched_by_reply g p touched (call_number (regs_of p)) r ≡ []
none_touched g p touched waits e comes = refl
none_touched g p touched (refuses errno) e comes = refl
none_touched g p touched (answers value h writes) e comes =
    ap (λ (ws : List Write). pages_of_writes p.maps ws ++ touched_beside g p touched (call_number (regs_of p)) value h) comes.stored
    ∙ none_beside g p touched (call_number (regs_of p)) value h comes.number comes.outside
none_touched g p touched (ends status) e comes = refl

-- ---- a reply that is an end

goes_not : (status : ℕ) (r r' : Regs) (out out' : Out) → call_end (Ends status) r out ≡ call_end GoesOn r' out' → ⊥
goes_not status r r' out out' e = let never : Ends status ≡ GoesOn = ap (λ (x : CallEnd). x.end) e in absurd cc

same_status : (m n : ℕ) → Ends m ≡ Ends n → m ≡ n
same_status m n e = cc

reply_ends : (g : Group) (p : Proc) (status : ℕ) (regs : Regs) (out : Out) (r : Reply Group) → ComesOf g p r (call_end (Ends status) regs out) → r ≡ ends status
reply_ends g p status regs out waits comes = absurd (goes_not status regs _ out _ comes)
reply_ends g p status regs out (refuses errno) comes = absurd (goes_not status regs _ out _ comes)
reply_ends g p status regs out (answers value h writes) comes = absurd (goes_not status regs _ out _ comes.end)
reply_ends g p status regs out (ends n) comes = ap ends (sym (same_status status n (ap (λ (x : CallEnd). x.end) comes)))

module _ (t : TablesView) (place : ℕ) (row : Row) (process process' : Process) (shared' : Rows Entry) (io' : IoTables) (end : StepEnd) (lt : place < length t.rows) (only : FileFacesOfFiles t) (is_row : row ≡ get_or t.rows place row)
    (called : HasCalled row.fds.entries t.io io' process process' t.shared shared' end) where
  abbrev pid : ℕ
  pid = pid_at t place

  abbrev old : TablesView
  old = with_process t pid (Some process)

  abbrev new : TablesView
  new = with_process (record t { shared = shared'; io = record t.io { out = io'.out } }) pid (Some process')

  owners_stay : OwnersCounted old → OwnersCounted new
  owners_stay counted =
      let fds = same_rows (λ (x : Row). x.fds.entries) (λ x o. refl) pid (Some process') t.rows ∙ sym (same_rows (λ (x : Row). x.fds.entries) (λ x o. refl) pid (Some process) t.rows) in
      subst (λ (l : List (List (ℕ × ℕ))). OwnersAre l [] t.io.opens.entries) (sym fds) counted

  module _ (durable : Bool) (leases : List Lease) (g : Group) (is : StandsBefore old leases g pid) (p : Proc) (run : runner g pid ≡ Some p) where
    part_was : part_held process ≡ part_in g p
    part_was = part_is old leases g pid process p is.stands is.valid is.unleased run (here_with t place process lt)

    regs_were : process.regs ≡ regs_of p
    regs_were = ap (λ (s : PrivatePart). s.regs) part_was

    cells_were : cells_between process t.shared ≡ sight g p
    cells_were = seen_is_sight old leases g pid process p is.stands is.valid is.unleased run (here_with t place process lt) only

    effect_was : effect_in g p ≡ calls
    effect_was = sym (effect_is old leases g pid process p is.stands is.valid is.unleased run (here_with t place process lt) only) ∙ called.effect

    opens_were : descriptions t.io.opens.entries ≡ g.frame.opens
    unfolding public_part
    opens_were = ap (λ (h : Group). h.frame.opens) is.stands.public

    out_was : t.io.out ≡ g.frame.out
    unfolding public_part
    out_was = ap (λ (h : Group). h.frame.out) is.stands.public

    pids_were : PidsRise t.rows
    pids_were = subst (IsOrdered (λ m n. m < n)) (same_rows (λ (x : Row). x.pid) (λ x o. refl) pid (Some process) t.rows) (pids_rise old leases g is.stands is.valid)

    rows_were : map public_row t.rows ≡ map public_process g.frame.procs
    unfolding public_part
    rows_were = sym (same_rows public_row (λ x o. refl) pid (Some process) t.rows) ∙ ap (λ (h : Group). h.frame.procs) is.stands.public

    runs_at : runner g (get_or t.rows place row).pid ≡ Some p
    runs_at = ap (runner g) (sym (pid_at_is t place row lt)) ∙ run

    fds_were : row.fds.entries ≡ p.fds
    unfolding runner
    fds_were = ap (λ (x : Row). x.fds.entries) is_row ∙ sym (row_fds t.rows g.frame.procs place row p pids_were rows_were lt runs_at)

    end_was : call_end end process'.regs io'.out ≡ after_call p.fds g.frame.opens (sight g p) (regs_of p) g.frame.out
    end_was =
        called.end_is
        ∙ ap (λ (l : List (ℕ × ℕ)). after_call l (descriptions t.io.opens.entries) (cells_between process t.shared) process.regs t.io.out) fds_were
        ∙ ap (λ (l : List Open). after_call p.fds l (cells_between process t.shared) process.regs t.io.out) opens_were
        ∙ ap (λ (c : Cells). after_call p.fds g.frame.opens c process.regs t.io.out) cells_were
        ∙ ap (λ (r : Regs). after_call p.fds g.frame.opens (sight g p) r t.io.out) regs_were
        ∙ ap (λ (o : Out). after_call p.fds g.frame.opens (sight g p) (regs_of p) o) out_was

    -- the end is that of the group's reply
    pub comes : ComesOf g p (reply_to durable g p) (call_end end process'.regs io'.out)
    comes = subst (ComesOf g p (reply_to durable g p)) (sym end_was) (call_comes durable g p is.served.opens)

    puts : PutsPart (kept_in old).here (kept_in new).here pid (record (part_in g p) { regs = process'.regs })
    unfolding with_writes
    puts = puts_after t place process process' shared' lt only leases g is.valid is.unleased is.stands p run [] called.sees

    public_now : (kept_in new).public ≡ record (kept_in old).public { frame = record (kept_in old).public.frame { out = io'.out } }
    unfolding with_writes
    public_now = ap (λ (x : Group). record x { frame = record x.frame { out = io'.out } }) (public_after t place process process' shared' lt only leases g is.valid is.unleased is.stands p run [] called.sees)

    public_stays : io'.out ≡ g.frame.out → (kept_in new).public ≡ (kept_in old).public
    public_stays alike = public_now ∙ ap (λ (o : Out). record (kept_in old).public { frame = record (kept_in old).public.frame { out = o } }) (alike ∙ sym out_was)

    here_was : kept_part (kept_in old).here pid ≡ Some (part_in g p)
    here_was = here_with t place process lt ∙ ap (λ (s : PrivatePart). Some s) part_was

    rests : process'.regs ≡ regs_of p → (q : ℕ) → kept_part (kept_in new).here q ≡ kept_part (kept_in old).here q
    rests regs q = puts q ∙ by_pid (pid == q) refl
      where
        by_pid : (b : Bool) → (pid == q) ≡ b → (if b then Some (record (part_in g p) { regs = process'.regs }) else kept_part (kept_in old).here q) ≡ kept_part (kept_in old).here q
        by_pid true e = ap (λ (r : Regs). Some (record (part_in g p) { regs = r })) regs ∙ sym here_was ∙ ap (kept_part (kept_in old).here) (eqb-true pid q e)
        by_pid false e = refl

    goes : (r : Reply Group) → reply_to durable g p ≡ r → ComesOf g p r (call_end GoesOn process'.regs io'.out) → StandsFor leases (kept_in new) (group_step durable g pid)
    unfolding public_part with_writes runner
    goes waits reply comes =
        let before = wait_served durable leases (kept_in old) g pid p is.stands is.valid run is.unleased effect_was reply in
        record { public = public_stays (ap (λ (e : CallEnd). e.out) comes) ∙ before.public; here = λ q. rests (ap (λ (e : CallEnd). e.regs) comes) q ∙ before.here q }
    goes (refuses errno) reply comes =
        let its = subst (λ (r : Regs). PutsPart (kept_in old).here (kept_in new).here pid (record (part_in g p) { regs = r })) (ap (λ (e : CallEnd). e.regs) comes) puts in
        let served = refusal_served durable leases (kept_in old) g pid p is.stands is.valid run is.unleased errno (kept_in new).here effect_was reply its in
        record { public = public_stays (ap (λ (e : CallEnd). e.out) comes) ∙ served.public; here = served.here }
    goes (answers value h writes) reply comes =
        let h' : Group = with_out g comes.out in
        let reply' : reply_to durable g p ≡ answers value h' [] = reply ∙ ap (λ (x : Group). answers value x writes) comes.group ∙ ap (λ (ws : List Write). answers value h' ws) comes.stored in
        let public : Group = record (kept_in old).public { frame = record (kept_in old).public.frame { out = comes.out } } in
        let its = subst (λ (r : Regs). PutsPart (kept_in old).here (kept_in new).here pid (record (part_in g p) { regs = r })) (ap (λ (e : CallEnd). e.regs) comes.end) puts in
        let served = answer_served durable leases (kept_in old) g pid p is.stands is.valid run is.unleased value h' [] p public (kept_in new).here effect_was (ap (λ (n : ℕ). n == 220) comes.number) reply' run (ap (λ (x : Group). record x { frame = record x.frame { out = comes.out } }) is.stands.public) its in
        let now : (kept_in new).public ≡ public = public_now ∙ ap (λ (o : Out). record (kept_in old).public { frame = record (kept_in old).public.frame { out = o } }) (ap (λ (e : CallEnd). e.out) comes.end) in
        record { public = now ∙ served.public; here = served.here }
    goes (ends status) reply comes = absurd (goes_not status _ _ _ _ (sym comes))

    faces_go : (memory : List (ℕ × List ℕ)) (touched : List (ℕ × ℕ)) → Rise number_of process.faces.entries → Rise number_of t.shared.entries → FacesStandOver memory touched old → FacesStandOver memory (touched_with_step durable g pid touched) new
    faces_go memory touched rise rise' over = subst (λ (l : List (ℕ × ℕ)). FacesStandOver memory l new) (sym none) now
      where
        none : touched_with_step durable g pid touched ≡ touched ++ []
        none = touched_is durable g pid p touched calls run effect_was ∙ ap (λ (l : List (ℕ × ℕ)). touched ++ l) (none_touched g p touched (reply_to durable g p) (call_end end process'.regs io'.out) comes)

        now : FacesStandOver memory (touched ++ []) new
        now = let f = faces_after t place process process' shared' lt only leases g is.valid is.unleased is.stands p run [] called.sees memory touched rise rise' over in record { files = f.files; shared = f.shared; public = f.public; private = f.private }

    comes_to : (status : ℕ) → ComesOf g p (reply_to durable g p) (call_end (Ends status) process'.regs io'.out) → group_step durable g pid ≡ after_reply g p (ends status)
    comes_to status comes =
        (step_is durable g pid).1 p run
        ∙ ap (after_effect durable g p) effect_was
        ∙ ap (after_reply g p) (reply_ends g p status process'.regs io'.out (reply_to durable g p) comes)

-- THE STEP OF A CALL
pub call_steps : (t : TablesView) (place : ℕ) (row : Row) (process process' : Process) (shared' : Rows Entry) (io' : IoTables) → place < length t.rows → FileFacesOfFiles t → row ≡ get_or t.rows place row → Rise number_of process.faces.entries → Rise number_of t.shared.entries
    → HasCalled row.fds.entries t.io io' process process' t.shared shared' GoesOn
    → MakesStep (with_process t (pid_at t place) (Some process)) (with_process (record t { shared = shared'; io = io' }) (pid_at t place) (Some process')) (pid_at t place)
call_steps t place row process process' shared' io' lt only is_row rise rise' called =
    subst (λ (io : IoTables). MakesStep (with_process t (pid_at t place) (Some process)) (with_process (record t { shared = shared'; io = io }) (pid_at t place) (Some process')) (pid_at t place)) (sym called.others)
    (record { stands = stands_after; faces = faces_stand; owners = λ leases g is. owners_stay t place row process process' shared' io' GoesOn lt only is_row called is.owners })
  where
    old : TablesView
    old = with_process t (pid_at t place) (Some process)

    new : TablesView
    new = with_process (record t { shared = shared'; io = record t.io { out = io'.out } }) (pid_at t place) (Some process')

    stands_after : (durable : Bool) (leases : List Lease) (g : Group) → StandsBefore old leases g (pid_at t place) → StandsFor leases (kept_in new) (group_step durable g (pid_at t place))
    stands_after durable leases g is =
        let run = runs t place process process' shared' lt only leases g is.valid is.unleased is.stands in
        goes t place row process process' shared' io' GoesOn lt only is_row called durable leases g is run.0 run.1 (reply_to durable g run.0) refl
        (comes t place row process process' shared' io' GoesOn lt only is_row called durable leases g is run.0 run.1)

    faces_stand : (durable : Bool) (leases : List Lease) (g : Group) (memory : List (ℕ × List ℕ)) (touched : List (ℕ × ℕ)) → StandsBefore old leases g (pid_at t place) → FacesStandOver memory touched old → FacesStandOver memory (touched_with_step durable g (pid_at t place) touched) new
    faces_stand durable leases g memory touched is over =
        let run = runs t place process process' shared' lt only leases g is.valid is.unleased is.stands in
        faces_go t place row process process' shared' io' GoesOn lt only is_row called durable leases g is run.0 run.1 memory touched rise rise' over

-- ... and of one that ends the process
pub call_ends : (t : TablesView) (place : ℕ) (row : Row) (process process' : Process) (shared' : Rows Entry) (io' : IoTables) (status : ℕ) → place < length t.rows → FileFacesOfFiles t → row ≡ get_or t.rows place row
    → HasCalled row.fds.entries t.io io' process process' t.shared shared' (Ends status)
    → ComesToEnd (with_process t (pid_at t place) (Some process)) (pid_at t place) status
call_ends t place row process process' shared' io' status lt only is_row called = record {
  ends = λ durable leases g p is run.
      comes_to t place row process process' shared' io' (Ends status) lt only is_row called durable leases g is p run status
      (comes t place row process process' shared' io' (Ends status) lt only is_row called durable leases g is p run);
}
