-- An instruction that isn't local, as a step of the tables.
use Rattle.std.proofs.Common.{◌≡◌, ℕ, zero, suc, ◌<◌, ◌==◌, Bool, true, false, List, [], ◌∷◌, ◌++◌, length, map, get_or, All, Option, Some, None, refl, sym, ap, ◌∙◌, subst, arith}
use Rattle.std.proofs.lemmas.Bool.{false≢true}
use Rattle.std.proofs.lemmas.List.{get_or-map, length-map}
use Rattle.std.proofs.lemmas.List.Elements.{All-append}
use Rattle.std.specs.Prelude.{◌||◌, IfSome, if◌then◌else◌, slice_index_or}
use Rattle.std.specs.List.{list_any}
use Rattle.address_maps.specs.Mappings.{mapping_at}
use Rattle.address_maps.specs.declared.maps.Mapping.{Mapping}
use Rattle.descriptors.specs.Owners.{OwnersAre}
use Rattle.group_defs.specs.Fork.{maps_privately}
use Rattle.group_defs.specs.Group.{Group, runner}
use Rattle.group_defs.specs.Objects.{maps_object}
use Rattle.group_defs.specs.Pages.{pages_of_writes, touched_by_effect, touched_with_step}
use Rattle.group_defs.specs.Step.{after_effect, effect_in, group_step}
use Rattle.group_defs.specs.Valid.{GroupIsValid}
use Rattle.group_defs.specs.declared.frame.Frame.{Frame}
use Rattle.group_defs.specs.declared.frame.ObjectRec.{ObjectRec}
use Rattle.group_defs.specs.declared.frame.Proc.{Proc}
use Rattle.group_laws.proofs.OthersStay.{step_is}
use Rattle.group_parts.proofs.Apart.{valid_apart}
use Rattle.group_parts.proofs.KeptLaws.{here_part}
use Rattle.group_parts.proofs.OthersParts.{behind}
use Rattle.group_parts.proofs.Served.{instruction_served}
use Rattle.group_parts.specs.Kept.{KeptParts, PutsPart, StandsFor, kept_part}
use Rattle.group_parts.specs.Local.{continued_part}
use Rattle.group_parts.specs.Parts.{IsApart, PrivatePart, part_in}
use Rattle.group_parts.specs.Served.{stored_in}
use Rattle.group_kernel.specs.Faces.{AllStandOver, StandsOver}
use Rattle.group_kernel.specs.Held.{FacesStandOver, FileFacesOfFiles, TablesView, is_memory_object, kept_in, pid_at, public_frame, public_row, with_process}
use Rattle.group_kernel.specs.Leases.{part_held}
use Rattle.group_kernel.specs.Accesses.{HasAccessed, with_writes_in}
use Rattle.proc_lease.specs.Sight.{SeenFits, SeenObjects, cells_between, has_object, seen_by}
use Rattle.group_kernel.specs.Standing.{OwnersCounted}
use Rattle.group_kernel.specs.Steps.{ComesToEnd, MakesStep, StandsBefore}
use Rattle.group_kernel.specs.declared.row.Row.{Row}
use Rattle.group_kernel.proofs.HereTables.{at_place, here_with, puts_with, with_in}
use Rattle.group_kernel.proofs.OtherRows.{its_part, its_process, unleased}
use Rattle.group_kernel.proofs.SeenInGroup.{effect_is, mapped, maps_are, none_mapped, objects_are, owned, part_is, seen_fits}
use Rattle.group_kernel.proofs.StoredInGroup.{NoneMapped, part_stored, public_stored}
use Rattle.group_kernel.proofs.StoredOver.{by_numbers, private_over, public_over, rise_once, shared_numbers_stay, unmapped_over}
use Rattle.group_kernel.proofs.PublicMemory.{found_start, memory_in}
use Rattle.proc_lease.specs.Private.{ObjectView, views_of}
use Rattle.proc_lease.specs.declared.process.Process.{Process}
use Rattle.run_defs.specs.Legal.{is_unleased}
use Rattle.run_defs.specs.Progress.{Lease}
use Rattle.rv64_isa.specs.Instruction.{Effect, instruction, list_of, steps, traps}
use Rattle.rv64_isa.specs.Memory.{Write}
use Rattle.shadow_chains.specs.Entries.{number_of}
use Rattle.shadow_chains.specs.declared.entry.Entry.{Entry}
use Rattle.tables.specs.Rising.{Rise}
use Rattle.tables.specs.Rows.{Rows}

-- what a row has beside its process stays
pub same_rows : {X : Type 0} (f : Row → X) → ((row : Row) (o : Option Process) → f (record row { process = o }) ≡ f row) → (pid : ℕ) (o : Option Process) (rows : List Row) → map f (with_in pid o rows) ≡ map f rows
same_rows f same pid o [] = refl
same_rows f same pid o (row ∷ rows) = by_test (row.pid == pid) (same_rows f same pid o rows)
  where
    by_test : (b : Bool) → map f (with_in pid o rows) ≡ map f rows → f (if b then record row { process = o } else row) ∷ map f (with_in pid o rows) ≡ f row ∷ map f rows
    by_test true rest = ap (λ x. x ∷ map f (with_in pid o rows)) (same row o) ∙ ap (λ l. f row ∷ l) rest
    by_test false rest = ap (λ l. f row ∷ l) rest

none_if : (objects : List ObjectView) (number : ℕ) → (has_object objects number ≡ true → ⊥) → has_object objects number ≡ false
none_if objects number never = by_test (has_object objects number) refl
  where
    by_test : (b : Bool) → has_object objects number ≡ b → b ≡ false
    by_test false e = refl
    by_test true e = absurd (never e)

flipped : (m n : ℕ) → (m == n) ≡ false → (n == m) ≡ false
flipped m n e = grind (arith, e)

-- ---- faces

all_front : {X : Type 0} (P : X → Type 0) (xs ys : List X) → All P (xs ++ ys) → All P xs
all_front P [] ys all = λ k d lt. absurd (omega (arith, lt))
all_front P (x ∷ xs) ys all = cons (all 0 x (omega arith)) (all_front P xs ys (λ k d lt. all (suc k) d (omega (arith, lt))))
  where
    cons : P x → All P xs → All P (x ∷ xs)
    cons head tail zero d lt = head
    cons head tail (suc k) d lt = tail k d (omega (arith, lt))

all_back : {X : Type 0} (P : X → Type 0) (xs ys : List X) → All P (xs ++ ys) → All P ys
all_back P [] ys all = all
all_back P (x ∷ xs) ys all = all_back P xs ys (λ k d lt. all (suc k) d (omega (arith, lt)))

abbrev RowOver : List (ℕ × List ℕ) → List (ℕ × ℕ) → Row → Type 0
RowOver memory touched row = IfSome row.process (λ p. AllStandOver memory touched (views_of p.faces.entries))

abbrev RowUnmapped : List Mapping → ℕ → Row → Type 0
RowUnmapped maps pid row = (row.pid == pid) ≡ false → IfSome row.process (λ q. NoneMapped (views_of q.faces.entries) maps)

rows_over : (memory : List (ℕ × List ℕ)) (touched : List (ℕ × ℕ)) (maps : List Mapping) (writes : List Write) (pid : ℕ) (old : Option Process) (new : Process) (rows : List Row) → All (RowUnmapped maps pid) rows → AllStandOver memory (touched ++ pages_of_writes maps writes) (views_of new.faces.entries)
    → All (RowOver memory touched) (with_in pid old rows) → All (RowOver memory (touched ++ pages_of_writes maps writes)) (with_in pid (Some new) rows)
rows_over memory touched maps writes pid old new [] others mine all = λ k d lt. absurd (omega (arith, lt))
rows_over memory touched maps writes pid old new (row ∷ rows) others mine all =
    by_test (row.pid == pid) refl (all 0 row (omega arith))
    (rows_over memory touched maps writes pid old new rows (λ k d lt. others (suc k) d (omega (arith, lt))) mine (λ k d lt. all (suc k) d (omega (arith, lt))))
  where
    more : List (ℕ × ℕ)
    more = touched ++ pages_of_writes maps writes

    cons : (x : Row) → RowOver memory more x → All (RowOver memory more) (with_in pid (Some new) rows) → All (RowOver memory more) (x ∷ with_in pid (Some new) rows)
    cons x head tail zero d lt = head
    cons x head tail (suc k) d lt = tail k d (omega (arith, lt))

    other : (o : Option Process) → IfSome o (λ q. NoneMapped (views_of q.faces.entries) maps) → IfSome o (λ p. AllStandOver memory touched (views_of p.faces.entries)) → IfSome o (λ p. AllStandOver memory more (views_of p.faces.entries))
    other None none over = tt
    other (Some q) none over = unmapped_over memory touched (views_of q.faces.entries) maps writes none over

    by_test : (b : Bool) → (row.pid == pid) ≡ b → RowOver memory touched (if b then record row { process = old } else row) → All (RowOver memory more) (with_in pid (Some new) rows)
        → All (RowOver memory more) ((if b then record row { process = Some new } else row) ∷ with_in pid (Some new) rows)
    by_test true hit over rest = cons (record row { process = Some new }) mine rest
    by_test false miss over rest = cons row (other row.process (others 0 row (omega arith) miss) over) rest

module _ (t : TablesView) (place : ℕ) (process process' : Process) (shared' : Rows Entry) (lt : place < length t.rows) (only : FileFacesOfFiles t) where
  abbrev pid : ℕ
  pid = pid_at t place

  abbrev before : TablesView
  before = with_process t pid (Some process)

  abbrev after : TablesView
  after = with_process (record t { shared = shared' }) pid (Some process')

  mine_here : kept_part (kept_in before).here pid ≡ Some (part_held process)
  mine_here = here_with t place process lt

  -- the process in a group that the tables stand for
  module _ (leases : List Lease) (g : Group) (valid : GroupIsValid g) (free : is_unleased leases pid ≡ true) (stands : StandsFor leases (kept_in before) g) where
    pub runs : (p : Proc) × (runner g pid ≡ Some p)
    runs = let found = behind g pid (part_held process) (sym (here_part leases (kept_in before) g pid stands free) ∙ mine_here) in (found.0, found.1)

    module _ (p : Proc) (is : runner g pid ≡ Some p) where
      pub effect_here : instruction (cells_between process t.shared) process.regs ≡ effect_in g p
      effect_here = effect_is before leases g pid process p stands valid free is mine_here only

      maps_here : process.map.entries ≡ p.maps
      maps_here = maps_are before leases g pid process p stands valid free is mine_here

      -- what it maps is not among other processes' private objects
      others_unmapped : All (RowUnmapped process.map.entries pid) t.rows
      unfolding IsApart maps_object
      others_unmapped k d less differ = by_process (get_or t.rows k d).process refl
        where
          row : Row
          row = get_or t.rows k d

          same : get_or before.rows k d ≡ row
          same = get_or-map (λ (r : Row). if r.pid == pid then record r { process = Some process } else r) t.rows k d d less ∙ ap (λ b. if b then record row { process = Some process } else row) differ

          inside : k < length before.rows
          inside = omega (arith, less, length-map t.rows (λ (r : Row). if r.pid == pid then record r { process = Some process } else r))

          by_process : (o : Option Process) → row.process ≡ o → IfSome o (λ q. NoneMapped (views_of q.faces.entries) process.map.entries)
          by_process None e = tt
          by_process (Some q) e = λ i m end.
              let there : (get_or before.rows k d).process ≡ Some q = ap (λ (r : Row). r.process) same ∙ e in
              let other : ℕ = (get_or before.rows k d).pid in
              let its = its_process before leases g stands valid k d inside q there in
              let mapping : Mapping = get_or process.map.entries i m in
              let at = ap (λ (l : List Mapping). mapping_at l mapping.start) (sym maps_here) ∙ found_start process.map.entries i m process.fits.each process.fits.apart end in
              let maps = mapped before leases g pid process p stands valid free is mine_here mapping.start mapping at in
              let apart : (pid == other) ≡ false = ap (λ (r : Row). pid == r.pid) same ∙ flipped row.pid pid differ in
              let never : maps_privately its.0.maps mapping.object ≡ false = valid_apart g valid pid other p its.0 apart is its.1 mapping.object maps in
              none_if (views_of q.faces.entries) mapping.object (λ there'. false≢true (sym never ∙ owned before leases g other q its.0 stands valid (unleased before leases g stands valid k d inside q there) its.1 (its_part before leases g stands valid k d inside q there) mapping.object there'))

      public_frames : public_frame after ≡ public_frame before
      public_frames =
          let rows = same_rows public_row (λ row o. refl) pid (Some process') t.rows ∙ sym (same_rows public_row (λ row o. refl) pid (Some process) t.rows) in
          ap (λ (procs : List Proc). record (public_frame before) { procs = procs }) rows

      module _ (writes : List Write) (landed : seen_by process' shared' ≡ with_writes_in (seen_by process t.shared) writes) where
        pub public_after : (kept_in after).public ≡ stored_in (kept_in before).public p.maps writes
        public_after =
            let rise : Rise (λ o. o.number) t.objects = subst (λ (l : List ObjectRec). Rise (λ o. o.number) l) (sym (objects_are before leases g pid process p stands valid free is mine_here)) valid.sound.frame.objects.rise in
            let stored : (kept_in (record before { shared = shared' })).public ≡ stored_in (kept_in before).public process.map.entries writes =
            public_stored before process process' shared' writes rise (none_mapped before leases g pid process p stands valid free is mine_here only) landed in
            ap (λ (f : Frame). record (kept_in after).public { frame = f }) public_frames
            ∙ stored
            ∙ ap (λ (l : List Mapping). stored_in (kept_in before).public l writes) maps_here

        part_after : part_held process' ≡ continued_part (part_in g p) process'.regs writes
        part_after =
            part_stored process process' t.shared shared' writes landed
            ∙ ap (λ (s : PrivatePart). continued_part s process'.regs writes) (part_is before leases g pid process p stands valid free is mine_here)

        pub puts_after : PutsPart (kept_in before).here (kept_in after).here pid (continued_part (part_in g p) process'.regs writes)
        puts_after = subst (λ (s : PrivatePart). PutsPart (kept_in before).here (kept_in after).here pid s) part_after (puts_with t t.rows place process process' lt refl)

        pub faces_after : (memory : List (ℕ × List ℕ)) (touched : List (ℕ × ℕ)) → Rise number_of process.faces.entries → Rise number_of t.shared.entries → FacesStandOver memory touched before → FacesStandOver memory (touched ++ pages_of_writes p.maps writes) after
        faces_after memory touched rise rise' over =
            subst (λ (l : List Mapping). FacesStandOver memory (touched ++ pages_of_writes l writes) after) maps_here
            (record {
              files = only;
              shared = by_numbers (λ n. is_memory_object t.objects t.io.files.entries n ≡ true) t.shared.entries shared'.entries (shared_numbers_stay process process' t.shared shared' writes landed) over.shared;
              public = All-append (StandsOver memory more) (views_of shared'.entries) (views_of t.io.file_faces.entries) theirs
                  (unmapped_over memory touched (views_of t.io.file_faces.entries) process.map.entries writes (none_mapped before leases g pid process p stands valid free is mine_here only) (all_back (StandsOver memory touched) (views_of t.shared.entries) (views_of t.io.file_faces.entries) over.public));
              private = rows_over memory touched process.map.entries writes pid (Some process) process' t.rows others_unmapped mine over.private;
            })
          where
            more : List (ℕ × ℕ)
            more = touched ++ pages_of_writes process.map.entries writes

            theirs : AllStandOver memory more (views_of shared'.entries)
            theirs =
                subst (λ (u : SeenObjects). AllStandOver memory more u.public) (sym landed)
                (public_over memory touched (seen_by process t.shared) writes (rise_once t.shared.entries rise') (all_front (StandsOver memory touched) (views_of t.shared.entries) (views_of t.io.file_faces.entries) over.public))

            mine : AllStandOver memory more (views_of process'.faces.entries)
            mine =
                subst (λ (u : SeenObjects). AllStandOver memory more u.private) (sym landed)
                (private_over memory touched (seen_by process t.shared) writes (rise_once process.faces.entries rise) (own_row t.rows over.private (at_row t.rows place lt)))
              where
                own_row : (rows : List Row) → All (RowOver memory touched) (with_in pid (Some process) rows) → list_any (λ row. row.pid == pid) rows ≡ true → AllStandOver memory touched (views_of process.faces.entries)
                own_row [] all there = absurd cc
                own_row (row ∷ rows) all there = by_test (own_row rows (λ k d less. all (suc k) d (omega (arith, less)))) (row.pid == pid) (all 0 row (omega arith)) there
                  where
                    by_test : (list_any (λ r. r.pid == pid) rows ≡ true → AllStandOver memory touched (views_of process.faces.entries)) → (b : Bool) → RowOver memory touched (if b then record row { process = Some process } else row) → (b || list_any (λ r. r.pid == pid) rows) ≡ true → AllStandOver memory touched (views_of process.faces.entries)
                    by_test rest true over' e = over'
                    by_test rest false over' e = rest e

                at_row : (rows : List Row) (k : ℕ) → k < length rows → list_any (λ row. row.pid == slice_index_or (map (λ (r : Row). r.pid) rows) k 0) rows ≡ true
                at_row rows k less = at_place rows k less

pub touched_is : (durable : Bool) (g : Group) (its_pid : ℕ) (p : Proc) (touched : List (ℕ × ℕ)) (e : Effect) → runner g its_pid ≡ Some p → effect_in g p ≡ e → touched_with_step durable g its_pid touched ≡ touched ++ touched_by_effect durable g p touched e
unfolding touched_with_step
touched_is durable g its_pid p touched e is effect =
    ap (λ (o : Option Proc). touched ++ elim o [ None ↦ [] | Some q ↦ touched_by_effect durable g q touched (effect_in g q) ]) is
    ∙ ap (λ (x : Effect). touched ++ touched_by_effect durable g p touched x) effect

-- THE STEP OF AN INSTRUCTION
pub access_steps : (t : TablesView) (place : ℕ) (process process' : Process) (shared' : Rows Entry) → place < length t.rows → FileFacesOfFiles t → Rise number_of process.faces.entries → Rise number_of t.shared.entries
    → HasAccessed (instruction (cells_between process t.shared) process.regs) (seen_by process t.shared) (seen_by process' shared') process'.regs
    → MakesStep (with_process t (pid_at t place) (Some process)) (with_process (record t { shared = shared' }) (pid_at t place) (Some process')) (pid_at t place)
access_steps t place process process' shared' lt only rise rise' acc = record { stands = stands_after; faces = faces_stand; owners = λ leases g is. owners_stay is.owners }
  where
    old : TablesView
    old = with_process t (pid_at t place) (Some process)

    new : TablesView
    new = with_process (record t { shared = shared' }) (pid_at t place) (Some process')

    effect : (leases : List Lease) (g : Group) (is : StandsBefore old leases g (pid_at t place)) (p : Proc) → runner g (pid_at t place) ≡ Some p → effect_in g p ≡ steps process'.regs acc.stored
    effect leases g is p run = sym (effect_here t place process process' shared' lt only leases g is.valid is.unleased is.stands p run) ∙ acc.effect

    stands_after : (durable : Bool) (leases : List Lease) (g : Group) → StandsBefore old leases g (pid_at t place) → StandsFor leases (kept_in new) (group_step durable g (pid_at t place))
    stands_after durable leases g is =
        let run = runs t place process process' shared' lt only leases g is.valid is.unleased is.stands in
        let served = instruction_served durable leases (kept_in old) g (pid_at t place) run.0 is.stands is.valid run.1 is.unleased process'.regs acc.stored (kept_in new).here (effect leases g is run.0 run.1)
        (puts_after t place process process' shared' lt only leases g is.valid is.unleased is.stands run.0 run.1 (list_of acc.stored) acc.landed) in
        subst (λ (public : Group). StandsFor leases (record { public = public; here = (kept_in new).here }) (group_step durable g (pid_at t place))) (sym (public_after t place process process' shared' lt only leases g is.valid is.unleased is.stands run.0 run.1 (list_of acc.stored) acc.landed)) served

    faces_stand : (durable : Bool) (leases : List Lease) (g : Group) (memory : List (ℕ × List ℕ)) (touched : List (ℕ × ℕ)) → StandsBefore old leases g (pid_at t place) → FacesStandOver memory touched old → FacesStandOver memory (touched_with_step durable g (pid_at t place) touched) new
    faces_stand durable leases g memory touched is over =
        let run = runs t place process process' shared' lt only leases g is.valid is.unleased is.stands in
        subst (λ (l : List (ℕ × ℕ)). FacesStandOver memory l new) (sym (touched_is durable g (pid_at t place) run.0 touched (steps process'.regs acc.stored) run.1 (effect leases g is run.0 run.1)))
        (faces_after t place process process' shared' lt only leases g is.valid is.unleased is.stands run.0 run.1 (list_of acc.stored) acc.landed memory touched rise rise' over)

    owners_stay : OwnersCounted old → OwnersCounted new
    owners_stay counted =
        let fds = same_rows (λ (row : Row). row.fds.entries) (λ row o. refl) (pid_at t place) (Some process') t.rows ∙ sym (same_rows (λ (row : Row). row.fds.entries) (λ row o. refl) (pid_at t place) (Some process) t.rows) in
        subst (λ l. OwnersAre l [] t.io.opens.entries) (sym fds) counted

-- ... and of one that ends the process
pub trap_ends : (t : TablesView) (place : ℕ) (process : Process) → place < length t.rows → FileFacesOfFiles t → (status : ℕ) → instruction (cells_between process t.shared) process.regs ≡ traps status
    → ComesToEnd (with_process t (pid_at t place) (Some process)) (pid_at t place) status
trap_ends t place process lt only status trap = record {
  ends = λ durable leases g p is run.
      (step_is durable g (pid_at t place)).1 p run
      ∙ ap (after_effect durable g p) (sym (effect_here t place process process t.shared lt only leases g is.valid is.unleased is.stands p run) ∙ trap);
}

-- whether it stands at a call is told by what it sees
pub at_call_is : (t : TablesView) (place : ℕ) (process : Process) → place < length t.rows → FileFacesOfFiles t → (leases : List Lease) (g : Group) (p : Proc) → StandsBefore (with_process t (pid_at t place) (Some process)) leases g (pid_at t place) → runner g (pid_at t place) ≡ Some p
    → instruction (cells_between process t.shared) process.regs ≡ effect_in g p
at_call_is t place process lt only leases g p is run = effect_here t place process process t.shared lt only leases g is.valid is.unleased is.stands p run

-- a process that is given back sees what fits
pub given_fits : (t : TablesView) (place : ℕ) (process : Process) → place < length t.rows → FileFacesOfFiles t → (leases : List Lease) (g : Group) → GroupIsValid g → is_unleased leases (pid_at t place) ≡ true
    → StandsFor leases (kept_in (with_process t (pid_at t place) (Some process))) g → SeenFits (seen_by process t.shared)
given_fits t place process lt only leases g valid free stands =
    let run = runs t place process process t.shared lt only leases g valid free stands in
    seen_fits (with_process t (pid_at t place) (Some process)) leases g (pid_at t place) process run.0 stands valid free run.1 (here_with t place process lt) only

-- the same objects seen, the same parts
pub kept_same : (t : TablesView) (shared' : Rows Entry) → views_of shared'.entries ≡ views_of t.shared.entries → kept_in (record t { shared = shared' }) ≡ kept_in t
kept_same t shared' same = ap (λ (views : List ObjectView). with_memory (memory_in t.objects (views ++ views_of t.io.file_faces.entries))) same
  where
    with_memory : List (ℕ × List ℕ) → KeptParts
    with_memory memory = record { public = record (kept_in t).public { memory = memory }; here = (kept_in t).here }
