-- Tables that stay as they were, and a process that does: what holds of them stays.
use Rattle.std.proofs.Common.{◌≡◌, ℕ, ◌==◌, ◌++◌, Result, Ok, Bool, true, false, List, [], ◌∷◌, map, Option, Some, None, refl, sym, ap, ◌∙◌, subst}
use Rattle.std.proofs.lemmas.List.Elements.{All-from_recursion, recursion_from_All}
use Rattle.std.specs.Prelude.{All, IfOk, if◌then◌else◌}
use Rattle.std.specs.List.{AllByRecursion, filter_map}
use Rattle.address_maps.specs.declared.maps.Mapping.{Mapping}
use Rattle.descriptors.specs.Owners.{OwnersAre}
use Rattle.group_defs.specs.Group.{Group}
use Rattle.group_defs.specs.declared.frame.ObjectRec.{ObjectRec}
use Rattle.group_defs.specs.declared.frame.Proc.{Proc}
use Rattle.group_parts.specs.Kept.{KeptParts, StandsFor}
use Rattle.group_parts.specs.Parts.{PrivatePart}
use Rattle.proc_lease.specs.Private.{ObjectView, memory_of, views_of}
use Rattle.proc_lease.specs.declared.process.Process.{Process}
use Rattle.run_defs.specs.Progress.{Lease}
use Rattle.rv64_isa.specs.declared.regs.Regs.{Regs}
use Rattle.shadow_chains.specs.declared.entry.Entry.{Entry}
use Rattle.group_kernel.specs.Faces.{AllStandOver}
use Rattle.group_kernel.specs.Held.{FacesStandOver, TablesView, is_memory_object, kept_in, part_here, pid_at, with_process}
use Rattle.group_kernel.specs.Leases.{IsSameProcess, part_held}
use Rattle.group_kernel.specs.SameTables.{IsSameTables}
use Rattle.group_kernel.specs.Standing.{OwnersCounted}
use Rattle.group_kernel.specs.Steps.{ComesToEnd, MakesStep, StandsBefore}
use Rattle.syscalls_io.specs.declared.io_tables.IoTables.{IoTables}
use Rattle.group_kernel.specs.declared.row.Row.{Row}
use Rattle.group_kernel.proofs.AccessSteps.{kept_same}
use Rattle.group_kernel.proofs.HereParts.{public_same, rows_with}
use Rattle.group_kernel.proofs.Takes.{HasFaces, fds_with, owners_with}

-- what is said of numbers stays where the same objects are seen
into_views : (test : ℕ → Bool) (entries : List Entry) → AllByRecursion (λ (e : Entry). test e.number ≡ true) entries → AllByRecursion (λ (o : ObjectView). test o.number ≡ true) (views_of entries)
into_views test [] each = tt
into_views test (e ∷ es) each = (each.0, into_views test es each.1)

from_views : (test : ℕ → Bool) (entries : List Entry) → AllByRecursion (λ (o : ObjectView). test o.number ≡ true) (views_of entries) → AllByRecursion (λ (e : Entry). test e.number ≡ true) entries
from_views test [] each = tt
from_views test (e ∷ es) each = (each.0, from_views test es each.1)

numbers_stay : (test : ℕ → Bool) (old new : List Entry) → views_of new ≡ views_of old → All (λ e. test e.number ≡ true) old → All (λ e. test e.number ≡ true) new
numbers_stay test old new same all =
    All-from_recursion (λ (e : Entry). test e.number ≡ true) new (from_views test new
    (subst (AllByRecursion (λ (o : ObjectView). test o.number ≡ true)) (sym same) (into_views test old (recursion_from_All (λ (e : Entry). test e.number ≡ true) old all))))

module _ (t t' : TablesView) (same : IsSameTables t t') where
  tables_are : t' ≡ record t { shared = t'.shared }
  tables_are =
      ap (λ (rows : List Row). record t' { rows = rows }) same.rows
      ∙ ap (λ (objects : List ObjectRec). record t' { rows = t.rows; objects = objects }) same.objects
      ∙ ap (λ (io : IoTables). record t' { rows = t.rows; objects = t.objects; io = io }) same.io

  pub kept_stays : kept_in t' ≡ kept_in t
  kept_stays = ap kept_in tables_are ∙ kept_same t t'.shared same.shared

  pub faces_stay_over : (memory : List (ℕ × List ℕ)) (touched : List (ℕ × ℕ)) → FacesStandOver memory touched t → FacesStandOver memory touched t'
  faces_stay_over memory touched over = subst (FacesStandOver memory touched) (sym tables_are) (record {
    files = over.files;
    shared = numbers_stay (is_memory_object t.objects t.io.files.entries) t.shared.entries t'.shared.entries same.shared over.shared;
    public = subst (λ (l : List ObjectView). AllStandOver memory touched (l ++ views_of t.io.file_faces.entries)) (sym same.shared) over.public;
    private = over.private;
  })

  pub owners_stay : OwnersCounted t → OwnersCounted t'
  owners_stay counted = subst OwnersCounted (sym tables_are) counted

-- ---- the same process, put into the tables

same_parts : (p p' : Process) → IsSameProcess p p' → part_held p' ≡ part_held p
same_parts p p' same =
    ap (λ (r : Regs). record (part_held p') { regs = r }) same.regs
    ∙ ap (λ (l : List Mapping). record { regs = p.regs; maps = l; memory = memory_of (views_of p'.faces.entries) }) same.maps
    ∙ ap (λ (l : List ObjectView). record { regs = p.regs; maps = p.map.entries; memory = memory_of l }) same.faces

same_here : (p p' : Process) → part_held p' ≡ part_held p → (rows : List Row) (pid : ℕ) → filter_map part_here (rows_with rows pid (Some p')) ≡ filter_map part_here (rows_with rows pid (Some p))
same_here p p' same [] pid = refl
same_here p p' same (row ∷ rows) pid = by_test (same_here p p' same rows pid) (row.pid == pid)
  where
    by_process : (o : Option Process) → filter_map part_here (rows_with rows pid (Some p')) ≡ filter_map part_here (rows_with rows pid (Some p))
        → filter_map part_here (record row { process = o } ∷ rows_with rows pid (Some p')) ≡ filter_map part_here (record row { process = o } ∷ rows_with rows pid (Some p))
    by_process None rest = rest
    by_process (Some q) rest = ap (λ (l : List (ℕ × PrivatePart)). (row.pid, part_held q) ∷ l) rest

    by_test : filter_map part_here (rows_with rows pid (Some p')) ≡ filter_map part_here (rows_with rows pid (Some p)) → (b : Bool)
        → filter_map part_here ((if b then record row { process = Some p' } else row) ∷ rows_with rows pid (Some p')) ≡ filter_map part_here ((if b then record row { process = Some p } else row) ∷ rows_with rows pid (Some p))
    by_test rest true = ap (λ (s : PrivatePart). (row.pid, s) ∷ filter_map part_here (rows_with rows pid (Some p'))) same ∙ ap (λ (l : List (ℕ × PrivatePart)). (row.pid, part_held p) ∷ l) rest
    by_test rest false = by_process row.process rest

same_faces : (memory : List (ℕ × List ℕ)) (touched : List (ℕ × ℕ)) (p p' : Process) → views_of p'.faces.entries ≡ views_of p.faces.entries → (rows : List Row) (pid : ℕ)
    → AllByRecursion (λ (row : Row). HasFaces memory touched row.process) (rows_with rows pid (Some p)) → AllByRecursion (λ (row : Row). HasFaces memory touched row.process) (rows_with rows pid (Some p'))
same_faces memory touched p p' same [] pid each = tt
same_faces memory touched p p' same (row ∷ rows) pid each = (by_test (row.pid == pid) each.0, same_faces memory touched p p' same rows pid each.1)
  where
    by_test : (b : Bool) → HasFaces memory touched (if b then record row { process = Some p } else row).process → HasFaces memory touched (if b then record row { process = Some p' } else row).process
    by_test true has = subst (AllStandOver memory touched) (sym same) has
    by_test false has = has

same_back : (t t' : TablesView) → IsSameTables t t' → IsSameTables t' t
same_back t t' same = record { rows = sym same.rows; objects = sym same.objects; shared = sym same.shared; io = sym same.io }

-- owners are counted whatever process is in a row
owners_beside : (t : TablesView) (pid : ℕ) (process : Option Process) → OwnersCounted (with_process t pid process) → OwnersCounted t
owners_beside t pid process counted = subst (λ (l : List (List (ℕ × ℕ))). OwnersAre l [] t.io.opens.entries) (fds_with t.rows pid process) counted

module _ (t t' : TablesView) (same : IsSameTables t t') (pid : ℕ) (p p' : Process) (alike : IsSameProcess p p') where
  put_kept : kept_in (with_process t' pid (Some p')) ≡ kept_in (with_process t pid (Some p))
  put_kept =
      ap (λ (g : Group). record { public = g; here = (kept_in (with_process t' pid (Some p'))).here }) (public_same t' pid (Some p') ∙ ap (λ (k : KeptParts). k.public) (kept_stays t t' same) ∙ sym (public_same t pid (Some p)))
      ∙ ap (λ (l : List (ℕ × PrivatePart)). record { public = (kept_in (with_process t pid (Some p))).public; here = l })
      (ap (λ (rows : List Row). filter_map part_here (rows_with rows pid (Some p'))) same.rows ∙ same_here p p' (same_parts p p' alike) t.rows pid)

  put_faces : (memory : List (ℕ × List ℕ)) (touched : List (ℕ × ℕ)) → FacesStandOver memory touched (with_process t pid (Some p)) → FacesStandOver memory touched (with_process t' pid (Some p'))
  put_faces memory touched over =
      faces_stay_over (with_process t pid (Some p')) (with_process t' pid (Some p'))
      (record { rows = ap (λ (rows : List Row). rows_with rows pid (Some p')) same.rows; objects = same.objects; shared = same.shared; io = same.io }) memory touched
      (record {
        files = over.files;
        shared = over.shared;
        public = over.public;
        private = All-from_recursion (λ (row : Row). HasFaces memory touched row.process) (rows_with t.rows pid (Some p'))
            (same_faces memory touched p p' alike.faces t.rows pid (recursion_from_All (λ (row : Row). HasFaces memory touched row.process) (rows_with t.rows pid (Some p)) over.private));
      })

  put_owners : OwnersCounted (with_process t pid (Some p)) → OwnersCounted (with_process t' pid (Some p'))
  put_owners counted = owners_with t' pid (Some p') (owners_stay t t' same (owners_beside t pid (Some p) counted))

  owners_back : OwnersCounted (with_process t' pid (Some p')) → OwnersCounted (with_process t pid (Some p))
  owners_back counted = owners_with t pid (Some p) (owners_stay t' t (same_back t t' same) (owners_beside t' pid (Some p') counted))

  before_same : (leases : List Lease) (g : Group) → StandsBefore (with_process t pid (Some p)) leases g pid → StandsBefore (with_process t' pid (Some p')) leases g pid
  before_same leases g is = record { valid = is.valid; served = is.served; unleased = is.unleased; not_local = is.not_local; owners = put_owners is.owners; stands = subst (λ (k : KeptParts). StandsFor leases k g) (sym put_kept) is.stands }

  before_back : (leases : List Lease) (g : Group) → StandsBefore (with_process t' pid (Some p')) leases g pid → StandsBefore (with_process t pid (Some p)) leases g pid
  before_back leases g is = record { valid = is.valid; served = is.served; unleased = is.unleased; not_local = is.not_local; owners = owners_back is.owners; stands = subst (λ (k : KeptParts). StandsFor leases k g) put_kept is.stands }

  -- the step that ends a process ends the same one
  pub ends_same : (status : ℕ) → ComesToEnd (with_process t pid (Some p)) pid status → ComesToEnd (with_process t' pid (Some p')) pid status
  ends_same status comes = record { ends = λ durable leases g proc is run. comes.ends durable leases g proc (before_back leases g is) run }

  -- and a step made from it is one made from what was before
  pub step_same : (new : TablesView) → MakesStep (with_process t' pid (Some p')) new pid → MakesStep (with_process t pid (Some p)) new pid
  step_same new makes = record {
    stands = λ durable leases g is. makes.stands durable leases g (before_same leases g is);
    faces = λ durable leases g memory touched is over. makes.faces durable leases g memory touched (before_same leases g is) (put_faces memory touched over);
    owners = λ leases g is. makes.owners leases g (before_same leases g is);
  }

-- ---- by the place of its row

same_pid : (t t' : TablesView) → t'.rows ≡ t.rows → (place : ℕ) → pid_at t' place ≡ pid_at t place
same_pid t t' rows place = ap (λ (l : List Row). pid_at (record t { rows = l }) place) rows

pub end_same : (t t' : TablesView) → IsSameTables t t' → (place status : ℕ) (p p' : Process) → IsSameProcess p p' → ComesToEnd (with_process t (pid_at t place) (Some p)) (pid_at t place) status → ComesToEnd (with_process t' (pid_at t' place) (Some p')) (pid_at t' place) status
end_same t t' same place status p p' alike comes =
    subst (λ (n : ℕ). ComesToEnd (with_process t' n (Some p')) n status) (sym (same_pid t t' same.rows place)) (ends_same t t' same (pid_at t place) p p' alike status comes)

pub ended_same : (t t' new : TablesView) → IsSameTables t t' → (place : ℕ) (p p' : Process) → IsSameProcess p p' → MakesStep (with_process t' (pid_at t' place) (Some p')) new (pid_at t' place) → MakesStep (with_process t (pid_at t place) (Some p)) new (pid_at t place)
ended_same t t' new same place p p' alike makes =
    step_same t t' same (pid_at t place) p p' alike new (subst (λ (n : ℕ). MakesStep (with_process t' n (Some p')) new n) (same_pid t t' same.rows place) makes)

pub put_same : (old t t' new : TablesView) → t'.rows ≡ t.rows → (place : ℕ) (p' : Process) → new ≡ with_process t' (pid_at t' place) (Some p') → MakesStep old (with_process t' (pid_at t place) (Some p')) (pid_at t place) → MakesStep old new (pid_at t place)
put_same old t t' new rows place p' is makes =
    subst (λ (x : TablesView). MakesStep old x (pid_at t place)) (sym (is ∙ ap (λ (n : ℕ). with_process t' n (Some p')) (same_pid t t' rows place))) makes

pub ok_gives : {X E : Type 0} (P : X → Type 0) (r : Result X E) (x : X) → r ≡ Ok x → IfOk r P → P x
ok_gives {X} {E} P r x is holds = subst (λ (o : Result X E). IfOk o P) is holds
