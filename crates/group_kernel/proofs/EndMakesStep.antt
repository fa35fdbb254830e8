-- The tables after the end of a process stand for the group after the step that ends it: rows, descriptions, objects with their bytes,
-- private parts and faces.
use Rattle.std.proofs.Common.{◌≡◌, ℕ, ◌++◌, ◌<◌, ◌==◌, Bool, true, false, List, [], ◌∷◌, length, map, set, get_or, Option, Some, None, refl, sym, ap, ◌∙◌, subst}
use Rattle.std.proofs.lemmas.List.{get_or-map, get_or_default}
use Rattle.std.proofs.lemmas.List.Elements.{All-from_recursion, recursion_from_All}
use Rattle.std.specs.Prelude.{All, if◌then◌else◌}
use Rattle.std.specs.List.{AllByRecursion, filter, filter_map}
use Rattle.address_maps.specs.declared.maps.Mapping.{Mapping}
use Rattle.descriptors.specs.Opens.{descriptions}
use Rattle.descriptors.specs.Owners.{OwnersAre}
use Rattle.descriptors.specs.declared.opens.Open.{Open}
use Rattle.group_defs.specs.Family.{after_end}
use Rattle.group_defs.specs.Group.{Group, runner}
use Rattle.group_defs.specs.Held.{held_opens, held_pairs, held_pipes, is_held, settled}
use Rattle.group_defs.specs.Objects.{is_of_file}
use Rattle.group_defs.specs.Step.{group_step}
use Rattle.group_defs.specs.declared.frame.ObjectRec.{ObjectRec}
use Rattle.group_defs.specs.declared.frame.Proc.{Proc}
use Rattle.group_parts.proofs.Ended.{end_served}
use Rattle.group_parts.proofs.OthersParts.{behind}
use Rattle.group_parts.specs.Kept.{StandsFor, TakesPart, kept_part}
use Rattle.group_parts.specs.Parts.{PrivatePart, part_in, part_of, private_memory, public_part, shared_mappings}
use Rattle.group_parts.specs.Served.{public_ended, stays_for}
use Rattle.pipes_socks.specs.declared.streams.Pair.{Pair}
use Rattle.pipes_socks.specs.declared.streams.Pipe.{Pipe}
use Rattle.proc_lease.specs.Private.{ObjectView, memory_of, views_of}
use Rattle.proc_lease.specs.declared.process.Process.{Process}
use Rattle.run_defs.specs.Progress.{Lease}
use Rattle.shadow_chains.specs.declared.entry.Entry.{Entry}
use Rattle.tables.proofs.Ordered.{IsOrdered}
use Rattle.tables.specs.Rows.{Rows}
use Rattle.group_kernel.specs.Ending.{LeavesOwned, ended_row, rows_left_by, stays_by, stays_shared}
use Rattle.group_kernel.specs.Faces.{AllStandOver}
use Rattle.group_kernel.specs.Held.{FacesStandOver, SharedFacesOfMemory, TablesView, is_memory_object, kept_in, part_here, pid_at, public_frame, public_objects, public_row, with_process}
use Rattle.group_kernel.specs.Leases.{part_held}
use Rattle.group_kernel.specs.Standing.{OwnersCounted}
use Rattle.group_kernel.specs.Steps.{ComesToEnd, MakesStep, StandsBefore}
use Rattle.syscalls_io.specs.declared.io_tables.IoTables.{IoTables}
use Rattle.group_kernel.specs.declared.row.Row.{Row}
use Rattle.group_kernel.proofs.BesideFaces.{public_beside}
use Rattle.group_kernel.proofs.EndTouches.{end_touches_none}
use Rattle.group_kernel.proofs.EndedFaces.{public_left, shared_left}
use Rattle.group_kernel.proofs.EndedGroup.{IsPublicOf, closed_rows, none_rows, own_pid, own_rows, own_runs, own_shared, public_is}
use Rattle.group_kernel.proofs.EndedObjects.{found_left, memory_left, no_face, same_objects, stay_all, stays_public}
use Rattle.group_kernel.proofs.EndedOwners.{all_owned, fds_of, opens_after, owners_after}
use Rattle.group_kernel.proofs.EndedRows.{after_with, faces_after, left_rows, parts_after, public_after, rows_after_end, set_by_pid}
use Rattle.group_kernel.proofs.HereParts.{public_same, rows_with, takes_here}
use Rattle.group_kernel.proofs.HereTables.{here_with}
use Rattle.group_kernel.proofs.PublicMemory.{Memory, memory_in}
use Rattle.group_kernel.proofs.RowPids.{PidsRise, pids_rise}
use Rattle.group_kernel.proofs.Takes.{HasFaces, fds_with}

pids_with : (rows : List Row) (pid : ℕ) (process : Option Process) → map (λ (row : Row). row.pid) (rows_with rows pid process) ≡ map (λ (row : Row). row.pid) rows
pids_with [] pid process = refl
pids_with (row ∷ rows) pid process = by_test (row.pid == pid) (pids_with rows pid process)
  where
    by_test : (t : Bool) → map (λ (x : Row). x.pid) (rows_with rows pid process) ≡ map (λ (x : Row). x.pid) rows → map (λ (x : Row). x.pid) ((if t then record row { process = process } else row) ∷ rows_with rows pid process) ≡ row.pid ∷ map (λ (x : Row). x.pid) rows
    by_test true rest = ap (λ (l : List ℕ). row.pid ∷ l) rest
    by_test false rest = ap (λ (l : List ℕ). row.pid ∷ l) rest

-- the public part by its lists, with those of t where none changes them
made : TablesView → List Proc → List Open → List Pipe → List Pair → List ObjectRec → Memory → Group
made t procs opens pipes pairs objects memory = record { frame = record (public_frame t) { procs = procs; opens = opens; pipes = pipes; pairs = pairs; objects = objects }; memory = memory }

settled_made : TablesView → List Proc → List Mapping → List Pipe → List Pair → Group
settled_made t left maps pipes pairs =
    made t left (held_opens left (held_pairs left (descriptions t.io.opens.entries) pairs) (descriptions t.io.opens.entries))
    (held_pipes (held_opens left (held_pairs left (descriptions t.io.opens.entries) pairs) (descriptions t.io.opens.entries)) pipes) (held_pairs left (descriptions t.io.opens.entries) pairs)
    (filter (λ o. stays_for left maps o.number) t.objects) (filter (λ o. stays_for left maps o.0) (memory_in t.objects (public_objects t)))

ended_is : (t : TablesView) (p : Proc) (status : ℕ) → public_ended (kept_in t).public p status ≡ settled_made t (filter_map (after_end p status) (map public_row t.rows)) p.maps t.io.pipes.entries t.io.pairs.entries
unfolding public_ended settled made settled_made
ended_is t p status = refl

with_io : TablesView → IoTables → Group
with_io new io = record {
  frame = record {
    procs = map public_row new.rows;
    objects = new.objects;
    opens = descriptions io.opens.entries;
    pipes = io.pipes.entries;
    pairs = io.pairs.entries;
    files = io.files.entries;
    next = io.next;
    out = io.out;
  };
  memory = memory_in new.objects (views_of new.shared.entries ++ views_of io.file_faces.entries);
}

made_is : (t new : TablesView) → new.io ≡ record t.io { opens = new.io.opens }
    → (kept_in new).public ≡ made t (map public_row new.rows) (descriptions new.io.opens.entries) t.io.pipes.entries t.io.pairs.entries new.objects (memory_in new.objects (views_of new.shared.entries ++ views_of t.io.file_faces.entries))
unfolding made with_io
made_is t new io = ap (with_io new) io

module _ (t : TablesView) (place : ℕ) (d : Row) (lt : place < length t.rows) (process : Process) (status : ℕ) (fds : Rows (ℕ × ℕ)) (closed : fds.entries ≡ []) (new : TablesView)
    (rows : new.rows ≡ rows_left_by (get_or t.rows place d).pid (set t.rows place (ended_row status fds (get_or t.rows place d))))
    (objects : new.objects ≡ filter (λ o. stays_by process.faces.entries (get_or t.rows place d).shared new.rows o.number) t.objects)
    (shared : new.shared.entries ≡ filter (λ e. stays_shared (get_or t.rows place d).shared new.rows e.number) t.shared.entries)
    (io : new.io ≡ record t.io { opens = new.io.opens })
    (leaves : LeavesOwned t.io.opens.entries new.io.opens.entries)
    (exact : (others : List (List (ℕ × ℕ))) → OwnersAre ((get_or t.rows place d).fds.entries ∷ others) [] t.io.opens.entries → OwnersAre ([] ∷ others) [] new.io.opens.entries)
    (comes : ComesToEnd (with_process t (pid_at t place) (Some process)) (pid_at t place) status) where
  abbrev pid : ℕ
  pid = pid_at t place

  abbrev old : TablesView
  old = with_process t (pid_at t place) (Some process)

  abbrev mine : List Mapping
  mine = (get_or t.rows place d).shared

  pid_is : (get_or t.rows place d).pid ≡ pid_at t place
  pid_is = sym (get_or-map (λ (row : Row). row.pid) t.rows place d 0 lt)

  -- ---- in a group that the tables stand for
  module _ (leases : List Lease) (g : Group) (is : StandsBefore (with_process t (pid_at t place) (Some process)) leases g (pid_at t place)) where
    old_public : IsPublicOf old.rows g
    old_public = public_is old leases g is.stands

    t_public : IsPublicOf t.rows g
    t_public = sym (ap (λ (x : Group). x.frame.procs) (public_same t pid (Some process))) ∙ old_public

    rise : PidsRise t.rows
    rise = subst (λ (l : List ℕ). IsOrdered (λ m n. m < n) l) (pids_with t.rows pid (Some process)) (pids_rise old leases g is.stands is.valid)

    rows_are : new.rows ≡ rows_after_end pid status fds t.rows
    rows_are =
        rows
        ∙ ap (rows_left_by (get_or t.rows place d).pid) (set_by_pid (ended_row status fds) t.rows place d rise lt)
        ∙ ap (λ (n : ℕ). rows_left_by n (map (λ (row : Row). if row.pid == n then ended_row status fds row else row) t.rows)) pid_is
        ∙ left_rows pid status fds t.rows

    old_rows : new.rows ≡ rows_after_end pid status fds old.rows
    old_rows = rows_are ∙ sym (after_with pid status fds (Some process) t.rows)

    -- owners
    pub owners_left : OwnersCounted new
    owners_left =
        subst (λ (l : List Row). OwnersAre (fds_of l) [] new.io.opens.entries) (ap (λ (n : ℕ). rows_after_end n status fds t.rows) pid_is ∙ sym rows_are)
        (owners_after t.rows place d rise lt status fds closed (closed_rows g is.valid t.rows t_public) t.io.opens.entries new.io.opens.entries exact
        (subst (λ (l : List (List (ℕ × ℕ))). OwnersAre l [] t.io.opens.entries) (fds_with t.rows pid (Some process)) is.owners))

    no_pairs : t.io.pairs.entries ≡ []
    unfolding public_part
    no_pairs = ap (λ (x : Group). x.frame.pairs) is.stands.public ∙ is.served.pairs

    no_pipes : t.io.pipes.entries ≡ []
    unfolding public_part
    no_pipes = ap (λ (x : Group). x.frame.pipes) is.stands.public ∙ is.served.pipes

    objects_in : t.objects ≡ g.frame.objects
    unfolding public_part
    objects_in = ap (λ (x : Group). x.frame.objects) is.stands.public

    part_here_is : part_of g pid ≡ Some (part_held process)
    part_here_is = sym (ap (λ (b : Bool). if b then part_of g pid else None) is.unleased) ∙ sym (is.stands.here pid) ∙ here_with t place process lt

    -- ---- of the process that runs there
    module _ (p : Proc) (run : runner g (pid_at t place) ≡ Some p) (part : part_in g p ≡ part_held process) where
      abbrev left : List Proc
      left = filter_map (after_end p status) (map public_row old.rows)

      left_is : map public_row new.rows ≡ left
      left_is =
          ap (λ (l : List Row). map public_row l) old_rows
          ∙ ap (λ (n : ℕ). map public_row (rows_after_end n status fds old.rows)) (sym (own_pid g is.valid pid p run))
          ∙ public_after p (own_runs g is.valid pid p run) status fds closed old.rows (own_rows g is.valid pid p run old.rows old_public)

      faces_are : memory_of (views_of process.faces.entries) ≡ private_memory g.memory p.maps
      faces_are = sym (ap (λ (x : PrivatePart). x.memory) part)

      mine_are : mine ≡ shared_mappings p.maps
      mine_are = own_shared g is.valid pid p run t.rows t_public place d lt pid_is

      abbrev stays : ℕ → Bool
      stays = stays_by process.faces.entries mine new.rows

      stay_same : AllByRecursion (λ (o : ObjectRec). stays_by process.faces.entries mine new.rows o.number ≡ stays_for left p.maps o.number) t.objects
      stay_same =
          subst (λ (l : List ObjectRec). AllByRecursion (λ (o : ObjectRec). stays o.number ≡ stays_for left p.maps o.number) l) (sym objects_in)
          (stay_all g.memory p process.faces.entries mine faces_are mine_are new.rows left left_is g.frame.objects is.valid.sound.memory.bytes)

      objects_left : new.objects ≡ filter (λ o. stays_for left p.maps o.number) t.objects
      objects_left = objects ∙ same_objects stays (stays_for left p.maps) t.objects stay_same

      abbrev files_seen : List ObjectView
      files_seen = views_of t.io.file_faces.entries

      bytes_left : memory_in new.objects (views_of new.shared.entries ++ files_seen) ≡ filter (λ o. stays_for left p.maps o.0) (memory_in t.objects (public_objects t))
      bytes_left =
          ap (λ (l : List ObjectRec). memory_in l (views_of new.shared.entries ++ files_seen)) objects
          ∙ ap (λ (l : List Entry). memory_in (filter (λ (o : ObjectRec). stays o.number) t.objects) (views_of l ++ files_seen)) shared
          ∙ memory_left stays (stays_for left p.maps) (public_objects t) (views_of (filter (λ (e : Entry). stays_shared mine new.rows e.number) t.shared.entries) ++ files_seen)
          (λ n e. found_left (stays_shared mine new.rows) t.shared.entries files_seen n (stays_public process.faces.entries mine new.rows n e)) t.objects stay_same

      opens_left : descriptions new.io.opens.entries ≡ filter (λ o. is_held left [] o.number) (descriptions t.io.opens.entries)
      opens_left = opens_after t.io.opens.entries new.io.opens.entries new.rows leaves (all_owned old leases g is.stands is.valid is.served.pairs is.owners) owners_left left left_is

      -- the public part
      public_left_is : (kept_in new).public ≡ public_ended (kept_in old).public p status
      unfolding made settled_made
      public_left_is =
          let opens : List Open = filter (λ o. is_held left [] o.number) (descriptions t.io.opens.entries) in
          let kept : List ObjectRec = filter (λ o. stays_for left p.maps o.number) t.objects in
          let bytes : Memory = filter (λ o. stays_for left p.maps o.0) (memory_in t.objects (public_objects t)) in
          let seen : Memory = memory_in new.objects (views_of new.shared.entries ++ files_seen) in
          made_is t new io
          ∙ ap (λ (l : List Proc). made t l (descriptions new.io.opens.entries) t.io.pipes.entries t.io.pairs.entries new.objects seen) left_is
          ∙ ap (λ (l : List Open). made t left l t.io.pipes.entries t.io.pairs.entries new.objects seen) opens_left
          ∙ ap (λ (l : List Pipe). made t left opens l t.io.pairs.entries new.objects seen) no_pipes
          ∙ ap (λ (l : List Pair). made t left opens [] l new.objects seen) no_pairs
          ∙ ap (λ (l : List ObjectRec). made t left opens [] [] l seen) objects_left
          ∙ ap (λ (m : Memory). made t left opens [] [] kept m) bytes_left
          ∙ sym (ap (λ (l : List Pipe). settled_made t left p.maps l []) no_pipes)
          ∙ sym (ap (λ (l : List Pair). settled_made t left p.maps t.io.pipes.entries l) no_pairs)
          ∙ sym (ended_is old p status)

      takes : TakesPart (kept_in old).here (kept_in new).here pid
      takes other =
          ap (λ (l : List (ℕ × PrivatePart)). kept_part l other) (ap (λ (l : List Row). filter_map part_here l) old_rows ∙ parts_after pid status fds old.rows (none_rows g is.valid old leases is.stands))
          ∙ takes_here old pid other

      pub stands_left : (durable : Bool) → StandsFor leases (kept_in new) (group_step durable g pid)
      stands_left durable =
          subst (λ (x : Group). StandsFor leases (record { public = x; here = (kept_in new).here }) (group_step durable g pid)) (sym public_left_is)
          (end_served durable leases (kept_in old) g pid p is.stands is.valid run is.unleased status (kept_in new).here (comes.ends durable leases g p is run) takes)

      -- the faces
      pub faces_left : (memory : List (ℕ × List ℕ)) (touched : List (ℕ × ℕ)) → FacesStandOver memory touched old → FacesStandOver memory touched new
      faces_left memory touched over = record {
        files = subst (λ (x : IoTables). All (λ e. is_of_file x.files.entries e.number ≡ true) x.file_faces.entries) (sym io) over.files;
        shared = shared_there;
        public = subst (λ (x : IoTables). AllStandOver memory touched (views_of new.shared.entries ++ views_of x.file_faces.entries)) (sym io)
            (subst (λ (l : List Entry). AllStandOver memory touched (views_of l ++ files_seen)) (sym shared) (public_left memory touched (λ (e : Entry). stays_shared mine new.rows e.number) t.shared.entries files_seen over.public));
        private = All-from_recursion (λ (row : Row). HasFaces memory touched row.process) new.rows
            (subst (λ (l : List Row). AllByRecursion (λ (row : Row). HasFaces memory touched row.process) l) (sym old_rows)
            (faces_after pid status fds memory touched old.rows (recursion_from_All (λ (row : Row). HasFaces memory touched row.process) old.rows over.private)));
      }
        where
          shared_there : SharedFacesOfMemory new
          shared_there =
              subst (λ (x : IoTables). All (λ e. is_memory_object new.objects x.files.entries e.number ≡ true) new.shared.entries) (sym io)
              (subst (λ (l : List ObjectRec). All (λ e. is_memory_object l t.io.files.entries e.number ≡ true) new.shared.entries) (sym objects)
              (subst (λ (l : List Entry). All (λ e. is_memory_object (filter (λ (o : ObjectRec). stays o.number) t.objects) t.io.files.entries e.number ≡ true) l) (sym shared)
              (shared_left process.faces.entries mine new.rows p.maps t.objects t.io.files.entries t.shared.entries files_seen (no_face g.memory p process.faces.entries mine faces_are mine_are)
              (public_beside g is.valid pid p run old leases is.stands) over.shared)))

  -- ---- THE STEP
  pub end_makes_step : MakesStep (with_process t (pid_at t place) (Some process)) new (pid_at t place)
  end_makes_step = record {
    stands = λ durable leases g is.
        let found = behind g pid (part_held process) (part_here_is leases g is) in
        stands_left leases g is found.0 found.1 found.2 durable;
    faces = λ durable leases g memory touched is over.
        let found = behind g pid (part_held process) (part_here_is leases g is) in
        subst (λ (l : List (ℕ × ℕ)). FacesStandOver memory l new) (sym (end_touches_none g is.valid pid found.0 found.1 status durable touched is.served (comes.ends durable leases g found.0 is found.1)))
        (faces_left leases g is found.0 found.1 found.2 memory touched over);
    owners = λ leases g is. owners_left leases g is;
  }

-- ---- as the calls tell it: rows and mappings are read again for the objects and for the faces
pub end_tells : (t : TablesView) (place : ℕ) (process : Process) (status : ℕ) (first row changed : Row) (new : TablesView) (maps maps1 maps2 : List Mapping) (rows1 rows2 : List Row) → place < length t.rows
    → first ≡ get_or t.rows place first → row ≡ get_or t.rows place row → changed ≡ ended_row status changed.fds row → changed.fds.entries ≡ []
    → new.rows ≡ rows_left_by first.pid (set t.rows place changed) → maps ≡ row.shared → maps1 ≡ maps → maps2 ≡ maps → rows1 ≡ new.rows → rows2 ≡ new.rows
    → new.objects ≡ filter (λ o. stays_by process.faces.entries maps1 rows1 o.number) t.objects → new.shared.entries ≡ filter (λ e. stays_shared maps2 rows2 e.number) t.shared.entries
    → new.io ≡ record t.io { opens = new.io.opens } → LeavesOwned t.io.opens.entries new.io.opens.entries
    → ((others : List (List (ℕ × ℕ))) → OwnersAre (row.fds.entries ∷ others) [] t.io.opens.entries → OwnersAre ([] ∷ others) [] new.io.opens.entries)
    → ComesToEnd (with_process t (pid_at t place) (Some process)) (pid_at t place) status → MakesStep (with_process t (pid_at t place) (Some process)) new (pid_at t place)
end_tells t place process status first row changed new maps maps1 maps2 rows1 rows2 lt first_is row_is changed_is closed rows maps_are maps1_are maps2_are rows1_are rows2_are objects shared io leaves exact comes =
    let same : first ≡ get_or t.rows place row = first_is ∙ get_or_default t.rows place first row lt in
    let mine : maps ≡ (get_or t.rows place row).shared = maps_are ∙ ap (λ (x : Row). x.shared) row_is in
    end_makes_step t place row lt process status changed.fds closed new
    (rows ∙ ap (λ (x : Row). rows_left_by x.pid (set t.rows place changed)) same ∙ ap (λ (x : Row). rows_left_by (get_or t.rows place row).pid (set t.rows place x)) (changed_is ∙ ap (ended_row status changed.fds) row_is))
    (objects ∙ ap (λ (l : List Mapping). filter (λ (o : ObjectRec). stays_by process.faces.entries l rows1 o.number) t.objects) (maps1_are ∙ mine) ∙ ap (λ (l : List Row). filter (λ (o : ObjectRec). stays_by process.faces.entries (get_or t.rows place row).shared l o.number) t.objects) rows1_are)
    (shared ∙ ap (λ (l : List Mapping). filter (λ (e : Entry). stays_shared l rows2 e.number) t.shared.entries) (maps2_are ∙ mine) ∙ ap (λ (l : List Row). filter (λ (e : Entry). stays_shared (get_or t.rows place row).shared l e.number) t.shared.entries) rows2_are)
    io leaves
    (subst (λ (x : Row). (others : List (List (ℕ × ℕ))) → OwnersAre (x.fds.entries ∷ others) [] t.io.opens.entries → OwnersAre ([] ∷ others) [] new.io.opens.entries) row_is exact)
    comes
