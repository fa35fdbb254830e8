-- Tables made of a group: what they keep is the group's parts, their faces stand over it, and their descriptors own its descriptions.
use Rattle.std.proofs.Common.{◌≡◌, ℕ, ◌&&◌, true, not, List, [], ◌∷◌, ◌++◌, map, Option, Some, None, refl, sym, ap, ◌∙◌, arith, subst}
use Rattle.std.proofs.Math.Path.{ap₂}
use Rattle.std.proofs.lemmas.List.Elements.{All-from_recursion}
use Rattle.std.specs.Prelude.{All, IfSome}
use Rattle.std.specs.List.{AllByRecursion, AllZip, filter}
use Rattle.descriptors.specs.Opens.{descriptions}
use Rattle.descriptors.specs.Owners.{OwnersAre}
use Rattle.group_defs.specs.Group.{Group}
use Rattle.group_defs.specs.Objects.{is_of_file}
use Rattle.group_defs.specs.Valid.{GroupIsValid}
use Rattle.group_defs.specs.declared.frame.Frame.{Frame}
use Rattle.group_defs.specs.declared.frame.Proc.{Proc}
use Rattle.group_parts.specs.Kept.{all_parts}
use Rattle.group_parts.specs.Parts.{PrivatePart, is_public, public_part, public_process}
use Rattle.proc_lease.specs.Private.{ObjectView, view_of, views_of}
use Rattle.proc_lease.specs.declared.process.Process.{Process}
use Rattle.run_defs.specs.Progress.{progress_at}
use Rattle.shadow_chains.specs.Entries.{number_of}
use Rattle.shadow_chains.specs.declared.entry.Entry.{Entry}
use Rattle.tables.specs.Rising.{Rise}
use Rattle.tables.proofs.Ordered.{each_append, each_filter, each_map, each_weaker}
use Rattle.group_kernel.specs.Calls.{HasOnlyServedTables}
use Rattle.group_kernel.specs.Faces.{StandsOver, base_memory}
use Rattle.group_kernel.specs.Held.{FacesStandOver, TablesView, is_memory_object, kept_in, public_frame, public_memory, public_objects}
use Rattle.group_kernel.specs.Standing.{OwnersCounted}
use Rattle.group_kernel.specs.Starting.{IsFirstFace, IsProcessOf, IsRowOf, faces_but, take_face}
use Rattle.group_kernel.specs.declared.row.Row.{Row}
use Rattle.group_kernel.proofs.FacesOfMemory.{each_of_object, left_public, memory_left}
use Rattle.group_kernel.proofs.FacesOverStart.{StandsAtStart, each_stands}
use Rattle.group_kernel.proofs.PublicMemory.{Memory, has_number, memory_in}
use Rattle.group_kernel.proofs.RowsOfParts.{all_emptied, emptied_maps, parts_here, rows_public}

-- The tables hold a row for each process, with the faces that it takes, all faces that are left, and the group's other lists.
pub record AreTablesOf (g : Group) (all : List Entry) (t : TablesView) : Type 0 where
  pub rows : AllZip (IsRowOf all) g.frame.procs t.rows
  pub objects : t.objects ≡ g.frame.objects
  pub shared : t.shared.entries ≡ faces_but (take_face g.frame.procs) all
  pub opens : descriptions t.io.opens.entries ≡ g.frame.opens
  pub pipes : t.io.pipes.entries ≡ g.frame.pipes
  pub pairs : t.io.pairs.entries ≡ g.frame.pairs
  pub files : t.io.files.entries ≡ g.frame.files
  pub file_faces : t.io.file_faces.entries ≡ []
  pub next : t.io.next ≡ g.frame.next
  pub out : t.io.out ≡ g.frame.out

-- ---- whose the descriptions are
same_fds : (all : List Entry) (procs : List Proc) (rows : List Row) → AllZip (IsRowOf all) procs rows → map (λ (row : Row). row.fds.entries) rows ≡ map (λ (p : Proc). p.fds) procs
same_fds all [] [] zip = refl
same_fds all [] (row ∷ rows) zip = absurd zip
same_fds all (p ∷ ps) [] zip = absurd zip
same_fds all (p ∷ ps) (row ∷ rows) zip = ap₂ (λ (x : List (ℕ × ℕ)) (l : List (List (ℕ × ℕ))). x ∷ l) zip.0.fds (same_fds all ps rows zip.1)

pub owners_counted : (g : Group) (all : List Entry) (t : TablesView) → AreTablesOf g all t → OwnersAre (map (λ (p : Proc). p.fds) g.frame.procs) [] t.io.opens.entries → OwnersCounted t
owners_counted g all t made owners =
    subst (λ (l : List (List (ℕ × ℕ))). OwnersAre l [] t.io.opens.entries) (sym (same_fds all g.frame.procs t.rows made.rows)) owners

module _ (epoch : ℕ) (g : Group) (all : List Entry) (t : TablesView) (valid : GroupIsValid g) (firsts : AllZip (IsFirstFace epoch) g.memory all) (rise : Rise number_of all) (made : AreTablesOf g all t) where
  -- ---- what is kept
  none_behind : (l : List ObjectView) → l ++ [] ≡ l
  none_behind [] = refl
  none_behind (x ∷ xs) = ap (λ (l : List ObjectView). x ∷ l) (none_behind xs)

  objects_left : public_objects t ≡ views_of (faces_but (take_face g.frame.procs) all)
  objects_left =
      ap₂ (λ (a b : List Entry). views_of a ++ views_of b) made.shared made.file_faces ∙ none_behind (views_of (faces_but (take_face g.frame.procs) all))

  memory_is : public_memory t ≡ filter (λ o. is_public g.frame.procs o.0) g.memory
  memory_is =
      ap₂ memory_in made.objects objects_left
      ∙ memory_left epoch (λ number. not (take_face g.frame.procs number)) g.frame.objects g.memory all valid.sound.memory.bytes firsts rise
      ∙ left_public g.frame.procs (emptied_maps g.frame.procs (all_emptied g valid)) g.memory

  frame_is : public_frame t ≡ record g.frame { procs = map public_process g.frame.procs }
  frame_is = rw (rows_public all g.frame.procs t.rows made.rows (all_emptied g valid), made.objects, made.opens, made.pipes, made.pairs, made.files, made.next, made.out) refl

  public_is : (record { frame = public_frame t; memory = public_memory t }) ≡ public_part g
  unfolding public_part
  public_is = ap₂ (λ (f : Frame) (m : Memory). record { frame = f; memory = m }) frame_is memory_is

  pub parts_kept : kept_in t ≡ all_parts g
  parts_kept = ap₂ (λ (x : Group) (here : List (ℕ × PrivatePart)). record { public = x; here = here }) public_is (parts_here epoch g all g.frame.procs t.rows firsts made.rows)

  -- ---- what the faces stand over
  stands : AllByRecursion (StandsAtStart epoch g) all
  stands = each_stands epoch g all valid firsts

  abbrev Stands : ObjectView → Type 0
  Stands = StandsOver (base_memory (progress_at epoch g)) (progress_at epoch g).touched

  left_stand : AllByRecursion (StandsAtStart epoch g) t.shared.entries
  left_stand = subst (AllByRecursion (StandsAtStart epoch g)) (sym made.shared) (each_filter (StandsAtStart epoch g) (λ e. not (take_face g.frame.procs e.number)) all stands)

  public_stand : AllByRecursion Stands (public_objects t)
  public_stand =
      each_append Stands (views_of t.shared.entries) (views_of t.io.file_faces.entries) (each_map Stands view_of t.shared.entries left_stand)
      (subst (λ (l : List Entry). AllByRecursion Stands (views_of l)) (sym made.file_faces) tt)

  own_stand : (p : Proc) (o : Option Process) → IsProcessOf all p o → IfSome o (λ process. All Stands (views_of process.faces.entries))
  own_stand p None is = tt
  own_stand p (Some process) is =
      All-from_recursion Stands (views_of process.faces.entries)
      (subst (λ (l : List Entry). AllByRecursion Stands (views_of l)) (sym is.own) (each_map Stands view_of (filter _ all) (each_filter (StandsAtStart epoch g) _ all stands)))

  rows_stand : (procs : List Proc) (rows : List Row) → AllZip (IsRowOf all) procs rows → AllByRecursion (λ (row : Row). IfSome row.process (λ process. All Stands (views_of process.faces.entries))) rows
  rows_stand [] [] zip = tt
  rows_stand [] (row ∷ rows) zip = absurd zip
  rows_stand (p ∷ ps) [] zip = absurd zip
  rows_stand (p ∷ ps) (row ∷ rows) zip = (own_stand p row.process zip.0.process, rows_stand ps rows zip.1)

  -- ---- in which tables they are
  memory_objects : g.frame.files ≡ [] → AllByRecursion (λ (e : Entry). is_memory_object t.objects t.io.files.entries e.number ≡ true) all
  unfolding is_of_file
  memory_objects none =
      rw (made.objects, made.files, none) (each_weaker (λ (e : Entry). has_number g.frame.objects e.number ≡ true) (λ e. (has_number g.frame.objects e.number && true) ≡ true) all
      (λ e there. rw there refl) (each_of_object epoch g.frame.objects g.frame.objects g.memory all valid.sound.memory.bytes firsts (λ n is. is)))

  pub faces_stand : HasOnlyServedTables g.frame → FacesStandOver (base_memory (progress_at epoch g)) (progress_at epoch g).touched t
  faces_stand served = record {
    files = rw made.file_faces (λ k d lt. absurd (omega (arith, lt)));
    shared = All-from_recursion (λ (e : Entry). is_memory_object t.objects t.io.files.entries e.number ≡ true) t.shared.entries
        (subst (AllByRecursion (λ (e : Entry). is_memory_object t.objects t.io.files.entries e.number ≡ true)) (sym made.shared)
        (each_filter (λ (e : Entry). is_memory_object t.objects t.io.files.entries e.number ≡ true) (λ e. not (take_face g.frame.procs e.number)) all (memory_objects served.files)));
    public = All-from_recursion Stands (public_objects t) public_stand;
    private = All-from_recursion (λ (row : Row). IfSome row.process (λ process. All Stands (views_of process.faces.entries))) t.rows (rows_stand g.frame.procs t.rows made.rows);
  }
