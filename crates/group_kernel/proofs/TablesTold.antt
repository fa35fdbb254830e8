-- What tables stand for, by what is told of their faces.
use Rattle.std.proofs.Common.{◌≡◌, ◌∙◌, ℕ, ◌<◌, ◌==◌, ◌++◌, Bool, true, false, List, [], ◌∷◌, map, length, get_or, Option, Some, None, refl, sym, ap, subst}
use Rattle.std.proofs.lemmas.List.Elements.{All-map}
use Rattle.std.proofs.lemmas.List.{get_or-map, length-map, map-append}
use Rattle.std.proofs.lemmas.Simd.{map-map}
use Rattle.std.specs.List.{filter_map, find}
use Rattle.std.specs.Option.{option_map}
use Rattle.std.specs.Prelude.{All, IfSome, if◌then◌else◌}
use Rattle.descriptors.specs.Opens.{descriptions}
use Rattle.descriptors.specs.Owners.{OwnersAre}
use Rattle.group_defs.specs.Objects.{is_of_file}
use Rattle.group_defs.specs.declared.frame.Frame.{Frame}
use Rattle.group_defs.specs.declared.frame.ObjectRec.{ObjectRec}
use Rattle.group_defs.specs.declared.frame.Proc.{Proc}
use Rattle.group_parts.specs.Kept.{KeptParts}
use Rattle.group_parts.specs.Parts.{PrivatePart}
use Rattle.group_kernel.specs.Faces.{AllStandOver, StandsOver}
use Rattle.group_kernel.specs.FirstFaces.{ProcessBy, TablesBy, bytes_of, process_by, row_by, tables_by}
use Rattle.group_kernel.specs.Held.{FacesStandOver, TablesView, is_memory_object, kept_in, part_here, public_frame, public_memory, public_objects, public_row}
use Rattle.group_kernel.specs.Leases.{part_held}
use Rattle.group_kernel.specs.Standing.{OwnersCounted}
use Rattle.group_kernel.specs.declared.row.Row.{Row}
use Rattle.proc_lease.specs.Private.{ObjectView, memory_of, view_of, views_of}
use Rattle.proc_lease.specs.declared.process.Process.{Process}
use Rattle.shadow_chains.specs.declared.entry.Entry.{Entry}

-- ---- what they stand for
abbrev numbered : ℕ → List ℕ → ℕ × List ℕ
numbered number bytes = (number, bytes)

abbrev bytes_shown : ObjectView → ℕ × List ℕ
bytes_shown o = (o.number, o.bytes)

public_told : {V : Type 0} → Row × Option (ProcessBy V) → Proc
public_told x = public_row x.0

frame_told : {V : Type 0} → TablesBy V → Frame
frame_told s = record {
  procs = map public_told s.rows;
  objects = s.objects;
  opens = descriptions s.io.opens.entries;
  pipes = s.io.pipes.entries;
  pairs = s.io.pairs.entries;
  files = s.io.files.entries;
  next = s.io.next;
  out = s.io.out;
}

frame_is : {V : Type 0} (v : Entry → V) (t : TablesView) → public_frame t ≡ frame_told (tables_by v t)
unfolding tables_by frame_told public_told
frame_is {V} v t = ap (λ (l : List Proc). record (public_frame t) { procs = l }) (sym (map-map (public_told {V = V}) (row_by v) t.rows))

found_told : (number : ℕ) (objects : List ObjectView) → option_map (λ (v : ObjectView). numbered number v.bytes) (find (λ o. o.number == number) objects) ≡ option_map (λ (e : ℕ × List ℕ). numbered number e.1) (find (λ e. e.0 == number) (memory_of objects))
found_told number [] = refl
found_told number (o ∷ os) = by_test (o.number == number) (found_told number os)
  where
    by_test : (b : Bool) → option_map (λ (v : ObjectView). numbered number v.bytes) (find (λ x. x.number == number) os) ≡ option_map (λ (e : ℕ × List ℕ). numbered number e.1) (find (λ e. e.0 == number) (memory_of os))
        → option_map (λ (v : ObjectView). numbered number v.bytes) (if b then Some o else find (λ x. x.number == number) os) ≡ option_map (λ (e : ℕ × List ℕ). numbered number e.1) (if b then Some (o.number, o.bytes) else find (λ e. e.0 == number) (memory_of os))
    by_test true rest = refl
    by_test false rest = rest

pub memory_of_public : (t : TablesView) → memory_of (public_objects t) ≡ map bytes_of t.shared.entries ++ map bytes_of t.io.file_faces.entries
memory_of_public t =
    map-append bytes_shown (views_of t.shared.entries) (views_of t.io.file_faces.entries) ∙ ap (λ (l : List (ℕ × List ℕ)). l ++ map bytes_shown (views_of t.io.file_faces.entries)) (map-map bytes_shown view_of t.shared.entries)
    ∙ ap (λ (l : List (ℕ × List ℕ)). map bytes_of t.shared.entries ++ l) (map-map bytes_shown view_of t.io.file_faces.entries)

pub filter_map_same : {X Y : Type 0} (h k : X → Option Y) (xs : List X) → ((x : X) → h x ≡ k x) → filter_map h xs ≡ filter_map k xs
filter_map_same h k [] same = refl
filter_map_same h k (x ∷ xs) same = rw (same x, filter_map_same h k xs same) refl

abbrev public_bytes : List (ℕ × List ℕ) → ObjectRec → Option (ℕ × List ℕ)
public_bytes all o = option_map (λ (e : ℕ × List ℕ). numbered o.number e.1) (find (λ e. e.0 == o.number) all)

abbrev memory_told : TablesBy (ℕ × List ℕ) → List (ℕ × List ℕ)
memory_told s = filter_map (public_bytes (s.shared ++ s.files)) s.objects

memory_is : (t : TablesView) → public_memory t ≡ memory_told (tables_by bytes_of t)
unfolding tables_by
memory_is t =
    filter_map_same (λ (o : ObjectRec). option_map (λ (v : ObjectView). numbered o.number v.bytes) (find (λ x. x.number == o.number) (public_objects t))) (public_bytes (memory_of (public_objects t))) t.objects (λ o. found_told o.number (public_objects t))
    ∙ ap (λ (all : List (ℕ × List ℕ)). filter_map (public_bytes all) t.objects) (memory_of_public t)

abbrev part_told : ℕ → ProcessBy (ℕ × List ℕ) → ℕ × PrivatePart
part_told pid p = (pid, record { regs = p.0; maps = p.1; memory = p.2 })

abbrev here_told : Row × Option (ProcessBy (ℕ × List ℕ)) → Option (ℕ × PrivatePart)
here_told x = option_map (part_told x.0.pid) x.1

part_is : (pid : ℕ) (o : Option Process) → option_map (λ (p : Process). (pid, part_held p)) o ≡ option_map (part_told pid) (option_map (process_by bytes_of) o)
part_is pid None = refl
part_is pid (Some p) = ap (λ (m : List (ℕ × List ℕ)). Some (pid, record { regs = p.regs; maps = p.map.entries; memory = m })) (map-map bytes_shown view_of p.faces.entries)

here_is : (rows : List Row) → filter_map part_here rows ≡ filter_map here_told (map (row_by bytes_of) rows)
here_is [] = refl
here_is (row ∷ rows) = rw (part_is row.pid row.process, here_is rows) refl

kept_told : TablesBy (ℕ × List ℕ) → KeptParts
kept_told s = record { public = record { frame = frame_told s; memory = memory_told s }; here = filter_map here_told s.rows }

kept_is : (t : TablesView) → kept_in t ≡ kept_told (tables_by bytes_of t)
unfolding kept_told tables_by
kept_is t =
    ap (λ (f : Frame). record { public = record { frame = f; memory = public_memory t }; here = filter_map part_here t.rows }) (frame_is bytes_of t)
    ∙ ap (λ (m : List (ℕ × List ℕ)). record { public = record { frame = frame_told (tables_by bytes_of t); memory = m }; here = filter_map part_here t.rows }) (memory_is t)
    ∙ ap (λ (h : List (ℕ × PrivatePart)). record { public = record { frame = frame_told (tables_by bytes_of t); memory = memory_told (tables_by bytes_of t) }; here = h }) (here_is t.rows)

pub kept_same : (t new : TablesView) → tables_by bytes_of new ≡ tables_by bytes_of t → kept_in new ≡ kept_in t
kept_same t new same = kept_is new ∙ ap kept_told same ∙ sym (kept_is t)

-- ---- owners of descriptions
fds_told : {V : Type 0} → Row × Option (ProcessBy V) → List (ℕ × ℕ)
fds_told x = x.0.fds.entries

OwnersTold : {V : Type 0} → TablesBy V → Type 0
OwnersTold s = OwnersAre (map fds_told s.rows) [] s.io.opens.entries

pub owners_same : {V : Type 0} (v : Entry → V) (t new : TablesView) → tables_by v new ≡ tables_by v t → OwnersCounted t → OwnersCounted new
unfolding tables_by OwnersTold fds_told
owners_same {V} v t new same owners =
    let fds = λ (u : TablesView). map-map (fds_told {V = V}) (row_by v) u.rows in
    let told : OwnersTold (tables_by v t) = subst (λ (l : List (List (ℕ × ℕ))). OwnersAre l [] t.io.opens.entries) (sym (fds t)) owners in
    subst (λ (l : List (List (ℕ × ℕ))). OwnersAre l [] new.io.opens.entries) (fds new) (subst OwnersTold (sym same) told)

-- ---- numbers and bytes are told with the views
abbrev process_retold : {V W : Type 0} → (V → W) → ProcessBy V → ProcessBy W
process_retold g p = (p.0, p.1, map g p.2)

abbrev row_retold : {V W : Type 0} → (V → W) → Row × Option (ProcessBy V) → Row × Option (ProcessBy W)
row_retold g x = (x.0, option_map (process_retold g) x.1)

retold : {V W : Type 0} → (V → W) → TablesBy V → TablesBy W
retold g s = record { rows = map (row_retold g) s.rows; objects = s.objects; shared = map g s.shared; files = map g s.files; io = s.io }

process_is : {V W : Type 0} (v : Entry → V) (g : V → W) (o : Option Process) → option_map (process_by (λ e. g (v e))) o ≡ option_map (process_retold g) (option_map (process_by v) o)
process_is v g None = refl
process_is {V} {W} v g (Some p) = ap (λ (l : List W). Some (p.regs, p.map.entries, l)) (sym (map-map g v p.faces.entries))

rows_are : {V W : Type 0} (v : Entry → V) (g : V → W) (rows : List Row) → map (row_by (λ e. g (v e))) rows ≡ map (row_retold g) (map (row_by v) rows)
rows_are v g [] = refl
rows_are v g (row ∷ rows) = rw (process_is v g row.process, rows_are v g rows) refl

retold_is : {V W : Type 0} (v : Entry → V) (g : V → W) (u : TablesView) → tables_by (λ e. g (v e)) u ≡ retold g (tables_by v u)
unfolding tables_by retold
retold_is {V} {W} v g u =
    ap (λ (l : List (Row × Option (ProcessBy W))). record (tables_by (λ e. g (v e)) u) { rows = l }) (rows_are v g u.rows)
    ∙ ap (λ (l : List W). record (retold g (tables_by v u)) { shared = l; files = map (λ e. g (v e)) u.io.file_faces.entries }) (sym (map-map g v u.shared.entries))
    ∙ ap (λ (l : List W). record (retold g (tables_by v u)) { files = l }) (sym (map-map g v u.io.file_faces.entries))

pub told_with : {V W : Type 0} (v : Entry → V) (g : V → W) (t new : TablesView) → tables_by v new ≡ tables_by v t → tables_by (λ e. g (v e)) new ≡ tables_by (λ e. g (v e)) t
told_with v g t new same = retold_is v g new ∙ ap (retold g) same ∙ sym (retold_is v g t)

pub bytes_same : (t new : TablesView) → tables_by view_of new ≡ tables_by view_of t → tables_by bytes_of new ≡ tables_by bytes_of t
bytes_same t new same = told_with view_of bytes_shown t new same

-- ---- faces that stand over the last barrier
pub all_unmapped : {X Y : Type 0} (P : Y → Type 0) (f : X → Y) (xs : List X) → All P (map f xs) → All (λ x. P (f x)) xs
all_unmapped P f xs all k d lt = subst P (get_or-map f xs k d (f d) lt) (all k (f d) (subst (λ (n : ℕ). k < n) (sym (length-map xs f)) lt))

record FacesTold (memory : List (ℕ × List ℕ)) (touched : List (ℕ × ℕ)) (s : TablesBy ObjectView) : Type 0 where
  files : All (λ o. is_of_file s.io.files.entries o.number ≡ true) s.files
  shared : All (λ o. is_memory_object s.objects s.io.files.entries o.number ≡ true) s.shared
  public : AllStandOver memory touched (s.shared ++ s.files)
  private : All (λ x. IfSome x.1 (λ p. AllStandOver memory touched p.2)) s.rows

module _ (memory : List (ℕ × List ℕ)) (touched : List (ℕ × ℕ)) where
  abbrev Stand : Option (ProcessBy ObjectView) → Type 0
  Stand o = IfSome o (λ p. AllStandOver memory touched p.2)

  abbrev StandIn : Option Process → Type 0
  StandIn o = IfSome o (λ p. AllStandOver memory touched (views_of p.faces.entries))

  stand : (o : Option Process) → StandIn o → Stand (option_map (process_by view_of) o)
  stand None s = s
  stand (Some p) s = s

  stand_in : (o : Option Process) → Stand (option_map (process_by view_of) o) → StandIn o
  stand_in None s = s
  stand_in (Some p) s = s

  told_of : (t : TablesView) → FacesStandOver memory touched t → FacesTold memory touched (tables_by view_of t)
  unfolding tables_by
  told_of t faces = record {
    files = All-map (λ (o : ObjectView). is_of_file t.io.files.entries o.number ≡ true) view_of t.io.file_faces.entries faces.files;
    shared = All-map (λ (o : ObjectView). is_memory_object t.objects t.io.files.entries o.number ≡ true) view_of t.shared.entries faces.shared;
    public = faces.public;
    private = All-map (λ (x : Row × Option (ProcessBy ObjectView)). Stand x.1) (row_by view_of) t.rows (λ k d lt. stand (get_or t.rows k d).process (faces.private k d lt));
  }

  of_told : (t : TablesView) → FacesTold memory touched (tables_by view_of t) → FacesStandOver memory touched t
  unfolding tables_by
  of_told t told = record {
    files = all_unmapped (λ (o : ObjectView). is_of_file t.io.files.entries o.number ≡ true) view_of t.io.file_faces.entries told.files;
    shared = all_unmapped (λ (o : ObjectView). is_memory_object t.objects t.io.files.entries o.number ≡ true) view_of t.shared.entries told.shared;
    public = told.public;
    private = λ k d lt. stand_in (get_or t.rows k d).process (all_unmapped (λ (x : Row × Option (ProcessBy ObjectView)). Stand x.1) (row_by view_of) t.rows told.private k d lt);
  }

  pub faces_same : (t new : TablesView) → tables_by view_of new ≡ tables_by view_of t → FacesStandOver memory touched t → FacesStandOver memory touched new
  faces_same t new same faces = of_told new (subst (FacesTold memory touched) (sym same) (told_of t faces))
