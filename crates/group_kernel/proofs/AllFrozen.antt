-- All objects are frozen: what was frozen is the group's bytes over the last barrier, and all faces stand over the group's bytes.
use Rattle.std.proofs.Common.{◌≡◌, ◌∙◌, ℕ, ◌<◌, ◌≤◌, ◌*◌, true, List, [], ◌∷◌, map, length, get_or, Option, Some, None, refl, sym, ap, subst, arith}
use Rattle.std.proofs.lemmas.List.Elements.{All-append, All-map}
use Rattle.std.proofs.lemmas.List.{get_or_default}
use Rattle.std.specs.Prelude.{All, Any, IfSome}
use Rattle.std.specs.List.{AllZip}
use Rattle.group_defs.specs.Cells.{bytes_in}
use Rattle.group_defs.specs.Group.{Group}
use Rattle.group_defs.specs.Objects.{is_of_file}
use Rattle.group_defs.specs.Valid.{GroupIsValid}
use Rattle.group_defs.specs.declared.frame.ObjectRec.{ObjectRec}
use Rattle.group_laws.proofs.Inside.{object_bytes}
use Rattle.group_parts.specs.Kept.{KeptParts, StandsFor}
use Rattle.group_kernel.specs.Deltas.{HasJust, IsDeltaOf}
use Rattle.group_kernel.specs.Faces.{AllStandOver, StandsOver}
use Rattle.group_kernel.specs.FirstFaces.{IsFreezeOf, TablesBy, WasFrozen, bytes_of, first_face, tables_by}
use Rattle.group_kernel.specs.Held.{FacesStandOver, FileFacesOfFiles, SharedFacesOfMemory, TablesView, is_memory_object, kept_in}
use Rattle.group_kernel.specs.declared.row.Row.{Row}
use Rattle.group_kernel.proofs.FoundFaces.{face_at, file_in_frame, first_file, first_shared, objects_same, private_first, shared_in_frame}
use Rattle.group_kernel.proofs.FrozenFaces.{FreezesUpTo}
use Rattle.group_kernel.proofs.FrozenObjects.{delta, just, stands_after, zip_each}
use Rattle.group_kernel.proofs.ObjectFaces.{HasFirstFace, has_first}
use Rattle.group_kernel.proofs.PreparedFaces as told
use Rattle.group_kernel.proofs.SeenInGroup.{same_some}
use Rattle.group_kernel.proofs.TablesTold.{all_unmapped, kept_same}
use Rattle.proc_lease.specs.Private.{view_of, views_of}
use Rattle.proc_lease.specs.declared.process.Process.{Process}
use Rattle.shadow_chains.specs.Entries.{entry_with, number_of}
use Rattle.shadow_chains.specs.Faces.{FaceView}
use Rattle.shadow_chains.specs.declared.entry.Entry.{Entry}
use Rattle.shadow_chains.specs.declared.face.Frozen.{Frozen}
use Rattle.tables.proofs.Ordered.{IsOrdered, ordered_map, ordered_of_map, ordered_of_pairs, pairs_of_ordered}
use Rattle.tables.specs.Rising.{Rise}

-- ---- which faces stand among the public ones

-- they rise, those of files are of files, and the shared ones of no file
pub record AreInPlace (t : TablesView) : Type 0 where
  pub files : FileFacesOfFiles t
  pub shared : SharedFacesOfMemory t
  pub files_rise : Rise number_of t.io.file_faces.entries
  pub shared_rise : Rise number_of t.shared.entries

record AreToldInPlace (s : TablesBy (ℕ × List ℕ)) : Type 0 where
  files : All (λ e. is_of_file s.io.files.entries e.0 ≡ true) s.files
  shared : All (λ e. is_memory_object s.objects s.io.files.entries e.0 ≡ true) s.shared
  files_rise : IsOrdered (λ (x y : ℕ × List ℕ). x.0 < y.0) s.files
  shared_rise : IsOrdered (λ (x y : ℕ × List ℕ). x.0 < y.0) s.shared

rise_told : (entries : List Entry) → Rise number_of entries → IsOrdered (λ (x y : ℕ × List ℕ). x.0 < y.0) (map bytes_of entries)
unfolding Rise
rise_told entries rise = ordered_map (λ (x y : ℕ × List ℕ). x.0 < y.0) bytes_of entries (ordered_of_pairs (λ (x y : Entry). x.number < y.number) entries rise)

rise_of_told : (entries : List Entry) → IsOrdered (λ (x y : ℕ × List ℕ). x.0 < y.0) (map bytes_of entries) → Rise number_of entries
unfolding Rise
rise_of_told entries told = pairs_of_ordered (λ (x y : Entry). x.number < y.number) entries (ordered_of_map (λ (x y : ℕ × List ℕ). x.0 < y.0) bytes_of entries told)

place_told : (t : TablesView) → AreInPlace t → AreToldInPlace (tables_by bytes_of t)
unfolding tables_by
place_told t in_place = record {
  files = All-map (λ (e : ℕ × List ℕ). is_of_file t.io.files.entries e.0 ≡ true) bytes_of t.io.file_faces.entries in_place.files;
  shared = All-map (λ (e : ℕ × List ℕ). is_memory_object t.objects t.io.files.entries e.0 ≡ true) bytes_of t.shared.entries in_place.shared;
  files_rise = rise_told t.io.file_faces.entries in_place.files_rise;
  shared_rise = rise_told t.shared.entries in_place.shared_rise;
}

place_of_told : (t : TablesView) → AreToldInPlace (tables_by bytes_of t) → AreInPlace t
unfolding tables_by
place_of_told t told = record {
  files = all_unmapped (λ (e : ℕ × List ℕ). is_of_file t.io.files.entries e.0 ≡ true) bytes_of t.io.file_faces.entries told.files;
  shared = all_unmapped (λ (e : ℕ × List ℕ). is_memory_object t.objects t.io.files.entries e.0 ≡ true) bytes_of t.shared.entries told.shared;
  files_rise = rise_of_told t.io.file_faces.entries told.files_rise;
  shared_rise = rise_of_told t.shared.entries told.shared_rise;
}

place_same : (t now : TablesView) → tables_by bytes_of now ≡ tables_by bytes_of t → AreInPlace t → AreInPlace now
place_same t now same in_place = place_of_told now (subst AreToldInPlace (sym same) (place_told t in_place))

-- ---- all faces, where each first one stands

module _ (g : Group) (valid : GroupIsValid g) (t : TablesView) (stands : StandsFor [] (kept_in t) g) (in_place : AreInPlace t) (memory : List (ℕ × List ℕ)) (touched : List (ℕ × ℕ))
    (each : (number : ℕ) (f : FaceView) → first_face t number ≡ Some f → Any (λ (o : ObjectRec). o.number ≡ number) t.objects → StandsOver memory touched (view_of (entry_with number f))) where
  shared_stand : All (λ (e : Entry). StandsOver memory touched (view_of e)) t.shared.entries
  shared_stand i d lt =
      let e = get_or t.shared.entries i d in
      each e.number e.face (first_shared g valid t stands e.number e.face (face_at t.shared.entries i d in_place.shared_rise lt)) (shared_in_frame g valid t stands in_place.shared i d lt)

  files_stand : All (λ (e : Entry). StandsOver memory touched (view_of e)) t.io.file_faces.entries
  files_stand i d lt =
      let e = get_or t.io.file_faces.entries i d in
      each e.number e.face (first_file g valid t stands in_place.shared e.number e.face (in_place.files i d lt) (face_at t.io.file_faces.entries i d in_place.files_rise lt))
      (file_in_frame g valid t stands e.number (in_place.files i d lt))

  private_stand : (k : ℕ) (d : Row) → k < length t.rows → (o : Option Process) → (get_or t.rows k d).process ≡ o → IfSome o (λ p. AllStandOver memory touched (views_of p.faces.entries))
  private_stand k d lt None here = tt
  private_stand k d lt (Some p) here =
      All-map (StandsOver memory touched) view_of p.faces.entries (λ i e less.
      let found = private_first g valid t stands k d lt p here i e less in
      each (get_or p.faces.entries i e).number (get_or p.faces.entries i e).face found.0 found.1)

  all_stand : FacesStandOver memory touched t
  all_stand = record {
    files = in_place.files;
    shared = in_place.shared;
    public = All-append (StandsOver memory touched) (views_of t.shared.entries) (views_of t.io.file_faces.entries)
        (All-map (StandsOver memory touched) view_of t.shared.entries shared_stand) (All-map (StandsOver memory touched) view_of t.io.file_faces.entries files_stand);
    private = λ k d lt. private_stand k d lt (get_or t.rows k d).process refl;
  }

-- ---- all objects were frozen

module _ (t now : TablesView) (place : ℕ) (frozen : List Frozen) (upto : FreezesUpTo t now place frozen) (past : length t.objects ≤ place) (g : Group) (memory : List (ℕ × List ℕ)) (touched : List (ℕ × ℕ)) (stands : StandsFor [] (kept_in t) g) (valid : GroupIsValid g) (faces : FacesStandOver memory touched t) where
  objects : t.objects ≡ g.frame.objects
  objects = objects_same g valid t stands

  has : (k : ℕ) (d : ObjectRec) → k < length t.objects → HasFirstFace g t memory touched (get_or t.objects k d).number
  has k d lt = has_first g valid t stands memory touched faces (get_or t.objects k d) (subst (Any (λ (x : ObjectRec). x ≡ get_or t.objects k d)) objects (k, get_or t.objects k d, lt, default_here, refl))
    where
      default_here : get_or t.objects k (get_or t.objects k d) ≡ get_or t.objects k d
      default_here = get_or_default t.objects k (get_or t.objects k d) d lt

  size_of : (k : ℕ) (d : ObjectRec) → k < length t.objects → length (bytes_in g.memory (get_or t.objects k d).number) ≡ 4096 * (get_or t.objects k d).pages
  unfolding Rise
  size_of k d lt =
      let at : get_or t.objects k d ≡ get_or g.frame.objects k d = ap (λ (l : List ObjectRec). get_or l k d) objects in
      let within : k < length g.frame.objects = subst (λ (l : List ObjectRec). k < length l) objects lt in
      object_bytes g.frame.objects g.memory (get_or t.objects k d).number k d valid.sound.memory.bytes valid.sound.frame.objects.rise within (ap (λ (o : ObjectRec). o.number) (sym at)) ∙ ap (λ (o : ObjectRec). 4096 * o.pages) (sym at)

  -- what was frozen of an object, and the faces of it before and after
  record IsFrozenAt (k : ℕ) (d : ObjectRec) (f : Frozen) : Type 0 where
    old : FaceView
    now_shows : FaceView
    now_is : first_face now (get_or t.objects k d).number ≡ Some now_shows
    freezes : IsFreezeOf (get_or t.objects k d).number old now_shows f
    stood : StandsOver memory touched (view_of (entry_with (get_or t.objects k d).number old))
    bytes : old.bytes ≡ bytes_in g.memory (get_or t.objects k d).number

  frozen_at : (k : ℕ) (d : ObjectRec) (f : Frozen) → k < length t.objects → IsFrozenAt k d (get_or frozen k f)
  frozen_at k d f lt =
      let first = has k d lt in
      let was : WasFrozen t now (get_or t.objects k d).number (get_or frozen k f) =
      subst (λ (o : Option FaceView). IfSome o (λ _. WasFrozen t now (get_or t.objects k d).number (get_or frozen k f))) first.first (upto.done k d f (omega (arith, lt, past)) lt) in
      let same : first.face ≡ was.old = same_some (sym first.first ∙ was.old_is) in
      record {
        old = was.old;
        now_shows = was.now;
        now_is = was.now_is;
        freezes = was.freezes;
        stood = subst (λ (x : FaceView). StandsOver memory touched (view_of (entry_with (get_or t.objects k d).number x))) same first.stands;
        bytes = subst (λ (x : FaceView). x.bytes ≡ bytes_in g.memory (get_or t.objects k d).number) same first.bytes;
      }

  pub deltas_are : AllZip (IsDeltaOf memory g) g.frame.objects frozen × AllZip (HasJust touched) g.frame.objects frozen
  deltas_are =
      subst (λ (l : List ObjectRec). AllZip (IsDeltaOf memory g) l frozen × AllZip (HasJust touched) l frozen) objects (
        zip_each (IsDeltaOf memory g) t.objects frozen upto.size (λ k a b lt.
            let at = frozen_at k a b lt in
            delta memory touched g (get_or t.objects k a) at.old at.now_shows (get_or frozen k b) at.stood at.bytes (size_of k a lt) at.freezes),
        zip_each (HasJust touched) t.objects frozen upto.size (λ k a b lt.
            let at = frozen_at k a b lt in
            just memory touched g (get_or t.objects k a) at.old at.now_shows (get_or frozen k b) at.stood at.bytes (size_of k a lt) at.freezes),
      )

  now_objects : now.objects ≡ t.objects
  now_objects = told.objects_same bytes_of t now upto.same

  some_frozen : (l : List Frozen) (k : ℕ) → k < length l → Frozen
  some_frozen [] k lt = absurd (omega (arith, lt))
  some_frozen (f ∷ fs) k lt = f

  each_after : (number : ℕ) (f : FaceView) → first_face now number ≡ Some f → Any (λ (o : ObjectRec). o.number ≡ number) now.objects → StandsOver g.memory [] (view_of (entry_with number f))
  each_after number f first there = by_place (subst (Any (λ (o : ObjectRec). o.number ≡ number)) now_objects there)
    where
      by_place : Any (λ (o : ObjectRec). o.number ≡ number) t.objects → StandsOver g.memory [] (view_of (entry_with number f))
      by_place (k, o, lt, is, same) =
          let at = frozen_at k o (some_frozen frozen k (omega (arith, lt, upto.size))) lt in
          let named : (get_or t.objects k o).number ≡ number = ap (λ (x : ObjectRec). x.number) is ∙ same in
          let face : at.now_shows ≡ f = same_some (sym at.now_is ∙ ap (first_face now) named ∙ first) in
          subst (λ (n : ℕ). StandsOver g.memory [] (view_of (entry_with n f))) named
          (subst (λ (x : FaceView). StandsOver g.memory [] (view_of (entry_with (get_or t.objects k o).number x))) face
          (stands_after memory touched g (get_or t.objects k o) at.old at.now_shows (get_or frozen k (some_frozen frozen k (omega (arith, lt, upto.size)))) at.stood at.bytes (size_of k o lt) at.freezes))

  pub faces_are : Rise number_of t.shared.entries → Rise number_of t.io.file_faces.entries → FacesStandOver g.memory [] now
  faces_are shared_rise files_rise =
      let in_place : AreInPlace now = place_same t now upto.same (record { files = faces.files; shared = faces.shared; files_rise = files_rise; shared_rise = shared_rise }) in
      all_stand g valid now (subst (λ (k : KeptParts). StandsFor [] k g) (sym (kept_same t now upto.same)) stands) in_place g.memory [] each_after
