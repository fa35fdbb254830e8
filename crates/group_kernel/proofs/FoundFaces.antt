-- The face of each entry is the first one of its number: no two tables have a face of the same object.
use Rattle.std.proofs.Common.{◌≡◌, ◌∙◌, ℕ, zero, suc, ◌<◌, ◌==◌, Bool, true, false, not, List, [], ◌∷◌, map, length, get_or, take, Option, Some, None, refl, sym, ap, subst, arith}
use Rattle.std.proofs.lemmas.Bool.{and_parts, eq-eqb, eqb-true, false≢true, ne_eqb}
use Rattle.std.proofs.lemmas.Bool.Decides.{nat_tests}
use Rattle.std.proofs.lemmas.List.Elements.{recursion_from_All}
use Rattle.std.specs.Prelude.{Any, IfSome, find, if◌then◌else◌}
use Rattle.std.specs.List.{AllByRecursion, AllZip, list_any}
use Rattle.std.specs.Option.{option_map}
use Rattle.group_defs.specs.Fork.{maps_privately}
use Rattle.group_defs.specs.Group.{Group, runner}
use Rattle.group_defs.specs.Objects.{HasFileObject, is_of_file}
use Rattle.group_defs.specs.Valid.{GroupIsValid, IsObject}
use Rattle.group_defs.specs.declared.frame.ObjectRec.{ObjectRec}
use Rattle.group_defs.specs.declared.frame.Proc.{Proc}
use Rattle.group_files.specs.declared.named_files.FileRec.{FileRec}
use Rattle.group_laws.proofs.Lists.{any_all, any_at, any_true, any_weaker, rise_at, true_any}
use Rattle.group_parts.specs.Kept.{StandsFor}
use Rattle.group_parts.specs.Parts.{PrivatePart, private_memory, public_part}
use Rattle.group_kernel.specs.FirstFaces.{else_face, face_in_process, first_face, private_face}
use Rattle.group_kernel.specs.Held.{SharedFacesOfMemory, TablesView, is_memory_object, kept_in, public_objects}
use Rattle.proc_lease.specs.Sight.{has_object}
use Rattle.group_kernel.specs.declared.row.Row.{Row}
use Rattle.group_kernel.proofs.BesideFaces.{is_there, private_beside, public_beside}
use Rattle.group_kernel.proofs.FirstFaces.{first_at}
use Rattle.group_kernel.proofs.OtherRows.{its_part, its_process, unleased}
use Rattle.group_kernel.proofs.RowPids.{PidsRise, at_above, pids_rise}
use Rattle.group_kernel.proofs.SeenInGroup.{owned, part_is}
use Rattle.proc_lease.specs.Private.{ObjectView, memory_of, view_of, views_of}
use Rattle.proc_lease.specs.declared.process.Process.{Process}
use Rattle.shadow_chains.specs.Entries.{face_of, number_of}
use Rattle.shadow_chains.specs.Faces.{FaceView}
use Rattle.shadow_chains.specs.declared.entry.Entry.{Entry}
use Rattle.tables.proofs.First.{find_first}
use Rattle.tables.proofs.Ordered.{IsOrdered, each_left, each_of_map, each_right, each_weaker, ordered_filter, ordered_map, ordered_of_map, ordered_of_pairs, pairs_of_ordered}
use Rattle.tables.specs.Rising.{Rise}

-- ---- one table

-- an entry is found by its number where numbers rise
pub face_at : (entries : List Entry) (i : ℕ) (d : Entry) → Rise number_of entries → i < length entries → face_of entries (get_or entries i d).number ≡ Some (get_or entries i d).face
face_at entries i d rise lt =
    ap (option_map (λ (x : Entry). x.face))
    (find_first (λ (x : Entry). x.number == (get_or entries i d).number) entries i d lt (eq-eqb (get_or entries i d).number (get_or entries i d).number refl)
    (λ j less. ne_eqb (get_or entries j d).number (get_or entries i d).number (λ same. omega (arith, same, rise_at number_of entries j i d rise less lt))))

-- what a test tells of a number, and of all faces that are elsewhere
module _ (keeps : ℕ → Bool) (number : ℕ) (own : keeps number ≡ true) where
  none_elsewhere : (entries : List Entry) → AllByRecursion (λ (e : Entry). keeps e.number ≡ false) entries → face_of entries number ≡ None
  none_elsewhere [] all = refl
  none_elsewhere (e ∷ es) all = by_test (e.number == number) refl (none_elsewhere es all.1)
    where
      by_test : (b : Bool) → (e.number == number) ≡ b → face_of es number ≡ None → option_map (λ (x : Entry). x.face) (if b then Some e else find (λ (x : Entry). x.number == number) es) ≡ None
      by_test true is rest = absurd (false≢true (sym all.0 ∙ ap keeps (eqb-true e.number number is) ∙ own))
      by_test false is rest = rest

  abbrev AreElsewhere : ℕ → Row → Type 0
  AreElsewhere pid row = (row.pid == pid) ≡ false → IfSome row.process (λ q. AllByRecursion (λ (o : ObjectView). keeps o.number ≡ false) (views_of q.faces.entries))

  none_before : (rows : List Row) (k : ℕ) (d : Row) → k < length rows → PidsRise rows → AllByRecursion (AreElsewhere (get_or rows k d).pid) rows → private_face (take k rows) number ≡ None
  none_before [] k d lt rise all = absurd (omega (arith, lt))
  none_before (row ∷ rows) zero d lt rise all = refl
  none_before (row ∷ rows) (suc k) d lt rise all =
      let above : row.pid < (get_or rows k d).pid = at_above row.pid rows k d rise.0 (omega (arith, lt)) in
      let differ : (row.pid == (get_or rows k d).pid) ≡ false = grind (arith, nat_tests, above) in
      ap (λ (o : Option FaceView). else_face o (private_face (take k rows) number)) (none_here row.process (all.0 differ)) ∙ none_before rows k d (omega (arith, lt)) rise.1 all.1
    where
      none_here : (o : Option Process) → IfSome o (λ q. AllByRecursion (λ (x : ObjectView). keeps x.number ≡ false) (views_of q.faces.entries)) → face_in_process o number ≡ None
      none_here None each = refl
      none_here (Some q) each = none_elsewhere q.faces.entries (each_of_map (λ (x : ObjectView). keeps x.number ≡ false) view_of q.faces.entries each)

-- ---- numbers of the group's objects rise

memory_numbers : (objects : List ObjectRec) (memory : List (ℕ × List ℕ)) → AllZip IsObject objects memory → map (λ (e : ℕ × List ℕ). e.0) memory ≡ map (λ (o : ObjectRec). o.number) objects
memory_numbers [] [] zip = refl
memory_numbers [] (e ∷ es) zip = absurd zip
memory_numbers (o ∷ os) [] zip = absurd zip
memory_numbers (o ∷ os) (e ∷ es) zip =
    ap (λ (n : ℕ). n ∷ map (λ (x : ℕ × List ℕ). x.0) es) zip.0.0 ∙ ap (λ (l : List ℕ). o.number ∷ l) (memory_numbers os es zip.1)

memory_rises : (g : Group) → GroupIsValid g → IsOrdered (λ (x y : ℕ × List ℕ). x.0 < y.0) g.memory
unfolding Rise
memory_rises g valid =
    let objects = ordered_map (λ (m n : ℕ). m < n) (λ (o : ObjectRec). o.number) g.frame.objects (ordered_of_pairs (λ (x y : ObjectRec). x.number < y.number) g.frame.objects valid.sound.frame.objects.rise) in
    ordered_of_map (λ (m n : ℕ). m < n) (λ (e : ℕ × List ℕ). e.0) g.memory
    (subst (IsOrdered (λ (m n : ℕ). m < n)) (sym (memory_numbers g.frame.objects g.memory valid.sound.memory.bytes)) objects)

-- ---- the tables of a group without leases

module _ (g : Group) (valid : GroupIsValid g) (t : TablesView) (stands : StandsFor [] (kept_in t) g) where
  pub objects_same : t.objects ≡ g.frame.objects
  unfolding public_part
  objects_same = ap (λ (h : Group). h.frame.objects) stands.public

  pub files_same : t.io.files.entries ≡ g.frame.files
  unfolding public_part
  files_same = ap (λ (h : Group). h.frame.files) stands.public

  abbrev pub IsInFrame : ℕ → Type 0
  IsInFrame number = Any (λ (o : ObjectRec). o.number ≡ number) t.objects

  -- a face among the shared ones
  pub first_shared : (number : ℕ) (f : FaceView) → face_of t.shared.entries number ≡ Some f → first_face t number ≡ Some f
  unfolding first_face
  first_shared number f found = ap (λ (o : Option FaceView). else_face o (else_face (face_of t.io.file_faces.entries number) (private_face t.rows number))) found

  memory_in_frame : (number : ℕ) → is_memory_object t.objects t.io.files.entries number ≡ true → IsInFrame number
  memory_in_frame number is =
      any_weaker (λ (o : ObjectRec). (o.number == number) ≡ true) (λ o. o.number ≡ number) t.objects (λ o hit. eqb-true o.number number hit)
      (any_true (λ (o : ObjectRec). o.number == number) t.objects (and_parts (list_any (λ (o : ObjectRec). o.number == number) t.objects) (not (is_of_file t.io.files.entries number)) is).0)

  pub shared_in_frame : SharedFacesOfMemory t → (i : ℕ) (d : Entry) → i < length t.shared.entries → IsInFrame (get_or t.shared.entries i d).number
  shared_in_frame only i d lt = memory_in_frame (get_or t.shared.entries i d).number (only i d lt)

  -- among those of files
  not_of_file : (number : ℕ) → is_memory_object t.objects t.io.files.entries number ≡ true → is_of_file t.io.files.entries number ≡ false
  not_of_file number is = by_test (is_of_file t.io.files.entries number) (and_parts (list_any (λ (o : ObjectRec). o.number == number) t.objects) (not (is_of_file t.io.files.entries number)) is).1
    where
      by_test : (b : Bool) → not b ≡ true → b ≡ false
      by_test true e = absurd cc
      by_test false e = refl

  pub first_file : SharedFacesOfMemory t → (number : ℕ) (f : FaceView) → is_of_file t.io.files.entries number ≡ true → face_of t.io.file_faces.entries number ≡ Some f → first_face t number ≡ Some f
  unfolding first_face
  first_file only number f is found =
      let none : face_of t.shared.entries number ≡ None =
      none_elsewhere (is_of_file t.io.files.entries) number is t.shared.entries
      (each_weaker (λ (e : Entry). is_memory_object t.objects t.io.files.entries e.number ≡ true) (λ e. is_of_file t.io.files.entries e.number ≡ false) t.shared.entries (λ e memory. not_of_file e.number memory)
      (recursion_from_All (λ (e : Entry). is_memory_object t.objects t.io.files.entries e.number ≡ true) t.shared.entries only)) in
      ap (λ (o : Option FaceView). else_face o (else_face (face_of t.io.file_faces.entries number) (private_face t.rows number))) none ∙ ap (λ (o : Option FaceView). else_face o (private_face t.rows number)) found

  pub file_in_frame : (number : ℕ) → is_of_file t.io.files.entries number ≡ true → IsInFrame number
  unfolding HasFileObject is_of_file
  file_in_frame number is =
      let files : list_any (λ (file : FileRec). file.object == number) g.frame.files ≡ true = ap (list_any (λ (file : FileRec). file.object == number)) (sym files_same) ∙ is in
      by_any (any_all (λ (file : FileRec). (file.object == number) ≡ true) (HasFileObject g.frame.objects) g.frame.files (any_true (λ (file : FileRec). file.object == number) g.frame.files files) valid.sound.frame.files.there)
    where
      by_any : Any (λ (file : FileRec). ((file.object == number) ≡ true) × HasFileObject g.frame.objects file) g.frame.files → IsInFrame number
      by_any (k, file, lt, at, both) =
          subst (Any (λ (o : ObjectRec). o.number ≡ number)) (sym objects_same)
          (any_weaker (λ (o : ObjectRec). (o.number ≡ file.object) × (o.pages ≡ 256)) (λ o. o.number ≡ number) g.frame.objects (λ o its. its.0 ∙ eqb-true file.object number both.0) both.1)

  -- among those of a process
  module _ (k : ℕ) (d : Row) (lt : k < length t.rows) (p : Process) (here : (get_or t.rows k d).process ≡ Some p) where
    abbrev pid : ℕ
    pid = (get_or t.rows k d).pid

    pub first_private : (q : Proc) (number : ℕ) (f : FaceView) → runner g pid ≡ Some q → maps_privately q.maps number ≡ true → face_of p.faces.entries number ≡ Some f → first_face t number ≡ Some f
    unfolding first_face
    first_private q number f runs own found =
        let public = recursion_from_All (λ (o : ObjectView). maps_privately q.maps o.number ≡ false) (public_objects t) (public_beside g valid pid q runs t [] stands) in
        let none = λ (entries : List Entry) (each : AllByRecursion (λ (o : ObjectView). maps_privately q.maps o.number ≡ false) (views_of entries)).
        none_elsewhere (maps_privately q.maps) number own entries (each_of_map (λ (o : ObjectView). maps_privately q.maps o.number ≡ false) view_of entries each) in
        let shared = none t.shared.entries (each_left (λ (o : ObjectView). maps_privately q.maps o.number ≡ false) (views_of t.shared.entries) (views_of t.io.file_faces.entries) public) in
        let files = none t.io.file_faces.entries (each_right (λ (o : ObjectView). maps_privately q.maps o.number ≡ false) (views_of t.shared.entries) (views_of t.io.file_faces.entries) public) in
        let before = none_before (maps_privately q.maps) number own t.rows k d lt (pids_rise t [] g stands valid) (private_beside g valid pid q runs t [] stands) in
        ap (λ (o : Option FaceView). else_face o (else_face (face_of t.io.file_faces.entries number) (private_face t.rows number))) shared ∙ ap (λ (o : Option FaceView). else_face o (private_face t.rows number)) files
        ∙ first_at t.rows k number d f lt before (ap (λ (o : Option Process). face_in_process o number) here ∙ found)

    -- their numbers rise, and are of objects of the group
    memory_is : (q : Proc) → runner g pid ≡ Some q → memory_of (views_of p.faces.entries) ≡ private_memory g.memory q.maps
    memory_is q runs = ap (λ (s : PrivatePart). s.memory) (part_is t [] g pid p q stands valid (unleased t [] g stands valid k d lt p here) runs (its_part t [] g stands valid k d lt p here))

    private_rise : (q : Proc) → runner g pid ≡ Some q → Rise number_of p.faces.entries
    unfolding Rise
    private_rise q runs =
        let kept = ordered_filter (λ (x y : ℕ × List ℕ). x.0 < y.0) (λ (e : ℕ × List ℕ). maps_privately q.maps e.0) g.memory (memory_rises g valid) in
        let mine = subst (IsOrdered (λ (x y : ℕ × List ℕ). x.0 < y.0)) (sym (memory_is q runs)) kept in
        let views = ordered_of_map (λ (x y : ℕ × List ℕ). x.0 < y.0) (λ (o : ObjectView). (o.number, o.bytes)) (views_of p.faces.entries) mine in
        pairs_of_ordered (λ (x y : Entry). x.number < y.number) p.faces.entries (ordered_of_map (λ (x y : ObjectView). x.number < y.number) view_of p.faces.entries views)

    has_number : (i : ℕ) (e : Entry) → i < length p.faces.entries → has_object (views_of p.faces.entries) (get_or p.faces.entries i e).number ≡ true
    has_number i e less = in_views p.faces.entries (get_or p.faces.entries i e).number (any_at (λ (x : Entry). x.number ≡ (get_or p.faces.entries i e).number) p.faces.entries i e less refl)
      where
        in_views : (entries : List Entry) (number : ℕ) → Any (λ (x : Entry). x.number ≡ number) entries → has_object (views_of entries) number ≡ true
        in_views entries number any =
            same entries number ∙ true_any (λ (x : Entry). x.number == number) entries (any_weaker (λ (x : Entry). x.number ≡ number) (λ x. (x.number == number) ≡ true) entries (λ x is. eq-eqb x.number number is) any)
          where
            same : (es : List Entry) (n : ℕ) → has_object (views_of es) n ≡ list_any (λ (x : Entry). x.number == n) es
            same [] n = refl
            same (x ∷ xs) n = rw (same xs n) refl

    pub private_first : (i : ℕ) (e : Entry) → i < length p.faces.entries → (first_face t (get_or p.faces.entries i e).number ≡ Some (get_or p.faces.entries i e).face) × IsInFrame (get_or p.faces.entries i e).number
    private_first i e less =
        let (q, runs) = its_process t [] g stands valid k d lt p here in
        let own = owned t [] g pid p q stands valid (unleased t [] g stands valid k d lt p here) runs (its_part t [] g stands valid k d lt p here) (get_or p.faces.entries i e).number (has_number i e less) in (
          first_private q (get_or p.faces.entries i e).number (get_or p.faces.entries i e).face runs own (face_at p.faces.entries i e (private_rise q runs) less),
          subst (Any (λ (o : ObjectRec). o.number ≡ (get_or p.faces.entries i e).number)) (sym objects_same) (is_there g valid pid q runs (get_or p.faces.entries i e).number own),
        )
