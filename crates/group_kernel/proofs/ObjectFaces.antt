-- Each object of a group of which no lease is out has a face that shows it.
use Rattle.std.proofs.Common.{◌≡◌, ◌∙◌, ◌⊎◌, inl, inr, ℕ, suc, ◌<◌, ◌==◌, Bool, true, false, List, [], ◌∷◌, length, get_or, Option, Some, None, refl, sym, ap, subst, arith}
use Rattle.std.proofs.lemmas.Bool.{eqb-true}
use Rattle.std.specs.Prelude.{Any, IfSome, find, if◌then◌else◌}
use Rattle.std.specs.List.{cons_option}
use Rattle.std.specs.Option.{option_map}
use Rattle.group_defs.specs.Cells.{bytes_in}
use Rattle.group_defs.specs.Fork.{maps_privately}
use Rattle.group_defs.specs.Group.{Group, runner}
use Rattle.group_defs.specs.Valid.{GroupIsValid}
use Rattle.group_defs.specs.declared.frame.ObjectRec.{ObjectRec}
use Rattle.group_defs.specs.declared.frame.Proc.{Proc}
use Rattle.group_laws.proofs.Inside.{found_has}
use Rattle.group_laws.proofs.WriteFileLaws.{zip_there}
use Rattle.group_laws.proofs.Lists.{any_weaker}
use Rattle.group_parts.proofs.Callers.{each_object, private_bytes, public_bytes}
use Rattle.group_parts.proofs.KeptLaws.{here_part}
use Rattle.group_parts.proofs.OthersParts.{behind}
use Rattle.group_parts.proofs.Sight.{bytes_at, kept_entry}
use Rattle.group_parts.specs.Kept.{StandsFor, kept_part}
use Rattle.group_parts.specs.Parts.{PrivatePart, part_in}
use Rattle.group_kernel.specs.Faces.{AllStandOver, StandsOver}
use Rattle.group_kernel.specs.FirstFaces.{else_face, first_face, private_face}
use Rattle.group_kernel.specs.Held.{FacesStandOver, TablesView, kept_in, public_memory, public_objects, view_in}
use Rattle.group_kernel.specs.Leases.{part_held}
use Rattle.group_kernel.specs.declared.row.Row.{Row}
use Rattle.group_kernel.proofs.FoundFaces.{first_private}
use Rattle.group_kernel.proofs.HereParts.{here_of, here_step, or_behind}
use Rattle.group_kernel.proofs.PublicMemory.{memory_in}
use Rattle.group_kernel.proofs.SeenInGroup.{same_some}
use Rattle.proc_lease.specs.Private.{ObjectView, memory_of, view_of, views_of}
use Rattle.proc_lease.specs.declared.process.Process.{Process}
use Rattle.shadow_chains.specs.Entries.{entry_with, face_of}
use Rattle.shadow_chains.specs.Faces.{FaceView}
use Rattle.shadow_chains.specs.declared.entry.Entry.{Entry}
use Rattle.tables.proofs.First.{find_back, find_front}

-- An object's face, wherever it is: it shows the group's bytes, and stands over those of the last barrier.
pub record HasFirstFace (g : Group) (t : TablesView) (memory : List (ℕ × List ℕ)) (touched : List (ℕ × ℕ)) (number : ℕ) : Type 0 where
  pub face : FaceView
  pub first : first_face t number ≡ Some face
  pub bytes : face.bytes ≡ bytes_in g.memory number
  pub stands : StandsOver memory touched (view_of (entry_with number face))

-- ---- what is found of a table of faces

view_shown : (number : ℕ) (es : List Entry) → view_in (views_of es) number ≡ option_map (λ (f : FaceView). view_of (entry_with number f)) (face_of es number)
view_shown number [] = refl
view_shown number (e ∷ es) = by_test (e.number == number) refl (view_shown number es)
  where
    by_test : (b : Bool) → (e.number == number) ≡ b → view_in (views_of es) number ≡ option_map (λ (f : FaceView). view_of (entry_with number f)) (face_of es number)
        → (if b then Some (view_of e) else view_in (views_of es) number) ≡ option_map (λ (f : FaceView). view_of (entry_with number f)) (option_map (λ (x : Entry). x.face) (if b then Some e else find (λ (x : Entry). x.number == number) es))
    by_test true is rest = ap (λ (n : ℕ). Some (view_of (entry_with n e.face))) (eqb-true e.number number is)
    by_test false is rest = rest

bytes_shown : (number : ℕ) (es : List Entry) → find (λ (x : ℕ × List ℕ). x.0 == number) (memory_of (views_of es)) ≡ option_map (λ (f : FaceView). (number, f.bytes)) (face_of es number)
bytes_shown number [] = refl
bytes_shown number (e ∷ es) = by_test (e.number == number) refl (bytes_shown number es)
  where
    by_test : (b : Bool) → (e.number == number) ≡ b → find (λ (x : ℕ × List ℕ). x.0 == number) (memory_of (views_of es)) ≡ option_map (λ (f : FaceView). (number, f.bytes)) (face_of es number)
        → (if b then Some (e.number, e.face.bytes) else find (λ (x : ℕ × List ℕ). x.0 == number) (memory_of (views_of es))) ≡ option_map (λ (f : FaceView). (number, f.bytes)) (option_map (λ (x : Entry). x.face) (if b then Some e else find (λ (x : Entry). x.number == number) es))
    by_test true is rest = ap (λ (n : ℕ). Some (n, e.face.bytes)) (eqb-true e.number number is)
    by_test false is rest = rest

-- an object of the public memory has its bytes from a view
record IsSeen (views : List ObjectView) (number : ℕ) (bytes : List ℕ) : Type 0 where
  view : ObjectView
  is : view_in views number ≡ Some view
  bytes_are : view.bytes ≡ bytes

memory_seen : (objects : List ObjectRec) (views : List ObjectView) (number : ℕ) (entry : ℕ × List ℕ) → find (λ (e : ℕ × List ℕ). e.0 == number) (memory_in objects views) ≡ Some entry → IsSeen views number entry.1
memory_seen [] views number entry found = absurd cc
memory_seen (o ∷ os) views number entry found = by_view (view_in views o.number) refl found (memory_seen os views number entry)
  where
    by_test : (v : ObjectView) → view_in views o.number ≡ Some v → (b : Bool) → (o.number == number) ≡ b → (if b then Some (o.number, v.bytes) else find (λ (e : ℕ × List ℕ). e.0 == number) (memory_in os views)) ≡ Some entry
        → (find (λ (e : ℕ × List ℕ). e.0 == number) (memory_in os views) ≡ Some entry → IsSeen views number entry.1) → IsSeen views number entry.1
    by_test v is true hit e rest = record {
      view = v;
      is = ap (view_in views) (sym (eqb-true o.number number hit)) ∙ is;
      bytes_are = ap (λ (x : ℕ × List ℕ). x.1) (same_some e);
    }
    by_test v is false miss e rest = rest e

    by_view : (o' : Option ObjectView) → view_in views o.number ≡ o' → find (λ (e : ℕ × List ℕ). e.0 == number) (cons_option (option_map (λ (v : ObjectView). (o.number, v.bytes)) o') (memory_in os views)) ≡ Some entry
        → (find (λ (e : ℕ × List ℕ). e.0 == number) (memory_in os views) ≡ Some entry → IsSeen views number entry.1) → IsSeen views number entry.1
    by_view None is e rest = rest e
    by_view (Some v) is e rest = by_test v is (o.number == number) refl e rest

-- a private part that is here is of a row
record IsPartOfRow (rows : List Row) (pid : ℕ) (part : PrivatePart) : Type 0 where
  place : ℕ
  within : place < length rows
  process : Process
  process_is : (d : Row) → (get_or rows place d).process ≡ Some process
  pid_is : (d : Row) → (get_or rows place d).pid ≡ pid
  part_is : part_held process ≡ part

row_of_part : (rows : List Row) (pid : ℕ) (part : PrivatePart) → here_of rows pid ≡ Some part → IsPartOfRow rows pid part
row_of_part [] pid part here = absurd cc
row_of_part (row ∷ rows) pid part here = by_process row.process refl (sym (here_step row rows pid) ∙ here) (row_of_part rows pid part)
  where
    later : IsPartOfRow rows pid part → IsPartOfRow (row ∷ rows) pid part
    later is = record { place = suc is.place; within = omega (arith, is.within); process = is.process; process_is = is.process_is; pid_is = is.pid_is; part_is = is.part_is }

    by_test : (p : Process) → row.process ≡ Some p → (b : Bool) → (row.pid == pid) ≡ b → (if b then Some (part_held p) else here_of rows pid) ≡ Some part → (here_of rows pid ≡ Some part → IsPartOfRow rows pid part) → IsPartOfRow (row ∷ rows) pid part
    by_test p is true hit e rest = record { place = 0; within = omega arith; process = p; process_is = λ d. is; pid_is = λ d. eqb-true row.pid pid hit; part_is = same_some e }
    by_test p is false miss e rest = later (rest e)

    by_process : (o : Option Process) → row.process ≡ o → or_behind row o pid (here_of rows pid) ≡ Some part → (here_of rows pid ≡ Some part → IsPartOfRow rows pid part) → IsPartOfRow (row ∷ rows) pid part
    by_process None is e rest = later (rest e)
    by_process (Some p) is e rest = by_test p is (row.pid == pid) refl e rest

-- ---- the tables of a group without leases

module _ (g : Group) (valid : GroupIsValid g) (t : TablesView) (stands : StandsFor [] (kept_in t) g) (memory : List (ℕ × List ℕ)) (touched : List (ℕ × ℕ)) (faces : FacesStandOver memory touched t) where
  -- among the public ones
  first_public : (number : ℕ) (v : ObjectView) → view_in (public_objects t) number ≡ Some v → (f : FaceView) × (first_face t number ≡ Some f) × (view_of (entry_with number f) ≡ v)
  unfolding first_face
  first_public number v found = by_shared (face_of t.shared.entries number) refl
    where
      with_number : Option FaceView → Option ObjectView
      with_number o = option_map (λ (f : FaceView). view_of (entry_with number f)) o

      by_file : view_in (public_objects t) number ≡ view_in (views_of t.io.file_faces.entries) number → (o : Option FaceView) → face_of t.io.file_faces.entries number ≡ o → (f : FaceView) × (else_face (face_of t.io.file_faces.entries number) (private_face t.rows number) ≡ Some f) × (view_of (entry_with number f) ≡ v)
      by_file back None e = absurd (let never : None ≡ Some v = sym (back ∙ view_shown number t.io.file_faces.entries ∙ ap (option_map (λ (f : FaceView). view_of (entry_with number f))) e) ∙ found in cc)
      by_file back (Some f) e = (
        f,
        ap (λ (o : Option FaceView). else_face o (private_face t.rows number)) e,
        same_some (sym (back ∙ view_shown number t.io.file_faces.entries ∙ ap (option_map (λ (x : FaceView). view_of (entry_with number x))) e) ∙ found),
      )

      by_shared : (o : Option FaceView) → face_of t.shared.entries number ≡ o → (f : FaceView) × (else_face (face_of t.shared.entries number) (else_face (face_of t.io.file_faces.entries number) (private_face t.rows number)) ≡ Some f) × (view_of (entry_with number f) ≡ v)
      by_shared None e =
          let none : view_in (views_of t.shared.entries) number ≡ None = view_shown number t.shared.entries ∙ ap (option_map (λ (f : FaceView). view_of (entry_with number f))) e in
          let (f, first, same) = by_file (find_back (λ (o : ObjectView). o.number == number) (views_of t.shared.entries) (views_of t.io.file_faces.entries) none) (face_of t.io.file_faces.entries number) refl in
          (f, ap (λ (o : Option FaceView). else_face o (else_face (face_of t.io.file_faces.entries number) (private_face t.rows number))) e ∙ first, same)
      by_shared (Some f) e =
          let here : view_in (views_of t.shared.entries) number ≡ Some (view_of (entry_with number f)) = view_shown number t.shared.entries ∙ ap (option_map (λ (x : FaceView). view_of (entry_with number x))) e in (
            f,
            ap (λ (o : Option FaceView). else_face o (else_face (face_of t.io.file_faces.entries number) (private_face t.rows number))) e,
            same_some (sym (find_front (λ (o : ObjectView). o.number == number) (views_of t.shared.entries) (views_of t.io.file_faces.entries) (view_of (entry_with number f)) here) ∙ found),
          )

  public_has : (number : ℕ) (entry : ℕ × List ℕ) → find (λ (e : ℕ × List ℕ). e.0 == number) (public_memory t) ≡ Some entry → HasFirstFace g t memory touched number
  public_has number entry found =
      let seen = memory_seen t.objects (public_objects t) number entry found in
      let (f, first, same) = first_public number seen.view seen.is in
      record {
        face = f;
        first = first;
        bytes = ap (λ (v : ObjectView). v.bytes) same ∙ seen.bytes_are ∙ sym (public_bytes [] (kept_in t) g number entry stands found);
        stands = subst (StandsOver memory touched) (sym same) (found_has (StandsOver memory touched) (λ (o : ObjectView). o.number == number) (public_objects t) seen.view faces.public seen.is).0;
      }

  -- among a process's
  private_has : (o : ObjectRec) → Any (λ x. x ≡ o) g.frame.objects → (pid : ℕ) (part : PrivatePart) → kept_part (kept_in t).here pid ≡ Some part → maps_privately part.maps o.number ≡ true → HasFirstFace g t memory touched o.number
  private_has o there pid part here own = by_face (face_of row.process.faces.entries o.number) refl
    where
      row : IsPartOfRow t.rows pid part
      row = row_of_part t.rows pid part here

      proc : (q : Proc) × (runner g pid ≡ Some q) × (part_in g q ≡ part)
      proc = behind g pid part (sym (here_part [] (kept_in t) g pid stands refl) ∙ here)

      in_memory : find (λ (e : ℕ × List ℕ). e.0 == o.number) part.memory ≡ find (λ (e : ℕ × List ℕ). e.0 == o.number) g.memory
      in_memory =
          let mine : maps_privately proc.0.maps o.number ≡ true = ap (λ (s : PrivatePart). maps_privately s.maps o.number) proc.2 ∙ own in
          ap (λ (s : PrivatePart). find (λ (e : ℕ × List ℕ). e.0 == o.number) s.memory) (sym proc.2) ∙ kept_entry (maps_privately proc.0.maps) g.memory o.number mine

      shown : find (λ (e : ℕ × List ℕ). e.0 == o.number) part.memory ≡ option_map (λ (f : FaceView). (o.number, f.bytes)) (face_of row.process.faces.entries o.number)
      shown = ap (λ (s : PrivatePart). find (λ (e : ℕ × List ℕ). e.0 == o.number) s.memory) (sym row.part_is) ∙ bytes_shown o.number row.process.faces.entries

      stand_all : (d : Row) → AllStandOver memory touched (views_of row.process.faces.entries)
      stand_all d = subst (λ (x : Option Process). IfSome x (λ p. AllStandOver memory touched (views_of p.faces.entries))) (row.process_is d) (faces.private row.place d row.within)

      with_row : (d : Row) (f : FaceView) → face_of row.process.faces.entries o.number ≡ Some f → HasFirstFace g t memory touched o.number
      with_row d f e =
          let view : view_in (views_of row.process.faces.entries) o.number ≡ Some (view_of (entry_with o.number f)) = view_shown o.number row.process.faces.entries ∙ ap (option_map (λ (x : FaceView). view_of (entry_with o.number x))) e in
          let runs : runner g (get_or t.rows row.place d).pid ≡ Some proc.0 = ap (runner g) (row.pid_is d) ∙ proc.1 in
          record {
            face = f;
            first = first_private g valid t stands row.place d row.within row.process (row.process_is d) proc.0 o.number f runs (ap (λ (s : PrivatePart). maps_privately s.maps o.number) proc.2 ∙ own) e;
            bytes = sym (ap bytes_at (shown ∙ ap (option_map (λ (x : FaceView). (o.number, x.bytes))) e)) ∙ private_bytes [] (kept_in t) g pid o.number part stands refl here own;
            stands = (found_has (StandsOver memory touched) (λ (x : ObjectView). x.number == o.number) (views_of row.process.faces.entries) (view_of (entry_with o.number f)) (stand_all d) view).0;
          }

      some_row : (rows : List Row) → row.place < length rows → Row
      some_row [] lt = absurd (omega (arith, lt))
      some_row (x ∷ xs) lt = x

      by_face : (f : Option FaceView) → face_of row.process.faces.entries o.number ≡ f → HasFirstFace g t memory touched o.number
      by_face None e =
          absurd (zip_there g.frame.objects g.memory o.number valid.sound.memory.bytes (any_weaker (λ x. x ≡ o) (λ x. x.number ≡ o.number) g.frame.objects (λ x same. ap (λ (y : ObjectRec). y.number) same) there)
          (sym in_memory ∙ shown ∙ ap (option_map (λ (x : FaceView). (o.number, x.bytes))) e))
      by_face (Some f) e = with_row (some_row t.rows row.within) f e

  -- EACH OBJECT'S FACE
  pub has_first : (o : ObjectRec) → Any (λ x. x ≡ o) g.frame.objects → HasFirstFace g t memory touched o.number
  has_first o there = by_part (each_object (kept_in t) g o stands valid there)
    where
      by_part : ((entry : ℕ × List ℕ) × (find (λ e. e.0 == o.number) (public_memory t) ≡ Some entry)) ⊎ ((pid : ℕ) × (part : PrivatePart) × (kept_part (kept_in t).here pid ≡ Some part) × (maps_privately part.maps o.number ≡ true)) → HasFirstFace g t memory touched o.number
      by_part (inl (entry, found)) = public_has o.number entry found
      by_part (inr (pid, part, here, own)) = private_has o there pid part here own
