-- A file's bytes and length are changed: writing a file keeps a group valid.
use Rattle.std.proofs.Common.{◌≡◌, inl, inr, ℕ, zero, suc, ◌<◌, ◌≤◌, Bool, true, false, ◌||◌, ◌==◌, not, List, [], ◌∷◌, length, drop, get_or, Some, refl, ap, sym, ◌∙◌, ⊎_elim, arith}
use Rattle.std.specs.Prelude.{All, AllPairs, Any, find, if◌then◌else◌}
use Rattle.std.specs.List.{AllZip, list_any}
use Rattle.std.proofs.lemmas.List.Elements.{All-weaker, filter_agree}
use Rattle.descriptors.specs.declared.opens.OpenKind.{OpenKind}
use Rattle.descriptors.specs.declared.opens.OpenKind.TheVariants as kinds
use Rattle.group_defs.specs.Changes.{with_bytes_of, with_files}
use Rattle.group_defs.specs.Group.{Group}
use Rattle.group_defs.specs.Held.{is_kept}
use Rattle.lists.specs.Bytes.{AreBytes}
use Rattle.group_defs.specs.Objects.{HasFileObject, files_with, is_of_file, mappers, maps_object, memory_objects_in}
use Rattle.group_defs.specs.Valid.{EndsInZeros, GroupIsValid, IsObject, TargetIsThere}
use Rattle.group_defs.specs.declared.frame.ObjectRec.{ObjectRec}
use Rattle.group_files.specs.Files.{FileFits, NamesRise, with_length}
use Rattle.group_files.specs.Names.{IsBefore}
use Rattle.group_files.specs.declared.named_files.FileRec.{FileRec}
use Rattle.tables.specs.Lists.{on_first}
use Rattle.group_laws.proofs.Lists.{distinct_keys, on_first_all, on_first_any, on_first_count, on_first_length, on_first_list_any, on_first_pairs, on_key_all, rise_at}

-- entries at one place of both lists
zip_at : {X Y : Type 0} (R : X → Y → Type 0) (xs : List X) (ys : List Y) (i : ℕ) (d : X) (e : Y) → AllZip R xs ys → i < length xs → R (get_or xs i d) (get_or ys i e)
zip_at R [] ys i d e zip lt = absurd (omega (arith, lt))
zip_at R (x ∷ xs) [] i d e zip lt = absurd zip
zip_at R (x ∷ xs) (y ∷ ys) zero d e zip lt = zip.0
zip_at R (x ∷ xs) (y ∷ ys) (suc i) d e zip lt = zip_at R xs ys i d e zip.1 (omega (arith, lt))

zip_length : {X Y : Type 0} (R : X → Y → Type 0) (xs : List X) (ys : List Y) → AllZip R xs ys → length xs ≡ length ys
zip_length R [] [] zip = refl
zip_length R [] (y ∷ ys) zip = absurd zip
zip_length R (x ∷ xs) [] zip = absurd zip
zip_length R (x ∷ xs) (y ∷ ys) zip = let rest = zip_length R xs ys zip.1 in omega (arith, rest)

-- the object's bytes, of the same length, in the table
zip_bytes : (objects : List ObjectRec) (memory : List (ℕ × List ℕ)) (object : ℕ) (bytes : List ℕ) → AreBytes bytes → ((o : ℕ × List ℕ) → find (λ x. x.0 == object) memory ≡ Some o → length bytes ≡ length o.1) → AllZip IsObject objects memory → AllZip IsObject objects (on_first {A = ℕ × List ℕ} (λ o. o.0 == object) (λ o. (o.0, bytes)) memory)
unfolding on_first
zip_bytes [] [] object bytes fit size zip = zip
zip_bytes [] (e ∷ es) object bytes fit size zip = absurd zip
zip_bytes (o ∷ os) [] object bytes fit size zip = absurd zip
zip_bytes (o ∷ os) (e ∷ es) object bytes fit size zip = by_test (e.0 == object) refl (zip_bytes os es object bytes fit)
  where
    by_test : (b : Bool) → (e.0 == object) ≡ b → (((x : ℕ × List ℕ) → find (λ y. y.0 == object) es ≡ Some x → length bytes ≡ length x.1) → AllZip IsObject os es → AllZip IsObject os (on_first {A = ℕ × List ℕ} (λ o. o.0 == object) (λ o. (o.0, bytes)) es)) → AllZip IsObject (o ∷ os) (if b then (e.0, bytes) ∷ es else e ∷ on_first {A = ℕ × List ℕ} (λ o. o.0 == object) (λ o. (o.0, bytes)) es)
    by_test true is more = ((zip.0.0, size e (rw is refl) ∙ zip.0.1, fit), zip.1)
    by_test false is more = (zip.0, more (λ x found. size x (rw is found)) zip.1)

module _ (g : Group) (object size : ℕ) (bytes : List ℕ) (v : GroupIsValid g) (small : size ≤ 1048576) (fit : AreBytes bytes)
    (same_size : (o : ℕ × List ℕ) → find (λ x. x.0 == object) g.memory ≡ Some o → length bytes ≡ length o.1)
    (zero_end : All (λ (b : ℕ). b ≡ 0) (drop size bytes)) where
  abbrev t : FileRec → Bool
  t f = f.object == object

  abbrev change : FileRec → FileRec
  change f = record f { length = size }

  abbrev files : List FileRec
  files = with_length g.frame.files object size

  abbrev memory : List (ℕ × List ℕ)
  memory = on_first {A = ℕ × List ℕ} (λ o. o.0 == object) (λ o. (o.0, bytes)) g.memory

  of_file : (n : ℕ) → is_of_file files n ≡ is_of_file g.frame.files n
  unfolding is_of_file
  of_file n = on_first_list_any t change (λ f. f.object == n) (λ f. refl) g.frame.files

  memory_same : memory_objects_in files g.frame.objects ≡ memory_objects_in g.frame.files g.frame.objects
  memory_same = filter_agree (λ o. not (is_of_file files o.number)) (λ o. not (is_of_file g.frame.files o.number)) (λ o. ap not (of_file o.number)) g.frame.objects

  numbers_apart : AllPairs (λ (a b : ℕ × List ℕ). (a.0 ≡ b.0) → ⊥) g.memory
  numbers_apart i j d lt lt' same =
      let zip = v.sound.memory.bytes in
      let none : ObjectRec = record { number = 0; pages = 0 } in
      let sizes = zip_length IsObject g.frame.objects g.memory zip in
      let a = zip_at IsObject g.frame.objects g.memory i none d zip (omega (arith, lt, lt', sizes)) in
      let b = zip_at IsObject g.frame.objects g.memory j none d zip (omega (arith, lt', sizes)) in
      let up = rise_at (λ o. o.number) g.frame.objects i j none v.sound.frame.objects.rise lt (omega (arith, lt', sizes)) in
      let first = a.0 in let second = b.0 in
      omega (arith, first, second, up, same)

  objects_apart : AllPairs (λ (a b : FileRec). (a.object ≡ b.object) → ⊥) g.frame.files
  unfolding files_with
  objects_apart = distinct_keys (λ f. f.object) g.frame.files v.sound.frame.files.alone

  -- the zeros behind the end: of this file by the premise, of another as before
  zeros_here : (file : FileRec) → file.object ≡ object → EndsInZeros g.memory file → EndsInZeros memory (change file)
  zeros_here file is zeros =
      on_key_all (λ (o : ℕ × List ℕ). o.0) object (λ o. (o.0, bytes)) (λ o. Unit {0}) (λ o. o.0 ≡ file.object → All (λ (b : ℕ). b ≡ 0) (drop size o.1)) (λ o at u same. zero_end) (λ o other u same. absurd (other (same ∙ is))) g.memory numbers_apart (λ k d lt. tt)

  zeros_other : (file : FileRec) → (file.object ≡ object → ⊥) → EndsInZeros g.memory file → EndsInZeros memory file
  zeros_other file apart zeros =
      on_key_all (λ (o : ℕ × List ℕ). o.0) object (λ o. (o.0, bytes)) (λ o. o.0 ≡ file.object → All (λ (b : ℕ). b ≡ 0) (drop file.length o.1)) (λ o. o.0 ≡ file.object → All (λ (b : ℕ). b ≡ 0) (drop file.length o.1)) (λ o at old same. absurd (apart (sym same ∙ at))) (λ o other old. old) g.memory numbers_apart zeros

  target : (k : OpenKind) → TargetIsThere g.frame.files g.frame.pipes g.frame.pairs k → TargetIsThere files g.frame.pipes g.frame.pairs k
  target kinds.Nothing w = w
  target kinds.Outside w = w
  target (kinds.File n) w = on_first_any t change (λ f. f.object ≡ n) g.frame.files (λ f e is. is) w
  target (kinds.PipeRead pipe) w = w
  target (kinds.PipeWrite pipe) w = w
  target (kinds.PairEnd pair end) w = w

  pub content_valid : GroupIsValid (with_bytes_of (with_files g files) object bytes)
  unfolding is_kept FileFits NamesRise files_with HasFileObject
  content_valid =
      let s = v.sound in
      let f = g.frame in
      record {
        sound = record {
          frame = record {
            procs = s.frame.procs;
            maps = record {
              inside = s.frame.maps.inside;
              agree = λ k d lt. ⊎_elim (λ file. inl (of_file (get_or f.objects k d).number ∙ file)) (λ object'. inr object') (s.frame.maps.agree k d lt);
              unmapped = on_first_all t change (λ file. mappers f.procs file.object ≡ 0) f.files (λ x e old. old) s.frame.maps.unmapped;
            };
            names = s.frame.names;
            opens = record { count = s.frame.opens.count; rise = s.frame.opens.rise; below = s.frame.opens.below; positions = s.frame.opens.positions; targets = λ k d lt. target (get_or f.opens k d).kind (s.frame.opens.targets k d lt) };
            pipes = s.frame.pipes;
            pairs = s.frame.pairs;
            objects = record {
              count = rw memory_same s.frame.objects.count;
              pages = rw memory_same s.frame.objects.pages;
              sizes = s.frame.objects.sizes;
              rise = s.frame.objects.rise;
              below = s.frame.objects.below;
            };
            files = record {
              count = let old = s.frame.files.count in omega (arith, old, on_first_length t change f.files);
              fits = on_first_all t change FileFits f.files (λ x e old. (old.0, small)) s.frame.files.fits;
              rise = on_first_pairs t change (λ x. x.name) (λ a b. IsBefore a b) f.files (λ x. refl) s.frame.files.rise;
              there = on_first_all t change (λ file. Any (λ o. (o.number ≡ file.object) × (o.pages ≡ 256)) f.objects) f.files (λ x e old. old) s.frame.files.there;
              alone = on_first_all t change (λ file. files_with files file.object ≡ 1) f.files (λ x e old. old) (All-weaker (λ file. files_with f.files file.object ≡ 1) (λ file. files_with files file.object ≡ 1) (λ file one. on_first_count t change (λ x. x.object == file.object) (λ x. refl) f.files ∙ one) f.files s.frame.files.alone);
            };
            out = s.frame.out;
            next = s.frame.next;
          };
          memory = record { bytes = zip_bytes f.objects g.memory object bytes fit same_size s.memory.bytes; zeros = on_key_all (λ x. x.object) object change (EndsInZeros g.memory) (EndsInZeros memory) zeros_here zeros_other f.files objects_apart s.memory.zeros };
        };
        held = record {
          opens = v.held.opens;
          objects = λ k d lt. ap (λ (b : Bool). b || list_any (maps_object (get_or f.objects k d).number) f.procs) (of_file (get_or f.objects k d).number) ∙ v.held.objects k d lt;
          pipes = v.held.pipes;
          pairs = v.held.pairs;
        };
      }
