-- A new file, under a name that no file has.
use Rattle.std.proofs.Common.{◌≡◌, ◌⊎◌, inl, inr, ℕ, zero, suc, ◌+◌, ◌^◌, ◌<◌, ◌≤◌, Bool, true, false, ◌||◌, ◌==◌, not, List, [], ◌∷◌, ◌++◌, length, drop, get_or, None, refl, ap, sym, ◌∙◌, subst, ⊎_elim, arith}
use Rattle.std.specs.Prelude.{All, Any, count_by, filter, find, if◌then◌else◌, IsTrue, Some}
use Rattle.std.specs.List.{AllZip, insert, list_any}
use Rattle.std.proofs.lemmas.Bool.{ne_eqb}
use Rattle.std.proofs.lemmas.List.{append-nil, length-replicate}
use Rattle.std.proofs.lemmas.List.Edits.{length-insert}
use Rattle.std.proofs.lemmas.List.Elements.{All-cons, All-push, All-replicate, All-tail, All-weaker, filter-append}
use Rattle.std.proofs.lemmas.List.Sums.{length-filter, prefix_len-le-length, sum_by-insert}
use Rattle.descriptors.specs.declared.opens.OpenKind.{OpenKind}
use Rattle.descriptors.specs.declared.opens.OpenKind.TheVariants as kinds
use Rattle.group_defs.specs.FileCalls.{with_new_file}
use Rattle.group_defs.specs.Group.{Group, is_runner}
use Rattle.group_defs.specs.Held.{is_kept}
use Rattle.group_defs.specs.Mappings.{IsInside}
use Rattle.group_defs.specs.Numbers.{NextFits}
use Rattle.lists.specs.Bytes.{AreBytes}
use Rattle.group_defs.specs.Objects.{HasFileObject, IsMemoryObject, files_with, is_of_file, mappers, maps_object, memory_objects_in}
use Rattle.group_defs.specs.Valid.{EndsInZeros, GroupIsValid, IsObject, TargetIsThere}
use Rattle.group_defs.specs.declared.frame.ObjectRec.{ObjectRec}
use Rattle.group_defs.specs.declared.frame.Proc.{Proc}
use Rattle.group_files.specs.Files.{FileFits, empty_file, file_named, place_of_name, with_file}
use Rattle.group_files.specs.Names.{IsName, is_before}
use Rattle.group_files.specs.declared.named_files.FileRec.{FileRec}
use Rattle.group_files.specs.NameLaws.{rise_insert}
use Rattle.group_defs.specs.Changes.{zeros}
use Rattle.group_laws.proofs.Lists.{any_append_left, any_there, any_true, filter_none, insert_all, insert_any, insert_new, rise_push, true_any}
use Rattle.group_laws.proofs.ObjectLaws.{zip_push}
use Rattle.group_laws.proofs.SettledLaws.{equal, or_left}
use Rattle.group_laws.proofs.UnmapLaws.{next_no_file, next_unused}

-- Lists.
pub insert_list_any : {X : Type 0} (q : X → Bool) (xs : List X) (k : ℕ) (x : X) → q x ≡ false → list_any q (insert xs k x) ≡ list_any q xs
insert_list_any q xs zero x fail = rw fail refl
insert_list_any q [] (suc k) x fail = rw fail refl
insert_list_any q (y ∷ ys) (suc k) x fail = ap (λ b. q y || b) (insert_list_any q ys k x fail)

pub filter_same : {X : Type 0} (p q : X → Bool) (xs : List X) → All (λ x. p x ≡ q x) xs → filter p xs ≡ filter q xs
filter_same p q [] same = refl
filter_same p q (x ∷ xs) same = rw (same 0 x (omega arith), filter_same p q xs (All-tail (λ y. p y ≡ q y) x xs same)) refl

pub count_none : {X : Type 0} (q : X → Bool) (xs : List X) → All (λ x. q x ≡ false) xs → count_by q xs ≡ 0
count_none q xs none = sym (length-filter q xs) ∙ ap length (filter_none q xs none)

pub false_any : {X : Type 0} (q : X → Bool) (xs : List X) → All (λ x. q x ≡ false) xs → list_any q xs ≡ false
false_any q [] none = refl
false_any q (x ∷ xs) none = rw (none 0 x (omega arith)) (false_any q xs (All-tail (λ y. q y ≡ false) x xs none))

-- the numbers of the bytes are those of the objects
pub zip_all : (P : ℕ → Type 0) (objects : List ObjectRec) (memory : List (ℕ × List ℕ)) → AllZip IsObject objects memory → All (λ o. P o.number) objects → All (λ m. P m.0) memory
zip_all P [] [] zip all = λ k d lt. absurd (omega (arith, lt))
zip_all P [] (m ∷ ms) zip all = absurd zip
zip_all P (o ∷ os) [] zip all = absurd zip
zip_all P (o ∷ os) (m ∷ ms) zip all = All-cons (λ (x : ℕ × List ℕ). P x.0) m ms (subst P (sym zip.0.0) (all 0 o (omega arith))) (zip_all P os ms zip.1 (All-tail (λ x. P x.number) o os all))

-- Zeros.
pub zeros_length : (n : ℕ) → length (zeros n) ≡ n
unfolding zeros
zeros_length n = length-replicate n 0

pub zeros_are_zero : (n : ℕ) → All (λ (b : ℕ). b ≡ 0) (zeros n)
unfolding zeros
zeros_are_zero n = All-replicate (λ (b : ℕ). b ≡ 0) n 0 refl

pub zeros_are_bytes : (n : ℕ) → AreBytes (zeros n)
unfolding zeros AreBytes
zeros_are_bytes n = All-replicate (λ b. b < 256) n 0 (omega arith)

-- where no process maps it, it has no mappers
pub unmapped : (procs : List Proc) (number : ℕ) → All (λ q. All (λ m. (m.object ≡ number) → ⊥) q.maps) procs → All (λ q. maps_object number q ≡ false) procs
unfolding maps_object
unmapped procs number unused k d lt = false_any (λ m. m.object == number) (get_or procs k d).maps (λ i e lt'. ne_eqb (get_or (get_or procs k d).maps i e).object number (unused k d lt i e lt'))

module _ (g : Group) (p : Proc) (found : find (is_runner p.pid) g.frame.procs ≡ Some p) (v : GroupIsValid g) (low : g.frame.next.object ≤ 2 ^ 63)
    (name : List ℕ) (good : IsName name) (new_name : file_named g.frame.files name ≡ None) (room : length g.frame.files < 64) where
  abbrev n : ℕ
  n = g.frame.next.object

  abbrev f : FileRec
  f = empty_file name n

  abbrev place : ℕ
  place = place_of_name g.frame.files name

  abbrev files : List FileRec
  files = with_file g.frame.files f

  abbrev o : ObjectRec
  o = record { number = n; pages = 256 }

  abbrev bytes : List ℕ
  bytes = zeros 1048576

  still_file : (m : ℕ) → is_of_file g.frame.files m ≡ true → is_of_file files m ≡ true
  unfolding is_of_file
  still_file m is = true_any (λ x. x.object == m) files (insert_any (λ x. (x.object == m) ≡ true) g.frame.files place f (any_true (λ x. x.object == m) g.frame.files is))

  now_file : is_of_file files n ≡ true
  unfolding is_of_file
  now_file = true_any (λ x. x.object == n) files (insert_new (λ x. (x.object == n) ≡ true) g.frame.files place f (equal n n refl))

  other_file : (m : ℕ) → m < n → is_of_file files m ≡ is_of_file g.frame.files m
  unfolding is_of_file
  other_file m lt = insert_list_any (λ x. x.object == m) g.frame.files place f (ne_eqb n m (λ same. omega (arith, lt, same)))

  memory_same : memory_objects_in files (g.frame.objects ++ o ∷ []) ≡ memory_objects_in g.frame.files g.frame.objects
  memory_same =
      filter-append (λ x. not (is_of_file files x.number)) g.frame.objects (o ∷ []) ∙ ap (λ (b : Bool). filter (λ x. not (is_of_file files x.number)) g.frame.objects ++ (if not b then o ∷ [] else [])) now_file
      ∙ append-nil (filter (λ x. not (is_of_file files x.number)) g.frame.objects)
      ∙ filter_same (λ x. not (is_of_file files x.number)) (λ x. not (is_of_file g.frame.files x.number)) g.frame.objects (λ k d lt. ap not (other_file (get_or g.frame.objects k d).number (v.sound.frame.objects.below k d lt)))

  counts_other : (m : ℕ) → (n ≡ m → ⊥) → files_with files m ≡ files_with g.frame.files m
  unfolding files_with
  counts_other m other =
      let fail : (n == m) ≡ false = ne_eqb n m other in
      let more = sum_by-insert (λ (x : FileRec). if x.object == m then 1 else 0) g.frame.files place f in
      let none : ◌≡◌ {A = ℕ} (if n == m then 1 else 0) 0 = rw fail refl in
      omega (arith, more, none)

  counts_new : files_with files n ≡ 1
  unfolding files_with
  counts_new =
      let hit : (n == n) ≡ true = equal n n refl in
      let more = sum_by-insert (λ (x : FileRec). if x.object == n then 1 else 0) g.frame.files place f in
      let one : ◌≡◌ {A = ℕ} (if n == n then 1 else 0) 1 = rw hit refl in
      let none = count_none (λ x. x.object == n) g.frame.files (λ k d lt. ne_eqb (get_or g.frame.files k d).object n (next_no_file g p found v k d lt)) in
      omega (arith, more, one, none)

  unmapped_new : mappers g.frame.procs n ≡ 0
  unfolding mappers
  unmapped_new = count_none (maps_object n) g.frame.procs (unmapped g.frame.procs n (next_unused g p found v))

  target : (k : OpenKind) → TargetIsThere g.frame.files g.frame.pipes g.frame.pairs k → TargetIsThere files g.frame.pipes g.frame.pairs k
  target kinds.Nothing w = w
  target kinds.Outside w = w
  target (kinds.File m) w = insert_any (λ x. x.object ≡ m) g.frame.files place f w
  target (kinds.PipeRead pipe) w = w
  target (kinds.PipeWrite pipe) w = w
  target (kinds.PairEnd pair end) w = w

  zeros_old : (file : FileRec) → (file.object ≡ n → ⊥) → EndsInZeros g.memory file → EndsInZeros (g.memory ++ (n, bytes) ∷ []) file
  zeros_old file other zeros = All-push (λ x. x.0 ≡ file.object → All (λ (b : ℕ). b ≡ 0) (drop file.length x.1)) g.memory (n, bytes) zeros (λ same. absurd (other (sym same)))

  zeros_new : EndsInZeros (g.memory ++ (n, bytes) ∷ []) f
  zeros_new = All-push (λ x. x.0 ≡ n → All (λ (b : ℕ). b ≡ 0) (drop 0 x.1)) g.memory (n, bytes) (All-weaker (λ x. x.0 < n) (λ x. x.0 ≡ n → All (λ (b : ℕ). b ≡ 0) (drop 0 x.1)) (λ x lt same. absurd (omega (arith, lt, same))) g.memory (zip_all (λ m. m < n) g.frame.objects g.memory v.sound.memory.bytes v.sound.frame.objects.below)) (λ same. zeros_are_zero 1048576)

  pub new_file_there : Any (λ x. x.object ≡ n) files
  new_file_there = insert_new (λ x. x.object ≡ n) g.frame.files place f refl

  pub new_file_valid : GroupIsValid (with_new_file g name)
  unfolding NextFits IsInside FileFits is_kept HasFileObject
  new_file_valid =
      let s = v.sound in
      let h = g.frame in
      record {
        sound = record {
          frame = record {
            procs = s.frame.procs;
            maps = record {
              inside = λ k d lt i e lt'. any_append_left (λ x. (x.number ≡ (get_or (get_or h.procs k d).maps i e).object) × ((get_or (get_or h.procs k d).maps i e).first + (get_or (get_or h.procs k d).maps i e).pages ≤ x.pages)) h.objects (o ∷ []) (s.frame.maps.inside k d lt i e lt');
              agree = All-push (λ x. (is_of_file files x.number ≡ true) ⊎ IsMemoryObject h.procs x) h.objects o (λ k d lt. ⊎_elim (λ file. inl (still_file (get_or h.objects k d).number file)) (λ memory. inr memory) (s.frame.maps.agree k d lt)) (inl now_file);
              unmapped = insert_all (λ file. mappers h.procs file.object ≡ 0) h.files place f unmapped_new s.frame.maps.unmapped;
            };
            names = s.frame.names;
            opens = record { count = s.frame.opens.count; rise = s.frame.opens.rise; below = s.frame.opens.below; positions = s.frame.opens.positions; targets = λ k d lt. target (get_or h.opens k d).kind (s.frame.opens.targets k d lt) };
            pipes = s.frame.pipes;
            pairs = s.frame.pairs;
            objects = record {
              count = rw memory_same s.frame.objects.count;
              pages = rw memory_same s.frame.objects.pages;
              sizes = All-push (λ x. x.pages ≤ 16384) h.objects o s.frame.objects.sizes (omega arith);
              rise = rise_push (λ x. x.number) h.objects o s.frame.objects.rise s.frame.objects.below;
              below = All-push (λ x. x.number < n + 1) h.objects o (All-weaker (λ x. x.number < n) (λ x. x.number < n + 1) (λ x lt. omega (arith, lt)) h.objects s.frame.objects.below) (omega arith);
            };
            files = record {
              count = let size = length-insert h.files place f (prefix_len-le-length (λ x. is_before x.name name) h.files) in omega (arith, size, room);
              fits = insert_all FileFits h.files place f (good, omega arith) s.frame.files.fits;
              rise = rise_insert h.files s.frame.files.rise name f refl new_name;
              there = insert_all (λ file. Any (λ x. (x.number ≡ file.object) × (x.pages ≡ 256)) (h.objects ++ o ∷ [])) h.files place f (last h.objects) (λ k d lt. any_append_left (λ x. (x.number ≡ (get_or h.files k d).object) × (x.pages ≡ 256)) h.objects (o ∷ []) (s.frame.files.there k d lt));
              alone = insert_all (λ file. files_with files file.object ≡ 1) h.files place f counts_new (λ k d lt. counts_other (get_or h.files k d).object (λ same. next_no_file g p found v k d lt (sym same)) ∙ s.frame.files.alone k d lt);
            };
            out = s.frame.out;
            next = (let x = s.frame.next.0 in (omega (arith, low), x.1, x.2, x.3), s.frame.next.1, s.frame.next.2);
          };
          memory = record { bytes = zip_push IsObject h.objects g.memory o (n, bytes) s.memory.bytes (refl, zeros_length 1048576, zeros_are_bytes 1048576); zeros = insert_all (EndsInZeros (g.memory ++ (n, bytes) ∷ [])) h.files place f zeros_new (λ k d lt. zeros_old (get_or h.files k d) (next_no_file g p found v k d lt) (s.memory.zeros k d lt)) };
        };
        held = record {
          opens = v.held.opens;
          objects = All-push (λ x. IsTrue (is_kept files h.procs x.number)) h.objects o (λ k d lt. more (is_of_file h.files (get_or h.objects k d).number) (is_of_file files (get_or h.objects k d).number) (list_any (maps_object (get_or h.objects k d).number) h.procs) (still_file (get_or h.objects k d).number) (v.held.objects k d lt)) (or_left (is_of_file files n) (list_any (maps_object n) h.procs) now_file);
          pipes = v.held.pipes;
          pairs = v.held.pairs;
        };
      }
    where
      last : (xs : List ObjectRec) → Any (λ x. (x.number ≡ n) × (x.pages ≡ 256)) (xs ++ o ∷ [])
      last [] = (0, o, omega arith, refl, (refl, refl))
      last (x ∷ xs) = any_there (λ y. (y.number ≡ n) × (y.pages ≡ 256)) x (xs ++ o ∷ []) (last xs)

      more : (a b c : Bool) → (a ≡ true → b ≡ true) → (a || c) ≡ true → (b || c) ≡ true
      more true b c still e = rw (still refl) refl
      more false true c still e = refl
      more false false c still e = e
