-- What every step keeps of a valid group's objects, however often it is made: a file's object has 1,048,576 bytes, which are zero
-- past its length; nobody maps it; and objects stand below the next number.
use Rattle.std.proofs.Common.{Bool, List, None, Option, Some, [], ap, arith, drop, false, get_or, length, map, refl, subst, suc, sym, true, zero, ℕ, ◌*◌, ◌++◌, ◌+◌, ◌<◌, ◌==◌, ◌||◌, ◌∙◌, ◌∷◌, ◌≡◌, ◌≤◌}
use Rattle.std.proofs.lemmas.Bool.{eq-eqb, eqb-true}
use Rattle.std.proofs.lemmas.List.Elements.{All-append, All-cons, All-filter, All-head, All-map, All-nil, All-push, All-tail, All-weaker}
use Rattle.std.proofs.lemmas.List.Sums.{length-filter}
use Rattle.std.specs.List.{filter_map, list_any}
use Rattle.std.specs.Option.{option_map}
use Rattle.std.specs.Prelude.{All, Any, count_by, filter, find, if◌then◌else◌, slice_set}
use Rattle.address_maps.specs.Cut.{cut}
use Rattle.address_maps.specs.Mappings.{mapping_at}
use Rattle.address_maps.specs.declared.maps.Mapping.{Mapping}
use Rattle.descriptors.specs.EntryLaws.{found_after}
use Rattle.descriptors.specs.declared.opens.Open.{Open}
use Rattle.descriptors.specs.declared.opens.OpenKind.{OpenKind}
use Rattle.group_defs.specs.Cells.{bytes_in, object_place, with_byte_at, with_stored, with_writes}
use Rattle.group_defs.specs.Changes.{with_procs, zeros}
use Rattle.group_defs.specs.Family.{after_end, ended, ended_process}
use Rattle.group_defs.specs.FileCalls.{with_new_file}
use Rattle.group_defs.specs.Fork.{Copy, child_of, copies_from, forked, fresh_mapping, fresh_number}
use Rattle.group_defs.specs.Group.{Group, is_runner, is_running}
use Rattle.group_defs.specs.Held.{is_kept, settled}
use Rattle.group_defs.specs.MapCalls.{mapped}
use Rattle.group_defs.specs.Mappings.{IsInside}
use Rattle.group_defs.specs.Objects.{HasFileObject, is_of_file, mappers, maps_object}
use Rattle.group_defs.specs.Valid.{EndsInZeros, GroupIsValid, TargetIsThere}
use Rattle.group_defs.specs.declared.frame.ObjectRec.{ObjectRec}
use Rattle.group_defs.specs.declared.frame.Proc.{Proc}
use Rattle.group_files.specs.Files.{empty_file, file_with, length_of, place_of_name, with_file, with_length}
use Rattle.group_files.specs.declared.named_files.FileRec.{FileRec}
use Rattle.group_laws.proofs.ForkLists.{IsCopyOf, copies_all, copies_length, there_all}
use Rattle.group_laws.proofs.Inside.{found_has, object_bytes}
use Rattle.group_laws.proofs.Lists.{all_filter_map, any_all, any_at, any_filter, any_true, any_weaker, found_all, insert_all, insert_new, on_first_all, on_first_list_any, true_any}
use Rattle.group_laws.proofs.MapLaws.{IsPiece, IsPieceOf, cut_pieces}
use Rattle.group_laws.proofs.NewFileLaws.{false_any, insert_list_any, zeros_are_zero, zeros_length, zip_all}
use Rattle.group_laws.proofs.ObjectBytes.{further_objects, kept_bytes, replaced_other, unwritten}
use Rattle.group_laws.proofs.OthersStay.{found_other}
use Rattle.rv64_isa.specs.Memory.{Write}
use Rattle.rv64_isa.specs.Numbers.{wrapped}
use Rattle.tables.proofs.Only.{find_insert_first, find_insert_other, none_from_find}
use Rattle.tables.specs.Lists.{on_first}
use Rattle.tables.specs.Rising.{Rise, added, place_of}
use Rattle.descriptors.specs.declared.opens.OpenKind.TheVariants as kinds

-- mappings of objects that are there and aren't files'
abbrev pub OfMemory : ℕ → List FileRec → List Mapping → Type 0
OfMemory next files maps = All (λ m. (m.object < next) × (is_of_file files m.object ≡ false)) maps

abbrev pub IsAtFile : List FileRec → OpenKind → Type 0
IsAtFile files (kinds.File object) = is_of_file files object ≡ true
IsAtFile files kind = Unit {0}

abbrev pub IsContent : ℕ → List ℕ → Type 0
IsContent length_then bytes = (length bytes ≡ 1048576) × All (λ (b : ℕ). b ≡ 0) (drop length_then bytes)

pub record Stands (next : ℕ) (procs : List Proc) (files : List FileRec) (opens : List Open) (memory : List (ℕ × List ℕ)) : Type 0 where
  pub contents : (n : ℕ) → is_of_file files n ≡ true → IsContent (length_of files n) (bytes_in memory n)
  pub below : (n : ℕ) → is_of_file files n ≡ true → n < next
  pub numbers : All (λ o. o.0 < next) memory
  pub unmapped : All (λ q. OfMemory next files q.maps) procs
  pub described : All (λ o. IsAtFile files o.kind) opens

abbrev pub StandsIn : Group → Type 0
StandsIn h = Stands h.frame.next.object h.frame.procs h.frame.files h.frame.opens h.memory

same_content : (n : ℕ) (a b : List ℕ) → b ≡ a → IsContent n a → IsContent n b
same_content n a b e c = subst (IsContent n) (sym e) c

not_file : (next : ℕ) (files : List FileRec) (maps : List Mapping) (n : ℕ) → OfMemory next files maps → is_of_file files n ≡ true → list_any (λ m. m.object == n) maps ≡ false
not_file next files maps n all file = false_any (λ m. m.object == n) maps (All-weaker (λ m. (m.object < next) × (is_of_file files m.object ≡ false)) (λ m. (m.object == n) ≡ false) (λ m both. by_test m both.1 (m.object == n) refl) maps all)
  where
    by_test : (m : Mapping) → is_of_file files m.object ≡ false → (b : Bool) → (m.object == n) ≡ b → b ≡ false
    by_test m none false e = refl
    by_test m none true e = let over : is_of_file files n ≡ false = sym (ap (is_of_file files) (eqb-true m.object n e)) ∙ none in absurd (cc)

-- what isn't there has no bytes
pub none_there : (next : ℕ) (memory : List (ℕ × List ℕ)) (n : ℕ) → All (λ o. o.0 < next) memory → next ≤ n → All (λ o. (o.0 == n) ≡ false) memory
none_there next memory n all le = All-weaker (λ o. o.0 < next) (λ o. (o.0 == n) ≡ false) (λ o less. by_test o less (o.0 == n) refl) memory all
  where
    by_test : (o : ℕ × List ℕ) → o.0 < next → (b : Bool) → (o.0 == n) ≡ b → b ≡ false
    by_test o less false e = refl
    by_test o less true e = let same = eqb-true o.0 n e in absurd (omega (arith, same, less, le))

pub absent : (next : ℕ) (memory : List (ℕ × List ℕ)) (n : ℕ) → All (λ o. o.0 < next) memory → next ≤ n → bytes_in memory n ≡ []
absent next memory n all le = further_objects [] memory n (none_there next memory n all le)

pub only_more : (memory more : List (ℕ × List ℕ)) (n : ℕ) → All (λ o. (o.0 == n) ≡ false) memory → bytes_in (memory ++ more) n ≡ bytes_in more n
only_more [] more n none = refl
only_more (o ∷ os) more n none = rw (bytes_in, All-head (λ x. (x.0 == n) ≡ false) o os none) (only_more os more n (All-tail (λ x. (x.0 == n) ≡ false) o os none))

-- stores keep the numbers
module _ (P : ℕ → Type 0) where
  abbrev Numbers : List (ℕ × List ℕ) → Type 0
  Numbers memory = All (λ o. P o.0) memory

  at_numbers : (memory : List (ℕ × List ℕ)) (o : Option Mapping) (a b : ℕ) → Numbers memory → Numbers (with_byte_at memory o a b)
  at_numbers memory None a b all = all
  at_numbers memory (Some m) a b all =
      on_first_all (λ (o : ℕ × List ℕ). o.0 == m.object) (λ o. (m.object, slice_set o.1 (object_place m a) b)) (λ o. P o.0) memory
      (λ o found old. subst P (eqb-true o.0 m.object (found_has (λ (y : ℕ × List ℕ). Unit {0}) (λ x. x.0 == m.object) memory o (λ k d lt. tt) found).1) old) all

  stored_numbers : (memory : List (ℕ × List ℕ)) (maps : List Mapping) (a : ℕ) (bytes : List ℕ) → Numbers memory → Numbers (with_stored memory maps a bytes)
  unfolding with_stored
  stored_numbers memory maps a [] all = all
  stored_numbers memory maps a (b ∷ bs) all = stored_numbers (with_byte_at memory (mapping_at maps (wrapped a)) (wrapped a) b) maps (a + 1) bs (at_numbers memory (mapping_at maps (wrapped a)) (wrapped a) b all)

  written_numbers : (memory : List (ℕ × List ℕ)) (maps : List Mapping) (writes : List Write) → Numbers memory → Numbers (with_writes memory maps writes)
  unfolding with_writes
  written_numbers memory maps [] all = all
  written_numbers memory maps (w ∷ ws) all = written_numbers (with_stored memory maps w.address w.bytes) maps ws (stored_numbers memory maps w.address w.bytes all)

-- stores of a process
pub stored_stands : (h : Group) (maps : List Mapping) (writes : List Write) → OfMemory h.frame.next.object h.frame.files maps → StandsIn h → StandsIn (record h { memory = with_writes h.memory maps writes })
stored_stands h maps writes of s = record {
  contents = λ n file. same_content (length_of h.frame.files n) (bytes_in h.memory n) (bytes_in (with_writes h.memory maps writes) n) (unwritten h.memory maps n writes (not_file h.frame.next.object h.frame.files maps n of file)) (s.contents n file);
  below = s.below;
  numbers = written_numbers (λ k. k < h.frame.next.object) h.memory maps writes s.numbers;
  unmapped = s.unmapped;
  described = s.described;
}

-- one process is changed, or other descriptions are there
pub changed_stands : (h : Group) (t : Proc → Bool) (f : Proc → Proc) → ((q : Proc) → OfMemory h.frame.next.object h.frame.files q.maps → OfMemory h.frame.next.object h.frame.files (f q).maps) → StandsIn h → StandsIn (with_procs h (on_first t f h.frame.procs))
changed_stands h t f kept s = record { contents = s.contents; below = s.below; numbers = s.numbers; unmapped = on_first_all t f (λ q. OfMemory h.frame.next.object h.frame.files q.maps) h.frame.procs (λ q e old. kept q old) s.unmapped; described = s.described }

pub opens_stand : (h : Group) (opens : List Open) → All (λ o. IsAtFile h.frame.files o.kind) opens → StandsIn h → Stands h.frame.next.object h.frame.procs h.frame.files opens h.memory
opens_stand h opens described s = record { contents = s.contents; below = s.below; numbers = s.numbers; unmapped = s.unmapped; described = described }

-- what nobody holds goes
pub settled_stands : (h : Group) → StandsIn h → StandsIn (settled h)
unfolding settled is_kept
settled_stands h s = record {
  contents = λ n file. same_content (length_of h.frame.files n) (bytes_in h.memory n) _ (kept_bytes (λ k. is_kept h.frame.files h.frame.procs k) n h.memory (ap (λ b. b || list_any (maps_object n) h.frame.procs) file)) (s.contents n file);
  below = s.below;
  numbers = All-filter _ (λ (o : ℕ × List ℕ). o.0 < h.frame.next.object) h.memory s.numbers;
  unmapped = s.unmapped;
  described = All-filter _ (λ (o : Open). IsAtFile h.frame.files o.kind) h.frame.opens s.described;
}

-- new objects
above_next : (next n k : ℕ) → n < next → next ≤ k → (k == n) ≡ false
above_next next n k lt le = by_test (k == n) refl
  where
    by_test : (b : Bool) → (k == n) ≡ b → b ≡ false
    by_test false e = refl
    by_test true e = let same = eqb-true k n e in absurd (omega (arith, same, lt, le))

module _ (h : Group) (count : ℕ) (more : List (ℕ × List ℕ)) (from : All (λ o. (h.frame.next.object ≤ o.0) × (o.0 < h.frame.next.object + count)) more) (s : StandsIn h) where
  abbrev next : ℕ
  next = h.frame.next.object

  pub old_bytes : (n : ℕ) → n < next → bytes_in (h.memory ++ more) n ≡ bytes_in h.memory n
  old_bytes n lt = further_objects h.memory more n (All-weaker (λ o. (next ≤ o.0) × (o.0 < next + count)) (λ o. (o.0 == n) ≡ false) (λ o both. above_next next n o.0 lt both.0) more from)

  pub of_later : (maps : List Mapping) → OfMemory next h.frame.files maps → OfMemory (next + count) h.frame.files maps
  of_later maps of = All-weaker (λ m. (m.object < next) × (is_of_file h.frame.files m.object ≡ false)) (λ m. (m.object < next + count) × (is_of_file h.frame.files m.object ≡ false)) (λ m both. (let less = both.0 in omega (arith, less), both.1)) maps of

  -- a number from the next one on is no file's
  pub no_file_above : (n : ℕ) → next ≤ n → is_of_file h.frame.files n ≡ false
  no_file_above n le = by_test (is_of_file h.frame.files n) refl
    where
      by_test : (b : Bool) → is_of_file h.frame.files n ≡ b → b ≡ false
      by_test false e = refl
      by_test true e = let less = s.below n e in absurd (omega (arith, less, le))

  pub objects_stand : (procs : List Proc) → All (λ q. OfMemory (next + count) h.frame.files q.maps) procs → Stands (next + count) procs h.frame.files h.frame.opens (h.memory ++ more)
  objects_stand procs of = record {
    contents = λ n file. same_content (length_of h.frame.files n) (bytes_in h.memory n) (bytes_in (h.memory ++ more) n) (old_bytes n (s.below n file)) (s.contents n file);
    below = λ n file. (let less = s.below n file in omega (arith, less));
    numbers = All-append (λ o. o.0 < next + count) h.memory more (All-weaker (λ o. o.0 < next) (λ o. o.0 < next + count) (λ o less. omega (arith, less)) h.memory s.numbers) (All-weaker (λ o. (next ≤ o.0) × (o.0 < next + count)) (λ o. o.0 < next + count) (λ o both. both.1) more from);
    unmapped = of;
    described = s.described;
  }

-- where no object that was there before has become a file's, mappings of such objects are no file's
pub of_before : (next next_then : ℕ) (files files_then : List FileRec) (maps : List Mapping) → next ≤ next_then → ((n : ℕ) → n < next → is_of_file files_then n ≡ true → is_of_file files n ≡ true) → OfMemory next files maps → OfMemory next_then files_then maps
of_before next next_then files files_then maps rises old of = All-weaker (λ m. (m.object < next) × (is_of_file files m.object ≡ false)) (λ m. (m.object < next_then) × (is_of_file files_then m.object ≡ false)) (λ m both. (let less = both.0 in omega (arith, less, rises), by_test m both.0 both.1 (is_of_file files_then m.object) refl)) maps of
  where
    by_test : (m : Mapping) → m.object < next → is_of_file files m.object ≡ false → (b : Bool) → is_of_file files_then m.object ≡ b → b ≡ false
    by_test m less none false e = refl
    by_test m less none true e = let over : is_of_file files m.object ≡ true = old m.object less e in absurd (cc)

-- a mapping of the new object beside others
pub mapped_stands : (h : Group) (p : Proc) (maps : List Mapping) (m : Mapping) → m.object ≡ h.frame.next.object → OfMemory h.frame.next.object h.frame.files maps → StandsIn h → StandsIn (mapped h p maps m)
mapped_stands h p maps m its of s =
    let n = h.frame.next.object in
    let more : List (ℕ × List ℕ) = (n, zeros (4096 * m.pages)) ∷ [] in
    let from : All (λ o. (n ≤ o.0) × (o.0 < n + 1)) more = All-cons (λ o. (n ≤ o.0) × (o.0 < n + 1)) (n, zeros (4096 * m.pages)) [] (omega arith, omega arith) (All-nil (λ o. (n ≤ o.0) × (o.0 < n + 1))) in
    objects_stand h 1 more from s (on_first (is_runner p.pid) (λ q. record q { maps = added (λ x. x.start) maps m }) h.frame.procs)
    (on_first_all (is_runner p.pid) (λ q. record q { maps = added (λ x. x.start) maps m }) (λ q. OfMemory (n + 1) h.frame.files q.maps) h.frame.procs
    (λ q e old. insert_all (λ x. (x.object < n + 1) × (is_of_file h.frame.files x.object ≡ false)) maps (place_of (λ x. x.start) maps m.start) m (omega (arith, its), ap (is_of_file h.frame.files) its ∙ no_file_above h 1 more from s n (omega arith)) (of_later h 1 more from s maps of))
    (All-weaker (λ q. OfMemory n h.frame.files q.maps) (λ q. OfMemory (n + 1) h.frame.files q.maps) (λ q old. of_later h 1 more from s q.maps old) h.frame.procs s.unmapped))

pub cut_of : (next : ℕ) (files : List FileRec) (maps : List Mapping) (start pages : ℕ) → OfMemory next files maps → OfMemory next files (cut maps start pages)
cut_of next files maps start pages of = All-weaker (IsPieceOf maps) (λ m. (m.object < next) × (is_of_file files m.object ≡ false)) (λ m piece. by_piece m (any_all (λ x. IsPiece x m) (λ x. (x.object < next) × (is_of_file files x.object ≡ false)) maps piece of)) (cut maps start pages) (cut_pieces maps start pages)
  where
    by_piece : (m : Mapping) → Any (λ x. IsPiece x m × ((x.object < next) × (is_of_file files x.object ≡ false))) maps → (m.object < next) × (is_of_file files m.object ≡ false)
    by_piece m (k, x, lt, at, both) = let same = both.0.object in (let less = both.1.0 in omega (arith, same, less), ap (is_of_file files) same ∙ both.1.1)

-- Files.
pub replaced_same : (memory : List (ℕ × List ℕ)) (object : ℕ) (bytes : List ℕ) → 1 ≤ length (bytes_in memory object) → bytes_in (on_first {A = ℕ × List ℕ} (λ o. o.0 == object) (λ o. (o.0, bytes)) memory) object ≡ bytes
unfolding on_first
replaced_same [] object bytes much = absurd (omega (arith, much))
replaced_same (e ∷ es) object bytes much = by_test (e.0 == object) refl (replaced_same es object bytes)
  where
    by_test : (b : Bool) → (e.0 == object) ≡ b → (1 ≤ length (bytes_in es object) → bytes_in (on_first {A = ℕ × List ℕ} (λ o. o.0 == object) (λ o. (o.0, bytes)) es) object ≡ bytes) → bytes_in (on_first {A = ℕ × List ℕ} (λ o. o.0 == object) (λ o. (o.0, bytes)) (e ∷ es)) object ≡ bytes
    by_test true hit rest = rw (bytes_in, hit) (rw (bytes_in, hit) refl)
    by_test false miss rest = rw (bytes_in, miss) (rw (bytes_in, miss) (rest (let P : List ℕ → Type 0 = λ l. 1 ≤ length l in let same : bytes_in (e ∷ es) object ≡ bytes_in es object = rw (bytes_in, miss) refl in subst P same much)))

-- another length of a file, and other bytes of its object
module _ (h : Group) (object length_then : ℕ) (bytes : List ℕ) (file : is_of_file h.frame.files object ≡ true) (content : IsContent length_then bytes) (s : StandsIn h) where
  abbrev files : List FileRec
  files = with_length h.frame.files object length_then

  abbrev memory : List (ℕ × List ℕ)
  memory = on_first {A = ℕ × List ℕ} (λ o. o.0 == object) (λ o. (o.0, bytes)) h.memory

  pub same_files : (n : ℕ) → is_of_file files n ≡ is_of_file h.frame.files n
  unfolding is_of_file
  same_files n = on_first_list_any (λ f. f.object == object) (λ f. record f { length = length_then }) (λ f. f.object == n) (λ f. refl) h.frame.files

  abbrev longer : FileRec → FileRec
  longer f = record f { length = length_then }

  pub its_length : length_of files object ≡ length_then
  unfolding is_of_file
  its_length = ap (λ (o : Option FileRec). elim o [ None ↦ 0 | Some f ↦ f.length ]) (found_after (λ f. f.object == object) longer (λ f e. e) h.frame.files) ∙ by_found (file_with h.frame.files object) refl
    where
      by_found : (o : Option FileRec) → file_with h.frame.files object ≡ o → (elim (option_map longer o) [ None ↦ 0 | Some f ↦ f.length ]) ≡ length_then
      by_found None e = let over : list_any (λ f. f.object == object) h.frame.files ≡ false = false_any (λ f. f.object == object) h.frame.files (none_from_find (λ f. f.object == object) h.frame.files e) in absurd (cc)
      by_found (Some f) e = refl

  other_length : (n : ℕ) → (object == n) ≡ false → length_of files n ≡ length_of h.frame.files n
  other_length n differ = ap (λ (o : Option FileRec). elim o [ None ↦ 0 | Some f ↦ f.length ]) (found_other (λ f. f.object == object) (λ f. f.object == n) (λ f. record f { length = length_then }) (λ f. refl) (λ f hit. by_test f hit (f.object == object) refl) h.frame.files)
    where
      by_test : (f : FileRec) → (f.object == n) ≡ true → (b : Bool) → (f.object == object) ≡ b → b ≡ false
      by_test f hit false e = refl
      by_test f hit true e = let same : (object == n) ≡ true = eq-eqb object n (sym (eqb-true f.object object e) ∙ eqb-true f.object n hit) in absurd (cc)

  pub its_bytes : bytes_in memory object ≡ bytes
  its_bytes = replaced_same h.memory object bytes (let size = (s.contents object file).0 in omega (arith, size))

  pub other_bytes : (n : ℕ) → (object == n) ≡ false → bytes_in memory n ≡ bytes_in h.memory n
  other_bytes n differ = replaced_other h.memory object bytes n differ

  pub content_stands : Stands h.frame.next.object h.frame.procs files h.frame.opens memory
  content_stands = record {
    contents = λ n is. by_number n (sym (same_files n) ∙ is) (object == n) refl;
    below = λ n is. s.below n (sym (same_files n) ∙ is);
    numbers = on_first_all (λ (o : ℕ × List ℕ). o.0 == object) (λ o. (o.0, bytes)) (λ o. o.0 < h.frame.next.object) h.memory (λ o found old. old) s.numbers;
    unmapped = All-weaker (λ q. OfMemory h.frame.next.object h.frame.files q.maps) (λ q. OfMemory h.frame.next.object files q.maps) (λ q old. All-weaker (λ m. (m.object < h.frame.next.object) × (is_of_file h.frame.files m.object ≡ false)) (λ m. (m.object < h.frame.next.object) × (is_of_file files m.object ≡ false)) (λ m both. (both.0, same_files m.object ∙ both.1)) q.maps old) h.frame.procs s.unmapped;
    described = All-weaker (λ o. IsAtFile h.frame.files o.kind) (λ o. IsAtFile files o.kind) (λ o old. of_kind o.kind old) h.frame.opens s.described;
  }
    where
      by_number : (n : ℕ) → is_of_file h.frame.files n ≡ true → (b : Bool) → (object == n) ≡ b → IsContent (length_of files n) (bytes_in memory n)
      by_number n is true e = subst (λ k. IsContent (length_of files k) (bytes_in memory k)) (eqb-true object n e) (subst (λ k. IsContent k (bytes_in memory object)) (sym its_length) (same_content length_then bytes (bytes_in memory object) its_bytes content))
      by_number n is false e = subst (λ k. IsContent k (bytes_in memory n)) (sym (other_length n e)) (same_content (length_of h.frame.files n) (bytes_in h.memory n) (bytes_in memory n) (other_bytes n e) (s.contents n is))

      of_kind : (kind : OpenKind) → IsAtFile h.frame.files kind → IsAtFile files kind
      of_kind kinds.Nothing old = tt
      of_kind kinds.Outside old = tt
      of_kind (kinds.File k) old = same_files k ∙ old
      of_kind (kinds.PipeRead pipe) old = tt
      of_kind (kinds.PipeWrite pipe) old = tt
      of_kind (kinds.PairEnd pair end) old = tt

-- a new file, of zeros, with an object of its own
module _ (h : Group) (name : List ℕ) (s : StandsIn h) where
  abbrev n : ℕ
  n = h.frame.next.object

  abbrev with_new : List FileRec
  with_new = with_file h.frame.files (empty_file name n)

  abbrev one_object : List (ℕ × List ℕ)
  one_object = (n, zeros (4096 * 256)) ∷ []

  one_from : All (λ x. (n ≤ x.0) × (x.0 < n + 1)) one_object
  one_from = All-cons (λ x. (n ≤ x.0) × (x.0 < n + 1)) (n, zeros (4096 * 256)) [] (omega arith, omega arith) (All-nil (λ x. (n ≤ x.0) × (x.0 < n + 1)))

  others_same : (k : ℕ) → (n == k) ≡ false → (is_of_file with_new k ≡ is_of_file h.frame.files k) × (length_of with_new k ≡ length_of h.frame.files k)
  unfolding is_of_file
  others_same k differ = (
    insert_list_any (λ f. f.object == k) h.frame.files (place_of_name h.frame.files name) (empty_file name n) differ,
    ap (λ (o : Option FileRec). elim o [ None ↦ 0 | Some f ↦ f.length ]) (find_insert_other (λ f. f.object == k) h.frame.files (place_of_name h.frame.files name) (empty_file name n) differ),
  )

  no_other : All (λ f. (f.object == n) ≡ false) h.frame.files
  unfolding is_of_file
  no_other k d lt = by_test (get_or h.frame.files k d) (any_at (λ f. (f.object == (get_or h.frame.files k d).object) ≡ true) h.frame.files k d lt (eq-eqb (get_or h.frame.files k d).object (get_or h.frame.files k d).object refl)) ((get_or h.frame.files k d).object == n) refl
    where
      by_test : (f : FileRec) → Any (λ x. (x.object == f.object) ≡ true) h.frame.files → (b : Bool) → (f.object == n) ≡ b → b ≡ false
      by_test f there false e = refl
      by_test f there true e = let same = eqb-true f.object n e in let less = s.below f.object (true_any (λ x. x.object == f.object) h.frame.files there) in absurd (omega (arith, same, less))

  its_new : (length_of with_new n ≡ 0) × (bytes_in (h.memory ++ one_object) n ≡ zeros (4096 * 256))
  its_new = (
    ap (λ (o : Option FileRec). elim o [ None ↦ 0 | Some f ↦ f.length ]) (find_insert_first (λ f. f.object == n) h.frame.files (place_of_name h.frame.files name) (empty_file name n) (eq-eqb n n refl) no_other),
    only_more h.memory one_object n (none_there n h.memory n s.numbers (omega arith)) ∙ (let hit : (n == n) ≡ true = eq-eqb n n refl in rw (bytes_in, hit) refl),
  )

  -- and no other object has become a file's
  pub new_file_old : (k : ℕ) → k < n → is_of_file with_new k ≡ true → is_of_file h.frame.files k ≡ true
  new_file_old k lt is = sym (others_same k (above_next n k n lt (omega arith))).0 ∙ is

  pub its_new_file : is_of_file with_new n ≡ true
  unfolding is_of_file
  its_new_file = true_any (λ f. f.object == n) with_new (insert_new (λ f. (f.object == n) ≡ true) h.frame.files (place_of_name h.frame.files name) (empty_file name n) (eq-eqb n n refl))

  pub new_file_stands : StandsIn (with_new_file h name)
  new_file_stands =
      let o = objects_stand h 1 one_object one_from s h.frame.procs (All-weaker (λ q. OfMemory n h.frame.files q.maps) (λ q. OfMemory (n + 1) h.frame.files q.maps) (λ q old. of_later h 1 one_object one_from s q.maps old) h.frame.procs s.unmapped) in
      record {
        contents = λ k is. by_number k is (n == k) refl;
        below = λ k is. by_below k is (n == k) refl;
        numbers = o.numbers;
        unmapped = All-weaker (λ q. OfMemory n h.frame.files q.maps) (λ q. OfMemory (n + 1) with_new q.maps) (λ q old. All-weaker (λ m. (m.object < n) × (is_of_file h.frame.files m.object ≡ false)) (λ m. (m.object < n + 1) × (is_of_file with_new m.object ≡ false)) (λ m both. (let less = both.0 in omega (arith, less), (others_same m.object (above_next (m.object + 1) m.object n (omega arith) (let less = both.0 in omega (arith, less)))).0 ∙ both.1)) q.maps old) h.frame.procs s.unmapped;
        described = All-weaker (λ x. IsAtFile h.frame.files x.kind) (λ x. IsAtFile with_new x.kind) (λ x old. of_kind x.kind old) h.frame.opens s.described;
      }
    where
      by_number : (k : ℕ) → is_of_file with_new k ≡ true → (b : Bool) → (n == k) ≡ b → IsContent (length_of with_new k) (bytes_in (h.memory ++ one_object) k)
      by_number k is true e = subst (λ j. IsContent (length_of with_new j) (bytes_in (h.memory ++ one_object) j)) (eqb-true n k e) (subst (λ j. IsContent j (bytes_in (h.memory ++ one_object) n)) (sym its_new.0) (same_content 0 (zeros (4096 * 256)) (bytes_in (h.memory ++ one_object) n) its_new.1 (zeros_length (4096 * 256), zeros_are_zero (4096 * 256))))
      by_number k is false e =
          let was = sym (others_same k e).0 ∙ is in
          subst (λ j. IsContent j (bytes_in (h.memory ++ one_object) k)) (sym (others_same k e).1) (same_content (length_of h.frame.files k) (bytes_in h.memory k) (bytes_in (h.memory ++ one_object) k) (old_bytes h 1 one_object one_from s k (s.below k was)) (s.contents k was))

      by_below : (k : ℕ) → is_of_file with_new k ≡ true → (b : Bool) → (n == k) ≡ b → k < n + 1
      by_below k is true e = let same = eqb-true n k e in omega (arith, same)
      by_below k is false e = let less = s.below k (sym (others_same k e).0 ∙ is) in omega (arith, less)

      of_kind : (kind : OpenKind) → IsAtFile h.frame.files kind → IsAtFile with_new kind
      of_kind kinds.Nothing old = tt
      of_kind kinds.Outside old = tt
      of_kind (kinds.File k) old = (others_same k (above_next (k + 1) k n (omega arith) (let less = s.below k old in omega (arith, less)))).0 ∙ old
      of_kind (kinds.PipeRead pipe) old = tt
      of_kind (kinds.PipeWrite pipe) old = tt
      of_kind (kinds.PairEnd pair end) old = tt

-- Processes that start and end.
pub procs_stand : (h : Group) (procs : List Proc) → All (λ q. OfMemory h.frame.next.object h.frame.files q.maps) procs → StandsIn h → StandsIn (with_procs h procs)
procs_stand h procs of s = record { contents = s.contents; below = s.below; numbers = s.numbers; unmapped = of; described = s.described }

pub ended_stands : (h : Group) (p : Proc) (status : ℕ) → StandsIn h → StandsIn (ended h p status)
unfolding ended
ended_stands h p status s = settled_stands (with_procs h (filter_map (after_end p status) h.frame.procs)) (procs_stand h (filter_map (after_end p status) h.frame.procs) (all_filter_map (after_end p status) (λ q. OfMemory h.frame.next.object h.frame.files q.maps) (λ q. OfMemory h.frame.next.object h.frame.files q.maps) (λ x y of e. by_cases x y of (is_runner p.pid x) (p.parent == 0) (x.parent == p.pid) (is_running x) e) h.frame.procs s.unmapped) s)
  where
    Of : Proc → Type 0
    Of q = OfMemory h.frame.next.object h.frame.files q.maps

    of_some : (x y : Proc) → Some x ≡ Some y → Of x → Of y
    of_some x y e of = let same : x ≡ y = cc in subst Of same of

    by_cases : (x y : Proc) → Of x → (a b c d : Bool) → (if a then (if b then None else Some (ended_process p status)) else if c then (if d then Some (record x { parent = 0 }) else None) else Some x) ≡ Some y → Of y
    by_cases x y of true true c d e = absurd (cc)
    by_cases x y of true false c d e = of_some (ended_process p status) y e (λ k m lt. absurd (omega (arith, lt)))
    by_cases x y of false b true true e = of_some (record x { parent = 0 }) y e of
    by_cases x y of false b true false e = absurd (cc)
    by_cases x y of false b false d e = of_some x y e of

-- a fork's copies have numbers of their own
pub copies_from_next : (n : ℕ) (os : List ObjectRec) → All (λ c. (n ≤ c.fresh) × (c.fresh < n + length (copies_from n os))) (copies_from n os)
copies_from_next n os = All-weaker (IsCopyOf (λ o. Unit {0}) n (length os)) (λ c. (n ≤ c.fresh) × (c.fresh < n + length (copies_from n os))) (λ c is. (is.from, (let less = is.below in let size = copies_length n os in omega (arith, less, size)))) (copies_from n os) (copies_all (λ o. Unit {0}) n os (λ k d lt. tt))

abbrev pub copied : List (ℕ × List ℕ) → List Copy → List (ℕ × List ℕ)
copied memory copies = map (λ c. (c.fresh, bytes_in memory c.old.number)) copies

module _ (h : Group) (copies : List Copy) (from : All (λ c. (h.frame.next.object ≤ c.fresh) × (c.fresh < h.frame.next.object + length copies)) copies) (s : StandsIn h) where
  pub copied_from : All (λ o. (h.frame.next.object ≤ o.0) × (o.0 < h.frame.next.object + length copies)) (copied h.memory copies)
  copied_from = All-map (λ (o : ℕ × List ℕ). (h.frame.next.object ≤ o.0) × (o.0 < h.frame.next.object + length copies)) (λ c. (c.fresh, bytes_in h.memory c.old.number)) copies from

  of_child : (p : Proc) → OfMemory h.frame.next.object h.frame.files p.maps → OfMemory (h.frame.next.object + length copies) h.frame.files (map (fresh_mapping copies) p.maps)
  of_child p of = All-map (λ m. (m.object < h.frame.next.object + length copies) × (is_of_file h.frame.files m.object ≡ false)) (fresh_mapping copies) p.maps (All-weaker (λ m. (m.object < h.frame.next.object) × (is_of_file h.frame.files m.object ≡ false)) (λ m. (fresh_number copies m.object < h.frame.next.object + length copies) × (is_of_file h.frame.files (fresh_number copies m.object) ≡ false)) (λ m both. by_copy m both (find (λ c. c.old.number == m.object) copies) refl) p.maps of)
    where
      by_copy : (m : Mapping) → (m.object < h.frame.next.object) × (is_of_file h.frame.files m.object ≡ false) → (o : Option Copy) → find (λ c. c.old.number == m.object) copies ≡ o
          → ((elim o [ None ↦ m.object | Some c ↦ c.fresh ]) < h.frame.next.object + length copies) × (is_of_file h.frame.files (elim o [ None ↦ m.object | Some c ↦ c.fresh ]) ≡ false)
      by_copy m both None e = (let less = both.0 in omega (arith, less), both.1)
      by_copy m both (Some c) e = let its = found_all (λ c. c.old.number == m.object) (λ c. (h.frame.next.object ≤ c.fresh) × (c.fresh < h.frame.next.object + length copies)) copies c e from in (its.1, no_file_above h (length copies) (copied h.memory copies) copied_from s c.fresh its.0)

  pub forked_stands : (p : Proc) → OfMemory h.frame.next.object h.frame.files p.maps → StandsIn (forked h p copies)
  unfolding forked
  forked_stands p of =
      objects_stand h (length copies) (copied h.memory copies) copied_from s (h.frame.procs ++ child_of h.frame.next.pid copies p ∷ [])
      (All-push (λ q. OfMemory (h.frame.next.object + length copies) h.frame.files q.maps) h.frame.procs (child_of h.frame.next.pid copies p) (All-weaker (λ q. OfMemory h.frame.next.object h.frame.files q.maps) (λ q. OfMemory (h.frame.next.object + length copies) h.frame.files q.maps) (λ q old. of_later h (length copies) (copied h.memory copies) copied_from s q.maps old) h.frame.procs s.unmapped) (of_child p of))

-- A valid group has all this.
nothing_left : (n k : ℕ) → k < length {A = ℕ} (drop n []) → ⊥
nothing_left zero k lt = omega (arith, lt)
nothing_left (suc n) k lt = omega (arith, lt)

none_such : (files : List FileRec) (n : ℕ) → file_with files n ≡ None → is_of_file files n ≡ false
unfolding is_of_file
none_such files n e = false_any (λ f. f.object == n) files (none_from_find (λ f. f.object == n) files e)

none_counted : {X : Type 0} (t : X → Bool) (xs : List X) → count_by t xs ≡ 0 → All (λ x. t x ≡ false) xs
none_counted t xs none k d lt = by_test (t (get_or xs k d)) refl
  where
    of_any : Any (λ x. t x ≡ true) (filter t xs) → ⊥
    of_any (i, x, less, at, is) = omega (arith, less, none, length-filter t xs)

    by_test : (b : Bool) → t (get_or xs k d) ≡ b → b ≡ false
    by_test false e = refl
    by_test true e = absurd (of_any (any_filter (λ x. t x ≡ true) t (λ x e. e) xs (any_at (λ x. t x ≡ true) xs k d lt e)))

module _ (g : Group) (v : GroupIsValid g) where
  file_there : (n : ℕ) → is_of_file g.frame.files n ≡ true → Any (λ o. ((o.number ≡ n) × (o.pages ≡ 256)) × (o.number < g.frame.next.object)) g.frame.objects
  unfolding is_of_file HasFileObject
  file_there n is = of_file (any_all (λ f. (f.object == n) ≡ true) (λ f. Any (λ o. (o.number ≡ f.object) × (o.pages ≡ 256)) g.frame.objects) g.frame.files (any_true (λ f. f.object == n) g.frame.files is) v.sound.frame.files.there)
    where
      of_file : Any (λ f. ((f.object == n) ≡ true) × Any (λ o. (o.number ≡ f.object) × (o.pages ≡ 256)) g.frame.objects) g.frame.files → Any (λ o. ((o.number ≡ n) × (o.pages ≡ 256)) × (o.number < g.frame.next.object)) g.frame.objects
      of_file (k, f, lt, at, both) = any_all (λ o. (o.number ≡ n) × (o.pages ≡ 256)) (λ o. o.number < g.frame.next.object) g.frame.objects (any_weaker (λ o. (o.number ≡ f.object) × (o.pages ≡ 256)) (λ o. (o.number ≡ n) × (o.pages ≡ 256)) g.frame.objects (λ o its. (its.0 ∙ eqb-true f.object n both.0, its.1)) both.1) v.sound.frame.objects.below

  size_of : (n : ℕ) → is_of_file g.frame.files n ≡ true → length (bytes_in g.memory n) ≡ 1048576
  unfolding Rise
  size_of n is = of_object (file_there n is)
    where
      of_object : Any (λ o. ((o.number ≡ n) × (o.pages ≡ 256)) × (o.number < g.frame.next.object)) g.frame.objects → length (bytes_in g.memory n) ≡ 1048576
      of_object (k, o, lt, at, its) = let size = object_bytes g.frame.objects g.memory n k o v.sound.memory.bytes v.sound.frame.objects.rise lt (ap (λ (x : ObjectRec). x.number) at ∙ its.0.0) in let pages : (get_or g.frame.objects k o).pages ≡ 256 = ap (λ (x : ObjectRec). x.pages) at ∙ its.0.1 in omega (arith, size, pages)

  zeros_past : (n : ℕ) → is_of_file g.frame.files n ≡ true → All (λ (b : ℕ). b ≡ 0) (drop (length_of g.frame.files n) (bytes_in g.memory n))
  zeros_past n is = by_file (file_with g.frame.files n) refl (find (λ o. o.0 == n) g.memory) refl
    where
      by_file : (f : Option FileRec) → file_with g.frame.files n ≡ f → (o : Option (ℕ × List ℕ)) → find (λ o. o.0 == n) g.memory ≡ o → All (λ (b : ℕ). b ≡ 0) (drop (elim f [ None ↦ 0 | Some x ↦ x.length ]) (elim o [ None ↦ [] | Some x ↦ x.1 ]))
      by_file None e o e' = let over : is_of_file g.frame.files n ≡ false = none_such g.frame.files n e in absurd (cc)
      by_file (Some f) e None e' = λ k d lt. absurd (nothing_left f.length k lt)
      by_file (Some f) e (Some o) e' =
          let its = found_has (EndsInZeros g.memory) (λ x. x.object == n) g.frame.files f v.sound.memory.zeros e in
          let entry = found_has (λ x. x.0 ≡ f.object → All (λ (b : ℕ). b ≡ 0) (drop f.length x.1)) (λ x. x.0 == n) g.memory o its.0 e' in
          entry.0 (eqb-true o.0 n entry.1 ∙ sym (eqb-true f.object n its.1))

  pub valid_stands : StandsIn g
  unfolding mappers maps_object IsInside is_of_file
  valid_stands = record {
    contents = λ n is. (size_of n is, zeros_past n is);
    below = λ n is. of_object n (file_there n is);
    numbers = zip_all (λ k. k < g.frame.next.object) g.frame.objects g.memory v.sound.memory.bytes v.sound.frame.objects.below;
    unmapped = λ k q lt j m less. (of_inside (get_or (get_or g.frame.procs k q).maps j m) (v.sound.frame.maps.inside k q lt j m less), by_file (get_or g.frame.procs k q) (get_or (get_or g.frame.procs k q).maps j m) (any_at (λ x. x ≡ get_or g.frame.procs k q) g.frame.procs k q lt refl) (any_at (λ x. x ≡ get_or (get_or g.frame.procs k q).maps j m) (get_or g.frame.procs k q).maps j m less refl) (is_of_file g.frame.files (get_or (get_or g.frame.procs k q).maps j m).object) refl);
    described = All-weaker (λ o. TargetIsThere g.frame.files g.frame.pipes g.frame.pairs o.kind) (λ o. IsAtFile g.frame.files o.kind) (λ o there. of_kind o.kind there) g.frame.opens v.sound.frame.opens.targets;
  }
    where
      of_object : (n : ℕ) → Any (λ o. ((o.number ≡ n) × (o.pages ≡ 256)) × (o.number < g.frame.next.object)) g.frame.objects → n < g.frame.next.object
      of_object n (k, o, lt, at, its) = let less = its.1 in let same = its.0.0 in omega (arith, less, same)

      of_inside : (m : Mapping) → Any (λ o. (o.number ≡ m.object) × (m.first + m.pages ≤ o.pages)) g.frame.objects → m.object < g.frame.next.object
      of_inside m there = of_both (any_all (λ o. (o.number ≡ m.object) × (m.first + m.pages ≤ o.pages)) (λ o. o.number < g.frame.next.object) g.frame.objects there v.sound.frame.objects.below)
        where
          of_both : Any (λ o. ((o.number ≡ m.object) × (m.first + m.pages ≤ o.pages)) × (o.number < g.frame.next.object)) g.frame.objects → m.object < g.frame.next.object
          of_both (k, o, lt, at, its) = let less = its.1 in let same = its.0.0 in omega (arith, less, same)

      no_mapper : (q : Proc) (m : Mapping) → Any (λ x. x ≡ q) g.frame.procs → Any (λ x. x ≡ m) q.maps → Any (λ f. ((f.object == m.object) ≡ true) × (count_by (λ x. list_any (λ y. y.object == f.object) x.maps) g.frame.procs ≡ 0)) g.frame.files → ⊥
      no_mapper q m here maps (k, f, lt, at, both) =
          let none : list_any (λ y. y.object == f.object) q.maps ≡ false = there_all (λ x. list_any (λ y. y.object == f.object) x.maps ≡ false) g.frame.procs q here (none_counted (λ x. list_any (λ y. y.object == f.object) x.maps) g.frame.procs both.1) in
          let some : list_any (λ y. y.object == f.object) q.maps ≡ true = true_any (λ y. y.object == f.object) q.maps (any_weaker (λ x. x ≡ m) (λ y. (y.object == f.object) ≡ true) q.maps (λ y same. eq-eqb y.object f.object (ap (λ (z : Mapping). z.object) same ∙ sym (eqb-true f.object m.object both.0))) maps) in
          absurd (cc)

      by_file : (q : Proc) (m : Mapping) → Any (λ x. x ≡ q) g.frame.procs → Any (λ x. x ≡ m) q.maps → (b : Bool) → list_any (λ f. f.object == m.object) g.frame.files ≡ b → b ≡ false
      by_file q m here maps false e = refl
      by_file q m here maps true e = absurd (no_mapper q m here maps (any_all (λ f. (f.object == m.object) ≡ true) (λ f. count_by (λ x. list_any (λ y. y.object == f.object) x.maps) g.frame.procs ≡ 0) g.frame.files (any_true (λ f. f.object == m.object) g.frame.files e) v.sound.frame.maps.unmapped))

      of_kind : (kind : OpenKind) → TargetIsThere g.frame.files g.frame.pipes g.frame.pairs kind → IsAtFile g.frame.files kind
      of_kind kinds.Nothing there = tt
      of_kind kinds.Outside there = tt
      of_kind (kinds.File k) there = true_any (λ f. f.object == k) g.frame.files (any_weaker (λ f. f.object ≡ k) (λ f. (f.object == k) ≡ true) g.frame.files (λ f same. eq-eqb f.object k same) there)
      of_kind (kinds.PipeRead pipe) there = tt
      of_kind (kinds.PipeWrite pipe) there = tt
      of_kind (kinds.PairEnd pair end) there = tt
