-- What a process sees of the tables is what it sees in the group that they stand for.
use Rattle.std.proofs.Common.{◌≡◌, ℕ, zero, suc, ◌+◌, ◌*◌, ◌<◌, ◌≤◌, ◌==◌, ◌&&◌, ◌||◌, Bool, true, false, not, List, [], ◌∷◌, ◌++◌, length, get_or, All, Some, None, refl, sym, ap, ◌∙◌, subst, arith}
use Rattle.std.proofs.lemmas.Bool.{false≢true}
use Rattle.std.proofs.lemmas.List.Sums.{length-filter}
use Rattle.std.specs.Prelude.{Any, if◌then◌else◌, filter}
use Rattle.std.specs.List.{find, list_any}
use Rattle.std.specs.Option.{option_map}
use Rattle.address_maps.specs.declared.maps.Mapping.{Mapping}
use Rattle.address_maps.specs.Mappings.{IsMapping, has, mapping_at}
use Rattle.group_defs.specs.Cells.{bytes_in, cells_of, sight}
use Rattle.group_defs.specs.Fork.{maps_privately}
use Rattle.group_defs.specs.Group.{Group, is_runner, runner}
use Rattle.group_defs.specs.Mappings.{IsInside}
use Rattle.group_defs.specs.Objects.{is_of_file, mappers, maps_object}
use Rattle.group_defs.specs.Step.{effect_in}
use Rattle.group_defs.specs.Valid.{GroupIsValid}
use Rattle.group_defs.specs.declared.frame.ObjectRec.{ObjectRec}
use Rattle.group_defs.specs.declared.frame.Proc.{Proc}
use Rattle.group_files.specs.declared.named_files.FileRec.{FileRec}
use Rattle.group_laws.proofs.Inside.{object_bytes}
use Rattle.group_laws.proofs.Lists.{any_all, any_true, found_all}
use Rattle.group_laws.proofs.OthersPrivate.{found_privately}
use Rattle.group_parts.proofs.KeptLaws.{here_part}
use Rattle.group_parts.proofs.LocalSteps.{runner_private}
use Rattle.group_parts.proofs.Sight.{bytes_at, entry, gone_entry, kept_entry, shared_is_public}
use Rattle.group_parts.specs.Kept.{StandsFor, kept_part}
use Rattle.group_parts.specs.Parts.{PrivatePart, is_private, is_public, part_in, part_of, private_memory, public_part}
use Rattle.group_kernel.specs.Held.{FileFacesOfFiles, TablesView, kept_in, public_memory, public_objects}
use Rattle.group_kernel.specs.Leases.{part_held}
use Rattle.proc_lease.specs.Sight.{SeenFits, cells_between, has_object, seen_by}
use Rattle.proc_lease.proofs.ObjectLists.{bytes_first, bytes_second, no_bytes}
use Rattle.group_kernel.proofs.PublicMemory.{Memory, bytes_of_view, found_start, has_both, has_number, no_entry, no_view_there, same_cells}
use Rattle.group_kernel.proofs.StoredInGroup.{NoneMapped}
use Rattle.proc_lease.specs.Private.{ObjectView, memory_of, views_of}
use Rattle.proc_lease.specs.declared.process.Process.{Process}
use Rattle.run_defs.specs.Legal.{is_unleased}
use Rattle.run_defs.specs.Progress.{Lease}
use Rattle.rv64_isa.specs.Instruction.{instruction}
use Rattle.rv64_isa.specs.Memory.{Cells}
use Rattle.rv64_isa.specs.declared.regs.Regs.{Regs}
use Rattle.shadow_chains.specs.declared.entry.Entry.{Entry}
use Rattle.tables.specs.Rising.{Rise}

some_kept : {X : Type 0} (s t : X → Bool) (xs : List X) (x : X) → find s xs ≡ Some x → t x ≡ true → 1 ≤ length (filter t xs)
some_kept s t [] x found hit = absurd cc
some_kept s t (y ∷ ys) x found hit = by_test (some_kept s t ys x) (s y) found
  where
    more : (b : Bool) → 1 ≤ length (filter t ys) → 1 ≤ length (if b then y ∷ filter t ys else filter t ys)
    more true le = omega arith
    more false le = le

    here : (b : Bool) → b ≡ true → 1 ≤ length (if b then y ∷ filter t ys else filter t ys)
    here true e = omega arith
    here false e = absurd cc

    by_test : (find s ys ≡ Some x → t x ≡ true → 1 ≤ length (filter t ys)) → (b : Bool) → (if b then Some y else find s ys) ≡ Some x → 1 ≤ length (if t y then y ∷ filter t ys else filter t ys)
    by_test rest true e = let same : y ≡ x = cc in here (t y) (ap t same ∙ hit)
    by_test rest false e = more (t y) (rest e hit)

pub same_some : {X : Type 0} {x y : X} → Some x ≡ Some y → x ≡ y
same_some e = cc

pub number_there : (objects : List ObjectRec) (number : ℕ) → Any (λ o. o.number ≡ number) objects → has_number objects number ≡ true
number_there [] number (k, d, lt, here, is) = absurd (omega (arith, lt))
number_there (o ∷ os) number (zero, d, lt, here, is) = let hit : (o.number == number) ≡ true = grind (arith, is, here) in rw hit refl
number_there (o ∷ os) number (suc k, d, lt, here, is) = by_test (o.number == number) (number_there os number (k, d, omega (arith, lt), here, is))
  where
    by_test : (t : Bool) → has_number os number ≡ true → (t || has_number os number) ≡ true
    by_test true rest = refl
    by_test false rest = rest

-- nobody maps a file's object
pub no_file : (g : Group) (pid : ℕ) (p : Proc) (number : ℕ) → GroupIsValid g → runner g pid ≡ Some p → list_any (λ m. m.object == number) p.maps ≡ true → is_of_file g.frame.files number ≡ false
unfolding runner is_of_file mappers maps_object
no_file g pid p number valid is maps = by_test (is_of_file g.frame.files number) refl
  where
    by_any : Any (λ (file : FileRec). ((file.object == number) ≡ true) × (mappers g.frame.procs file.object ≡ 0)) g.frame.files → ⊥
    by_any (k, file, lt, here, both) =
        let same : file.object ≡ number = grind (arith, both.0) in
        let none : mappers g.frame.procs number ≡ 0 = ap (mappers g.frame.procs) (sym same) ∙ both.1 in
        let some : 1 ≤ length (filter (maps_object number) g.frame.procs) = some_kept (is_runner pid) (maps_object number) g.frame.procs p is maps in
        omega (arith, some, none, length-filter (maps_object number) g.frame.procs)

    by_test : (b : Bool) → is_of_file g.frame.files number ≡ b → b ≡ false
    by_test false e = refl
    by_test true e = absurd (by_any (any_all (λ (file : FileRec). (file.object == number) ≡ true) (λ (file : FileRec). mappers g.frame.procs file.object ≡ 0) g.frame.files (any_true (λ (file : FileRec). file.object == number) g.frame.files e) valid.sound.frame.maps.unmapped))

found_any : {X : Type 0} (t s : X → Bool) (xs : List X) (x : X) → find t xs ≡ Some x → s x ≡ true → list_any s xs ≡ true
found_any t s [] x found hit = absurd cc
found_any t s (y ∷ ys) x found hit = by_test (found_any t s ys x) (t y) found
  where
    later : (b : Bool) → list_any s ys ≡ true → (b || list_any s ys) ≡ true
    later true e = refl
    later false e = e

    by_test : (find t ys ≡ Some x → s x ≡ true → list_any s ys ≡ true) → (b : Bool) → (if b then Some y else find t ys) ≡ Some x → (s y || list_any s ys) ≡ true
    by_test rest true e = let same : y ≡ x = cc in ap (λ b. b || list_any s ys) (ap s same ∙ hit)
    by_test rest false e = later (s y) (rest e hit)

-- files' faces are of no other object
pub faces_of_files : (entries : List Entry) (files : List FileRec) (number : ℕ) → All (λ e. is_of_file files e.number ≡ true) entries → is_of_file files number ≡ false → has_object (views_of entries) number ≡ false
faces_of_files [] files number all none = refl
faces_of_files (e ∷ es) files number all none = by_test (e.number == number) refl (faces_of_files es files number (λ k d lt. all (suc k) d (omega (arith, lt))) none)
  where
    by_test : (b : Bool) → (e.number == number) ≡ b → has_object (views_of es) number ≡ false → (b || has_object (views_of es) number) ≡ false
    by_test false is rest = rest
    by_test true is rest =
        let same : e.number ≡ number = grind (arith, is) in
        absurd (false≢true (sym none ∙ ap (is_of_file files) (sym same) ∙ all 0 e (omega arith)))

module _ (t : TablesView) (leases : List Lease) (g : Group) (pid : ℕ) (process : Process) (p : Proc) (stands : StandsFor leases (kept_in t) g) (valid : GroupIsValid g) (free : is_unleased leases pid ≡ true) (is : runner g pid ≡ Some p) (here : kept_part (kept_in t).here pid ≡ Some (part_held process)) where
  pub part_is : part_held process ≡ part_in g p
  unfolding part_of
  part_is = same_some (sym here ∙ here_part leases (kept_in t) g pid stands free ∙ ap (option_map (part_in g)) is)

  pub maps_are : process.map.entries ≡ p.maps
  maps_are = ap (λ (s : PrivatePart). s.maps) part_is

  private_is : memory_of (views_of process.faces.entries) ≡ private_memory g.memory p.maps
  private_is = ap (λ (s : PrivatePart). s.memory) part_is

  public_is : public_memory t ≡ filter (λ o. is_public g.frame.procs o.0) g.memory
  unfolding public_part
  public_is = ap (λ (h : Group). h.memory) stands.public

  pub objects_are : t.objects ≡ g.frame.objects
  unfolding public_part
  objects_are = ap (λ (h : Group). h.frame.objects) stands.public

  pub files_are : t.io.files.entries ≡ g.frame.files
  unfolding public_part
  files_are = ap (λ (h : Group). h.frame.files) stands.public

  abbrev mine : List ObjectView
  mine = views_of process.faces.entries

  abbrev others : List ObjectView
  others = views_of t.shared.entries

  all_inside : All (IsInside g.frame.objects) p.maps
  unfolding runner
  all_inside = found_all (is_runner pid) (λ q. All (IsInside g.frame.objects) q.maps) g.frame.procs p is valid.sound.frame.maps.inside

  all_placed : All IsMapping p.maps
  all_placed = subst (λ (l : List Mapping). All IsMapping l) maps_are process.fits.each

  -- what it maps privately is its own
  pub owned : (number : ℕ) → has_object mine number ≡ true → maps_privately p.maps number ≡ true
  owned number there = by_test (maps_privately p.maps number) refl
    where
      by_test : (b : Bool) → maps_privately p.maps number ≡ b → b ≡ true
      by_test true e = refl
      by_test false e = absurd (false≢true (sym (no_entry mine number (ap (λ (m : Memory). entry m number) private_is ∙ gone_entry (maps_privately p.maps) g.memory number e)) ∙ there))

  pub not_of_files : FileFacesOfFiles t → (number : ℕ) → list_any (λ m. m.object == number) p.maps ≡ true → has_object (views_of t.io.file_faces.entries) number ≡ false
  not_of_files only number maps =
      faces_of_files t.io.file_faces.entries t.io.files.entries number only (ap (λ (l : List FileRec). is_of_file l number) files_are ∙ no_file g pid p number valid is maps)

  module _ (a : ℕ) (m : Mapping) (found : mapping_at p.maps a ≡ Some m) where
    pub mapped : list_any (λ x. x.object == m.object) p.maps ≡ true
    mapped = found_any (has a) (λ x. x.object == m.object) p.maps m found (let e : (m.object == m.object) ≡ true = grind arith in e)

    pub size_of : 4096 * (m.first + m.pages) ≤ length (bytes_in g.memory m.object)
    unfolding IsInside Rise
    size_of = by_object (found_all (has a) (IsInside g.frame.objects) p.maps m found all_inside)
      where
        by_object : IsInside g.frame.objects m → 4096 * (m.first + m.pages) ≤ length (bytes_in g.memory m.object)
        by_object (k, o, lt, at, holds) =
            let size : length (bytes_in g.memory m.object) ≡ 4096 * (get_or g.frame.objects k o).pages = object_bytes g.frame.objects g.memory m.object k o valid.sound.memory.bytes valid.sound.frame.objects.rise lt (ap (λ (x : ObjectRec). x.number) at ∙ holds.0) in
            let pages : (get_or g.frame.objects k o).pages ≡ o.pages = ap (λ (x : ObjectRec). x.pages) at in
            omega (arith, size, pages, holds.1)

    some_bytes : 0 < length (bytes_in g.memory m.object)
    unfolding IsMapping
    some_bytes = let pages : 1 ≤ m.pages = (found_all (has a) IsMapping p.maps m found all_placed).1 in omega (arith, pages, size_of)

    -- of a private mapping
    own_bytes : m.shared ≡ false → bytes_in (memory_of mine) m.object ≡ bytes_in g.memory m.object
    own_bytes own = ap (λ (l : Memory). bytes_in l m.object) private_is ∙ ap bytes_at (kept_entry (maps_privately p.maps) g.memory m.object (found_privately p.maps a m found own))

    own_there : m.shared ≡ false → has_object mine m.object ≡ true
    own_there own = by_test (has_object mine m.object) refl
      where
        by_test : (b : Bool) → has_object mine m.object ≡ b → b ≡ true
        by_test true e = refl
        by_test false e = let none : length (bytes_in g.memory m.object) ≡ 0 = ap length (sym (own_bytes own) ∙ no_bytes mine m.object e) in absurd (omega (arith, none, some_bytes))

    -- of a shared one
    is_shared : m.shared ≡ true → is_private g.frame.procs m.object ≡ false
    is_shared other = shared_is_public g pid p a m valid is found other

    none_own : m.shared ≡ true → has_object mine m.object ≡ false
    none_own other = by_test (has_object mine m.object) refl
      where
        by_test : (b : Bool) → has_object mine m.object ≡ b → b ≡ false
        by_test false e = refl
        by_test true e = absurd (false≢true (sym (is_shared other) ∙ runner_private g pid p m.object is (owned m.object e)))

    shared_bytes : FileFacesOfFiles t → m.shared ≡ true → bytes_in (memory_of others) m.object ≡ bytes_in g.memory m.object
    shared_bytes only other =
        let there : bytes_in (public_memory t) m.object ≡ bytes_in g.memory m.object =
        ap (λ (l : Memory). bytes_in l m.object) public_is ∙ ap bytes_at (kept_entry (is_public g.frame.procs) g.memory m.object (ap not (is_shared other))) in
        let some' : 0 < length (bytes_in (public_memory t) m.object) = omega (arith, some_bytes, ap length there) in
        let views = bytes_of_view t.objects (public_objects t) m.object some' in
        by_test (has_object others m.object) refl (sym views ∙ there)
      where
        by_test : (b : Bool) → has_object others m.object ≡ b → bytes_in (memory_of (public_objects t)) m.object ≡ bytes_in g.memory m.object → bytes_in (memory_of others) m.object ≡ bytes_in g.memory m.object
        by_test true e all = sym (bytes_first others (views_of t.io.file_faces.entries) m.object e) ∙ all
        by_test false e all =
            let none : length (bytes_in g.memory m.object) ≡ 0 =
            ap length (sym all ∙ bytes_second others (views_of t.io.file_faces.entries) m.object e ∙ no_bytes (views_of t.io.file_faces.entries) m.object (not_of_files only m.object mapped)) in
            absurd (omega (arith, none, some_bytes))

    pub seen_bytes : FileFacesOfFiles t → bytes_in (memory_of (mine ++ others)) m.object ≡ bytes_in g.memory m.object
    seen_bytes only = by_kind m.shared refl
      where
        by_kind : (b : Bool) → m.shared ≡ b → bytes_in (memory_of (mine ++ others)) m.object ≡ bytes_in g.memory m.object
        by_kind false e = bytes_first mine others m.object (own_there e) ∙ own_bytes e
        by_kind true e = bytes_second mine others m.object (none_own e) ∙ shared_bytes only e

    pub side_of : has_object mine m.object ≡ not m.shared
    side_of = by_kind m.shared refl
      where
        by_kind : (b : Bool) → m.shared ≡ b → has_object mine m.object ≡ not b
        by_kind false e = own_there e
        by_kind true e = none_own e

  pub once_there : (number : ℕ) → has_object mine number ≡ true → has_object others number ≡ false
  unfolding IsInside
  once_there number there =
      let gone : entry (public_memory t) number ≡ None =
      ap (λ (m : Memory). entry m number) public_is ∙ gone_entry (is_public g.frame.procs) g.memory number (ap not (runner_private g pid p number is (owned number there))) in
      first_of others (no_view_there t.objects (public_objects t) number (ap (λ (l : List ObjectRec). has_number l number) objects_are ∙ number_there g.frame.objects number in_frame) gone)
    where
      first_of : (xs : List ObjectView) → has_object (xs ++ views_of t.io.file_faces.entries) number ≡ false → has_object xs number ≡ false
      first_of xs none = by_test (has_object xs number) (sym (has_both xs (views_of t.io.file_faces.entries) number) ∙ none)
        where
          by_test : (b : Bool) → (b || has_object (views_of t.io.file_faces.entries) number) ≡ false → b ≡ false
          by_test false e = refl
          by_test true e = absurd cc

      in_frame : Any (λ o. o.number ≡ number) g.frame.objects
      in_frame = by_mapping (any_all (λ m. ((m.object == number) && not m.shared) ≡ true) (IsInside g.frame.objects) p.maps (any_true (λ m. (m.object == number) && not m.shared) p.maps (owned number there)) all_inside)
        where
          by_object : (m : Mapping) → ((m.object == number) && not m.shared) ≡ true → IsInside g.frame.objects m → Any (λ o. o.number ≡ number) g.frame.objects
          by_object m hit (k, o, lt, at, holds) = let same : m.object ≡ number = first_same (m.object == number) (not m.shared) refl hit in (k, o, lt, at, holds.0 ∙ same)
            where
              first_same : (b c : Bool) → (m.object == number) ≡ b → (b && c) ≡ true → m.object ≡ number
              first_same true c e f = grind (arith, e)
              first_same false c e f = absurd cc

          by_mapping : Any (λ m. (((m.object == number) && not m.shared) ≡ true) × IsInside g.frame.objects m) p.maps → Any (λ o. o.number ≡ number) g.frame.objects
          by_mapping (k, m, lt, at, both) = by_object m both.0 both.1

  pub seen_fits : FileFacesOfFiles t → SeenFits (seen_by process t.shared)
  seen_fits only = record {
    each = process.fits.each;
    apart = process.fits.apart;
    inside = λ k d lt. let m = get_or process.map.entries k d in omega (arith, size_of m.start m (found_at k d lt), ap length (seen_bytes m.start m (found_at k d lt) only));
    sides = λ k d lt. let m = get_or process.map.entries k d in side_of m.start m (found_at k d lt);
    once = once_there;
  }
    where
      found_at : (k : ℕ) (d : Mapping) → k < length process.map.entries → mapping_at p.maps (get_or process.map.entries k d).start ≡ Some (get_or process.map.entries k d)
      found_at k d lt = ap (λ (l : List Mapping). mapping_at l (get_or process.map.entries k d).start) (sym maps_are) ∙ found_start process.map.entries k d process.fits.each process.fits.apart lt

  pub seen_is_sight : FileFacesOfFiles t → cells_between process t.shared ≡ sight g p
  seen_is_sight only = ap (cells_of (memory_of (mine ++ others))) maps_are ∙ same_cells (memory_of (mine ++ others)) g.memory p.maps (λ a m found. seen_bytes a m found only)

  pub effect_is : FileFacesOfFiles t → instruction (cells_between process t.shared) process.regs ≡ effect_in g p
  effect_is only = ap (λ (c : Cells). instruction c process.regs) (seen_is_sight only) ∙ ap (λ (r : Regs). instruction (sight g p) r) (ap (λ (s : PrivatePart). s.regs) part_is)

  pub none_mapped : FileFacesOfFiles t → NoneMapped (views_of t.io.file_faces.entries) process.map.entries
  none_mapped only k d lt = let m = get_or process.map.entries k d in not_of_files only m.object (mapped m.start m (ap (λ (l : List Mapping). mapping_at l m.start) (sym maps_are) ∙ found_start process.map.entries k d process.fits.each process.fits.apart lt))
