-- clone keeps a group valid.
use Rattle.std.proofs.Common.{◌≡◌, ◌⊎◌, inl, inr, ℕ, ◌+◌, ◌*◌, ◌^◌, ◌<◌, ◌≤◌, Bool, true, false, ◌&&◌, ◌||◌, ◌==◌, not, List, [], ◌∷◌, ◌++◌, length, map, drop, get_or, Option, Some, None, refl, ap, sym, ◌∙◌, ⊎_elim, length-append, arith}
use Rattle.std.specs.Prelude.{All, Any, filter, find, IsTrue, nat_le, sum_by}
use Rattle.std.specs.List.{list_any}
use Rattle.std.proofs.lemmas.Bool.{and_parts, cases_Bool, eqb-false, eqb-true, leb-false, leb-true, ne_eqb, not-false, not-true}
use Rattle.std.proofs.lemmas.List.{length-map, length_push}
use Rattle.std.proofs.lemmas.List.Elements.{All-append, All-map, All-push, All-weaker, filter-append}
use Rattle.std.proofs.lemmas.List.Folds.{list_any-append}
use Rattle.std.proofs.lemmas.List.Sums.{sum_by-append}
use Rattle.address_maps.specs.Mappings.{AreApart, end_of}
use Rattle.address_maps.specs.declared.maps.Mapping.{Mapping}
use Rattle.descriptors.specs.EntryLaws.{found_passes}
use Rattle.group_defs.specs.Cells.{bytes_in}
use Rattle.group_defs.specs.Descriptions.{DescriptorsValid}
use Rattle.group_defs.specs.Fork.{Copy, can_copy, child_of, clone, copies_from, forked, fresh_mapping, fresh_number, maps_privately, to_copy}
use Rattle.group_defs.specs.Group.{Group, is_runner, is_running, regs_of}
use Rattle.group_defs.specs.Held.{is_at, is_kept}
use Rattle.group_defs.specs.Mappings.{IsInside, IsUserMapping}
use Rattle.group_defs.specs.Numbers.{NextFits, RegsFit}
use Rattle.group_defs.specs.Objects.{HasFileObject, IsMappedAs, IsMemoryObject, IsPrivateObject, IsSharedObject, is_of_file, mappers, maps_object, memory_objects}
use Rattle.group_defs.specs.Order.{OwnListsRise}
use Rattle.group_defs.specs.Processes.{BreakValid, EndedValid, HasParent, ProcValid, RunningValid, StateValid}
use Rattle.group_defs.specs.Sizes.{ProcFits}
use Rattle.group_defs.specs.Valid.{AllHeld, FilesSound, GroupIsValid, IsObject, MapsSound, MemorySound, ObjectsSound, ProcsSound}
use Rattle.group_defs.specs.declared.frame.ObjectRec.{ObjectRec}
use Rattle.group_defs.specs.declared.frame.Proc.{Proc}
use Rattle.group_defs.specs.declared.frame.ProcState.{ProcState}
use Rattle.group_defs.specs.declared.frame.ProcState.TheVariants.{Running, Ended}
use Rattle.group_files.specs.declared.named_files.FileRec.{FileRec}
use Rattle.rv64_isa.specs.Numbers.{low_word}
use Rattle.rv64_isa.specs.Registers.{a0, a1, answered}
use Rattle.rv64_isa.specs.declared.regs.Regs.{Regs}
use Rattle.tables.proofs.Only.{none_from_find}
use Rattle.group_laws.proofs.ByteLaws.{bytes_in_fit}
use Rattle.group_laws.proofs.CallerLaws.{CallerFits, RegsAre, held_grows}
use Rattle.group_laws.proofs.DescriptorCallLaws.{if_keeps, nothing_stored, open_fds}
use Rattle.group_laws.proofs.EndingLaws.{found_runs}
use Rattle.group_laws.proofs.ForkLists.{IsCopyOf, any_append_right, copies_all, copies_length, copies_pages, copies_rise, copy_there, found_first, fresh_is, pairs_map, rise_append, there_all, zip_append, zip_maps}
use Rattle.group_laws.proofs.Lists.{all_filter, any_all, any_append_left, any_at, any_filter, any_map, any_true, any_weaker, found_is, length_filter, rise_map, rise_push, sum_filter, true_any}
use Rattle.group_laws.proofs.NewFileLaws.{count_none, false_any, unmapped}
use Rattle.group_laws.proofs.OpenLaws.{first_one, one_more}
use Rattle.group_laws.proofs.ReplyLaws.{ReplyKeeps, answered_fits, maps_no_file}
use Rattle.group_laws.proofs.SettledLaws.{equal, or_left, or_right, rise_filter, rise_unique}
use Rattle.group_laws.proofs.StoreLaws.{NoFile}
use Rattle.group_laws.proofs.UnmapLaws.{inside_known, own, own_inside}
use Rattle.group_laws.proofs.WriteFileLaws.{zip_found, zip_there}

-- an object's bytes in the table
object_bytes : (g : Group) (o : ObjectRec) → GroupIsValid g → Any (λ x. x ≡ o) g.frame.objects → length (bytes_in g.memory o.number) ≡ 4096 * o.pages
object_bytes g o v there = by_entry (find (λ x. x.0 == o.number) g.memory) refl
  where
    same_pages : (m : ℕ × List ℕ) → Any (λ r. IsObject r m × (m.0 ≡ o.number)) g.frame.objects → length m.1 ≡ 4096 * o.pages
    same_pages m (j, b, lt, b_is, b_has) =
        let same : o ≡ b = rise_unique (λ x. x.number) g.frame.objects o b v.sound.frame.objects.rise there (j, b, lt, b_is, refl) (sym b_has.1 ∙ b_has.0.0) in
        let size = b_has.0.1 in let pages = ap (λ (x : ObjectRec). x.pages) same in
        omega (arith, size, pages)

    by_entry : (x : Option (ℕ × List ℕ)) → find (λ y. y.0 == o.number) g.memory ≡ x → length {A = ℕ} (elim x as (λ z. List ℕ) [ None ↦ [] | Some y ↦ y.1 ]) ≡ 4096 * o.pages
    by_entry None e = absurd (zip_there g.frame.objects g.memory o.number v.sound.memory.bytes (any_weaker (λ r. r ≡ o) (λ r. r.number ≡ o.number) g.frame.objects (λ r w. ap (λ (x : ObjectRec). x.number) w) there) e)
    by_entry (Some m) e = same_pages m (zip_found g.frame.objects g.memory o.number m v.sound.memory.bytes e)

module _ (g : Group) (p : Proc) (found : find (is_runner p.pid) g.frame.procs ≡ Some p) (v : GroupIsValid g) (low : g.frame.next.object ≤ 2 ^ 63) where
  abbrev n : ℕ
  n = g.frame.next.object

  abbrev olds : List ObjectRec
  olds = to_copy g.frame p

  abbrev copies : List Copy
  copies = copies_from n olds

  abbrev child : Proc
  child = child_of g.frame.next.pid copies p

  abbrev procs : List Proc
  procs = g.frame.procs ++ child ∷ []

  abbrev renumbered : Copy → ObjectRec
  renumbered c = record c.old { number = c.fresh }

  abbrev objects : List ObjectRec
  objects = g.frame.objects ++ map renumbered copies

  abbrev copied_bytes : Copy → ℕ × List ℕ
  copied_bytes c = (c.fresh, bytes_in g.memory c.old.number)

  abbrev memory : List (ℕ × List ℕ)
  memory = g.memory ++ map copied_bytes copies

  -- what is copied is an object of the caller's that it maps privately
  record IsOld (o : ObjectRec) : Type 0 where
    privately : maps_privately p.maps o.number ≡ true
    there : Any (λ x. x ≡ o) g.frame.objects

  are_old : All IsOld olds
  are_old = all_filter (λ o. Any (λ x. x ≡ o) g.frame.objects) IsOld (λ o. maps_privately p.maps o.number) (λ o there is. record { privately = is; there = there }) g.frame.objects (λ k d lt. any_at (λ x. x ≡ get_or g.frame.objects k d) g.frame.objects k d lt refl)

  are_copies : All (IsCopyOf IsOld n (length olds)) copies
  are_copies = copies_all IsOld n olds are_old

  -- the caller has a private mapping of it
  private_mapping : (o : ObjectRec) → IsOld o → Any (λ m. (m.object ≡ o.number) × (m.shared ≡ false)) p.maps
  private_mapping o old = any_weaker (λ m. ((m.object == o.number) && not m.shared) ≡ true) (λ m. (m.object ≡ o.number) × (m.shared ≡ false)) p.maps (λ m e. let both = and_parts (m.object == o.number) (not m.shared) e in (eqb-true m.object o.number both.0, not-true m.shared both.1)) (any_true (λ m. (m.object == o.number) && not m.shared) p.maps old.privately)

  no_files : NoFile g.frame.files p.maps
  no_files = maps_no_file g p found v

  caller_there : Any (λ q. q ≡ p) g.frame.procs
  caller_there = any_weaker (λ q. (q ≡ p) × (is_runner p.pid q ≡ true)) (λ q. q ≡ p) g.frame.procs (λ q both. both.0) (found_is (is_runner p.pid) g.frame.procs p found)

  -- an object that the caller maps is a memory object
  not_file : (o : ObjectRec) → Any (λ m. m.object ≡ o.number) p.maps → is_of_file g.frame.files o.number ≡ true → ⊥
  unfolding is_of_file
  not_file o mapped is = of_both mapped (any_true (λ file. file.object == o.number) g.frame.files is)
    where
      of_both : Any (λ m. m.object ≡ o.number) p.maps → Any (λ file. (file.object == o.number) ≡ true) g.frame.files → ⊥
      of_both (k, m, lt, at, same) (i, f, lt', at', is) = no_files k m lt i f lt' (ap (λ (x : Mapping). x.object) at ∙ same ∙ sym (ap (λ (x : FileRec). x.object) at' ∙ eqb-true f.object o.number is))

  memory_object : (o : ObjectRec) → Any (λ x. x ≡ o) g.frame.objects → Any (λ m. m.object ≡ o.number) p.maps → IsMemoryObject g.frame.procs o
  memory_object o there mapped = ⊎_elim (λ file. absurd (not_file o mapped file)) (λ memory. memory) (there_all (λ x. (is_of_file g.frame.files x.number ≡ true) ⊎ IsMemoryObject g.frame.procs x) g.frame.objects o there v.sound.frame.maps.agree)

  -- all of the caller's mappings of a copied object are private
  all_private : (o : ObjectRec) → IsOld o → All (λ m. m.object ≡ o.number → m.shared ≡ false) p.maps
  unfolding IsMemoryObject IsSharedObject IsPrivateObject IsMappedAs
  all_private o old =
      let mapping = private_mapping o old in
      by_kind mapping (memory_object o old.there (any_weaker (λ m. (m.object ≡ o.number) × (m.shared ≡ false)) (λ m. m.object ≡ o.number) p.maps (λ m both. both.0) mapping)).1
    where
      by_kind : Any (λ m. (m.object ≡ o.number) × (m.shared ≡ false)) p.maps → IsSharedObject g.frame.procs o.number ⊎ IsPrivateObject g.frame.procs o.number → All (λ m. m.object ≡ o.number → m.shared ≡ false) p.maps
      by_kind mapping (inr (all, one)) = there_all (λ q. All (λ m. m.object ≡ o.number → m.shared ≡ false) q.maps) g.frame.procs p caller_there all
      by_kind mapping (inl all) = absurd (of_any (any_all (λ m. (m.object ≡ o.number) × (m.shared ≡ false)) (λ m. m.object ≡ o.number → m.shared ≡ true) p.maps mapping (there_all (λ q. All (λ m. m.object ≡ o.number → m.shared ≡ true) q.maps) g.frame.procs p caller_there all)))
        where
          of_any : Any (λ m. ((m.object ≡ o.number) × (m.shared ≡ false)) × (m.object ≡ o.number → m.shared ≡ true)) p.maps → ⊥
          of_any (k, m, lt, at, both) = let first = both.1 both.0.0 in let second = both.0.1 in absurd (cc)

  -- a mapping of the child: it is kept and shared, or of a copy and private
  record IsKept (m : Mapping) : Type 0 where
    same : fresh_number copies m.object ≡ m.object
    shared : m.shared ≡ true

  record IsCopied (m : Mapping) : Type 0 where
    copy : Copy
    there : Any (λ c. c ≡ copy) copies
    old : copy.old.number ≡ m.object
    fresh : fresh_number copies m.object ≡ copy.fresh
    private : m.shared ≡ false

  each_mapping : All (λ m. IsKept m ⊎ IsCopied m) p.maps
  unfolding IsInside
  each_mapping k d lt = by_find (find (λ c. c.old.number == m.object) copies) refl (cases_Bool m.shared)
    where
      m : Mapping
      m = get_or p.maps k d

      mapped : Any (λ o. (o.number ≡ m.object) × (m.first + m.pages ≤ o.pages)) g.frame.objects
      mapped = own_inside g p found v k d lt

      is_old : (o : ObjectRec) → Any (λ x. x ≡ o) g.frame.objects → o.number ≡ m.object → m.shared ≡ false → Any (λ x. x ≡ o) olds
      is_old o there same private =
          any_filter (λ x. x ≡ o) (λ x. maps_privately p.maps x.number) (λ x is. ap (λ (y : ObjectRec). maps_privately p.maps y.number) is ∙ true_any (λ x. (x.object == o.number) && not x.shared) p.maps (any_at (λ x. ((x.object == o.number) && not x.shared) ≡ true) p.maps k d lt (both (m.object == o.number) m.shared (equal m.object o.number (sym same)) private))) g.frame.objects there
        where
          both : (a b : Bool) → a ≡ true → b ≡ false → (a && not b) ≡ true
          both a b first second = rw (first, second) refl

      by_find : (o : Option Copy) → find (λ c. c.old.number == m.object) copies ≡ o → (m.shared ≡ true) ⊎ (m.shared ≡ false) → IsKept m ⊎ IsCopied m
      by_find None e (inl shared) = inl (record { same = ap (λ (o : Option Copy). elim o [ None ↦ m.object | Some c ↦ c.fresh ]) e; shared = shared })
      by_find None e (inr private) = absurd (of_object mapped)
        where
          of_copy : Any (λ c. c.old.number ≡ m.object) copies → ⊥
          of_copy (j, c, lt', at, same) = let miss = none_from_find (λ x. x.old.number == m.object) copies e j c lt' in eqb-false (get_or copies j c).old.number m.object miss (ap (λ (x : Copy). x.old.number) at ∙ same)

          of_object : Any (λ o. (o.number ≡ m.object) × (m.first + m.pages ≤ o.pages)) g.frame.objects → ⊥
          of_object (j, o, lt', at, w) = of_copy (copy_there (λ x. x.number ≡ m.object) n olds (any_weaker (λ x. x ≡ o) (λ x. x.number ≡ m.object) olds (λ x is. ap (λ (y : ObjectRec). y.number) is ∙ w.0) (is_old o (j, o, lt', at, refl) w.0 private)))
      by_find (Some c) e either =
          let there : Any (λ x. x ≡ c) copies = any_weaker (λ x. (x ≡ c) × ((x.old.number == m.object) ≡ true)) (λ x. x ≡ c) copies (λ x both. both.0) (found_is (λ x. x.old.number == m.object) copies c e) in
          let is = there_all (IsCopyOf IsOld n (length olds)) copies c there are_copies in
          let same : c.old.number ≡ m.object = eqb-true c.old.number m.object (found_passes (λ x. x.old.number == m.object) copies c e) in
          inr (record { copy = c; there = there; old = same; fresh = ap (λ (o : Option Copy). elim o [ None ↦ m.object | Some x ↦ x.fresh ]) e; private = all_private c.old is.old k d lt (sym same) })

  copy_of : (c : Copy) → Any (λ x. x ≡ c) copies → IsCopyOf IsOld n (length olds) c
  copy_of c there = there_all (IsCopyOf IsOld n (length olds)) copies c there are_copies

  own_below : All (λ m. m.object < n) p.maps
  own_below k d lt = (inside_known g p found v p (own_inside g p found v) k d lt).0

  -- No mapping of the child is of an object that is there and is not shared.
  child_misses : (number : ℕ) → number < n → All (λ m. m.object ≡ number → m.shared ≡ false) p.maps → All (λ m. (fresh_number copies m.object ≡ number) → ⊥) p.maps
  child_misses number lt private k d lt' is = by_case (each_mapping k d lt')
    where
      by_case : IsKept (get_or p.maps k d) ⊎ IsCopied (get_or p.maps k d) → ⊥
      by_case (inl kept) = let first = kept.shared in let second = private k d lt' (sym kept.same ∙ is) in absurd (cc)
      by_case (inr copied) = let from = (copy_of copied.copy copied.there).from in let same = sym copied.fresh ∙ is in omega (arith, lt, from, same)

  child_maps_none : (number : ℕ) → All (λ m. (fresh_number copies m.object ≡ number) → ⊥) p.maps → maps_object number child ≡ false
  unfolding maps_object
  child_maps_none number misses = false_any (λ m. m.object == number) (map (fresh_mapping copies) p.maps) (All-map (λ m. (m.object == number) ≡ false) (fresh_mapping copies) p.maps (λ k d lt. ne_eqb (fresh_number copies (get_or p.maps k d).object) number (misses k d lt)))

  mappers_same : (number : ℕ) → All (λ m. (fresh_number copies m.object ≡ number) → ⊥) p.maps → mappers procs number ≡ mappers g.frame.procs number
  unfolding mappers
  mappers_same number misses = one_more (maps_object number) g.frame.procs child (child_maps_none number misses)

  -- Processes.
  child_state : ProcValid procs child
  unfolding ProcValid RunningValid BreakValid HasParent
  child_state = by_state p.state refl
    where
      own_fits : CallerFits p
      own_fits = own g p found v

      regs : RegsAre (answered (regs_of p) 0)
      regs = answered_fits p 0 own_fits (omega arith)

      parent : Any (λ q. IsTrue (is_running q) × (q.pid ≡ p.pid) × (q.pid < g.frame.next.pid)) procs
      parent = any_append_left (λ q. IsTrue (is_running q) × (q.pid ≡ p.pid) × (q.pid < g.frame.next.pid)) g.frame.procs (child ∷ []) (any_weaker (λ q. (q ≡ p) × (q.pid < g.frame.next.pid)) (λ q. IsTrue (is_running q) × (q.pid ≡ p.pid) × (q.pid < g.frame.next.pid)) g.frame.procs (λ q both. (ap is_running both.0 ∙ found_runs g.frame.procs p found, ap (λ (x : Proc). x.pid) both.0, both.1)) (any_all (λ q. q ≡ p) (λ q. q.pid < g.frame.next.pid) g.frame.procs caller_there v.sound.frame.procs.below))

      by_state : (s : ProcState) → p.state ≡ s → StateValid procs child s
      by_state Running is = (regs.aligned, own_fits.break, inr parent)
      by_state (Ended code) is = absurd (let stopped : is_running p ≡ false = ap (λ (x : ProcState). elim x [ Running ↦ true | Ended c ↦ false ]) is in let runs = found_runs g.frame.procs p found in cc)

  states_more : (q : Proc) → ProcValid g.frame.procs q → ProcValid procs q
  unfolding ProcValid RunningValid EndedValid HasParent
  states_more q valid = by_state q.state valid
    where
      parent_more : Any (λ x. IsTrue (is_running x) × (x.pid ≡ q.parent) × (x.pid < q.pid)) g.frame.procs → Any (λ x. IsTrue (is_running x) × (x.pid ≡ q.parent) × (x.pid < q.pid)) procs
      parent_more any = any_append_left (λ x. IsTrue (is_running x) × (x.pid ≡ q.parent) × (x.pid < q.pid)) g.frame.procs (child ∷ []) any

      by_state : (s : ProcState) → StateValid g.frame.procs q s → StateValid procs q s
      by_state Running w = (w.0, w.1, ⊎_elim (λ none. inl none) (λ parent. inr (parent_more parent)) w.2)
      by_state (Ended code) w = (parent_more w.0, w.1, w.2)

  procs_sound : length g.frame.procs < 64 → ProcsSound (g.frame.next.pid + 1) procs
  unfolding ProcFits OwnListsRise RegsFit IsUserMapping AreApart
  procs_sound few =
      let s = v.sound.frame.procs in
      let c = own g p found v in
      let regs = answered_fits p 0 c (omega arith) in
      record {
        count = let size = length_push g.frame.procs child in omega (arith, size, few);
        rise = rise_push (λ q. q.pid) g.frame.procs child s.rise s.below;
        below = All-push (λ q. q.pid < g.frame.next.pid + 1) g.frame.procs child (All-weaker (λ q. q.pid < g.frame.next.pid) (λ q. q.pid < g.frame.next.pid + 1) (λ q lt. omega (arith, lt)) g.frame.procs s.below) (omega arith);
        fits = All-push ProcFits g.frame.procs child s.fits (v.sound.frame.next.1, (let size = length-map p.maps (fresh_mapping copies) in let most = c.fits.1 in omega (arith, size, most)), c.fits.2);
        own = All-push OwnListsRise g.frame.procs child s.own (rise_map (fresh_mapping copies) (λ m. m.start) (λ m. m.start) (λ m. refl) p.maps c.own.0, c.own.1);
        regs = All-push RegsFit g.frame.procs child s.regs (regs.pc, regs.count, regs.values);
        placed = All-push (λ q. All IsUserMapping q.maps) g.frame.procs child s.placed (All-map IsUserMapping (fresh_mapping copies) p.maps c.placed);
        apart = All-push (λ q. AreApart q.maps) g.frame.procs child s.apart (pairs_map (λ m k. end_of m ≤ k.start) (fresh_mapping copies) p.maps c.apart);
        states = All-push (ProcValid procs) g.frame.procs child (All-weaker (ProcValid g.frame.procs) (ProcValid procs) states_more g.frame.procs s.states) child_state;
      }

  -- Mappings and objects.
  child_inside : All (IsInside objects) child.maps
  unfolding IsInside
  child_inside = All-map (λ m. Any (λ o. (o.number ≡ m.object) × (m.first + m.pages ≤ o.pages)) objects) (fresh_mapping copies) p.maps (λ k d lt. by_case (get_or p.maps k d) (own_inside g p found v k d lt) (each_mapping k d lt))
    where
      by_case : (m : Mapping) → Any (λ o. (o.number ≡ m.object) × (m.first + m.pages ≤ o.pages)) g.frame.objects → IsKept m ⊎ IsCopied m → Any (λ o. (o.number ≡ fresh_number copies m.object) × (m.first + m.pages ≤ o.pages)) objects
      by_case m inside (inl kept) = any_append_left (λ o. (o.number ≡ fresh_number copies m.object) × (m.first + m.pages ≤ o.pages)) g.frame.objects (map renumbered copies) (any_weaker (λ o. (o.number ≡ m.object) × (m.first + m.pages ≤ o.pages)) (λ o. (o.number ≡ fresh_number copies m.object) × (m.first + m.pages ≤ o.pages)) g.frame.objects (λ o w. (w.0 ∙ sym kept.same, w.1)) inside)
      by_case m inside (inr copied) =
          any_append_right (λ o. (o.number ≡ fresh_number copies m.object) × (m.first + m.pages ≤ o.pages)) g.frame.objects (map renumbered copies)
          (any_map (λ c. c ≡ copied.copy) (λ o. (o.number ≡ fresh_number copies m.object) × (m.first + m.pages ≤ o.pages)) renumbered (λ c is. (ap (λ (x : Copy). x.fresh) is ∙ sym copied.fresh, (let pages = ap (λ (x : Copy). x.old.pages) is in let last = fits inside in omega (arith, pages, last)))) copies copied.there)
        where
          fits : Any (λ o. (o.number ≡ m.object) × (m.first + m.pages ≤ o.pages)) g.frame.objects → m.first + m.pages ≤ copied.copy.old.pages
          fits (j, o, lt', at, w) =
              let same : o ≡ copied.copy.old = rise_unique (λ x. x.number) g.frame.objects o copied.copy.old v.sound.frame.objects.rise (j, o, lt', at, refl) (copy_of copied.copy copied.there).old.there (w.0 ∙ sym copied.old) in
              let pages = ap (λ (x : ObjectRec). x.pages) same in let last = w.1 in omega (arith, pages, last)

  -- an object that was there agrees as before
  old_agrees : (o : ObjectRec) → o.number < n → IsMemoryObject g.frame.procs o → IsMemoryObject procs o
  unfolding IsMemoryObject IsSharedObject IsPrivateObject IsMappedAs
  old_agrees o lt (pages, inl all) = (pages, inl (All-push (λ q. All (λ m. m.object ≡ o.number → m.shared ≡ true) q.maps) g.frame.procs child all (All-map (λ m. m.object ≡ o.number → m.shared ≡ true) (fresh_mapping copies) p.maps (λ k d lt' is. by_case k d lt' is (each_mapping k d lt')))))
    where
      by_case : (k : ℕ) (d : Mapping) → k < length p.maps → fresh_number copies (get_or p.maps k d).object ≡ o.number → IsKept (get_or p.maps k d) ⊎ IsCopied (get_or p.maps k d) → (get_or p.maps k d).shared ≡ true
      by_case k d lt' is (inl kept) = kept.shared
      by_case k d lt' is (inr copied) = let from = (copy_of copied.copy copied.there).from in let same = sym copied.fresh ∙ is in absurd (omega (arith, lt, from, same))
  old_agrees o lt (pages, inr (all, one)) =
      let misses = child_misses o.number lt (there_all (λ q. All (λ m. m.object ≡ o.number → m.shared ≡ false) q.maps) g.frame.procs p caller_there all) in
      (pages, inr (All-push (λ q. All (λ m. m.object ≡ o.number → m.shared ≡ false) q.maps) g.frame.procs child all (All-map (λ m. m.object ≡ o.number → m.shared ≡ false) (fresh_mapping copies) p.maps (λ k d lt' is. absurd (misses k d lt' is))), (let same = mappers_same o.number misses in omega (arith, same, one))))

  unused_from : (number : ℕ) → n ≤ number → All (λ q. All (λ m. (m.object ≡ number) → ⊥) q.maps) g.frame.procs
  unused_from number from k d lt i e lt' same = let below = (inside_known g p found v (get_or g.frame.procs k d) (v.sound.frame.maps.inside k d lt) i e lt').0 in omega (arith, below, from, same)

  -- a copy is mapped by the child alone, privately
  new_agrees : (c : Copy) → IsCopyOf IsOld n (length olds) c → IsMemoryObject procs (renumbered c)
  unfolding IsMemoryObject IsPrivateObject IsMappedAs mappers
  new_agrees c is =
      let unused = unused_from c.fresh is.from in
      let mapping = private_mapping c.old is.old in (
        (memory_object c.old is.old.there (any_weaker (λ m. (m.object ≡ c.old.number) × (m.shared ≡ false)) (λ m. m.object ≡ c.old.number) p.maps (λ m both. both.0) mapping)).0,
        inr (
          All-push (λ q. All (λ m. m.object ≡ c.fresh → m.shared ≡ false) q.maps) g.frame.procs child (λ k d lt i e lt' same. absurd (unused k d lt i e lt' same)) (All-map (λ m. m.object ≡ c.fresh → m.shared ≡ false) (fresh_mapping copies) p.maps (λ k d lt same. by_case k d lt same (each_mapping k d lt))),
          first_one (maps_object c.fresh) g.frame.procs child (count_none (maps_object c.fresh) g.frame.procs (unmapped g.frame.procs c.fresh unused)),
        ),
      )
    where
      by_case : (k : ℕ) (d : Mapping) → k < length p.maps → fresh_number copies (get_or p.maps k d).object ≡ c.fresh → IsKept (get_or p.maps k d) ⊎ IsCopied (get_or p.maps k d) → (get_or p.maps k d).shared ≡ false
      by_case k d lt same (inl kept) = let below = own_below k d lt in let from = is.from in let number = sym kept.same ∙ same in absurd (omega (arith, below, from, number))
      by_case k d lt same (inr copied) = copied.private

  -- a file's object is there, and the caller maps none
  file_below : All (λ file. file.object < n) g.frame.files
  unfolding HasFileObject
  file_below k d lt = of_any (any_all (λ o. (o.number ≡ (get_or g.frame.files k d).object) × (o.pages ≡ 256)) (λ o. o.number < n) g.frame.objects (v.sound.frame.files.there k d lt) v.sound.frame.objects.below)
    where
      of_any : Any (λ o. ((o.number ≡ (get_or g.frame.files k d).object) × (o.pages ≡ 256)) × (o.number < n)) g.frame.objects → (get_or g.frame.files k d).object < n
      of_any (i, o, lt', at, both) = let same = both.0.0 in let below = both.1 in omega (arith, same, below)

  maps_sound : MapsSound procs objects g.frame.files
  unfolding IsInside
  maps_sound =
      let s = v.sound.frame.maps in
      record {
        inside = All-push (λ q. All (IsInside objects) q.maps) g.frame.procs child (λ k d lt i e lt'. any_append_left (λ o. (o.number ≡ (get_or (get_or g.frame.procs k d).maps i e).object) × ((get_or (get_or g.frame.procs k d).maps i e).first + (get_or (get_or g.frame.procs k d).maps i e).pages ≤ o.pages)) g.frame.objects (map renumbered copies) (s.inside k d lt i e lt')) child_inside;
        agree = All-append (λ o. (is_of_file g.frame.files o.number ≡ true) ⊎ IsMemoryObject procs o) g.frame.objects (map renumbered copies)
            (λ k d lt. ⊎_elim (λ file. inl file) (λ memory. inr (old_agrees (get_or g.frame.objects k d) (v.sound.frame.objects.below k d lt) memory)) (s.agree k d lt))
            (All-map (λ o. (is_of_file g.frame.files o.number ≡ true) ⊎ IsMemoryObject procs o) renumbered copies (λ k d lt. inr (new_agrees (get_or copies k d) (are_copies k d lt))));
        unmapped = λ k d lt. mappers_same (get_or g.frame.files k d).object (child_misses (get_or g.frame.files k d).object (file_below k d lt) (λ i e lt' same. absurd (no_files i e lt' k d lt same))) ∙ s.unmapped k d lt;
      }

  objects_sound : can_copy g.frame olds ≡ true → ObjectsSound (n + length copies) objects g.frame.files
  objects_sound can =
      let s = v.sound.frame.objects in
      let t : ObjectRec → Bool = λ o. not (is_of_file g.frame.files o.number) in
      let new : List ObjectRec = map renumbered copies in
      let split = filter-append t g.frame.objects new in
      let both = and_parts (nat_le (length (memory_objects g.frame) + length olds) 4096) (nat_le (sum_by (λ o. o.pages) (memory_objects g.frame) + sum_by (λ o. o.pages) olds) 65536) can in
      let few = leb-true (length (memory_objects g.frame) + length olds) 4096 both.0 in
      let room = leb-true (sum_by (λ o. o.pages) (memory_objects g.frame) + sum_by (λ o. o.pages) olds) 65536 both.1 in
      let size = copies_length n olds in
      record {
        count = let a = ap length split ∙ length-append (filter t g.frame.objects) (filter t new) in let b = length_filter t new in let c = length-map copies renumbered in omega (arith, a, b, c, size, few);
        pages = let a = ap (sum_by (λ (o : ObjectRec). o.pages)) split ∙ sum_by-append (λ o. o.pages) (filter t g.frame.objects) (filter t new) in let b = sum_filter (λ o. o.pages) t new in let c = copies_pages n olds in omega (arith, a, b, c, room);
        sizes = All-append (λ o. o.pages ≤ 16384) g.frame.objects new s.sizes (All-map (λ o. o.pages ≤ 16384) renumbered copies (λ k d lt. there_all (λ o. o.pages ≤ 16384) g.frame.objects (get_or copies k d).old (are_copies k d lt).old.there s.sizes));
        rise = rise_append (λ o. o.number) n g.frame.objects new s.rise (rise_map renumbered (λ c. c.fresh) (λ o. o.number) (λ c. refl) copies (copies_rise n olds)) s.below (All-map (λ o. n ≤ o.number) renumbered copies (λ k d lt. (are_copies k d lt).from));
        below = All-append (λ o. o.number < n + length copies) g.frame.objects new (All-weaker (λ o. o.number < n) (λ o. o.number < n + length copies) (λ o lt. omega (arith, lt)) g.frame.objects s.below) (All-map (λ o. o.number < n + length copies) renumbered copies (λ k d lt. let below = (are_copies k d lt).below in omega (arith, below, size)));
      }

  files_sound : FilesSound objects g.frame.files
  unfolding HasFileObject
  files_sound =
      let s = v.sound.frame.files in
      record {
        count = s.count;
        fits = s.fits;
        rise = s.rise;
        there = λ k d lt. any_append_left (λ o. (o.number ≡ (get_or g.frame.files k d).object) × (o.pages ≡ 256)) g.frame.objects (map renumbered copies) (s.there k d lt);
        alone = s.alone;
      }

  memory_sound : MemorySound objects g.frame.files memory
  memory_sound = record {
    bytes = zip_append IsObject g.frame.objects g.memory (map renumbered copies) (map copied_bytes copies) v.sound.memory.bytes (zip_maps IsObject renumbered copied_bytes copies (λ k d lt. (refl, object_bytes g (get_or copies k d).old v (are_copies k d lt).old.there, bytes_in_fit g (get_or copies k d).old.number v)));
    zeros = λ k d lt. All-append (λ o. o.0 ≡ (get_or g.frame.files k d).object → All (λ (b : ℕ). b ≡ 0) (drop (get_or g.frame.files k d).length o.1)) g.memory (map copied_bytes copies) (v.sound.memory.zeros k d lt)
        (All-map (λ o. o.0 ≡ (get_or g.frame.files k d).object → All (λ (b : ℕ). b ≡ 0) (drop (get_or g.frame.files k d).length o.1)) copied_bytes copies (λ i e lt' same. let from = (are_copies i e lt').from in let below = file_below k d lt in absurd (omega (arith, from, below, same))));
  }

  -- the child maps each copy
  copy_mapped : (c : Copy) → IsOld c.old → fresh_number copies c.old.number ≡ c.fresh → maps_object c.fresh child ≡ true
  unfolding maps_object
  copy_mapped c old is =
      true_any (λ m. m.object == c.fresh) (map (fresh_mapping copies) p.maps)
      (any_map (λ m. (m.object ≡ c.old.number) × (m.shared ≡ false)) (λ m. (m.object == c.fresh) ≡ true) (fresh_mapping copies) (λ m both. equal (fresh_number copies m.object) c.fresh (ap (fresh_number copies) both.0 ∙ is)) p.maps (private_mapping c.old old))

  all_held : AllHeld (forked g p copies).frame
  unfolding forked is_kept
  all_held =
      let base = held_grows g procs (λ k at. list_any-append (is_at k) g.frame.procs (child ∷ []) ∙ or_left (list_any (is_at k) g.frame.procs) (list_any (is_at k) (child ∷ [])) at) (λ k maps. list_any-append (maps_object k) g.frame.procs (child ∷ []) ∙ or_left (list_any (maps_object k) g.frame.procs) (list_any (maps_object k) (child ∷ [])) maps) v.held in
      let numbered = fresh_is n olds (rise_filter (λ o. o.number) (λ o. maps_privately p.maps o.number) g.frame.objects v.sound.frame.objects.rise) in
      record {
        opens = base.opens;
        objects = All-append (λ o. IsTrue (is_kept g.frame.files procs o.number)) g.frame.objects (map renumbered copies) base.objects (All-map (λ o. IsTrue (is_kept g.frame.files procs o.number)) renumbered copies (λ k d lt. or_right (is_of_file g.frame.files (get_or copies k d).fresh) (list_any (maps_object (get_or copies k d).fresh) procs) (child_has (get_or copies k d).fresh (copy_mapped (get_or copies k d) (are_copies k d lt).old (numbered k d lt)))));
        pipes = base.pipes;
        pairs = base.pairs;
      }
    where
      child_has : (number : ℕ) → maps_object number child ≡ true → list_any (maps_object number) procs ≡ true
      child_has number maps = list_any-append (maps_object number) g.frame.procs (child ∷ []) ∙ or_right (list_any (maps_object number) g.frame.procs) (list_any (maps_object number) (child ∷ [])) (rw maps refl)

  forked_valid : length g.frame.procs < 64 → g.frame.next.pid < 32768 → can_copy g.frame olds ≡ true → GroupIsValid (forked g p copies)
  unfolding forked NextFits DescriptorsValid
  forked_valid few pids can =
      let s = v.sound in
      record {
        sound = record {
          frame = record {
            procs = procs_sound few;
            maps = maps_sound;
            names = record { fds = All-push (DescriptorsValid g.frame.opens) g.frame.procs child s.frame.names.fds (open_fds g p found v); carried = s.frame.names.carried };
            opens = s.frame.opens;
            pipes = s.frame.pipes;
            pairs = s.frame.pairs;
            objects = objects_sound can;
            files = files_sound;
            out = s.frame.out;
            next = (let x = s.frame.next.0 in let size = copies_length n olds in let most = leb-true (length (memory_objects g.frame) + length olds) 4096 (and_parts (nat_le (length (memory_objects g.frame) + length olds) 4096) (nat_le (sum_by (λ o. o.pages) (memory_objects g.frame) + sum_by (λ o. o.pages) olds) 65536) can).0 in (omega (arith, low, size, most), x.1, x.2, x.3), omega arith, omega (arith, pids));
          };
          memory = memory_sound;
        };
        held = all_held;
      }

  pub clone_keeps : (r : Regs) → ReplyKeeps p (clone g p r)
  unfolding forked
  clone_keeps r =
      if_keeps p (not (low_word (a0 r) == 17) || not (a1 r == 0)) _ _ (λ e. (omega arith, omega arith)) (λ e.
      if_keeps p (nat_le 64 (length g.frame.procs) || nat_le 32768 g.frame.next.pid) _ _ (λ e. (omega arith, omega arith)) (λ room.
      if_keeps p (not (can_copy g.frame olds)) _ _ (λ e. (omega arith, omega arith)) (λ can.
      let both = nor (nat_le 64 (length g.frame.procs)) (nat_le 32768 g.frame.next.pid) room in
      let pids = leb-false 32768 g.frame.next.pid both.1 in
      record {
        value_fits = omega (arith, pids);
        valid = forked_valid (leb-false 64 (length g.frame.procs) both.0) pids (not-false (can_copy g.frame olds) can);
        caller = p;
        runs = found_first (is_runner p.pid) g.frame.procs (child ∷ []) p found;
        bytes = nothing_stored;
        no_file = no_files;
      })))
    where
      nor : (a b : Bool) → (a || b) ≡ false → (a ≡ false) × (b ≡ false)
      nor false b e = (refl, e)
      nor true b e = absurd (cc)
