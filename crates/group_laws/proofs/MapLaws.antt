-- The caller has other mappings: what is left of its own, and one of a new object.
use Rattle.std.proofs.Common.{◌≡◌, ◌⊎◌, inl, inr, ℕ, ◌+◌, ◌*◌, ◌≤◌, Bool, true, false, ◌==◌, List, [], ◌∷◌, ◌++◌, get_or, Some, refl, ap, sym, ◌∙◌, subst, arith}
use Rattle.std.specs.Prelude.{All, Any, find, if◌then◌else◌, nat_lt}
use Rattle.std.specs.List.{list_any}
use Rattle.std.proofs.lemmas.Bool.{cases_Bool, cases_eq, eqb-true, ltb-true}
use Rattle.std.proofs.lemmas.List.Elements.{All-append, All-cons, All-nil, All-weaker}
use Rattle.std.proofs.lemmas.List.Sums.{length-filter}
use Rattle.address_maps.specs.Cut.{above, below, cut, parts_above, parts_below, remains, touches}
use Rattle.address_maps.specs.Mappings.{AreMappings, IsMapping, end_of}
use Rattle.address_maps.specs.declared.maps.Mapping.{Mapping}
use Rattle.address_maps.specs.ApartLaws.{rise_from_apart}
use Rattle.address_maps.specs.CutLaws.{touched}
use Rattle.group_defs.specs.Changes.{with_maps}
use Rattle.group_defs.specs.Descriptions.{DescriptorsValid}
use Rattle.group_defs.specs.Group.{Group, is_runner}
use Rattle.group_defs.specs.Mappings.{IsInside, IsUserMapping}
use Rattle.group_defs.specs.Numbers.{RegsFit}
use Rattle.group_defs.specs.Objects.{IsMappedAs, IsMemoryObject, IsPrivateObject, IsSharedObject, is_of_file, maps_object, mappers}
use Rattle.group_defs.specs.Order.{OwnListsRise}
use Rattle.group_defs.specs.Processes.{BreakValid}
use Rattle.group_defs.specs.Sizes.{ProcFits}
use Rattle.group_defs.specs.Valid.{GroupIsSound, MapsSound}
use Rattle.group_defs.specs.declared.frame.ObjectRec.{ObjectRec}
use Rattle.group_defs.specs.declared.frame.Proc.{Proc}
use Rattle.tables.specs.Lists.{on_first}
use Rattle.group_laws.proofs.CallerLaws.{CallerFits, KeepsName, caller_fits, caller_names, caller_procs}
use Rattle.group_laws.proofs.Lists.{all_flat_map, any_all, any_at, any_true, any_weaker, found_all, on_first_all, on_first_count_le, on_first_count_one, true_any}
use Rattle.group_laws.proofs.PartLaws.{procs_sound}
use Rattle.group_laws.proofs.SettledLaws.{equal}

-- a piece of a mapping: the same object, sharing and rights, and no other pages
pub record IsPiece (x m : Mapping) : Type 0 where
  pub object : m.object ≡ x.object
  pub shared : m.shared ≡ x.shared
  pub prot : m.prot ≡ x.prot
  pub last : m.first + m.pages ≤ x.first + x.pages

abbrev pub IsPieceOf : List Mapping → Mapping → Type 0
IsPieceOf maps m = Any (λ x. IsPiece x m) maps

pieces : (start end : ℕ) (x : Mapping) → All (IsPiece x) (remains start end x)
unfolding remains
pieces start end x = by_touch (touches start end x) refl
  where
    by_below : touches start end x ≡ true → (b : Bool) → All (IsPiece x) (if b then below start x ∷ [] else [])
    by_below t true = let hit = touched start end x t in let low = hit.2 in All-cons (IsPiece x) (below start x) [] (record { object = refl; shared = refl; prot = refl; last = omega (arith, low) }) (All-nil (IsPiece x))
    by_below t false = All-nil (IsPiece x)

    by_above : (b : Bool) → nat_lt end (end_of x) ≡ b → All (IsPiece x) (if b then above end x ∷ [] else [])
    by_above true e = let lt = ltb-true end (end_of x) e in All-cons (IsPiece x) (above end x) [] (record { object = refl; shared = refl; prot = refl; last = omega (arith, lt) }) (All-nil (IsPiece x))
    by_above false e = All-nil (IsPiece x)

    by_touch : (b : Bool) → touches start end x ≡ b → All (IsPiece x) (if b then parts_below start x ++ parts_above end x else x ∷ [])
    by_touch true e = All-append (IsPiece x) (parts_below start x) (parts_above end x) (by_below e (nat_lt x.start start)) (by_above (nat_lt end (end_of x)) refl)
    by_touch false e = All-cons (IsPiece x) x [] (record { object = refl; shared = refl; prot = refl; last = omega arith }) (All-nil (IsPiece x))

pub cut_pieces : (maps : List Mapping) (start pages : ℕ) → All (IsPieceOf maps) (cut maps start pages)
cut_pieces maps start pages =
    all_flat_map (λ x. Any (λ y. y ≡ x) maps) (IsPieceOf maps) (remains start (start + 4096 * pages))
    (λ x there. All-weaker (IsPiece x) (IsPieceOf maps) (λ m piece. any_weaker (λ y. y ≡ x) (λ y. IsPiece y m) maps (λ y same. subst (λ z. IsPiece z m) (sym same) piece) there) (remains start (start + 4096 * pages) x) (pieces start (start + 4096 * pages) x))
    maps (λ k d lt. any_at (λ y. y ≡ get_or maps k d) maps k d lt refl)

-- a mapping of a new object, shared or not
abbrev pub IsNewOf : ℕ → Bool → Mapping → Type 0
IsNewOf fresh shared m = (m.object ≡ fresh) × (m.shared ≡ shared)

module _ (g : Group) (p : Proc) (found : find (is_runner p.pid) g.frame.procs ≡ Some p) (fresh : ℕ) (shared : Bool) (ms : List Mapping) (each : All (λ m. IsPieceOf p.maps m ⊎ IsNewOf fresh shared m) ms)
    (unused : All (λ q. All (λ m. (m.object ≡ fresh) → ⊥) q.maps) g.frame.procs) where
  abbrev f : Proc → Proc
  f q = record q { maps = ms }

  abbrev t : Proc → Bool
  t = is_runner p.pid

  abbrev after : List Proc
  after = on_first t f g.frame.procs

  mine : (q : Proc) → find t g.frame.procs ≡ Some q → p ≡ q
  mine q found' = let both : Some p ≡ Some q = sym found ∙ found' in cc

  unused_mine : All (λ m. (m.object ≡ fresh) → ⊥) p.maps
  unused_mine = found_all t (λ q. All (λ m. (m.object ≡ fresh) → ⊥) q.maps) g.frame.procs p found unused

  -- of another object the caller maps pieces alone
  mapped_before : (number : ℕ) → (number ≡ fresh → ⊥) → (q : Proc) → find t g.frame.procs ≡ Some q → maps_object number (f q) ≡ true → maps_object number q ≡ true
  unfolding maps_object
  mapped_before number other q found' maps = ap (λ x. list_any (λ m. m.object == number) x.maps) (sym (mine q found')) ∙ of_any (any_all (λ m. (m.object == number) ≡ true) (λ m. IsPieceOf p.maps m ⊎ IsNewOf fresh shared m) ms (any_true (λ m. m.object == number) ms maps) each)
    where
      of_either : (m : Mapping) → m.object ≡ number → IsPieceOf p.maps m ⊎ IsNewOf fresh shared m → list_any (λ x. x.object == number) p.maps ≡ true
      of_either m is (inl piece) = true_any (λ x. x.object == number) p.maps (any_weaker (λ x. IsPiece x m) (λ x. (x.object == number) ≡ true) p.maps (λ x of. equal x.object number (sym of.object ∙ is)) piece)
      of_either m is (inr new) = absurd (other (sym is ∙ new.0))

      of_any : Any (λ m. ((m.object == number) ≡ true) × (IsPieceOf p.maps m ⊎ IsNewOf fresh shared m)) ms → list_any (λ x. x.object == number) p.maps ≡ true
      of_any (k, m, lt, is, both) = of_either m (eqb-true m.object number both.0) both.1

  fewer : (number : ℕ) → (number ≡ fresh → ⊥) → mappers after number ≤ mappers g.frame.procs number
  unfolding mappers
  fewer number other =
      let le = on_first_count_le t f (maps_object number) g.frame.procs (mapped_before number other) in
      omega (arith, le, length-filter (maps_object number) g.frame.procs, length-filter (maps_object number) after)

  mapped_other : (s : Bool) (number : ℕ) → (number ≡ fresh → ⊥) → All (IsMappedAs s number) g.frame.procs → All (IsMappedAs s number) after
  unfolding IsMappedAs
  mapped_other s number other all = on_first_all t f (IsMappedAs s number) g.frame.procs (λ q found' old. λ k d lt is. of_either (get_or ms k d) is (subst (λ x. All (λ m. m.object ≡ number → m.shared ≡ s) x.maps) (sym (mine q found')) old) (each k d lt)) all
    where
      of_either : (m : Mapping) → m.object ≡ number → All (λ x. x.object ≡ number → x.shared ≡ s) p.maps → IsPieceOf p.maps m ⊎ IsNewOf fresh shared m → m.shared ≡ s
      of_either m is old (inl piece) = of_any (any_all (λ x. IsPiece x m) (λ x. x.object ≡ number → x.shared ≡ s) p.maps piece old)
        where
          of_any : Any (λ x. IsPiece x m × (x.object ≡ number → x.shared ≡ s)) p.maps → m.shared ≡ s
          of_any (k, x, lt, e, both) = let of = both.0 in of.shared ∙ both.1 (sym of.object ∙ is)
      of_either m is old (inr new) = absurd (other (sym is ∙ new.0))

  mapped_new : All (IsMappedAs shared fresh) after
  unfolding IsMappedAs
  mapped_new = on_first_all t f (IsMappedAs shared fresh) g.frame.procs (λ q found' old. λ k d lt is. of_either (get_or ms k d) is (each k d lt)) (λ k d lt i e lt' is. absurd (unused k d lt i e lt' is))
    where
      of_either : (m : Mapping) → m.object ≡ fresh → IsPieceOf p.maps m ⊎ IsNewOf fresh shared m → m.shared ≡ shared
      of_either m is (inr new) = new.1
      of_either m is (inl piece) = of_any (any_all (λ x. IsPiece x m) (λ x. (x.object ≡ fresh) → ⊥) p.maps piece unused_mine)
        where
          of_any : Any (λ x. IsPiece x m × ((x.object ≡ fresh) → ⊥)) p.maps → m.shared ≡ shared
          of_any (k, x, lt, e, both) = let of = both.0 in absurd (both.1 (sym of.object ∙ is))

  one_mapper : mappers after fresh ≤ 1
  unfolding mappers maps_object
  one_mapper =
      let le = on_first_count_one t f (maps_object fresh) g.frame.procs (λ k d lt. none (get_or g.frame.procs k d) (unused k d lt)) in
      omega (arith, le, length-filter (maps_object fresh) after)
    where
      none : (q : Proc) → All (λ m. (m.object ≡ fresh) → ⊥) q.maps → maps_object fresh q ≡ false
      none q all = by_test (cases_Bool (maps_object fresh q))
        where
          by_test : (maps_object fresh q ≡ true) ⊎ (maps_object fresh q ≡ false) → maps_object fresh q ≡ false
          by_test (inr miss) = miss
          by_test (inl hit) = of_any (any_all (λ m. (m.object == fresh) ≡ true) (λ m. (m.object ≡ fresh) → ⊥) q.maps (any_true (λ m. m.object == fresh) q.maps hit) all)
            where
              of_any : Any (λ m. ((m.object == fresh) ≡ true) × ((m.object ≡ fresh) → ⊥)) q.maps → maps_object fresh q ≡ false
              of_any (k, m, lt, e, both) = absurd (both.1 (eqb-true m.object fresh both.0))

  new_object : (o : ObjectRec) → o.number ≡ fresh → 1 ≤ o.pages → (s : Bool) → shared ≡ s → IsMemoryObject after o
  unfolding IsMemoryObject IsSharedObject IsPrivateObject
  new_object o is pages true s = (pages, inl (subst (λ n. All (IsMappedAs true n) after) (sym is) (subst (λ b. All (IsMappedAs b fresh) after) s mapped_new)))
  new_object o is pages false s = (pages, inr (subst (λ n. All (IsMappedAs false n) after) (sym is) (subst (λ b. All (IsMappedAs b fresh) after) s mapped_new), subst (λ n. mappers after n ≤ 1) (sym is) one_mapper))

  object_after : (o : ObjectRec) → (is_of_file g.frame.files o.number ≡ true) ⊎ IsMemoryObject g.frame.procs o → (is_of_file g.frame.files o.number ≡ true) ⊎ IsMemoryObject after o
  unfolding IsMemoryObject IsSharedObject IsPrivateObject
  object_after o (inl file) = inl file
  object_after o (inr (pages, kind)) = by_number (cases_eq o.number fresh)
    where
      by_kind : (o.number ≡ fresh → ⊥) → IsSharedObject g.frame.procs o.number ⊎ IsPrivateObject g.frame.procs o.number → IsSharedObject after o.number ⊎ IsPrivateObject after o.number
      by_kind other (inl all) = inl (mapped_other true o.number other all)
      by_kind other (inr (all, one)) = inr (mapped_other false o.number other all, let le = fewer o.number other in omega (arith, le, one))

      by_number : (o.number ≡ fresh) ⊎ (o.number ≡ fresh → ⊥) → (is_of_file g.frame.files o.number ≡ true) ⊎ IsMemoryObject after o
      by_number (inl is) = inr (new_object o is pages shared refl)
      by_number (inr other) = inr (pages, by_kind other kind)

  -- the rules on mappings and objects
  pub maps_after : All (IsInside g.frame.objects) ms → All (λ file. (file.object ≡ fresh) → ⊥) g.frame.files → MapsSound g.frame.procs g.frame.objects g.frame.files → MapsSound after g.frame.objects g.frame.files
  maps_after inside no_file s = record {
    inside = on_first_all t f (λ q. All (IsInside g.frame.objects) q.maps) g.frame.procs (λ q found' old. inside) s.inside;
    agree = All-weaker (λ o. (is_of_file g.frame.files o.number ≡ true) ⊎ IsMemoryObject g.frame.procs o) (λ o. (is_of_file g.frame.files o.number ≡ true) ⊎ IsMemoryObject after o) object_after g.frame.objects s.agree;
    unmapped = λ k d lt. let none = s.unmapped k d lt in let le = fewer (get_or g.frame.files k d).object (no_file k d lt) in omega (arith, none, le);
  }

  pub maps_sound : AreMappings ms → All (λ m. m.prot ≤ 7) ms → All (IsInside g.frame.objects) ms → All (λ file. (file.object ≡ fresh) → ⊥) g.frame.files → GroupIsSound g → GroupIsSound (with_maps g p ms)
  unfolding RegsFit ProcFits OwnListsRise BreakValid DescriptorsValid IsUserMapping IsMapping
  maps_sound are rights inside no_file s =
      let names : KeepsName f = record { pid = λ q. refl; parent = λ q. refl; state = λ q. refl } in
      let old : CallerFits p = caller_fits g.frame.next.pid p.pid g.frame.procs p refl found s.frame.procs in
      let placed : All IsUserMapping ms = λ k d lt. let m = are.each k d lt in let right = rights k d lt in (m.0, m.1, m.2, m.3, right) in
      let new : CallerFits (f p) = record { fits = (old.fits.0, are.count, old.fits.2); own = (rise_from_apart ms are.each are.apart, old.own.1); regs = old.regs; placed = placed; apart = are.apart; pc = old.pc; break = old.break } in
      procs_sound g after (caller_procs p.pid f names g.frame.procs g.frame.next.pid p refl found new s.frame.procs) (maps_after inside no_file s.frame.maps)
      (caller_names p.pid f names g.frame.procs g.frame.pairs g.frame.opens (λ q e old. old) s.frame.names) s
