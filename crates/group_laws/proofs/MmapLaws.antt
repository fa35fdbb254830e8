-- mmap, and brk where it grows, keep a group valid.
use Rattle.std.proofs.Common.{◌≡◌, ◌⊎◌, inl, inr, ℕ, ◌+◌, ◌*◌, ◌%◌, ◌^◌, ◌<◌, ◌≤◌, Bool, true, false, ◌&&◌, ◌||◌, ◌==◌, not, List, [], ◌∷◌, length, map, get_or, Option, Some, None, refl, ap, sym, ◌∙◌, subst, arith}
use Rattle.std.specs.Prelude.{All, Any, find, IsTrue, bit_or, is_some, nat_le, nat_lt, sum_by}
use Rattle.std.specs.List.{list_any, prefix_len}
use Rattle.std.proofs.lemmas.Bool.{and_parts, cases_Bool, eqb-false, eqb-true, false≢true, leb-true, ltb-true, lt-ltb, leb-false, not-false, not-true}
use Rattle.std.proofs.lemmas.List.Elements.{All-cons, All-map, All-push, All-weaker}
use Rattle.std.proofs.lemmas.List.Quantifiers.{Any-push}
use Rattle.address_maps.specs.Cut.{cut, touches}
use Rattle.address_maps.specs.Gaps.{area_end, area_start, first_gap, is_gap}
use Rattle.address_maps.specs.Mappings.{AreMappings, IsMapping, end_of, is_taken, mapping_at, overlaps}
use Rattle.address_maps.specs.declared.maps.Mapping.{Mapping}
use Rattle.address_maps.specs.ApartLaws.{added_mappings}
use Rattle.address_maps.specs.CutLaws.{cut_mappings}
use Rattle.address_maps.specs.ShownLaws.{address_from_taken, nothing_inside}
use Rattle.group_defs.specs.Changes.{with_object}
use Rattle.group_defs.specs.Group.{Group, is_runner}
use Rattle.group_defs.specs.Held.{is_at, is_kept, settled}
use Rattle.group_defs.specs.MapCalls.{has_room, has_room_for, is_good_for_map, is_user_range, map_fixed, map_gap, mapped, mmap, new_mapping, pages_for}
use Rattle.group_defs.specs.Mappings.{IsInside}
use Rattle.group_defs.specs.Objects.{is_of_file, maps_object, memory_objects}
use Rattle.group_defs.specs.Valid.{AllHeld, GroupIsSound, GroupIsValid}
use Rattle.group_defs.specs.declared.frame.Proc.{Proc}
use Rattle.group_defs.specs.Calls.{has_only}
use Rattle.rv64_isa.specs.Numbers.{has_bit, low_word}
use Rattle.rv64_isa.specs.Registers.{a0, a1, a2, a3}
use Rattle.rv64_isa.specs.declared.regs.Regs.{Regs}
use Rattle.std.proofs.lemmas.Nat.{le_or_l}
use Rattle.tables.specs.Rising.{added}
use Rattle.group_laws.proofs.CallerLaws.{held_grows}
use Rattle.group_laws.proofs.DescriptorCallLaws.{if_keeps, nothing_stored}
use Rattle.group_laws.proofs.Lists.{any_append_left, any_at, any_true, any_weaker, found_all, found_is, insert_all, insert_any, insert_new, on_first_any, true_any}
use Rattle.group_laws.proofs.MapLaws.{IsNewOf, IsPiece, IsPieceOf, cut_pieces, maps_sound}
use Rattle.group_laws.proofs.ObjectLaws.{object_sound}
use Rattle.group_laws.proofs.ReplyLaws.{Keeps, ReplyKeeps, changed_runs, maps_no_file, settled_files, settled_procs}
use Rattle.group_laws.proofs.SettledLaws.{equal, or_right, settled_valid}
use Rattle.group_laws.proofs.StoreLaws.{NoFile}
use Rattle.group_laws.proofs.UnmapLaws.{next_no_file, next_unused, own_mappings, pieces_inside, pieces_rights}

-- what the test of room tells
pub record Room (g : Group) (pages : ℕ) : Type 0 where
  pub most : pages ≤ 16384
  pub few : length (memory_objects g.frame) + 1 ≤ 4096
  pub room : sum_by (λ o. o.pages) (memory_objects g.frame) + pages ≤ 65536

pub room_is : (g : Group) (pages : ℕ) → has_room_for g.frame pages ≡ true → Room g pages
room_is g pages e =
    let first = and_parts (nat_le pages 16384) (has_room g.frame 1 pages) e in
    let second = and_parts (nat_le (length (memory_objects g.frame) + 1) 4096) (nat_le (sum_by (λ o. o.pages) (memory_objects g.frame) + pages) 65536) first.1 in
    record { most = leb-true pages 16384 first.0; few = leb-true (length (memory_objects g.frame) + 1) 4096 second.0; room = leb-true (sum_by (λ o. o.pages) (memory_objects g.frame) + pages) 65536 second.1 }

-- where nothing touches the range, no address of the mapping is taken
pub untouched : (maps : List Mapping) (m : Mapping) → 1 ≤ m.pages → list_any (touches m.start (end_of m)) maps ≡ false → is_taken maps m ≡ false
untouched maps m some none = by_test (cases_Bool (is_taken maps m))
  where
    by_test : (is_taken maps m ≡ true) ⊎ (is_taken maps m ≡ false) → is_taken maps m ≡ false
    by_test (inr miss) = miss
    by_test (inl hit) = let touching = true_any (touches m.start (end_of m)) maps (any_weaker (λ n. overlaps m n ≡ true) (λ n. touches m.start (end_of m) n ≡ true) maps (λ n e. rw (lt-ltb m.start (end_of m) (omega (arith, some))) e) (any_true (overlaps m) maps hit)) in absurd (cc)

-- after a cut no address of the range is taken
pub cut_untaken : (maps : List Mapping) (m : Mapping) → AreMappings maps → IsMapping m → length (cut maps m.start m.pages) ≤ 1024 → is_taken (cut maps m.start m.pages) m ≡ false
unfolding IsMapping
cut_untaken maps m are good few = by_test (cases_Bool (is_taken (cut maps m.start m.pages) m))
  where
    by_test : (is_taken (cut maps m.start m.pages) m ≡ true) ⊎ (is_taken (cut maps m.start m.pages) m ≡ false) → is_taken (cut maps m.start m.pages) m ≡ false
    by_test (inr miss) = miss
    by_test (inl hit) =
        let page = good.0 in let last = good.3 in
        let left = cut_mappings maps m.start m.pages are page last few in
        let at = address_from_taken (cut maps m.start m.pages) m left.each good hit in
        let on = and_parts (nat_le m.start at.0) (nat_lt at.0 (end_of m)) at.1 in
        let none : mapping_at (cut maps m.start m.pages) at.0 ≡ None = nothing_inside m.start (end_of m) page (omega (arith, page)) last at.0 (leb-true m.start at.0 on.0) (ltb-true at.0 (end_of m) on.1) maps are.each in
        absurd (false≢true (sym (ap is_some none) ∙ at.2))

page_end : (x : Mapping) → IsMapping x → end_of x % 4096 ≡ 0
unfolding IsMapping
page_end x good = let page = good.0 in omega (arith, page)

pages_some : (n : ℕ) → (n ≡ 0 → ⊥) → 1 ≤ pages_for n
pages_some n some = omega (arith, some)

rights_fit : (prot flags : ℕ) → is_good_for_map prot flags ≡ true → prot ≤ 7
rights_fit prot flags e =
    let first = and_parts_left (has_only prot 7) _ _ _ e in
    let same : bit_or prot 7 ≡ 7 = eqb-true (bit_or prot 7) 7 first in
    let le = le_or_l prot 7 in
    omega (arith, le, same)
  where
    and_parts_left : (a b c d : Bool) → (a && b && c && d) ≡ true → a ≡ true
    and_parts_left true b c d e = refl
    and_parts_left false b c d e = absurd (cc)

module _ (g : Group) (p : Proc) (found : find (is_runner p.pid) g.frame.procs ≡ Some p) (v : GroupIsValid g) (low : g.frame.next.object ≤ 2 ^ 63) where
  -- a mapping of a new object beside pieces of the caller's
  module _ (ms : List Mapping) (are : AreMappings ms) (pieces : All (IsPieceOf p.maps) ms) (start pages prot : ℕ) (shared : Bool) (good : IsMapping (new_mapping g start pages prot shared)) (right : prot ≤ 7)
      (free : is_taken ms (new_mapping g start pages prot shared) ≡ false) (space : length ms < 1024) (room : Room g pages) where
    abbrev m : Mapping
    m = new_mapping g start pages prot shared

    abbrev all : List Mapping
    all = added (λ n. n.start) ms m

    abbrev place : ℕ
    place = prefix_len (λ n. nat_lt n.start m.start) ms

    some : 1 ≤ pages
    unfolding IsMapping
    some = good.1

    pub mapped_sound : GroupIsSound (mapped g p ms m)
    unfolding IsInside
    mapped_sound =
        let h : Group = with_object g pages in
        let s = object_sound g pages v.sound some room.most (omega (arith, low)) (next_unused g p found v) (next_no_file g p found v) room.few room.room in
        let each : All (λ x. IsPieceOf p.maps x ⊎ IsNewOf g.frame.next.object shared x) all = insert_all (λ x. IsPieceOf p.maps x ⊎ IsNewOf g.frame.next.object shared x) ms place m (inr (refl, refl)) (All-weaker (IsPieceOf p.maps) (λ x. IsPieceOf p.maps x ⊎ IsNewOf g.frame.next.object shared x) (λ x piece. inl piece) ms pieces) in
        let inside : All (IsInside h.frame.objects) all = insert_all (IsInside h.frame.objects) ms place m (Any-push (λ o. (o.number ≡ m.object) × (m.first + m.pages ≤ o.pages)) g.frame.objects (record { number = g.frame.next.object; pages = pages }) (refl, omega arith))
        (All-weaker (IsInside g.frame.objects) (IsInside h.frame.objects) (λ x is. any_append_left (λ o. (o.number ≡ x.object) × (x.first + x.pages ≤ o.pages)) g.frame.objects (record { number = g.frame.next.object; pages = pages } ∷ []) is) ms (pieces_inside g p found v ms pieces)) in
        maps_sound h p found g.frame.next.object shared all each (next_unused g p found v) (added_mappings ms are m good free space) (insert_all (λ x. x.prot ≤ 7) ms place m right (pieces_rights g p found v ms pieces)) inside (next_no_file g p found v) s

    -- all of the caller's mappings stay: what was held stays held
    pub mapped_held : ((n : ℕ) → Any (λ x. x.object ≡ n) p.maps → Any (λ x. x.object ≡ n) ms) → AllHeld (mapped g p ms m).frame
    unfolding maps_object is_kept
    mapped_held stay =
        let after : List Proc = (mapped g p ms m).frame.procs in
        let base = held_grows g after at_on maps_on v.held in
        record {
          opens = base.opens;
          objects = All-push (λ o. IsTrue (is_kept g.frame.files after o.number)) g.frame.objects (record { number = g.frame.next.object; pages = pages }) base.objects (or_right (is_of_file g.frame.files g.frame.next.object) (list_any (maps_object g.frame.next.object) after) mapped_new);
          pipes = base.pipes;
          pairs = base.pairs;
        }
      where
        change : Proc → Proc
        change q = record q { maps = all }

        mapped_new : list_any (maps_object g.frame.next.object) (mapped g p ms m).frame.procs ≡ true
        mapped_new =
            let runs = changed_runs g p (λ q. record q { maps = all }) (λ q e. e) found in
            let here : maps_object g.frame.next.object (record p { maps = all }) ≡ true = true_any (λ x. x.object == g.frame.next.object) all (insert_new (λ x. (x.object == g.frame.next.object) ≡ true) ms place m (equal g.frame.next.object g.frame.next.object refl)) in
            true_any (maps_object g.frame.next.object) (mapped g p ms m).frame.procs (any_weaker (λ q. (q ≡ record p { maps = all }) × (is_runner p.pid q ≡ true)) (λ q. maps_object g.frame.next.object q ≡ true) (mapped g p ms m).frame.procs (λ q both. ap (maps_object g.frame.next.object) both.0 ∙ here) (found_is (is_runner p.pid) (mapped g p ms m).frame.procs (record p { maps = all }) runs))

        at_on : (n : ℕ) → list_any (is_at n) g.frame.procs ≡ true → list_any (is_at n) (mapped g p ms m).frame.procs ≡ true
        at_on n e = true_any (is_at n) (mapped g p ms m).frame.procs (on_first_any (is_runner p.pid) (λ q. record q { maps = all }) (λ q. is_at n q ≡ true) g.frame.procs (λ q e at. at) (any_true (is_at n) g.frame.procs e))

        maps_on : (n : ℕ) → list_any (maps_object n) g.frame.procs ≡ true → list_any (maps_object n) (mapped g p ms m).frame.procs ≡ true
        maps_on n e = true_any (maps_object n) (mapped g p ms m).frame.procs (on_first_any (is_runner p.pid) (λ q. record q { maps = all }) (λ q. maps_object n q ≡ true) g.frame.procs still (any_true (maps_object n) g.frame.procs e))
          where
            still : (q : Proc) → find (is_runner p.pid) g.frame.procs ≡ Some q → maps_object n q ≡ true → maps_object n (record q { maps = all }) ≡ true
            still q found' maps =
                let both : Some p ≡ Some q = sym found ∙ found' in
                let same : p ≡ q = cc in
                let mine : Any (λ x. (x.object == n) ≡ true) p.maps = any_true (λ x. x.object == n) p.maps (ap (maps_object n) same ∙ maps) in
                let kept : Any (λ x. x.object ≡ n) ms = stay n (any_weaker (λ x. (x.object == n) ≡ true) (λ x. x.object ≡ n) p.maps (λ x e. eqb-true x.object n e) mine) in
                true_any (λ x. x.object == n) all (insert_any (λ x. (x.object == n) ≡ true) ms place m (any_weaker (λ x. x.object ≡ n) (λ x. (x.object == n) ≡ true) ms (λ x e. equal x.object n e) kept))

    -- without a cut, where ms are the caller's own
    pub mapped_keeps : ((n : ℕ) → Any (λ x. x.object ≡ n) p.maps → Any (λ x. x.object ≡ n) ms) → Keeps p start (mapped g p ms m) []
    unfolding IsMapping
    mapped_keeps stay =
        let last = good.3 in
        record {
          value_fits = omega (arith, last);
          valid = record { sound = mapped_sound; held = mapped_held stay };
          caller = record p { maps = all };
          runs = changed_runs g p (λ q. record q { maps = all }) (λ q e. e) found;
          bytes = nothing_stored;
          no_file = maps_no_file g p found v;
        }

    -- with a cut before
    pub settled_mapped_keeps : Keeps p start (settled (mapped g p ms m)) []
    unfolding IsMapping
    settled_mapped_keeps =
        let last = good.3 in
        record {
          value_fits = omega (arith, last);
          valid = settled_valid (mapped g p ms m) mapped_sound;
          caller = record p { maps = all };
          runs = ap (find (is_runner p.pid)) (settled_procs (mapped g p ms m)) ∙ changed_runs g p (λ q. record q { maps = all }) (λ q e. e) found;
          bytes = nothing_stored;
          no_file = subst (λ files. NoFile files p.maps) (sym (settled_files (mapped g p ms m))) (maps_no_file g p found v);
        }

  pub own_pieces : All (IsPieceOf p.maps) p.maps
  own_pieces k d lt = any_at (λ x. IsPiece x (get_or p.maps k d)) p.maps k d lt (record { object = refl; shared = refl; prot = refl; last = omega arith })

  -- brk and mmap
  pub mapping_is : (start pages prot : ℕ) (shared : Bool) → start % 4096 ≡ 0 → 1 ≤ pages → 4096 ≤ start → start + 4096 * pages ≤ 2 ^ 38 → pages ≤ 16384 → IsMapping (new_mapping g start pages prot shared)
  unfolding IsMapping
  mapping_is start pages prot shared page some first last most = (page, some, first, last, omega (arith, most))

  fixed_keeps : (start pages prot flags : ℕ) → 1 ≤ pages → prot ≤ 7 → ReplyKeeps p (map_fixed g p start pages prot flags)
  fixed_keeps start pages prot flags some right =
      if_keeps p (not (start % 4096 == 0) || not (is_user_range start (start + 4096 * pages))) _ _ (λ e. (omega arith, omega arith)) (λ placed.
      if_keeps p (not (has_room_for g.frame pages)) _ _ (λ e. (omega arith, omega arith)) (λ room.
      if_keeps p (nat_le 1024 (length (cut p.maps start pages))) _ _ (λ e. (omega arith, omega arith)) (λ space.
      let both = neither (start % 4096 == 0) (is_user_range start (start + 4096 * pages)) placed in
      let page : start % 4096 ≡ 0 = eqb-true (start % 4096) 0 both.0 in
      let range = and_parts (nat_le 4096 start) (nat_le (start + 4096 * pages) (2 ^ 38)) both.1 in
      let last : start + 4096 * pages ≤ 2 ^ 38 = leb-true (start + 4096 * pages) (2 ^ 38) range.1 in
      let r = room_is g pages (not-false (has_room_for g.frame pages) room) in
      let few : length (cut p.maps start pages) < 1024 = leb-false 1024 (length (cut p.maps start pages)) space in
      let good = mapping_is start pages prot (has_bit flags 1) page some (leb-true 4096 start range.0) last r.most in
      settled_mapped_keeps (cut p.maps start pages) (cut_mappings p.maps start pages (own_mappings g p found v) page last (omega (arith, few))) (cut_pieces p.maps start pages) start pages prot (has_bit flags 1) good right
      (cut_untaken p.maps (new_mapping g start pages prot (has_bit flags 1)) (own_mappings g p found v) good (omega (arith, few))) few r)))
    where
      neither : (a b : Bool) → (not a || not b) ≡ false → (a ≡ true) × (b ≡ true)
      neither true true e = (refl, refl)
      neither true false e = absurd (cc)
      neither false b e = absurd (cc)

  -- a gap that is found
  gap_keeps : (pages prot flags : ℕ) → 1 ≤ pages → prot ≤ 7 → has_room_for g.frame pages ≡ true → (o : Option ℕ) → first_gap p.maps pages ≡ o → ReplyKeeps p (map_gap g p pages prot flags o)
  unfolding first_gap
  gap_keeps pages prot flags some right room None e = (omega arith, omega arith)
  gap_keeps pages prot flags some right room (Some start) e =
      if_keeps p (nat_le 1024 (length p.maps)) _ _ (λ e. (omega arith, omega arith)) (λ space.
      let own = own_mappings g p found v in
      let r = room_is g pages room in
      let is = gap_is (found_is (is_gap p.maps pages) (area_start ∷ map end_of p.maps) start e) in
      let first = and_parts (nat_le area_start start) (nat_le (start + 4096 * pages) area_end && not (list_any (touches start (start + 4096 * pages)) p.maps)) is in
      let second = and_parts (nat_le (start + 4096 * pages) area_end) (not (list_any (touches start (start + 4096 * pages)) p.maps)) first.1 in
      let from = leb-true area_start start first.0 in
      let last = leb-true (start + 4096 * pages) area_end second.0 in
      let page : start % 4096 ≡ 0 = found_all (is_gap p.maps pages) (λ a. a % 4096 ≡ 0) (area_start ∷ map end_of p.maps) start e (All-cons (λ a. a % 4096 ≡ 0) area_start (map end_of p.maps) refl (All-map (λ a. a % 4096 ≡ 0) end_of p.maps (All-weaker IsMapping (λ x. end_of x % 4096 ≡ 0) ends_at_page p.maps own.each))) in
      let good = mapping_is start pages prot (has_bit flags 1) page some (omega (arith, from)) (omega (arith, last)) r.most in
      mapped_keeps p.maps own own_pieces start pages prot (has_bit flags 1) good right (untouched p.maps (new_mapping g start pages prot (has_bit flags 1)) some (not-true (list_any (touches start (start + 4096 * pages)) p.maps) second.1)) (leb-false 1024 (length p.maps) space) r (λ n any. any))
    where
      ends_at_page : (x : Mapping) → IsMapping x → end_of x % 4096 ≡ 0
      ends_at_page x good = page_end x good

      gap_is : Any (λ a. (a ≡ start) × (is_gap p.maps pages a ≡ true)) (area_start ∷ map end_of p.maps) → is_gap p.maps pages start ≡ true
      gap_is (k, a, lt, at, both) = sym (ap (is_gap p.maps pages) both.0) ∙ both.1

  pub mmap_keeps : (r : Regs) → ReplyKeeps p (mmap g p r)
  mmap_keeps r =
      if_keeps p ((a1 r == 0) || not (is_good_for_map (low_word (a2 r)) (low_word (a3 r)))) _ _ (λ e. (omega arith, omega arith)) (λ good.
      let both = nor (a1 r == 0) (not (is_good_for_map (low_word (a2 r)) (low_word (a3 r)))) good in
      let right : low_word (a2 r) ≤ 7 = rights_fit (low_word (a2 r)) (low_word (a3 r)) (not-false (is_good_for_map (low_word (a2 r)) (low_word (a3 r))) both.1) in
      let some : 1 ≤ pages_for (a1 r) = pages_some (a1 r) (eqb-false (a1 r) 0 both.0) in
      if_keeps p (nat_lt 16384 (pages_for (a1 r))) _ _ (λ e. (omega arith, omega arith)) (λ few.
      if_keeps p (has_bit (low_word (a3 r)) 16) _ _ (λ e. fixed_keeps (a0 r) (pages_for (a1 r)) (low_word (a2 r)) (low_word (a3 r)) some right) (λ e.
      if_keeps p (not (has_room_for g.frame (pages_for (a1 r)))) _ _ (λ e. (omega arith, omega arith)) (λ room.
      gap_keeps (pages_for (a1 r)) (low_word (a2 r)) (low_word (a3 r)) some right (not-false (has_room_for g.frame (pages_for (a1 r))) room) (first_gap p.maps (pages_for (a1 r))) refl))))
    where
      nor : (a b : Bool) → (a || b) ≡ false → (a ≡ false) × (b ≡ false)
      nor false b e = (refl, e)
      nor true b e = absurd (cc)
