-- A group in which a process ends stays valid.
use Rattle.std.proofs.Common.{◌≡◌, ◌⊎◌, inl, inr, ℕ, ◌^◌, ◌<◌, ◌≤◌, Bool, true, false, ◌==◌, List, Some, None, refl, ap, sym, ◌∙◌, subst, ⊎_elim, arith}
use Rattle.std.specs.Prelude.{All, Any, find, if◌then◌else◌, IsTrue}
use Rattle.std.specs.List.{filter_map}
use Rattle.std.proofs.lemmas.Bool.{and_parts, cases_Bool, eqb-false, eqb-true, ne_eqb}
use Rattle.std.proofs.lemmas.List.Elements.{All-replicate, All-weaker}
use Rattle.std.proofs.lemmas.List.Sums.{length-filter}
use Rattle.address_maps.specs.Mappings.{AreApart}
use Rattle.group_defs.specs.Descriptions.{DescriptorsValid}
use Rattle.group_defs.specs.Family.{after_end, ended, ended_process}
use Rattle.group_defs.specs.Group.{Group, is_running, is_runner}
use Rattle.group_defs.specs.Mappings.{IsInside, IsUserMapping}
use Rattle.group_defs.specs.Numbers.{RegsFit}
use Rattle.group_defs.specs.Objects.{IsMappedAs, IsMemoryObject, IsPrivateObject, IsSharedObject, is_of_file, maps_object, mappers}
use Rattle.group_defs.specs.Order.{OwnListsRise}
use Rattle.group_defs.specs.Processes.{BreakValid, EndedValid, HasParent, IsCleared, IsWaitStatus, ProcValid, RunningValid, StateValid}
use Rattle.group_defs.specs.Sizes.{ProcFits}
use Rattle.group_defs.specs.Valid.{GroupIsSound, GroupIsValid, MapsSound, NamesSound, ProcsSound}
use Rattle.group_defs.specs.declared.frame.ObjectRec.{ObjectRec}
use Rattle.group_defs.specs.declared.frame.Proc.{Proc}
use Rattle.group_defs.specs.declared.frame.ProcState.{ProcState}
use Rattle.group_defs.specs.declared.frame.ProcState.TheVariants.{Running, Ended}
use Rattle.group_files.specs.declared.named_files.FileRec.{FileRec}
use Rattle.descriptors.specs.declared.opens.Open.{Open}
use Rattle.pipes_socks.specs.declared.streams.Pair.{Pair}
use Rattle.tables.specs.Rising.{Rise}
use Rattle.group_laws.proofs.Lists.{all_filter_map, any_filter_map, count_filter_map, found_all, found_is, length_filter_map, rise_filter_map}
use Rattle.group_laws.proofs.PartLaws.{procs_sound}
use Rattle.group_laws.proofs.SettledLaws.{settled_valid}

-- who is found runs
pub found_runs : (procs : List Proc) (p : Proc) → find (is_runner p.pid) procs ≡ Some p → is_running p ≡ true
found_runs procs p found = of_any (found_is (is_runner p.pid) procs p found)
  where
    of_any : Any (λ q. (q ≡ p) × (is_runner p.pid q ≡ true)) procs → is_running p ≡ true
    of_any (k, q, lt, is, both) = sym (ap is_running both.0) ∙ (and_parts (is_running q) (q.pid == p.pid) both.1).0

-- What is left of a process is what ended_process of the ended one, or the process with its parent or without.
abbrev Left : Proc → ℕ → Proc → Proc → Type 0
Left p status q y = ((is_runner p.pid q ≡ true) × ((p.parent == 0) ≡ false) × (y ≡ ended_process p status))
    ⊎ (((is_running q ≡ true) × (y ≡ record q { parent = 0 })) ⊎ (((q.parent == p.pid) ≡ false) × (y ≡ q)))

left_is : (p : Proc) (status : ℕ) (q y : Proc) → after_end p status q ≡ Some y → Left p status q y
left_is p status q y e = by_tests (is_runner p.pid q) (p.parent == 0) (q.parent == p.pid) (is_running q) refl refl refl refl e
  where
    by_tests : (a b c d : Bool) → is_runner p.pid q ≡ a → (p.parent == 0) ≡ b → (q.parent == p.pid) ≡ c → is_running q ≡ d → (if a then (if b then None else Some (ended_process p status)) else if c then (if d then Some (record q { parent = 0 }) else None) else Some q) ≡ Some y → Left p status q y
    by_tests true true c d a_is b_is c_is d_is e = absurd (cc)
    by_tests true false c d a_is b_is c_is d_is e = inl (a_is, b_is, cc)
    by_tests false b true true a_is b_is c_is d_is e = inr (inl (d_is, cc))
    by_tests false b true false a_is b_is c_is d_is e = absurd (cc)
    by_tests false b false d a_is b_is c_is d_is e = inr (inr (c_is, cc))

-- what holds of what ended_process, and doesn't ask for the parent, is kept
kept : (P : Proc → Type 0) (p : Proc) (status : ℕ) → P (ended_process p status) → ((q : Proc) → P q → P (record q { parent = 0 })) → (q y : Proc) → P q → after_end p status q ≡ Some y → P y
kept P p status rest orphan q y old e = by_case (left_is p status q y e)
  where
    by_case : Left p status q y → P y
    by_case (inl (mine, has, is)) = subst P (sym is) rest
    by_case (inr (inl (runs, is))) = subst P (sym is) (orphan q old)
    by_case (inr (inr (other, is))) = subst P (sym is) old

module _ (procs : List Proc) (p : Proc) (status : ℕ) where
  abbrev left : List Proc
  left = filter_map (after_end p status) procs

  all_kept : (P : Proc → Type 0) → P (ended_process p status) → ((q : Proc) → P q → P (record q { parent = 0 })) → All P procs → All P left
  all_kept P rest orphan all = all_filter_map (after_end p status) P P (kept P p status rest orphan) procs all

  same_pid : find (is_runner p.pid) procs ≡ Some p → (q y : Proc) → after_end p status q ≡ Some y → y.pid ≡ q.pid
  same_pid found q y e = by_case (left_is p status q y e)
    where
      by_case : Left p status q y → y.pid ≡ q.pid
      by_case (inl (mine, has, is)) = ap (λ x. x.pid) is ∙ sym (eqb-true q.pid p.pid (and_parts (is_running q) (q.pid == p.pid) mine).1)
      by_case (inr (inl (runs, is))) = ap (λ x. x.pid) is
      by_case (inr (inr (other, is))) = ap (λ x. x.pid) is

  -- who runs under another pid goes on running
  runs_on : (n : ℕ) → (n ≡ p.pid → ⊥) → (q : Proc) → IsTrue (is_running q) × (q.pid ≡ n) → (y : Proc) × (after_end p status q ≡ Some y) × (IsTrue (is_running y) × (y.pid ≡ n))
  runs_on n other q (runs, is) = by_child (cases_Bool (q.parent == p.pid))
    where
      not_mine : is_runner p.pid q ≡ false
      not_mine = rw (runs, ne_eqb q.pid p.pid (λ e. other (sym is ∙ e))) refl

      by_child : ((q.parent == p.pid) ≡ true) ⊎ ((q.parent == p.pid) ≡ false) → (y : Proc) × (after_end p status q ≡ Some y) × (IsTrue (is_running y) × (y.pid ≡ n))
      by_child (inl child) = (record q { parent = 0 }, rw (not_mine, child, runs) refl, (runs, is))
      by_child (inr no_child) = (q, rw (not_mine, no_child) refl, (runs, is))

  parent_stays : (q y : Proc) → (q.parent ≡ p.pid → ⊥) → y.parent ≡ q.parent → y.pid ≡ q.pid → HasParent procs q → HasParent left y
  unfolding HasParent
  parent_stays q y other same same_pid' has =
      any_filter_map (after_end p status) (λ x. IsTrue (is_running x) × (x.pid ≡ q.parent) × (x.pid < q.pid)) (λ x. IsTrue (is_running x) × (x.pid ≡ y.parent) × (x.pid < y.pid))
      (λ x is. let r = runs_on q.parent other x (is.0, is.1) in let less = is.2 in let x_is = is.1 in let new_is = r.2.1 in (r.0, r.1, (r.2.0, r.2.1 ∙ sym same, omega (arith, less, x_is, new_is, same_pid')))) procs has

  -- a parent's pid is smaller
  parent_is_other : (n : ℕ) (q : Proc) → HasParent procs q → q.pid ≤ n → q.parent ≡ n → ⊥
  unfolding HasParent
  parent_is_other n q (k, x, lt, is, both) le same = let x_is = both.1 in let less = both.2 in omega (arith, x_is, less, same, le)

  cleared : IsCleared (ended_process p status)
  unfolding IsCleared
  cleared = (refl, All-replicate (λ x. x ≡ 0) 31 0 refl, refl, refl, refl, refl)

  state_stays : IsWaitStatus status → ProcValid procs p → is_running p ≡ true → (q y : Proc) → ProcValid procs q → after_end p status q ≡ Some y → ProcValid left y
  unfolding ProcValid RunningValid EndedValid BreakValid
  state_stays wait valid runs q y old e = by_case (left_is p status q y e)
    where
      of_mine : (s : ProcState) → p.state ≡ s → StateValid procs p s → (p.parent == 0) ≡ false → ProcValid left (ended_process p status)
      of_mine Running is v has = by_parent v.2
        where
          by_parent : (p.parent ≡ 0) ⊎ HasParent procs p → ProcValid left (ended_process p status)
          by_parent (inl none) = absurd (grind (arith, none, has))
          by_parent (inr parent) = (parent_stays p (ended_process p status) (parent_is_other p.pid p parent (omega arith)) refl refl parent, wait, cleared)
      of_mine (Ended code) is v has = absurd (let run : is_running p ≡ false = ap (λ (x : ProcState). elim x [ Running ↦ true | Ended c ↦ false ]) is in cc)

      of_orphan : (s : ProcState) → q.state ≡ s → StateValid procs q s → is_running q ≡ true → StateValid left (record q { parent = 0 }) s
      of_orphan Running is v run = (v.0, v.1, inl refl)
      of_orphan (Ended code) is v run = absurd (let stopped : is_running q ≡ false = ap (λ (x : ProcState). elim x [ Running ↦ true | Ended c ↦ false ]) is in cc)

      of_other : (s : ProcState) → (q.parent ≡ p.pid → ⊥) → StateValid procs q s → StateValid left q s
      of_other Running other v = (v.0, v.1, ⊎_elim (λ none. inl none) (λ parent. inr (parent_stays q q other refl refl parent)) v.2)
      of_other (Ended code) other v = (parent_stays q q other refl refl v.0, v.1, v.2)

      by_case : Left p status q y → ProcValid left y
      by_case (inl (mine, has, is)) = subst (ProcValid left) (sym is) (of_mine p.state refl valid has)
      by_case (inr (inl (runs, is))) = subst (ProcValid left) (sym is) (of_orphan q.state refl old runs)
      by_case (inr (inr (other, is))) = subst (ProcValid left) (sym is) (of_other q.state (λ same. eqb-false q.parent p.pid other same) old)

  procs_left : (next : ℕ) → find (is_runner p.pid) procs ≡ Some p → IsWaitStatus status → ProcsSound next procs → ProcsSound next left
  unfolding ProcFits OwnListsRise RegsFit AreApart Rise
  procs_left next found wait s =
      let run : is_running p ≡ true = found_runs procs p found in
      let valid : ProcValid procs p = found_all (is_runner p.pid) (ProcValid procs) procs p found s.states in
      let fits : ProcFits p = found_all (is_runner p.pid) ProcFits procs p found s.fits in
      record {
        count = let less = length_filter_map (after_end p status) procs in let old = s.count in omega (arith, less, old);
        rise = rise_filter_map (after_end p status) (λ q. q.pid) (λ q. q.pid) (same_pid found) procs s.rise;
        below = all_kept (λ q. q.pid < next) (found_all (is_runner p.pid) (λ q. q.pid < next) procs p found s.below) (λ q less. less) s.below;
        fits = all_kept ProcFits (fits.0, omega arith, λ k d lt. absurd (omega (arith, lt))) (λ q f. f) s.fits;
        own = all_kept OwnListsRise (λ i j d lt lt'. absurd (omega (arith, lt')), λ i j d lt lt'. absurd (omega (arith, lt'))) (λ q rise. rise) s.own;
        regs = all_kept RegsFit (omega arith, refl, All-replicate (λ x. x < 2 ^ 64) 31 0 (omega arith)) (λ q fit. fit) s.regs;
        placed = all_kept (λ q. All IsUserMapping q.maps) (λ k d lt. absurd (omega (arith, lt))) (λ q placed. placed) s.placed;
        apart = all_kept (λ q. AreApart q.maps) (λ i j d lt lt'. absurd (omega (arith, lt'))) (λ q apart. apart) s.apart;
        states = all_filter_map (after_end p status) (ProcValid procs) (ProcValid left) (state_stays wait valid run) procs s.states;
      }

  mappers_left : (number : ℕ) → mappers left number ≤ mappers procs number
  unfolding mappers maps_object
  mappers_left number =
      let le = count_filter_map (after_end p status) (maps_object number) (maps_object number) (λ q y e. before q y (left_is p status q y e)) procs in
      omega (arith, le, length-filter (maps_object number) procs, length-filter (maps_object number) left)
    where
      before : (q y : Proc) → Left p status q y → maps_object number y ≡ true → maps_object number q ≡ true
      before q y (inl (mine, has, is)) maps = let none : maps_object number y ≡ false = ap (maps_object number) is in absurd (cc)
      before q y (inr (inl (runs, is))) maps = sym (ap (maps_object number) is) ∙ maps
      before q y (inr (inr (other, is))) maps = sym (ap (maps_object number) is) ∙ maps

  mapped_left : (shared : Bool) (number : ℕ) → All (IsMappedAs shared number) procs → All (IsMappedAs shared number) left
  unfolding IsMappedAs
  mapped_left shared number all = all_kept (IsMappedAs shared number) (λ k d lt. absurd (omega (arith, lt))) (λ q m. m) all

  object_left : (files : List FileRec) (o : ObjectRec) → (is_of_file files o.number ≡ true) ⊎ IsMemoryObject procs o → (is_of_file files o.number ≡ true) ⊎ IsMemoryObject left o
  unfolding IsMemoryObject IsSharedObject IsPrivateObject
  object_left files o (inl file) = inl file
  object_left files o (inr (pages, inl shared)) = inr (pages, inl (mapped_left true o.number shared))
  object_left files o (inr (pages, inr (private, one))) = inr (pages, inr (mapped_left false o.number private, let le = mappers_left o.number in omega (arith, le, one)))

  maps_left : (objects : List ObjectRec) (files : List FileRec) → MapsSound procs objects files → MapsSound left objects files
  maps_left objects files s = record {
    inside = all_kept (λ q. All (IsInside objects) q.maps) (λ k d lt. absurd (omega (arith, lt))) (λ q m. m) s.inside;
    agree = All-weaker (λ o. (is_of_file files o.number ≡ true) ⊎ IsMemoryObject procs o) (λ o. (is_of_file files o.number ≡ true) ⊎ IsMemoryObject left o) (object_left files) objects s.agree;
    unmapped = All-weaker (λ file. mappers procs file.object ≡ 0) (λ file. mappers left file.object ≡ 0) (λ file none. let le = mappers_left file.object in omega (arith, le, none)) files s.unmapped;
  }

  names_left : (pairs : List Pair) (opens : List Open) → NamesSound procs pairs opens → NamesSound left pairs opens
  unfolding DescriptorsValid
  names_left pairs opens s = record { fds = all_kept (DescriptorsValid opens) (λ k d lt. absurd (omega (arith, lt))) (λ q v. v) s.fds; carried = s.carried }

-- the whole
pub ended_valid : (g : Group) (p : Proc) (status : ℕ) → GroupIsSound g → find (is_runner p.pid) g.frame.procs ≡ Some p → IsWaitStatus status → GroupIsValid (ended g p status)
unfolding ended
ended_valid g p status s found wait =
    settled_valid _ (procs_sound g (filter_map (after_end p status) g.frame.procs) (procs_left g.frame.procs p status g.frame.next.pid found wait s.frame.procs)
    (maps_left g.frame.procs p status g.frame.objects g.frame.files s.frame.maps) (names_left g.frame.procs p status g.frame.pairs g.frame.opens s.frame.names) s)
