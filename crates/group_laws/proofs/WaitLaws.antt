-- wait4 keeps a group valid: what it removes has no mappings, no descriptors and no children.
use Rattle.std.proofs.Common.{◌≡◌, ◌⊎◌, inl, inr, ℕ, ◌^◌, ◌<◌, ◌≤◌, Bool, true, false, ◌&&◌, ◌==◌, not, List, [], get_or, Option, Some, None, refl, ap, sym, ◌∙◌, ⊎_elim, arith}
use Rattle.std.specs.Prelude.{All, Any, filter, find, IsTrue}
use Rattle.std.specs.List.{list_any}
use Rattle.std.proofs.lemmas.Bool.{and_parts, eqb-true, false≢true, ne_eqb, not-true}
use Rattle.std.proofs.lemmas.List.Elements.{All-filter, All-weaker}
use Rattle.address_maps.specs.Mappings.{AreApart}
use Rattle.group_defs.specs.Calls.{stores}
use Rattle.group_defs.specs.Descriptions.{DescriptorsValid}
use Rattle.group_defs.specs.Family.{is_child, is_good_for_wait, reaped, status_of, wait4, wait_for, without_proc}
use Rattle.group_defs.specs.Group.{Group, is_runner, is_running}
use Rattle.group_defs.specs.Held.{is_at}
use Rattle.group_defs.specs.Mappings.{IsInside, IsUserMapping}
use Rattle.group_defs.specs.Numbers.{RegsFit}
use Rattle.lists.specs.Bytes.{AreBytes}
use Rattle.group_defs.specs.Objects.{IsMappedAs, IsMemoryObject, IsPrivateObject, IsSharedObject, is_of_file, maps_object, mappers}
use Rattle.group_defs.specs.Order.{OwnListsRise}
use Rattle.group_defs.specs.Processes.{EndedValid, HasParent, IsCleared, ProcValid, RunningValid, StateValid}
use Rattle.group_defs.specs.Sizes.{ProcFits}
use Rattle.group_defs.specs.Valid.{GroupIsValid}
use Rattle.group_defs.specs.declared.frame.ObjectRec.{ObjectRec}
use Rattle.group_defs.specs.declared.frame.Proc.{Proc}
use Rattle.group_defs.specs.declared.frame.ProcState.{ProcState}
use Rattle.group_defs.specs.declared.frame.ProcState.TheVariants.{Running, Ended}
use Rattle.rv64_isa.specs.Memory.{Cells, Write, can_write}
use Rattle.rv64_isa.specs.Numbers.{bytes_of, low_word}
use Rattle.rv64_isa.specs.Registers.{a0, a1, a2, a3}
use Rattle.rv64_isa.specs.declared.regs.Regs.{Regs}
use Rattle.group_laws.proofs.CallerLaws.{held_grows}
use Rattle.group_laws.proofs.DescriptorCallLaws.{if_keeps, nothing_stored}
use Rattle.group_laws.proofs.Lists.{any_all, any_at, any_filter, any_true, any_weaker, count_filter, found_all, found_is, length_filter, true_any}
use Rattle.group_laws.proofs.PartLaws.{procs_sound}
use Rattle.group_laws.proofs.ReplyLaws.{Keeps, ReplyKeeps, maps_no_file, same_keeps}
use Rattle.group_laws.proofs.SettledLaws.{rise_filter, rise_unique}
use Rattle.group_laws.proofs.EndingLaws.{found_runs}
use Rattle.tables.proofs.Only.{find_filter_other}
use Rattle.group_laws.proofs.ByteLaws.{bytes_fit, one_store}

module _ (g : Group) (pid : ℕ) (v : GroupIsValid g) (gone : All (λ q. (q.pid ≡ pid) → (is_running q ≡ false)) g.frame.procs) where
  abbrev stays : Proc → Bool
  stays q = not (q.pid == pid)

  abbrev left : List Proc
  left = filter stays g.frame.procs

  -- who runs stays
  runner_stays : (q : Proc) → ((q.pid ≡ pid) → (is_running q ≡ false)) → is_running q ≡ true → stays q ≡ true
  runner_stays q ended runs = rw (ne_eqb q.pid pid (λ same. let stopped = ended same in false_is_not_true (sym stopped ∙ runs))) refl
    where
      false_is_not_true : false ≡ true → ⊥
      false_is_not_true e = cc

  parent_stays : (q : Proc) → HasParent g.frame.procs q → HasParent left q
  unfolding HasParent
  parent_stays q has =
      any_weaker (λ x. (IsTrue (is_running x) × (x.pid ≡ q.parent) × (x.pid < q.pid)) × ((x.pid ≡ pid) → (is_running x ≡ false))) (λ x. IsTrue (is_running x) × (x.pid ≡ q.parent) × (x.pid < q.pid)) left (λ x both. both.0)
      (any_filter (λ x. (IsTrue (is_running x) × (x.pid ≡ q.parent) × (x.pid < q.pid)) × ((x.pid ≡ pid) → (is_running x ≡ false))) stays (λ x both. runner_stays x both.1 both.0.0) g.frame.procs
      (any_all (λ x. IsTrue (is_running x) × (x.pid ≡ q.parent) × (x.pid < q.pid)) (λ x. (x.pid ≡ pid) → (is_running x ≡ false)) g.frame.procs has gone))

  state_stays : (q : Proc) → ProcValid g.frame.procs q → ProcValid left q
  unfolding ProcValid RunningValid EndedValid
  state_stays q valid = by_state q.state valid
    where
      by_state : (s : ProcState) → StateValid g.frame.procs q s → StateValid left q s
      by_state Running w = (w.0, w.1, ⊎_elim (λ none. inl none) (λ parent. inr (parent_stays q parent)) w.2)
      by_state (Ended code) w = (parent_stays q w.0, w.1, w.2)

  -- who is ended holds nothing
  holds_nothing : (q : Proc) → is_running q ≡ false → ProcValid g.frame.procs q → (q.maps ≡ []) × (q.fds ≡ [])
  unfolding ProcValid RunningValid EndedValid IsCleared
  holds_nothing q stopped valid = by_state q.state refl valid
    where
      by_state : (s : ProcState) → q.state ≡ s → StateValid g.frame.procs q s → (q.maps ≡ []) × (q.fds ≡ [])
      by_state Running is w = absurd (let runs : is_running q ≡ true = ap (λ (x : ProcState). elim x [ Running ↦ true | Ended c ↦ false ]) is in cc)
      by_state (Ended code) is w = (w.2.4, w.2.5)

  -- so what is held stays held
  still : (q : Proc → Bool) → ((x : Proc) → x.maps ≡ [] → x.fds ≡ [] → q x ≡ false) → list_any q g.frame.procs ≡ true → list_any q left ≡ true
  still q none e =
      true_any q left (any_weaker (λ x. (q x ≡ true) × (((x.pid ≡ pid) → (is_running x ≡ false)) × ProcValid g.frame.procs x)) (λ x. q x ≡ true) left (λ x both. both.0)
      (any_filter (λ x. (q x ≡ true) × (((x.pid ≡ pid) → (is_running x ≡ false)) × ProcValid g.frame.procs x)) stays keeps g.frame.procs
      (any_all (λ x. q x ≡ true) (λ x. ((x.pid ≡ pid) → (is_running x ≡ false)) × ProcValid g.frame.procs x) g.frame.procs (any_true q g.frame.procs e) (λ k d lt. (gone k d lt, v.sound.frame.procs.states k d lt)))))
    where
      keeps : (x : Proc) → (q x ≡ true) × (((x.pid ≡ pid) → (is_running x ≡ false)) × ProcValid g.frame.procs x) → stays x ≡ true
      keeps x both = rw (ne_eqb x.pid pid (λ same. let h = holds_nothing x (both.1.0 same) both.1.1 in let no = none x h.0 h.1 in let yes' = both.0 in false_is (sym no ∙ yes'))) refl
        where
          false_is : false ≡ true → ⊥
          false_is e = cc

  fewer : (number : ℕ) → mappers left number ≤ mappers g.frame.procs number
  unfolding mappers
  fewer number = count_filter (maps_object number) stays g.frame.procs

  object_stays : (o : ObjectRec) → (is_of_file g.frame.files o.number ≡ true) ⊎ IsMemoryObject g.frame.procs o → (is_of_file g.frame.files o.number ≡ true) ⊎ IsMemoryObject left o
  unfolding IsMemoryObject IsSharedObject IsPrivateObject
  object_stays o (inl file) = inl file
  object_stays o (inr (pages, inl all)) = inr (pages, inl (All-filter stays (IsMappedAs true o.number) g.frame.procs all))
  object_stays o (inr (pages, inr (all, one))) = inr (pages, inr (All-filter stays (IsMappedAs false o.number) g.frame.procs all, let le = fewer o.number in omega (arith, le, one)))

  pub removed_valid : GroupIsValid (without_proc g pid)
  unfolding maps_object
  removed_valid =
      let s = v.sound in
      let procs = g.frame.procs in
      record {
        sound =
            procs_sound g left (record {
              count = let less = length_filter stays procs in let old = s.frame.procs.count in omega (arith, less, old);
              rise = rise_filter (λ q. q.pid) stays procs s.frame.procs.rise;
              below = All-filter stays (λ q. q.pid < g.frame.next.pid) procs s.frame.procs.below;
              fits = All-filter stays ProcFits procs s.frame.procs.fits;
              own = All-filter stays OwnListsRise procs s.frame.procs.own;
              regs = All-filter stays RegsFit procs s.frame.procs.regs;
              placed = All-filter stays (λ q. All IsUserMapping q.maps) procs s.frame.procs.placed;
              apart = All-filter stays (λ q. AreApart q.maps) procs s.frame.procs.apart;
              states = All-filter stays (ProcValid left) procs (All-weaker (ProcValid procs) (ProcValid left) state_stays procs s.frame.procs.states);
            }) (record {
              inside = All-filter stays (λ q. All (IsInside g.frame.objects) q.maps) procs s.frame.maps.inside;
              agree = All-weaker (λ o. (is_of_file g.frame.files o.number ≡ true) ⊎ IsMemoryObject procs o) (λ o. (is_of_file g.frame.files o.number ≡ true) ⊎ IsMemoryObject left o) object_stays g.frame.objects s.frame.maps.agree;
              unmapped = λ k d lt. let none = s.frame.maps.unmapped k d lt in let le = fewer (get_or g.frame.files k d).object in omega (arith, none, le);
            }) (record { fds = All-filter stays (DescriptorsValid g.frame.opens) procs s.frame.names.fds; carried = s.frame.names.carried }) s;
        held = held_grows g left (λ n. still (is_at n) (λ x maps fds. ap (λ (l : List (ℕ × ℕ)). list_any (λ d. d.1 == n) l) fds)) (λ n. still (maps_object n) (λ x maps fds. ap (list_any (λ m. m.object == n)) maps)) v.held;
      }

module _ (g : Group) (p : Proc) (found : find (is_runner p.pid) g.frame.procs ≡ Some p) (v : GroupIsValid g) where
  abbrev t : ℕ → Proc → Bool
  t wanted q = is_child p.pid wanted q && not (is_running q)

  -- the one that is found isn't running, and no other process has its pid
  module _ (wanted : ℕ) (q : Proc) (child : find (t wanted) g.frame.procs ≡ Some q) where
    stopped : is_running q ≡ false
    stopped = of_any (found_is (t wanted) g.frame.procs q child)
      where
        of_any : Any (λ x. (x ≡ q) × (t wanted x ≡ true)) g.frame.procs → is_running q ≡ false
        of_any (k, x, lt, is, both) = sym (ap is_running both.0) ∙ not-true (is_running x) (and_parts (is_child p.pid wanted x) (not (is_running x)) both.1).1

    there : (x : Proc) (u : Proc → Bool) → find u g.frame.procs ≡ Some x → Any (λ y. y ≡ x) g.frame.procs
    there x u e = any_weaker (λ y. (y ≡ x) × (u y ≡ true)) (λ y. y ≡ x) g.frame.procs (λ y both. both.0) (found_is u g.frame.procs x e)

    one : All (λ x. (x.pid ≡ q.pid) → (is_running x ≡ false)) g.frame.procs
    one k d lt same =
        let x : Proc = get_or g.frame.procs k d in
        let is : x ≡ q = rise_unique (λ y. y.pid) g.frame.procs x q v.sound.frame.procs.rise (any_at (λ y. y ≡ x) g.frame.procs k d lt refl) (there q (t wanted) child) same in
        ap is_running is ∙ stopped

    other : p.pid ≡ q.pid → ⊥
    other same =
        let is : p ≡ q = rise_unique (λ y. y.pid) g.frame.procs p q v.sound.frame.procs.rise (there p (is_runner p.pid) found) (there q (t wanted) child) same in
        let runs : is_running p ≡ true = found_runs g.frame.procs p found in
        false≢true (sym stopped ∙ sym (ap is_running is) ∙ runs)

    goes_on : find (is_runner p.pid) (without_proc g q.pid).frame.procs ≡ Some p
    goes_on = find_filter_other (is_runner p.pid) (λ x. not (x.pid == q.pid)) (λ x runs. rw (ne_eqb x.pid q.pid (λ same. other (sym (eqb-true x.pid p.pid (and_parts (is_running x) (x.pid == p.pid) runs).1) ∙ same))) refl) g.frame.procs ∙ found

    pid_fits : q.pid < 2 ^ 64
    pid_fits = let below = found_all (t wanted) (λ x. x.pid < g.frame.next.pid) g.frame.procs q child v.sound.frame.procs.below in let most = v.sound.frame.next.2 in omega (arith, below, most)

    removed_keeps : (writes : List Write) → All (λ w. AreBytes w.bytes) writes → Keeps p q.pid (without_proc g q.pid) writes
    removed_keeps writes bytes = record { value_fits = pid_fits; valid = removed_valid g q.pid v one; caller = p; runs = goes_on; bytes = bytes; no_file = maps_no_file g p found v }

    reaped_keeps : (cells : Cells) (to : ℕ) → ReplyKeeps p (reaped g cells to q)
    reaped_keeps cells to =
        if_keeps p (to == 0) _ _ (λ e. removed_keeps [] nothing_stored) (λ e.
        if_keeps p (not (can_write cells to 4)) _ _ (λ e. (omega arith, omega arith)) (λ e. removed_keeps (stores to (bytes_of 4 (status_of q))) (one_store to (bytes_of 4 (status_of q)) (bytes_fit 4 (status_of q)))))

  pub wait4_keeps : (cells : Cells) (r : Regs) → ReplyKeeps p (wait4 g p cells r)
  wait4_keeps cells r =
      if_keeps p (not (is_good_for_wait (low_word (a0 r)) (low_word (a2 r)) (a3 r))) _ _ (λ e. (omega arith, omega arith)) (λ e.
      if_keeps p (not (list_any (is_child p.pid (low_word (a0 r))) g.frame.procs)) _ _ (λ e. (omega arith, omega arith)) (λ e.
      by_child (find (t (low_word (a0 r))) g.frame.procs) refl))
    where
      by_child : (o : Option Proc) → find (t (low_word (a0 r))) g.frame.procs ≡ o → ReplyKeeps p (wait_for g cells (a1 r) (low_word (a2 r)) o)
      by_child None e = if_keeps p (low_word (a2 r) == 1) _ _ (λ e. same_keeps g p 0 [] found v (omega arith) nothing_stored) (λ e. tt)
      by_child (Some q) e = reaped_keeps (low_word (a0 r)) q e cells (a1 r)
