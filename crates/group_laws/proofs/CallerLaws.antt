-- A change of the caller alone: which rules it has to keep.
use Rattle.std.proofs.Common.{◌≡◌, ◌⊎◌, inl, inr, ℕ, ◌%◌, ◌^◌, ◌<◌, Bool, true, false, ◌&&◌, ◌||◌, ◌==◌, List, length, Some, refl, ap, sym, ◌∙◌, subst, ⊎_elim, arith}
use Rattle.std.specs.Prelude.{All, Any, find, IsTrue}
use Rattle.std.specs.List.{list_any}
use Rattle.std.proofs.lemmas.Bool.{cases_Bool, eqb-true}
use Rattle.std.proofs.lemmas.List.Elements.{All-weaker}
use Rattle.address_maps.specs.Mappings.{AreApart}
use Rattle.descriptors.specs.Descriptors.{AreDescriptors, AreSmall}
use Rattle.descriptors.specs.declared.opens.Open.{Open}
use Rattle.group_defs.specs.Changes.{on_caller, with_fds}
use Rattle.group_defs.specs.Descriptions.{DescriptorsValid, IsOpen}
use Rattle.group_defs.specs.Group.{Group, is_running, is_runner, with_regs}
use Rattle.group_defs.specs.Held.{is_at, is_end_held, is_held, is_kept, pair_carries}
use Rattle.group_defs.specs.Mappings.{IsInside, IsUserMapping}
use Rattle.group_defs.specs.Numbers.{RegsFit}
use Rattle.group_defs.specs.Objects.{IsMappedAs, IsMemoryObject, IsPrivateObject, IsSharedObject, is_of_file, maps_object, mappers}
use Rattle.group_defs.specs.Order.{OwnListsRise}
use Rattle.group_defs.specs.Processes.{BreakValid, EndedValid, HasParent, ProcValid, RunningValid, StateValid}
use Rattle.group_defs.specs.Sizes.{ProcFits}
use Rattle.group_defs.specs.Streams.{is_pair_end}
use Rattle.group_defs.specs.Valid.{AllHeld, GroupIsSound, GroupIsValid, MapsSound, NamesSound, PairHeld, ProcsSound}
use Rattle.group_defs.specs.declared.frame.ObjectRec.{ObjectRec}
use Rattle.group_defs.specs.declared.frame.Proc.{Proc}
use Rattle.group_defs.specs.declared.frame.ProcState.{ProcState}
use Rattle.group_defs.specs.declared.frame.ProcState.TheVariants.{Running, Ended}
use Rattle.group_files.specs.declared.named_files.FileRec.{FileRec}
use Rattle.pipes_socks.specs.declared.streams.Pair.{Pair}
use Rattle.rv64_isa.specs.declared.regs.Regs.{Regs}
use Rattle.tables.specs.Lists.{on_first}
use Rattle.group_laws.proofs.Lists.{any_true, any_weaker, found_all, on_first_all, on_first_any, on_first_count, on_first_length, on_first_list_any, on_first_rise, true_any}
use Rattle.group_laws.proofs.PartLaws.{procs_sound}
use Rattle.group_laws.proofs.EndingLaws.{found_runs}
use Rattle.group_laws.proofs.SettledLaws.{equal, or_right}

-- the rules on a running process by itself
pub record CallerFits (q : Proc) : Type 0 where
  pub fits : ProcFits q
  pub own : OwnListsRise q
  pub regs : RegsFit q
  pub placed : All IsUserMapping q.maps
  pub apart : AreApart q.maps
  pub pc : q.pc % 4 ≡ 0
  pub break : BreakValid q

running_state : (procs : List Proc) (q : Proc) → is_running q ≡ true → ProcValid procs q → (q.pc % 4 ≡ 0) × BreakValid q
unfolding ProcValid RunningValid
running_state procs q run valid = by_state q.state refl valid
  where
    by_state : (s : ProcState) → q.state ≡ s → StateValid procs q s → (q.pc % 4 ≡ 0) × BreakValid q
    by_state Running is v = (v.0, v.1)
    by_state (Ended code) is v = absurd (let stopped : is_running q ≡ false = ap (λ (x : ProcState). elim x [ Running ↦ true | Ended c ↦ false ]) is in cc)

-- what the caller has in a valid group
pub caller_fits : (next pid : ℕ) (procs : List Proc) (p : Proc) → p.pid ≡ pid → find (is_runner pid) procs ≡ Some p → ProcsSound next procs → CallerFits p
caller_fits next pid procs p same found s =
    let t : Proc → Bool = is_runner pid in
    let mine : find (is_runner p.pid) procs ≡ Some p = ap (λ n. find (is_runner n) procs) same ∙ found in
    let state = running_state procs p (found_runs procs p mine) (found_all t (ProcValid procs) procs p found s.states) in
    record {
      fits = found_all t ProcFits procs p found s.fits;
      own = found_all t OwnListsRise procs p found s.own;
      regs = found_all t RegsFit procs p found s.regs;
      placed = found_all t (λ q. All IsUserMapping q.maps) procs p found s.placed;
      apart = found_all t (λ q. AreApart q.maps) procs p found s.apart;
      pc = state.0;
      break = state.1;
    }

-- The change keeps who the caller is.
pub record KeepsName (f : Proc → Proc) : Type 0 where
  pub pid : (q : Proc) → (f q).pid ≡ q.pid
  pub parent : (q : Proc) → (f q).parent ≡ q.parent
  pub state : (q : Proc) → (f q).state ≡ q.state

module _ (pid : ℕ) (f : Proc → Proc) (names : KeepsName f) (procs : List Proc) where
  abbrev changed : List Proc
  changed = on_first (is_runner pid) f procs

  still_runs : (q : Proc) → is_running (f q) ≡ is_running q
  still_runs q = ap (λ (s : ProcState). elim s [ Running ↦ true | Ended c ↦ false ]) (names.state q)

  parent_kept : (q r : Proc) → r.parent ≡ q.parent → r.pid ≡ q.pid → HasParent procs q → HasParent changed r
  unfolding HasParent
  parent_kept q r parent_is pid_is has =
      on_first_any (is_runner pid) f (λ x. IsTrue (is_running x) × (x.pid ≡ r.parent) × (x.pid < r.pid)) procs
      (λ x found is. let less = is.2 in let same = names.pid x in (still_runs x ∙ is.0, names.pid x ∙ is.1, omega (arith, less, same)))
      (any_weaker (λ x. IsTrue (is_running x) × (x.pid ≡ q.parent) × (x.pid < q.pid)) (λ x. IsTrue (is_running x) × (x.pid ≡ r.parent) × (x.pid < r.pid)) procs (λ x is. let less = is.2 in (is.0, is.1 ∙ sym parent_is, omega (arith, less, pid_is))) has)

  states_weaker : (q : Proc) → ProcValid procs q → ProcValid changed q
  unfolding ProcValid RunningValid EndedValid
  states_weaker q valid = by_state q.state valid
    where
      by_state : (s : ProcState) → StateValid procs q s → StateValid changed q s
      by_state Running v = (v.0, v.1, ⊎_elim (λ none. inl none) (λ parent. inr (parent_kept q q refl refl parent)) v.2)
      by_state (Ended code) v = (parent_kept q q refl refl v.0, v.1, v.2)

  state_new : (q : Proc) → is_running q ≡ true → (f q).pc % 4 ≡ 0 → BreakValid (f q) → ProcValid procs q → ProcValid changed (f q)
  unfolding ProcValid RunningValid EndedValid
  state_new q run pc break valid = by_state q.state (f q).state refl (names.state q) valid
    where
      by_state : (s s' : ProcState) → q.state ≡ s → s' ≡ s → StateValid procs q s → StateValid changed (f q) s'
      by_state Running s' is same v = subst (StateValid changed (f q)) (sym same) (pc, break, ⊎_elim (λ none. inl (names.parent q ∙ none)) (λ parent. inr (parent_kept q (f q) (names.parent q) (names.pid q) parent)) v.2)
      by_state (Ended code) s' is same v = absurd (let stopped : is_running q ≡ false = ap (λ (x : ProcState). elim x [ Running ↦ true | Ended c ↦ false ]) is in cc)

  pub caller_procs : (next : ℕ) (p : Proc) → p.pid ≡ pid → find (is_runner pid) procs ≡ Some p → CallerFits (f p) → ProcsSound next procs → ProcsSound next changed
  caller_procs next p same found new s =
      let t : Proc → Bool = is_runner pid in
      let mine : find (is_runner p.pid) procs ≡ Some p = ap (λ n. find (is_runner n) procs) same ∙ found in
      let run : is_running p ≡ true = found_runs procs p mine in
      let valid : ProcValid procs p = found_all t (ProcValid procs) procs p found s.states in
      record {
        count = let old = s.count in omega (arith, old, on_first_length t f procs);
        rise = on_first_rise t f (λ q. q.pid) procs names.pid s.rise;
        below = on_first_all t f (λ q. q.pid < next) procs (λ q e less. let kept = names.pid q in omega (arith, less, kept)) s.below;
        fits = on_first_all t f ProcFits procs (λ q e old. subst (λ x. ProcFits (f x)) (the_found q e) new.fits) s.fits;
        own = on_first_all t f OwnListsRise procs (λ q e old. subst (λ x. OwnListsRise (f x)) (the_found q e) new.own) s.own;
        regs = on_first_all t f RegsFit procs (λ q e old. subst (λ x. RegsFit (f x)) (the_found q e) new.regs) s.regs;
        placed = on_first_all t f (λ q. All IsUserMapping q.maps) procs (λ q e old. subst (λ x. All IsUserMapping (f x).maps) (the_found q e) new.placed) s.placed;
        apart = on_first_all t f (λ q. AreApart q.maps) procs (λ q e old. subst (λ x. AreApart (f x).maps) (the_found q e) new.apart) s.apart;
        states = on_first_all t f (ProcValid changed) procs (λ q e old. subst (λ x. ProcValid changed (f x)) (the_found q e) (state_new p run new.pc new.break valid)) (All-weaker (ProcValid procs) (ProcValid changed) states_weaker procs s.states);
      }
    where
      the_found : (q : Proc) → find (is_runner pid) procs ≡ Some q → p ≡ q
      the_found q e = let both : Some p ≡ Some q = sym found ∙ e in cc

  -- the change keeps the mappings
  pub caller_maps : ((q : Proc) → (f q).maps ≡ q.maps) → (objects : List ObjectRec) (files : List FileRec) → MapsSound procs objects files → MapsSound changed objects files
  unfolding mappers IsMappedAs IsMemoryObject IsSharedObject IsPrivateObject maps_object
  caller_maps same objects files s = record {
    inside = on_first_all (is_runner pid) f (λ q. All (IsInside objects) q.maps) procs (λ q e old. subst (All (IsInside objects)) (sym (same q)) old) s.inside;
    agree = All-weaker (λ o. (is_of_file files o.number ≡ true) ⊎ IsMemoryObject procs o) (λ o. (is_of_file files o.number ≡ true) ⊎ IsMemoryObject changed o) object_kept objects s.agree;
    unmapped = All-weaker (λ file. mappers procs file.object ≡ 0) (λ file. mappers changed file.object ≡ 0) (λ file none. count_kept file.object ∙ none) files s.unmapped;
  }
    where
      count_kept : (number : ℕ) → mappers changed number ≡ mappers procs number
      count_kept number = on_first_count (is_runner pid) f (maps_object number) (λ q. ap (list_any (λ m. m.object == number)) (same q)) procs

      mapped_kept : (shared : Bool) (number : ℕ) → All (IsMappedAs shared number) procs → All (IsMappedAs shared number) changed
      mapped_kept shared number all = on_first_all (is_runner pid) f (IsMappedAs shared number) procs (λ q e old. subst (All (λ m. m.object ≡ number → m.shared ≡ shared)) (sym (same q)) old) all

      object_kept : (o : ObjectRec) → (is_of_file files o.number ≡ true) ⊎ IsMemoryObject procs o → (is_of_file files o.number ≡ true) ⊎ IsMemoryObject changed o
      object_kept o (inl file) = inl file
      object_kept o (inr (pages, inl shared)) = inr (pages, inl (mapped_kept true o.number shared))
      object_kept o (inr (pages, inr (private, one))) = inr (pages, inr (mapped_kept false o.number private, let kept = count_kept o.number in omega (arith, kept, one)))

  pub caller_names : (pairs : List Pair) (opens : List Open) → ((q : Proc) → find (is_runner pid) procs ≡ Some q → DescriptorsValid opens q → DescriptorsValid opens (f q)) → NamesSound procs pairs opens → NamesSound changed pairs opens
  caller_names pairs opens kept s = record { fds = on_first_all (is_runner pid) f (DescriptorsValid opens) procs kept s.fds; carried = s.carried }

-- What is held stays held where more is held.
module _ (before after : List Proc) (at : (n : ℕ) → list_any (is_at n) before ≡ true → list_any (is_at n) after ≡ true) where
  held_more : (pairs : List Pair) (n : ℕ) → is_held before pairs n ≡ true → is_held after pairs n ≡ true
  unfolding is_held
  held_more pairs n held = by_test (cases_Bool (list_any (is_at n) before)) held
    where
      by_test : (list_any (is_at n) before ≡ true) ⊎ (list_any (is_at n) before ≡ false) → (list_any (is_at n) before || list_any (pair_carries n) pairs) ≡ true → (list_any (is_at n) after || list_any (pair_carries n) pairs) ≡ true
      by_test (inl hit) e = rw (at n hit) refl
      by_test (inr miss) e = let carried : list_any (pair_carries n) pairs ≡ true = rw miss at e in or_right (list_any (is_at n) after) (list_any (pair_carries n) pairs) carried

  end_more : (opens : List Open) (number side : ℕ) → is_end_held before opens number side ≡ true → is_end_held after opens number side ≡ true
  unfolding is_end_held
  end_more opens number side held =
      true_any (λ o. is_pair_end number side o.kind && list_any (is_at o.number) after) opens
      (any_weaker (λ o. (is_pair_end number side o.kind && list_any (is_at o.number) before) ≡ true) (λ o. (is_pair_end number side o.kind && list_any (is_at o.number) after) ≡ true) opens (λ o e. both (is_pair_end number side o.kind) (list_any (is_at o.number) before) (list_any (is_at o.number) after) e (at o.number)) (any_true (λ o. is_pair_end number side o.kind && list_any (is_at o.number) before) opens held))
    where
      both : (a b c : Bool) → (a && b) ≡ true → (b ≡ true → c ≡ true) → (a && c) ≡ true
      both true b c e more = more e
      both false b c e more = e

  pub pair_more : (opens : List Open) (p : Pair) → PairHeld before opens p → PairHeld after opens p
  unfolding PairHeld
  pair_more opens p held = (some_end (is_end_held before opens p.number 0) (is_end_held before opens p.number 1) (is_end_held after opens p.number 0) (is_end_held after opens p.number 1) held.0 (end_more opens p.number 0) (end_more opens p.number 1), λ gone. held.1 (was_gone 0 gone), λ gone. held.2 (was_gone 1 gone))
    where
      some_end : (a b c d : Bool) → (a || b) ≡ true → (a ≡ true → c ≡ true) → (b ≡ true → d ≡ true) → (c || d) ≡ true
      some_end true b c d e first second = rw (first refl) refl
      some_end false b true d e first second = refl
      some_end false b false d e first second = second e

      was_gone : (side : ℕ) → is_end_held after opens p.number side ≡ false → is_end_held before opens p.number side ≡ false
      was_gone side gone = by_test (cases_Bool (is_end_held before opens p.number side))
        where
          by_test : (is_end_held before opens p.number side ≡ true) ⊎ (is_end_held before opens p.number side ≡ false) → is_end_held before opens p.number side ≡ false
          by_test (inl hit) = let now = end_more opens p.number side hit in absurd (cc)
          by_test (inr miss) = miss

-- a group whose processes are others, who hold what was held
pub held_grows : (g : Group) (after : List Proc) → ((n : ℕ) → list_any (is_at n) g.frame.procs ≡ true → list_any (is_at n) after ≡ true) → ((n : ℕ) → list_any (maps_object n) g.frame.procs ≡ true → list_any (maps_object n) after ≡ true) → AllHeld g.frame → AllHeld (record g.frame { procs = after })
unfolding is_kept
held_grows g after at maps h =
    let f = g.frame in
    record {
      opens = All-weaker (λ o. IsTrue (is_held f.procs f.pairs o.number)) (λ o. IsTrue (is_held after f.pairs o.number)) (λ o held. held_more f.procs after at f.pairs o.number held) f.opens h.opens;
      objects = All-weaker (λ o. IsTrue (is_kept f.files f.procs o.number)) (λ o. IsTrue (is_kept f.files after o.number)) (λ o kept. more (is_of_file f.files o.number) (list_any (maps_object o.number) f.procs) (list_any (maps_object o.number) after) kept (maps o.number)) f.objects h.objects;
      pipes = h.pipes;
      pairs = All-weaker (PairHeld f.procs f.opens) (PairHeld after f.opens) (λ p held. pair_more f.procs after at f.opens p held) f.pairs h.pairs;
    }
  where
    more : (a b c : Bool) → (a || b) ≡ true → (b ≡ true → c ≡ true) → (a || c) ≡ true
    more true b c e b_c = refl
    more false b c e b_c = b_c e

-- the caller goes on with other registers
pub record RegsAre (r : Regs) : Type 0 where
  pub pc : r.pc < 2 ^ 64
  pub aligned : r.pc % 4 ≡ 0
  pub count : length r.x ≡ 31
  pub values : All (λ x. x < 2 ^ 64) r.x

any_same : (t : Proc → Bool) (f : Proc → Proc) (q : Proc → Bool) → ((p : Proc) → q (f p) ≡ q p) → (procs : List Proc) → list_any q procs ≡ true → list_any q (on_first t f procs) ≡ true
any_same t f q same procs e = on_first_list_any t f q same procs ∙ e

pub continued_valid : (g : Group) (p : Proc) (r : Regs) → RegsAre r → find (is_runner p.pid) g.frame.procs ≡ Some p → GroupIsValid g → GroupIsValid (on_caller g p (with_regs r))
unfolding RegsFit ProcFits OwnListsRise BreakValid DescriptorsValid maps_object
continued_valid g p r fit found v =
    let s = v.sound in
    let names : KeepsName (with_regs r) = record { pid = λ q. refl; parent = λ q. refl; state = λ q. refl } in
    let old : CallerFits p = caller_fits g.frame.next.pid p.pid g.frame.procs p refl found s.frame.procs in
    let new : CallerFits (with_regs r p) = record { fits = old.fits; own = old.own; regs = (fit.pc, fit.count, fit.values); placed = old.placed; apart = old.apart; pc = fit.aligned; break = old.break } in
    record {
      sound =
          procs_sound g (on_first (is_runner p.pid) (with_regs r) g.frame.procs) (caller_procs p.pid (with_regs r) names g.frame.procs g.frame.next.pid p refl found new s.frame.procs)
          (caller_maps p.pid (with_regs r) names g.frame.procs (λ q. refl) g.frame.objects g.frame.files s.frame.maps) (caller_names p.pid (with_regs r) names g.frame.procs g.frame.pairs g.frame.opens (λ q e old. old) s.frame.names) s;
      held = held_grows g (on_first (is_runner p.pid) (with_regs r) g.frame.procs) (λ n at. any_same (is_runner p.pid) (with_regs r) (is_at n) (λ q. refl) g.frame.procs at) (λ n maps. any_same (is_runner p.pid) (with_regs r) (maps_object n) (λ q. refl) g.frame.procs maps) v.held;
    }

-- The caller has other descriptors.
module _ (g : Group) (p : Proc) (fds : List (ℕ × ℕ)) (found : find (is_runner p.pid) g.frame.procs ≡ Some p) where
  abbrev f : Proc → Proc
  f q = record q { fds = fds }

  -- each is below 64, they rise, and each is at a description
  pub fds_sound : AreDescriptors fds → All (λ d. IsOpen g.frame.opens d.1) fds → GroupIsSound g → GroupIsSound (with_fds g p fds)
  unfolding RegsFit ProcFits OwnListsRise BreakValid DescriptorsValid AreSmall
  fds_sound fit there s =
      let names : KeepsName f = record { pid = λ q. refl; parent = λ q. refl; state = λ q. refl } in
      let old : CallerFits p = caller_fits g.frame.next.pid p.pid g.frame.procs p refl found s.frame.procs in
      let new : CallerFits (f p) = record { fits = (old.fits.0, old.fits.1, fit.small); own = (old.own.0, fit.rise); regs = old.regs; placed = old.placed; apart = old.apart; pc = old.pc; break = old.break } in
      procs_sound g (on_first (is_runner p.pid) f g.frame.procs) (caller_procs p.pid f names g.frame.procs g.frame.next.pid p refl found new s.frame.procs)
      (caller_maps p.pid f names g.frame.procs (λ q. refl) g.frame.objects g.frame.files s.frame.maps) (caller_names p.pid f names g.frame.procs g.frame.pairs g.frame.opens (λ q e old. there) s.frame.names) s

  pub at_stays : ((n : ℕ) → Any (λ d. d.1 ≡ n) p.fds → Any (λ d. d.1 ≡ n) fds) → (n : ℕ) → list_any (is_at n) g.frame.procs ≡ true → list_any (is_at n) (on_first (is_runner p.pid) f g.frame.procs) ≡ true
  at_stays more n e = true_any (is_at n) (on_first (is_runner p.pid) f g.frame.procs) (on_first_any (is_runner p.pid) f (λ q. is_at n q ≡ true) g.frame.procs still (any_true (is_at n) g.frame.procs e))
    where
      still : (q : Proc) → find (is_runner p.pid) g.frame.procs ≡ Some q → is_at n q ≡ true → is_at n (f q) ≡ true
      still q found' held =
          let both : Some p ≡ Some q = sym found ∙ found' in
          let same : p ≡ q = cc in
          let mine : Any (λ d. (d.1 == n) ≡ true) p.fds = any_true (λ d. d.1 == n) p.fds (ap (is_at n) same ∙ held) in
          true_any (λ d. d.1 == n) fds (any_weaker (λ d. d.1 ≡ n) (λ d. (d.1 == n) ≡ true) fds (λ d e. equal d.1 n e) (more n (any_weaker (λ d. (d.1 == n) ≡ true) (λ d. d.1 ≡ n) p.fds (λ d e. eqb-true d.1 n e) mine)))

  -- what was held stays held where no descriptor is lost
  pub fds_held : ((n : ℕ) → Any (λ d. d.1 ≡ n) p.fds → Any (λ d. d.1 ≡ n) fds) → AllHeld g.frame → AllHeld (with_fds g p fds).frame
  unfolding maps_object
  fds_held more h = held_grows g (on_first (is_runner p.pid) f g.frame.procs) (at_stays more) (λ n maps. any_same (is_runner p.pid) f (maps_object n) (λ q. refl) g.frame.procs maps) h
