-- What a step of one process, and every call, leaves of the private part of another: all of it.
use Rattle.std.proofs.Common.{Bool, List, None, Option, Some, [], ap, arith, false, length, map, refl, subst, true, ℕ, ◌*◌, ◌+◌, ◌<◌, ◌==◌, ◌||◌, ◌∙◌, ◌∷◌, ◌≡◌, ◌≤◌}
use Rattle.std.proofs.lemmas.Bool.{eq-eqb, eqb-true}
use Rattle.std.proofs.lemmas.List.Elements.{All-cons, All-map, All-nil, All-weaker}
use Rattle.std.specs.List.{filter_map, list_any}
use Rattle.std.specs.Option.{option_map}
use Rattle.std.specs.Prelude.{All, Any, find}
use Rattle.address_maps.specs.Cut.{cut}
use Rattle.address_maps.specs.declared.maps.Mapping.{Mapping}
use Rattle.descriptors.specs.declared.opens.Open.{Open}
use Rattle.descriptors.specs.declared.opens.OpenKind.TheVariants as kinds
use Rattle.group_defs.specs.Calls.{Reply, answers, ends, fd_of, refuses, waits}
use Rattle.group_defs.specs.Cells.{bytes_in, sight}
use Rattle.group_defs.specs.Changes.{open_at, with_break, with_bytes_of, with_fds, with_maps, with_object, with_pairs, with_procs, zeros}
use Rattle.group_defs.specs.Family.{after_end, ended}
use Rattle.group_defs.specs.FileCalls.{write_place}
use Rattle.group_defs.specs.Fork.{Copy, copies_from, forked, maps_privately, to_copy}
use Rattle.group_defs.specs.Group.{Group, is_runner, regs_of, runner}
use Rattle.group_defs.specs.Held.{is_kept, settled}
use Rattle.group_defs.specs.MapCalls.{mapped, new_mapping}
use Rattle.group_defs.specs.Mappings.{IsInside}
use Rattle.group_defs.specs.Objects.{is_of_file, maps_object}
use Rattle.group_defs.specs.Step.{after_effect, after_reply, call_in, effect_in, group_step, reply_in, written}
use Rattle.group_defs.specs.Valid.{GroupIsValid, TargetIsThere}
use Rattle.group_defs.specs.declared.frame.Proc.{Proc}
use Rattle.group_files.specs.declared.named_files.FileRec.{FileRec}
use Rattle.group_laws.proofs.ForkLists.{IsCopyOf, copies_all}
use Rattle.group_laws.proofs.Lists.{any_all, any_true, any_weaker, found_all, found_is, true_any}
use Rattle.group_laws.proofs.OthersBytes.{open_has}
use Rattle.group_laws.proofs.OthersPrivate.{maps_none_of_file, some_map}
use Rattle.group_laws.proofs.OthersStay.{ended_other, others_stay, others_stay_by_calls, plain_runs, step_is}
use Rattle.group_laws.proofs.Replies.{Leaves, Opened, Plain, call_holds, clone_leaves, openat_leaves, served_or_refused, with_put, write_reply}
use Rattle.group_laws.proofs.ReplyLaws.{found_pid}
use Rattle.group_laws.proofs.UnmapLaws.{inside_known}
use Rattle.group_parts.proofs.Apart.{valid_apart}
use Rattle.group_parts.proofs.Memory.{Memory, all_mapped, kept_further, kept_in, kept_twice, kept_without, missed_writes}
use Rattle.group_parts.specs.Parts.{IsApart, PrivatePart, part_in, part_of, private_memory}
use Rattle.lists.specs.Bytes.{put}
use Rattle.rv64_isa.specs.Instruction.{Effect, calls, list_of, steps, traps}
use Rattle.rv64_isa.specs.Memory.{Write, stored}
use Rattle.rv64_isa.specs.Registers.{call_number}

-- whose part a process has
pub behind : (g : Group) (pid : ℕ) (s : PrivatePart) → part_of g pid ≡ Some s → (p : Proc) × (runner g pid ≡ Some p) × (part_in g p ≡ s)
unfolding part_of
behind g pid s is = by_found (runner g pid) refl is
  where
    by_found : (o : Option Proc) → runner g pid ≡ o → option_map (part_in g) o ≡ Some s → (p : Proc) × (runner g pid ≡ Some p) × (part_in g p ≡ s)
    by_found None found e = absurd (cc)
    by_found (Some p) found e = (p, found, (cc))

-- Another process than p, and the objects that it maps privately.
module _ (durable : Bool) (g : Group) (p : Proc) (other : ℕ) (x : Proc) (differ : (p.pid == other) ≡ false) (valid : GroupIsValid g) (found : find (is_runner p.pid) g.frame.procs ≡ Some p) (there : find (is_runner other) g.frame.procs ≡ Some x) where
  abbrev own : ℕ → Bool
  own n = maps_privately x.maps n

  abbrev Stays : Group → Type 0
  Stays h = kept_in own h.memory ≡ kept_in own g.memory

  -- p maps none of them
  unmapped : (n : ℕ) → list_any (λ m. m.object == n) p.maps ≡ true → own n ≡ false
  unfolding IsApart runner maps_object
  unmapped n maps = valid_apart g valid p.pid other p x differ found there n maps

  -- a new object is none of them
  new : (n : ℕ) → g.frame.next.object ≤ n → own n ≡ false
  new n le = by_test (own n) refl
    where
      of_mapping : Any (λ m. ((m.object == n) ≡ true) × ((m.object < g.frame.next.object) × (m.first + m.pages ≤ 16384))) x.maps → ⊥
      of_mapping (k, m, lt, at, both) = let same = eqb-true m.object n both.0 in let below = both.1.0 in absurd (omega (arith, same, below, le))

      by_test : (b : Bool) → own n ≡ b → b ≡ false
      by_test false e = refl
      by_test true e =
          absurd (of_mapping (any_all (λ m. (m.object == n) ≡ true) (λ m. (m.object < g.frame.next.object) × (m.first + m.pages ≤ 16384)) x.maps (any_true (λ m. m.object == n) x.maps (some_map x.maps n e))
          (inside_known g p found valid x (found_all (is_runner other) (λ q. All (IsInside g.frame.objects) q.maps) g.frame.procs x there valid.sound.frame.maps.inside))))

  -- nor is a file's
  no_file : (object : ℕ) → Any (λ f. f.object ≡ object) g.frame.files → own object ≡ false
  unfolding is_of_file
  no_file object there_is = by_test (own object) refl
    where
      its : x.pid ≡ other
      its = found_pid g.frame.procs other x there

      file : list_any (λ f. f.object == object) g.frame.files ≡ true
      file = true_any (λ f. f.object == object) g.frame.files (any_weaker (λ f. f.object ≡ object) (λ f. (f.object == object) ≡ true) g.frame.files (λ f is. eq-eqb f.object object is) there_is)

      by_test : (b : Bool) → own object ≡ b → b ≡ false
      by_test false e = refl
      by_test true e = absurd (maps_none_of_file g x object valid (ap (λ k. find (is_runner k) g.frame.procs) its ∙ there) (some_map x.maps object e) (record { number = object; pages = 0 }) refl file)

  -- what nobody holds any more goes, and the other process holds its own
  seen : (h : Group) (y : Proc) → find (is_runner other) h.frame.procs ≡ Some y → y.maps ≡ x.maps → Stays h → Stays (settled h)
  unfolding settled is_kept maps_object
  seen h y runs maps e = kept_twice own (λ k. is_kept h.frame.files h.frame.procs k) h.memory held ∙ e
    where
      or_later : (a b : Bool) → b ≡ true → (a || b) ≡ true
      or_later true b e = refl
      or_later false b e = e

      held : (n : ℕ) → own n ≡ true → (is_of_file h.frame.files n || list_any (maps_object n) h.frame.procs) ≡ true
      held n private =
          let shows : maps_object n y ≡ true = ap (λ (l : List Mapping). list_any (λ m. m.object == n) l) maps ∙ some_map x.maps n private in
          or_later (is_of_file h.frame.files n) (list_any (maps_object n) h.frame.procs) (true_any (maps_object n) h.frame.procs (any_weaker (λ q. (q ≡ y) × (is_runner other q ≡ true)) (λ q. maps_object n q ≡ true) h.frame.procs (λ q both. ap (maps_object n) both.0 ∙ shows) (found_is (is_runner other) h.frame.procs y runs)))

  settles : (h : Group) → find (is_runner other) h.frame.procs ≡ Some x → Stays h → Stays (settled h)
  settles h runs e = seen h x runs refl e

  new_object : (pages : ℕ) → Stays (with_object g pages)
  new_object pages = kept_further own g.memory ((g.frame.next.object, zeros (4096 * pages)) ∷ []) (All-cons (λ o. own o.0 ≡ false) (g.frame.next.object, zeros (4096 * pages)) [] (new g.frame.next.object (omega arith)) (All-nil (λ o. own o.0 ≡ false)))

  runs : Plain g p (λ h. find (is_runner other) h.frame.procs ≡ Some x)
  runs = plain_runs durable g p other x differ valid.sound.frame.procs.rise there

  plain_stays : Plain g p Stays
  unfolding settled
  plain_stays = record {
    same = refl;
    fds = λ list. refl;
    closed = λ list. settles (with_fds g p list) (runs.fds list) refl;
    offsets = λ number offset. refl;
    pipes = λ pipes. refl;
    pairs = λ pairs. refl;
    dropped = λ pairs. settles (with_pairs g pairs) there refl;
    received = λ pairs list. refl;
    new_pipe = λ list. refl;
    new_pair = λ list. refl;
    break = λ brk. refl;
    grown = λ start pages brk. new_object pages;
    shrunk = λ start pages brk. settles (with_break (with_maps g p (cut p.maps start pages)) p brk) (runs.shrunk start pages brk) refl;
    unmapped = λ start pages. settles (with_maps g p (cut p.maps start pages)) (runs.unmapped start pages) refl;
    one_more = λ start pages prot shared. new_object pages;
    instead = λ start pages prot shared. settles (mapped g p (cut p.maps start pages) (new_mapping g start pages prot shared)) (runs.instead start pages prot shared) (new_object pages);
    reaped = λ wanted q e. refl;
  }

  forked_stays : (copies : List Copy) → All (λ c. g.frame.next.object ≤ c.fresh) copies → Stays (forked g p copies)
  unfolding forked
  forked_stays copies from = kept_further own g.memory (map (λ c. (c.fresh, bytes_in g.memory c.old.number)) copies) (All-map (λ (o : ℕ × List ℕ). own o.0 ≡ false) (λ c. (c.fresh, bytes_in g.memory c.old.number)) copies (All-weaker (λ c. g.frame.next.object ≤ c.fresh) (λ c. own c.fresh ≡ false) (λ c le. new c.fresh le) copies from))

  copies_stay : Stays (forked g p (copies_from g.frame.next.object (to_copy g.frame p)))
  copies_stay = forked_stays (copies_from g.frame.next.object (to_copy g.frame p)) (All-weaker (IsCopyOf (λ o. Unit {0}) g.frame.next.object (length (to_copy g.frame p))) (λ c. g.frame.next.object ≤ c.fresh) (λ c is. is.from) (copies_from g.frame.next.object (to_copy g.frame p)) (copies_all (λ o. Unit {0}) g.frame.next.object (to_copy g.frame p) (λ k d lt. tt)))

  replaced : (object : ℕ) (bytes : List ℕ) → Any (λ f. f.object ≡ object) g.frame.files → Stays (with_bytes_of g object bytes)
  replaced object bytes is = kept_without own object (λ o. (o.0, bytes)) (λ o hit. refl) g.memory (no_file object is)

  opened_stays : Opened g p Stays
  opened_stays = record {
    old = λ f flags list is. refl;
    cleared = λ f flags list is. replaced f.object (zeros 1048576) (any_weaker (λ y. y ≡ f) (λ y. y.object ≡ f.object) g.frame.files (λ y same. ap (λ (z : FileRec). z.object) same) is);
    made = λ name flags list. new_object 256;
  }

  put_stays : (o : Open) → open_at p.fds g.frame.opens (fd_of (regs_of p)) ≡ Some o → (object : ℕ) → o.kind ≡ kinds.File object → (bytes : List ℕ) → Stays (with_put g o object (write_place g o object) bytes)
  put_stays o at object is bytes =
      let target = open_has (λ y. TargetIsThere g.frame.files g.frame.pipes g.frame.pairs y.kind) p.fds g.frame.opens (fd_of (regs_of p)) o valid.sound.frame.opens.targets at in
      replaced object (put (bytes_in g.memory object) (write_place g o object) bytes) (subst (TargetIsThere g.frame.files g.frame.pipes g.frame.pairs) is target)

  call_leaves : (number : ℕ) → Leaves Stays (call_in durable g p number)
  call_leaves =
      call_holds durable g p Stays plain_stays (λ k r. Leaves Stays r) (λ k r leaves. leaves) (openat_leaves g p Stays opened_stays (sight g p) (regs_of p))
      (write_reply (Leaves Stays) g (sight g p) tt (λ errno. tt) refl (λ bytes few. refl) (λ value pipes. refl) (λ value pairs. refl) p (regs_of p) (λ o at object is bytes within. put_stays o at object is bytes))
      (clone_leaves g p Stays (λ can. copies_stay) (regs_of p))

  end_stays : (status : ℕ) → Stays (ended g p status)
  unfolding ended
  end_stays status =
      let after = ended_other p status other differ g.frame.procs x there in
      seen (with_procs g (filter_map (after_end p status) g.frame.procs)) after.0 after.1 (ap (λ (q : Proc). q.maps) after.2.0) refl

  writes_stay : (h : Group) (writes : List Write) → Stays h → Stays (written h p writes)
  writes_stay h writes e = missed_writes own (λ n. list_any (λ m. m.object == n) p.maps) unmapped h.memory p.maps writes (all_mapped p.maps writes) ∙ e

  after_stays : (r : Reply Group) → Leaves Stays r → Stays (after_reply g p r)
  after_stays waits leaves = refl
  after_stays (refuses errno) leaves = refl
  after_stays (answers value h writes) leaves = writes_stay h writes leaves
  after_stays (ends status) leaves = end_stays status

  pub call_stays : (number : ℕ) → Stays (after_reply g p (call_in durable g p number))
  call_stays number = after_stays (call_in durable g p number) (call_leaves number)

  pub effect_stays : (e : Effect) → Stays (after_effect durable g p e)
  effect_stays (steps r stored) = writes_stay g (list_of stored) refl
  effect_stays calls = after_stays (reply_in durable g p number) (served_or_refused durable g p (Leaves Stays) number (call_leaves number) tt)
    where
      number : ℕ
      number = call_number (regs_of p)
  effect_stays (traps status) = end_stays status

-- A part is made of what these laws say stays.
abbrev pub parts : Proc → Memory → PrivatePart
parts p memory = record { regs = regs_of p; maps = p.maps; memory = memory }

same_part : (g h : Group) (other : ℕ) (x y : Proc) → runner h other ≡ Some y → y ≡ record x { parent = y.parent } → kept_in (maps_privately x.maps) h.memory ≡ kept_in (maps_privately x.maps) g.memory → part_of h other ≡ Some (part_in g x)
unfolding part_of
same_part g h other x y there same memory =
    ap (option_map (part_in h)) there ∙ ap (λ (s : PrivatePart). Some s) (ap (λ (q : Proc). parts q (private_memory h.memory q.maps)) same ∙ ap (parts x) memory)

pub calls_leave_parts : (durable : Bool) (g : Group) (pid other number : ℕ) (p : Proc) (s : PrivatePart) → GroupIsValid g → (pid == other) ≡ false → runner g pid ≡ Some p → part_of g other ≡ Some s → part_of (after_reply g p (call_in durable g p number)) other ≡ Some s
unfolding runner
calls_leave_parts durable g pid other number p s valid differ found is =
    let (x, there, same) = behind g other s is in
    let mine : p.pid ≡ pid = found_pid g.frame.procs pid p found in
    let kept = others_stay_by_calls durable g pid other number p x valid.sound.frame.procs.rise differ found there in
    same_part g (after_reply g p (call_in durable g p number)) other x kept.0 kept.1 kept.2 (call_stays durable g p other x (ap (λ k. k == other) mine ∙ differ) valid (ap (λ k. find (is_runner k) g.frame.procs) mine ∙ found) there number) ∙ ap (λ (t : PrivatePart). Some t) same

-- THE FRAME LAW, for a step
pub steps_leave_parts : (durable : Bool) (g : Group) (pid other : ℕ) (s : PrivatePart) → GroupIsValid g → (pid == other) ≡ false → part_of g other ≡ Some s → part_of (group_step durable g pid) other ≡ Some s
unfolding runner
steps_leave_parts durable g pid other s valid differ is = by_runner (find (is_runner pid) g.frame.procs) refl
  where
    by_runner : (o : Option Proc) → find (is_runner pid) g.frame.procs ≡ o → part_of (group_step durable g pid) other ≡ Some s
    by_runner None e = ap (λ (h : Group). part_of h other) ((step_is durable g pid).0 e) ∙ is
    by_runner (Some p) e =
        let (x, there, same) = behind g other s is in
        let mine : p.pid ≡ pid = found_pid g.frame.procs pid p e in
        let kept = others_stay durable g pid other x valid.sound.frame.procs.rise differ there in
        let memory = effect_stays durable g p other x (ap (λ k. k == other) mine ∙ differ) valid (ap (λ k. find (is_runner k) g.frame.procs) mine ∙ e) there (effect_in g p) in
        same_part g (group_step durable g pid) other x kept.0 kept.1 kept.2 (ap (λ (h : Group). kept_in (maps_privately x.maps) h.memory) ((step_is durable g pid).1 p e) ∙ memory) ∙ ap (λ (t : PrivatePart). Some t) same
