-- What a step of one process leaves of the bytes that it doesn't map and another process does.
use Rattle.std.proofs.Common.{Bool, List, Some, [], ap, arith, false, length, map, refl, subst, sym, true, ℕ, ◌*◌, ◌+◌, ◌<◌, ◌==◌, ◌||◌, ◌∙◌, ◌∷◌, ◌≡◌, ◌≤◌}
use Rattle.std.proofs.lemmas.Bool.{eqb-true}
use Rattle.std.proofs.lemmas.List.Elements.{All-cons, All-map, All-nil, All-weaker}
use Rattle.std.specs.List.{filter_map, list_any}
use Rattle.std.specs.Prelude.{All, Any, find}
use Rattle.address_maps.specs.Cut.{cut}
use Rattle.address_maps.specs.declared.maps.Mapping.{Mapping}
use Rattle.descriptors.specs.declared.opens.Open.{Open}
use Rattle.group_defs.specs.Calls.{Reply, answers, ends, fd_of, refuses, waits}
use Rattle.group_defs.specs.Cells.{bytes_in, sight}
use Rattle.group_defs.specs.Changes.{open_at, with_break, with_fds, with_maps, with_object, with_pairs, with_procs, zeros}
use Rattle.group_defs.specs.Family.{after_end, ended}
use Rattle.group_defs.specs.FileCalls.{write_place}
use Rattle.group_defs.specs.Fork.{Copy, copies_from, forked, to_copy}
use Rattle.group_defs.specs.Group.{Group, is_runner, regs_of, runner}
use Rattle.group_defs.specs.Held.{is_kept, settled}
use Rattle.group_defs.specs.MapCalls.{mapped, new_mapping}
use Rattle.group_defs.specs.Mappings.{IsInside}
use Rattle.group_defs.specs.Objects.{is_of_file, maps_object}
use Rattle.group_defs.specs.Step.{after_effect, after_reply, call_in, effect_in, group_step, reply_in}
use Rattle.group_defs.specs.Valid.{GroupIsValid, TargetIsThere}
use Rattle.group_defs.specs.declared.frame.Proc.{Proc}
use Rattle.group_files.specs.declared.named_files.FileRec.{FileRec}
use Rattle.group_laws.proofs.ForkLists.{IsCopyOf, copies_all}
use Rattle.group_laws.proofs.Inside.{found_has}
use Rattle.group_laws.proofs.Lists.{any_all, any_true, any_weaker, found_all, found_is, true_any}
use Rattle.group_laws.proofs.ObjectBytes.{further_objects, kept_bytes, replaced_other, unwritten}
use Rattle.group_laws.proofs.OffsetLaws.{open_found}
use Rattle.group_laws.proofs.OthersStay.{ended_other, plain_runs, step_is}
use Rattle.group_laws.proofs.Replies.{Leaves, Opened, Plain, call_holds, clone_leaves, openat_leaves, served_or_refused, with_put, write_reply}
use Rattle.group_laws.proofs.ReplyLaws.{found_pid, maps_no_file}
use Rattle.group_laws.proofs.StoreLaws.{NoFile}
use Rattle.lists.specs.Bytes.{put}
use Rattle.rv64_isa.specs.Instruction.{Effect, calls, list_of, steps, traps}
use Rattle.rv64_isa.specs.Memory.{stored}
use Rattle.rv64_isa.specs.Registers.{call_number}
use Rattle.tables.specs.Rising.{Rise}
use Rattle.descriptors.specs.declared.opens.OpenKind.TheVariants as kinds

-- the description that a descriptor is at has what all have
pub open_has : (P : Open → Type 0) (fds : List (ℕ × ℕ)) (opens : List Open) (fd : ℕ) (o : Open) → All P opens → open_at fds opens fd ≡ Some o → P o
open_has P fds opens fd o all e = (found_has P (λ x. x.number == o.number) opens o all (open_found fds opens fd o e)).0

-- Another process, and an object that it maps and the stepping one doesn't.
module _ (durable : Bool) (g : Group) (p : Proc) (other : ℕ) (x : Proc) (n : ℕ) (differ : (p.pid == other) ≡ false) (valid : GroupIsValid g) (found : find (is_runner p.pid) g.frame.procs ≡ Some p) (there : find (is_runner other) g.frame.procs ≡ Some x)
    (mapped_there : maps_object n x ≡ true) (unmapped_here : list_any (λ m. m.object == n) p.maps ≡ false) where
  rise : Rise (λ q. q.pid) g.frame.procs
  rise = valid.sound.frame.procs.rise

  below : n < g.frame.next.object
  unfolding maps_object IsInside
  below = of_mapping (any_all (λ m. (m.object == n) ≡ true) (IsInside g.frame.objects) x.maps (any_true (λ m. m.object == n) x.maps mapped_there) (found_all (is_runner other) (λ q. All (IsInside g.frame.objects) q.maps) g.frame.procs x there valid.sound.frame.maps.inside))
    where
      of_object : (m : Mapping) → m.object ≡ n → Any (λ o. ((o.number ≡ m.object) × (m.first + m.pages ≤ o.pages)) × (o.number < g.frame.next.object)) g.frame.objects → n < g.frame.next.object
      of_object m same (k, o, lt, at, both) = let its = both.0.0 in let less = both.1 in omega (arith, same, its, less)

      of_mapping : Any (λ m. ((m.object == n) ≡ true) × IsInside g.frame.objects m) x.maps → n < g.frame.next.object
      of_mapping (k, m, lt, at, both) = of_object m (eqb-true m.object n both.0) (any_all (λ o. (o.number ≡ m.object) × (m.first + m.pages ≤ o.pages)) (λ o. o.number < g.frame.next.object) g.frame.objects both.1 valid.sound.frame.objects.below)

  no_file : (object : ℕ) → Any (λ f. f.object ≡ object) g.frame.files → (object == n) ≡ false
  unfolding maps_object
  no_file object there_is = by_test (object == n) refl
    where
      its : x.pid ≡ other
      its = found_pid g.frame.procs other x there

      none : NoFile g.frame.files x.maps
      none = maps_no_file g x (ap (λ k. find (is_runner k) g.frame.procs) its ∙ there) valid

      by_parts : object ≡ n → Any (λ m. (m.object == n) ≡ true) x.maps → Any (λ f. f.object ≡ object) g.frame.files → ⊥
      by_parts same (k, m, lt, at, hit) (j, f, lt', at', is) = none k m lt j f lt' (ap (λ (y : Mapping). y.object) at ∙ eqb-true m.object n hit ∙ sym same ∙ sym is ∙ sym (ap (λ (y : FileRec). y.object) at'))

      by_test : (b : Bool) → (object == n) ≡ b → b ≡ false
      by_test false e = refl
      by_test true e = absurd (by_parts (eqb-true object n e) (any_true (λ m. m.object == n) x.maps mapped_there) there_is)

  -- the bytes are as they were, and the other process runs
  abbrev Bytes : Group → Type 0
  Bytes h = bytes_in h.memory n ≡ bytes_in g.memory n

  seen : (h : Group) (y : Proc) → find (is_runner other) h.frame.procs ≡ Some y → maps_object n y ≡ true → Bytes h → Bytes (settled h)
  unfolding settled is_kept
  seen h y runs maps e = kept_bytes (λ k. is_kept h.frame.files h.frame.procs k) n h.memory (or_later (is_of_file h.frame.files n) (list_any (maps_object n) h.frame.procs) (true_any (maps_object n) h.frame.procs (any_weaker (λ q. (q ≡ y) × (is_runner other q ≡ true)) (λ q. maps_object n q ≡ true) h.frame.procs (λ q both. ap (maps_object n) both.0 ∙ maps) (found_is (is_runner other) h.frame.procs y runs)))) ∙ e
    where
      or_later : (a b : Bool) → b ≡ true → (a || b) ≡ true
      or_later true b e = refl
      or_later false b e = e

  settles : (h : Group) → find (is_runner other) h.frame.procs ≡ Some x → Bytes h → Bytes (settled h)
  settles h runs e = seen h x runs mapped_there e

  -- numbers from the next one on are of others
  above : (k : ℕ) → g.frame.next.object ≤ k → (k == n) ≡ false
  above k le = by_test (k == n) refl
    where
      by_test : (b : Bool) → (k == n) ≡ b → b ≡ false
      by_test false e = refl
      by_test true e = let same = eqb-true k n e in absurd (omega (arith, same, le, below))

  new_object : (pages : ℕ) → Bytes (with_object g pages)
  new_object pages = further_objects g.memory ((g.frame.next.object, zeros (4096 * pages)) ∷ []) n (All-cons (λ o. (o.0 == n) ≡ false) (g.frame.next.object, zeros (4096 * pages)) [] (above g.frame.next.object (omega arith)) (All-nil (λ o. (o.0 == n) ≡ false)))

  runs : Plain g p (λ h. find (is_runner other) h.frame.procs ≡ Some x)
  runs = plain_runs durable g p other x differ rise there

  plain_bytes : Plain g p Bytes
  unfolding settled
  plain_bytes = record {
    same = refl;
    fds = λ list. refl;
    closed = λ list. settles (with_fds g p list) (runs.fds list) refl;
    offsets = λ number offset. refl;
    pipes = λ pipes. refl;
    pairs = λ pairs. refl;
    dropped = λ pairs. settles (with_pairs g pairs) there refl;
    received = λ pairs list. refl;
    new_pipe = λ list. refl;
    new_pair = λ list. refl;
    break = λ brk. refl;
    grown = λ start pages brk. new_object pages;
    shrunk = λ start pages brk. settles (with_break (with_maps g p (cut p.maps start pages)) p brk) (runs.shrunk start pages brk) refl;
    unmapped = λ start pages. settles (with_maps g p (cut p.maps start pages)) (runs.unmapped start pages) refl;
    one_more = λ start pages prot shared. new_object pages;
    instead = λ start pages prot shared. settles (mapped g p (cut p.maps start pages) (new_mapping g start pages prot shared)) (runs.instead start pages prot shared) (new_object pages);
    reaped = λ wanted q e. refl;
  }

  of_others : (copies : List Copy) → All (λ c. g.frame.next.object ≤ c.fresh) copies → Bytes (forked g p copies)
  unfolding forked
  of_others copies from = further_objects g.memory (map (λ c. (c.fresh, bytes_in g.memory c.old.number)) copies) n (All-map (λ (o : ℕ × List ℕ). (o.0 == n) ≡ false) (λ c. (c.fresh, bytes_in g.memory c.old.number)) copies (All-weaker (λ c. g.frame.next.object ≤ c.fresh) (λ c. (c.fresh == n) ≡ false) (λ c le. above c.fresh le) copies from))

  forked_bytes : Bytes (forked g p (copies_from g.frame.next.object (to_copy g.frame p)))
  forked_bytes = of_others (copies_from g.frame.next.object (to_copy g.frame p)) (All-weaker (IsCopyOf (λ o. Unit {0}) g.frame.next.object (length (to_copy g.frame p))) (λ c. g.frame.next.object ≤ c.fresh) (λ c is. is.from) (copies_from g.frame.next.object (to_copy g.frame p)) (copies_all (λ o. Unit {0}) g.frame.next.object (to_copy g.frame p) (λ k d lt. tt)))

  opened_bytes : Opened g p Bytes
  opened_bytes = record {
    old = λ f flags list is. refl;
    cleared = λ f flags list is. replaced_other g.memory f.object (zeros 1048576) n (no_file f.object (any_weaker (λ y. y ≡ f) (λ y. y.object ≡ f.object) g.frame.files (λ y same. ap (λ (z : FileRec). z.object) same) is));
    made = λ name flags list. new_object 256;
  }

  put_bytes : (o : Open) → open_at p.fds g.frame.opens (fd_of (regs_of p)) ≡ Some o → (object : ℕ) → o.kind ≡ kinds.File object → (bytes : List ℕ) → Bytes (with_put g o object (write_place g o object) bytes)
  put_bytes o at object is bytes =
      let target = open_has (λ y. TargetIsThere g.frame.files g.frame.pipes g.frame.pairs y.kind) p.fds g.frame.opens (fd_of (regs_of p)) o valid.sound.frame.opens.targets at in
      replaced_other g.memory object (put (bytes_in g.memory object) (write_place g o object) bytes) n (no_file object (subst (TargetIsThere g.frame.files g.frame.pipes g.frame.pairs) is target))

  call_leaves : (number : ℕ) → Leaves Bytes (call_in durable g p number)
  call_leaves =
      call_holds durable g p Bytes plain_bytes (λ k r. Leaves Bytes r) (λ k r leaves. leaves) (openat_leaves g p Bytes opened_bytes (sight g p) (regs_of p))
      (write_reply (Leaves Bytes) g (sight g p) tt (λ errno. tt) refl (λ bytes few. refl) (λ value pipes. refl) (λ value pairs. refl) p (regs_of p) (λ o at object is bytes within. put_bytes o at object is bytes))
      (clone_leaves g p Bytes (λ can. forked_bytes) (regs_of p))

  end_bytes : (status : ℕ) → Bytes (ended g p status)
  unfolding ended maps_object
  end_bytes status =
      let after = ended_other p status other differ g.frame.procs x there in
      seen (with_procs g (filter_map (after_end p status) g.frame.procs)) after.0 after.1 (ap (λ (q : Proc). list_any (λ m. m.object == n) q.maps) after.2.0 ∙ mapped_there) refl

  after_bytes : (r : Reply Group) → Leaves Bytes r → Bytes (after_reply g p r)
  after_bytes waits leaves = refl
  after_bytes (refuses errno) leaves = refl
  after_bytes (answers value h writes) leaves = unwritten h.memory p.maps n writes unmapped_here ∙ leaves
  after_bytes (ends status) leaves = end_bytes status

  pub call_bytes : (number : ℕ) → Bytes (after_reply g p (call_in durable g p number))
  call_bytes number = after_bytes (call_in durable g p number) (call_leaves number)

  pub effect_bytes : (e : Effect) → Bytes (after_effect durable g p e)
  effect_bytes (steps r stored) = unwritten g.memory p.maps n (list_of stored) unmapped_here
  effect_bytes calls = after_bytes (reply_in durable g p number) (served_or_refused durable g p (Leaves Bytes) number (call_leaves number) tt)
    where
      number : ℕ
      number = call_number (regs_of p)
  effect_bytes (traps status) = end_bytes status

-- A call changes no byte of an object that the caller doesn't map and another running process does.
pub others_bytes_by_calls : (durable : Bool) (g : Group) (pid other number : ℕ) (p x : Proc) (object : ℕ) → GroupIsValid g → (pid == other) ≡ false → runner g pid ≡ Some p → runner g other ≡ Some x → maps_object object x ≡ true → maps_object object p ≡ false
    → bytes_in (after_reply g p (call_in durable g p number)).memory object ≡ bytes_in g.memory object
unfolding runner maps_object
others_bytes_by_calls durable g pid other number p x object valid differ found there maps none =
    let mine : p.pid ≡ pid = found_pid g.frame.procs pid p found in
    call_bytes durable g p other x object (ap (λ k. k == other) mine ∙ differ) valid (ap (λ k. find (is_runner k) g.frame.procs) mine ∙ found) there maps none number

-- A step changes no byte of an object that its process doesn't map and another running process does.
pub others_bytes : (durable : Bool) (g : Group) (pid other : ℕ) (p x : Proc) (object : ℕ) → GroupIsValid g → (pid == other) ≡ false → runner g pid ≡ Some p → runner g other ≡ Some x → maps_object object x ≡ true → maps_object object p ≡ false
    → bytes_in (group_step durable g pid).memory object ≡ bytes_in g.memory object
unfolding runner maps_object
others_bytes durable g pid other p x object valid differ found there maps none =
    let mine : p.pid ≡ pid = found_pid g.frame.procs pid p found in
    ap (λ (h : Group). bytes_in h.memory object) ((step_is durable g pid).1 p found)
    ∙ effect_bytes durable g p other x object (ap (λ k. k == other) mine ∙ differ) valid (ap (λ k. find (is_runner k) g.frame.procs) mine ∙ found) there maps none (effect_in g p)
