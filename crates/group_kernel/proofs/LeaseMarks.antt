-- A lease's faces stand over the last barrier while others' marks are logged.
use Rattle.std.proofs.Common.{◌≡◌, ℕ, zero, suc, ◌+◌, ◌++◌, ◌<◌, ◌==◌, ◌||◌, Bool, true, false, List, [], ◌∷◌, length, map, Option, Some, None, refl, sym, ap, ◌∙◌, subst, cond}
use Rattle.std.proofs.lemmas.Bool.{eqb-true, false≢true, or_parts}
use Rattle.std.proofs.lemmas.List.Elements.{All-from_recursion, recursion_from_All}
use Rattle.std.specs.Prelude.{All, if◌then◌else◌, IsTrue, slice_set}
use Rattle.std.specs.List.{AllByRecursion, filter, list_any}
use Rattle.rv64_isa.specs.Instruction.{Effect, steps, calls, traps}
use Rattle.rv64_isa.specs.Memory.{Write}
use Rattle.rv64_isa.specs.Numbers.{wrapped}
use Rattle.address_maps.specs.Mappings.{mapping_at}
use Rattle.address_maps.specs.declared.maps.Mapping.{Mapping}
use Rattle.tables.specs.Lists.{on_first}
use Rattle.tables.specs.Rising.{Rise}
use Rattle.tables.proofs.Ordered.{IsOrdered, each_both, each_map, each_of_map, each_weaker, ordered_map, ordered_of_map, ordered_of_pairs, pairs_of_ordered}
use Rattle.shadow_chains.specs.declared.entry.Entry.{Entry}
use Rattle.shadow_chains.specs.Entries.{number_of}
use Rattle.group_defs.specs.Cells.{object_place, with_byte, with_byte_at, with_stored, with_writes}
use Rattle.group_defs.specs.Fork.{maps_privately}
use Rattle.group_defs.specs.Group.{Group}
use Rattle.group_defs.specs.Pages.{is_among}
use Rattle.group_parts.specs.Leases.{IsLeaseOf, LeasesStand, LeavesLease}
use Rattle.group_parts.specs.Local.{pages_of_steps, part_after, part_effect, step_of_part, steps_of_part}
use Rattle.group_parts.specs.Marks.{AreAllowed, is_turn_by}
use Rattle.group_parts.specs.Parts.{PrivatePart, part_in, part_of}
use Rattle.group_parts.proofs.Commute.{mark_leaves_lease, marks_leave_lease}
use Rattle.group_parts.proofs.LeasesKept.{mark_stands}
use Rattle.group_parts.proofs.LocalSteps.{maps_stay}
use Rattle.group_parts.proofs.OthersParts.{behind}
use Rattle.proc_lease.specs.Private.{ObjectView, memory_of, views_of}
use Rattle.run_defs.specs.Legal.{Allowed}
use Rattle.run_defs.specs.Progress.{Checkpoint, EachMark, Progress, after_mark, is_lease, progress_after}
use Rattle.run_defs.specs.declared.run.Limits.{Limits}
use Rattle.run_defs.specs.declared.run.Mark.{Mark}
use Rattle.run_defs.specs.declared.run.Mark.TheVariants.{Take, Turn, Barrier, Fetch, Ack}
use Rattle.run_laws.proofs.TurnLaws.{turn_epochs}
use Rattle.group_kernel.specs.Faces.{AllStandOver, StandsOver, base_memory}
use Rattle.group_kernel.proofs.StoredSets.{NumbersRise, among_more}

-- ---- numbers of faces, of their views, and of the flat table

view_numbers : (entries : List Entry) → map (λ (o : ObjectView). o.number) (views_of entries) ≡ map number_of entries
view_numbers [] = refl
view_numbers (e ∷ es) = ap (λ l. e.number ∷ l) (view_numbers es)

pub table_numbers : (objects : List ObjectView) → map (λ (e : ℕ × List ℕ). e.0) (memory_of objects) ≡ map (λ o. o.number) objects
table_numbers [] = refl
table_numbers (o ∷ os) = ap (λ l. o.number ∷ l) (table_numbers os)

pub rise_of_views : (entries : List Entry) → Rise number_of entries → NumbersRise (views_of entries)
unfolding Rise
rise_of_views entries rise = subst (IsOrdered (λ m n. m < n)) (sym (view_numbers entries)) (ordered_map (λ m n. m < n) number_of entries (ordered_of_pairs (λ x y. number_of x < number_of y) entries rise))

pub rise_by_views : (old new : List Entry) → map (λ (o : ObjectView). o.number) (views_of new) ≡ map (λ (o : ObjectView). o.number) (views_of old) → Rise number_of old → Rise number_of new
unfolding Rise
rise_by_views old new same rise =
    let numbers : IsOrdered (λ m n. m < n) (map number_of new) = subst (IsOrdered (λ m n. m < n)) (sym same ∙ view_numbers new) (rise_of_views old rise) in
    pairs_of_ordered (λ x y. number_of x < number_of y) new (ordered_of_map (λ m n. m < n) number_of new numbers)

-- ---- the objects of a lease are mapped privately

numbers_of : List (ℕ × List ℕ) → List ℕ
numbers_of memory = map (λ e. e.0) memory

byte_numbers : (memory : List (ℕ × List ℕ)) (object place byte : ℕ) → map (λ (e : ℕ × List ℕ). e.0) (with_byte memory object place byte) ≡ map (λ (e : ℕ × List ℕ). e.0) memory
unfolding on_first
byte_numbers [] object place byte = refl
byte_numbers (o ∷ os) object place byte = by_test (byte_numbers os object place byte) (o.0 == object) refl
  where
    by_test : map (λ (e : ℕ × List ℕ). e.0) (with_byte os object place byte) ≡ map (λ (e : ℕ × List ℕ). e.0) os → (t : Bool) → (o.0 == object) ≡ t
        → map (λ (e : ℕ × List ℕ). e.0) (if t then (object, slice_set o.1 place byte) ∷ os else o ∷ with_byte os object place byte) ≡ o.0 ∷ map (λ (e : ℕ × List ℕ). e.0) os
    by_test rest true e = ap (λ n. n ∷ map (λ (x : ℕ × List ℕ). x.0) os) (sym (eqb-true o.0 object e))
    by_test rest false e = ap (λ l. o.0 ∷ l) rest

at_numbers : (memory : List (ℕ × List ℕ)) (m : Option Mapping) (a byte : ℕ) → map (λ (e : ℕ × List ℕ). e.0) (with_byte_at memory m a byte) ≡ map (λ (e : ℕ × List ℕ). e.0) memory
at_numbers memory None a byte = refl
at_numbers memory (Some m) a byte = byte_numbers memory m.object (object_place m a) byte

stored_numbers : (memory : List (ℕ × List ℕ)) (maps : List Mapping) (a : ℕ) (bytes : List ℕ) → map (λ (e : ℕ × List ℕ). e.0) (with_stored memory maps a bytes) ≡ map (λ (e : ℕ × List ℕ). e.0) memory
unfolding with_stored
stored_numbers memory maps a [] = refl
stored_numbers memory maps a (b ∷ bs) =
    stored_numbers (with_byte_at memory (mapping_at maps (wrapped a)) (wrapped a) b) maps (a + 1) bs ∙ at_numbers memory (mapping_at maps (wrapped a)) (wrapped a) b

written_numbers : (memory : List (ℕ × List ℕ)) (maps : List Mapping) (writes : List Write) → map (λ (e : ℕ × List ℕ). e.0) (with_writes memory maps writes) ≡ map (λ (e : ℕ × List ℕ). e.0) memory
unfolding with_writes
written_numbers memory maps [] = refl
written_numbers memory maps (w ∷ ws) = written_numbers (with_stored memory maps w.address w.bytes) maps ws ∙ stored_numbers memory maps w.address w.bytes

after_numbers : (s : PrivatePart) (e : Effect) → map (λ (x : ℕ × List ℕ). x.0) (part_after s e).memory ≡ map (λ (x : ℕ × List ℕ). x.0) s.memory
after_numbers s (steps r stored) = written_numbers s.memory s.maps _
after_numbers s calls = refl
after_numbers s (traps status) = refl

steps_numbers : (s : PrivatePart) (n : ℕ) → map (λ (x : ℕ × List ℕ). x.0) (steps_of_part s n).memory ≡ map (λ (x : ℕ × List ℕ). x.0) s.memory
unfolding steps_of_part step_of_part
steps_numbers s zero = refl
steps_numbers s (suc n) = after_numbers (steps_of_part s n) (part_effect (steps_of_part s n)) ∙ steps_numbers s n

pub kept_pass : (keep : ℕ → Bool) (memory : List (ℕ × List ℕ)) → AllByRecursion (λ (e : ℕ × List ℕ). keep e.0 ≡ true) (filter (λ e. keep e.0) memory)
kept_pass keep [] = tt
kept_pass keep (e ∷ es) = by_test (kept_pass keep es) (keep e.0) refl
  where
    by_test : AllByRecursion (λ (x : ℕ × List ℕ). keep x.0 ≡ true) (filter (λ x. keep x.0) es) → (t : Bool) → keep e.0 ≡ t → AllByRecursion (λ (x : ℕ × List ℕ). keep x.0 ≡ true) (cond t (e ∷ filter (λ x. keep x.0) es) (filter (λ x. keep x.0) es))
    by_test rest true is = (is, rest)
    by_test rest false is = rest

pub lease_objects : (g : Group) (pid done : ℕ) (regs : _) (maps : List Mapping) (objects : List ObjectView) (lease : IsLeaseOf g pid done (record { regs = regs; maps = maps; memory = memory_of objects }))
    → AllByRecursion (λ (o : ObjectView). maps_privately maps o.number ≡ true) objects
lease_objects g pid done regs maps objects lease =
    let (p, found, same) = behind g pid lease.taken lease.taken_is in
    let own : AllByRecursion (λ (e : ℕ × List ℕ). maps_privately p.maps e.0 ≡ true) (part_in g p).memory = kept_pass (maps_privately p.maps) g.memory in
    let taken : AllByRecursion (λ (n : ℕ). maps_privately lease.taken.maps n ≡ true) (map (λ (e : ℕ × List ℕ). e.0) lease.taken.memory) =
    subst (λ (s : PrivatePart). AllByRecursion (λ (n : ℕ). maps_privately s.maps n ≡ true) (map (λ (e : ℕ × List ℕ). e.0) s.memory)) same (each_map (λ n. maps_privately p.maps n ≡ true) (λ (e : ℕ × List ℕ). e.0) (part_in g p).memory own) in
    let maps_are : maps ≡ lease.taken.maps = ap (λ (s : PrivatePart). s.maps) lease.part_is ∙ maps_stay lease.taken done in
    let numbers : map (λ (e : ℕ × List ℕ). e.0) (memory_of objects) ≡ map (λ (e : ℕ × List ℕ). e.0) lease.taken.memory = ap (λ (s : PrivatePart). map (λ (e : ℕ × List ℕ). e.0) s.memory) lease.part_is ∙ steps_numbers lease.taken done in
    each_of_map (λ n. maps_privately maps n ≡ true) (λ (o : ObjectView). o.number) objects
    (subst (λ (l : List ℕ). AllByRecursion (λ n. maps_privately maps n ≡ true) l) (sym numbers ∙ table_numbers objects)
    (subst (λ (l : List Mapping). AllByRecursion (λ n. maps_privately l n ≡ true) (map (λ (e : ℕ × List ℕ). e.0) lease.taken.memory)) (sym maps_are) taken))

-- ---- no barrier is made while a lease is out

mark_last : (limits : Limits) (r : Progress) (m : Mark) (worker pid : ℕ) → Allowed limits r m → IsTrue (list_any (is_lease worker pid) r.leases) → (after_mark limits.quantum r m).state.standing.last ≡ r.state.standing.last
mark_last limits r (Take w p) worker pid allowed out = refl
mark_last limits r (Turn w p n) worker pid allowed out = (turn_epochs limits.quantum r.state p n).0
mark_last limits r (Barrier epoch) worker pid allowed out = absurd (false≢true (ap (list_any (is_lease worker pid)) (sym allowed.rests.no_lease) ∙ out))
mark_last limits r (Fetch epoch) worker pid allowed out = refl
mark_last limits r (Ack epoch) worker pid allowed out = refl

last_stays : (limits : Limits) (r : Progress) (marks : List Mark) (worker pid done : ℕ) (part : PrivatePart) → AreAllowed limits r marks → LeasesStand r → IsTrue (list_any (is_lease worker pid) r.leases)
    → list_any (is_turn_by worker) marks ≡ false → IsLeaseOf r.state.group pid done part → (progress_after limits.quantum r marks).state.standing.last ≡ r.state.standing.last
unfolding EachMark
last_stays limits r [] worker pid done part allowed stand out none lease = refl
last_stays limits r (m ∷ ms) worker pid done part allowed stand out none lease =
    let neither = or_parts (is_turn_by worker m) (list_any (is_turn_by worker) ms) none in
    let one = mark_leaves_lease limits r worker pid done part stand out lease m allowed.0.0 allowed.0.1 neither.0 in
    last_stays limits (after_mark limits.quantum r m) ms worker pid done part allowed.1 (mark_stands limits r stand allowed.0.0 m allowed.0.1) one.out neither.1 one.lease ∙ mark_last limits r m worker pid allowed.0.1 out

abbrev base_by : List Checkpoint → ℕ → Progress → List (ℕ × List ℕ)
base_by checkpoints last r = base_memory (record r { checkpoints = checkpoints; state = record r.state { standing = record r.state.standing { last = last } } })

pub same_base : (r r' : Progress) → r'.checkpoints ≡ r.checkpoints → r'.state.standing.last ≡ r.state.standing.last → base_memory r' ≡ base_memory r
same_base r r' checkpoints last = ap (λ (l : List Checkpoint). base_by l r'.state.standing.last r') checkpoints ∙ ap (λ (n : ℕ). base_by r.checkpoints n r') last

-- ---- its faces

stands_alike : (memory : List (ℕ × List ℕ)) (one two pages : List (ℕ × ℕ)) (o : ObjectView) → ((page : ℕ) → is_among two (o.number, page) ≡ is_among one (o.number, page)) → StandsOver memory (one ++ pages) o → StandsOver memory (two ++ pages) o
stands_alike memory one two pages o alike stands = record {
  below = stands.below;
  count = stands.count;
  set = λ page lt. stands.set page lt ∙ among_more one pages (o.number, page) ∙ ap (λ (b : Bool). b || is_among pages (o.number, page)) (sym (alike page)) ∙ sym (among_more two pages (o.number, page));
}

pub faces_stay : (limits : Limits) (r : Progress) (marks : List Mark) (worker pid done : ℕ) (regs : _) (maps : List Mapping) (objects : List ObjectView) → AreAllowed limits r marks → LeasesStand r
    → IsTrue (list_any (is_lease worker pid) r.leases) → list_any (is_turn_by worker) marks ≡ false → (lease : IsLeaseOf r.state.group pid done (record { regs = regs; maps = maps; memory = memory_of objects })) → (pages : List (ℕ × ℕ))
    → AllStandOver (base_memory r) (r.touched ++ pages) objects
    → AllStandOver (base_memory (progress_after limits.quantum r marks)) ((progress_after limits.quantum r marks).touched ++ pages) objects
faces_stay limits r marks worker pid done regs maps objects allowed stand out none lease pages stands =
    let r' : Progress = progress_after limits.quantum r marks in
    let part : PrivatePart = record { regs = regs; maps = maps; memory = memory_of objects } in
    let leaves : LeavesLease r r' worker pid done part = marks_leave_lease limits r marks worker pid done part allowed stand out none lease in
    let base : base_memory r' ≡ base_memory r = same_base r r' leaves.checkpoints (last_stays limits r marks worker pid done part allowed stand out none lease) in
    subst (λ (memory : List (ℕ × List ℕ)). AllStandOver memory (r'.touched ++ pages) objects) (sym base)
    (All-from_recursion (StandsOver (base_memory r) (r'.touched ++ pages)) objects
    (each_both (λ (o : ObjectView). maps_privately maps o.number ≡ true) (StandsOver (base_memory r) (r.touched ++ pages)) (StandsOver (base_memory r) (r'.touched ++ pages)) objects
    (λ o own stand. stands_alike (base_memory r) r.touched r'.touched pages o (λ page. leaves.touched o.number page own) stand)
    (lease_objects r.state.group pid done regs maps objects lease)
    (recursion_from_All (StandsOver (base_memory r) (r.touched ++ pages)) objects stands)))
