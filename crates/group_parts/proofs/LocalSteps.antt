-- Local steps of a process are steps of its private part, and leave all else of the group.
use Rattle.std.proofs.Common.{Bool, List, None, Option, Some, [], ap, false, length, map, not, refl, subst, suc, sym, true, zero, ℕ, ◌+◌, ◌==◌, ◌&&◌, ◌∙◌, ◌∷◌, ◌≡◌}
use Rattle.std.proofs.Math.Path.{fun_ext}
use Rattle.std.proofs.lemmas.Bool.{eqb-true, false≢true}
use Rattle.std.specs.List.{list_any}
use Rattle.std.specs.Option.{option_map}
use Rattle.std.specs.Prelude.{find, if◌then◌else◌}
use Rattle.address_maps.specs.declared.maps.Mapping.{Mapping}
use Rattle.descriptors.specs.EntryLaws.{found_after}
use Rattle.group_defs.specs.Cells.{cells_of, sight}
use Rattle.group_defs.specs.Fork.{maps_privately}
use Rattle.group_defs.specs.Group.{Group, is_runner, is_running, regs_of, runner, with_regs}
use Rattle.group_defs.specs.Objects.{maps_object}
use Rattle.group_defs.specs.Standing.{State, is_durable}
use Rattle.group_defs.specs.Step.{after_effect, do_step, effect_in, group_step, is_local, is_local_at}
use Rattle.group_defs.specs.declared.frame.Proc.{Proc}
use Rattle.group_laws.proofs.Lists.{any_weaker, found_is, on_first_list_any, true_any}
use Rattle.group_laws.proofs.LocalStores.{AreOwn, IsOwn, StoresOwn, instruction_own}
use Rattle.group_laws.proofs.ObjectBytes.{kept_bytes}
use Rattle.group_laws.proofs.OthersPrivate.{found_privately, private_same}
use Rattle.group_laws.proofs.OthersStay.{found_other, not_both}
use Rattle.group_laws.proofs.ReplyLaws.{found_pid}
use Rattle.group_laws.proofs.StepLaws.{local_is_private}
use Rattle.group_parts.proofs.Memory.{EachAt, EachOf, Memory, all_mapped, kept_in, kept_writes, missed_writes}
use Rattle.group_parts.proofs.OthersParts.{behind, parts}
use Rattle.group_parts.proofs.States.{step_group}
use Rattle.group_parts.specs.Local.{AllLocalPart, OnlyPartChanges, is_local_part, step_of_part, steps_of_part, part_after, part_effect}
use Rattle.group_parts.specs.Parts.{IsApart, PrivatePart, is_private, is_public, part_in, part_of, private_memory, public_part, public_process, shared_mappings}
use Rattle.run_defs.specs.Turns.{AllLocal, steps_of}
use Rattle.rv64_isa.specs.Instruction.{Effect, calls, instruction, is_step, list_of, steps, traps}
use Rattle.rv64_isa.specs.LocalLaws.{local_is_step}
use Rattle.rv64_isa.specs.Memory.{Cells, Write, private_cells}
use Rattle.rv64_isa.specs.Numbers.{wrapped}
use Rattle.rv64_isa.specs.declared.regs.Regs.{Regs}
use Rattle.tables.specs.Lists.{on_first}

-- What is seen of private mappings lies in the objects that are mapped privately.
pub private_seen : (memory : Memory) (maps : List Mapping) → private_cells (cells_of (private_memory memory maps) maps) ≡ private_cells (cells_of memory maps)
private_seen memory maps = private_same memory (private_memory memory maps) maps (λ n own. kept_bytes (maps_privately maps) n memory own)

pub effect_same : (g : Group) (p : Proc) → part_effect (part_in g p) ≡ instruction (private_cells (sight g p)) (regs_of p)
effect_same g p = ap (λ (cells : Cells). instruction cells (regs_of p)) (private_seen g.memory p.maps)

-- a local step is the instruction's effect
pub effect_seen : (g : Group) (p : Proc) → is_step (part_effect (part_in g p)) ≡ true → effect_in g p ≡ part_effect (part_in g p)
effect_seen g p local = local_is_step (sight g p) (regs_of p) (ap is_step (sym (effect_same g p)) ∙ local) ∙ sym (effect_same g p)

-- What it stores lies there too.
owned_at : (maps : List Mapping) (a : ℕ) (bytes : List ℕ) → AreOwn maps a (length bytes) → EachAt (maps_privately maps) maps a bytes
owned_at maps a [] own = tt
owned_at maps a (b ∷ bs) own = (λ m e. found_privately maps (wrapped a) m e (subst IsOwn e own.0), owned_at maps (a + 1) bs own.1)

pub owned_of : (maps : List Mapping) (r : Regs) (stored : Option Write) → StoresOwn maps (steps r stored) → EachOf (maps_privately maps) maps (list_of stored)
owned_of maps r None own = tt
owned_of maps r (Some w) own = (owned_at maps w.address w.bytes own, tt)

-- The public part doesn't see registers.
same_process : (n : ℕ) (r : Regs) (y : Proc) → is_runner n y ≡ true → public_process (with_regs r y) ≡ public_process y
same_process n r y hit = by_running (is_running y) hit
  where
    by_running : (b : Bool) → (b && (y.pid == n)) ≡ true → (if b then record y { pc = 0; regs = []; maps = shared_mappings y.maps } else with_regs r y) ≡ (if b then record y { pc = 0; regs = []; maps = shared_mappings y.maps } else y)
    by_running true e = refl
    by_running false e = absurd (false≢true e)

pub same_processes : (n : ℕ) (r : Regs) (procs : List Proc) → map public_process (on_first (is_runner n) (with_regs r) procs) ≡ map public_process procs
unfolding on_first
same_processes n r [] = refl
same_processes n r (y ∷ ys) = by_test (is_runner n y) refl (same_processes n r ys)
  where
    by_test : (b : Bool) → is_runner n y ≡ b → map public_process (on_first (is_runner n) (with_regs r) ys) ≡ map public_process ys → map public_process (if b then with_regs r y ∷ ys else y ∷ on_first (is_runner n) (with_regs r) ys) ≡ public_process y ∷ map public_process ys
    by_test true hit rest = ap (λ (x : Proc). x ∷ map public_process ys) (same_process n r y hit)
    by_test false miss rest = ap (λ (l : List Proc). public_process y ∷ l) rest

pub same_private : (t : Proc → Bool) (r : Regs) (procs : List Proc) (n : ℕ) → is_private (on_first t (with_regs r) procs) n ≡ is_private procs n
same_private t r procs n = on_first_list_any t (with_regs r) (λ p. maps_privately p.maps n) (λ p. refl) procs

-- who maps an object privately is one of the processes
pub runner_private : (g : Group) (pid : ℕ) (p : Proc) (n : ℕ) → runner g pid ≡ Some p → maps_privately p.maps n ≡ true → is_private g.frame.procs n ≡ true
unfolding runner
runner_private g pid p n is own = true_any (λ q. maps_privately q.maps n) g.frame.procs (any_weaker (λ q. (q ≡ p) × (is_runner pid q ≡ true)) (λ q. maps_privately q.maps n ≡ true) g.frame.procs (λ q both. ap (λ (y : Proc). maps_privately y.maps n) both.0 ∙ own) (found_is (is_runner pid) g.frame.procs p is))

module _ (durable : Bool) (g : Group) (pid : ℕ) (p : Proc) (is : runner g pid ≡ Some p) where
  abbrev s : PrivatePart
  s = part_in g p

  pub local_same : is_local g pid ≡ is_local_part s
  unfolding is_local is_local_part
  local_same = ap (λ (o : Option Proc). elim o [ None ↦ false | Some q ↦ is_local_at g q ]) is ∙ ap is_step (sym (effect_same g p))

  step_same : is_local_part s ≡ true → group_step durable g pid ≡ after_effect durable g p (part_effect s)
  step_same local = local_is_private durable g pid p is (local_same ∙ local) ∙ ap (after_effect durable g p) (sym (effect_same g p))

  pid_is : p.pid ≡ pid
  unfolding runner
  pid_is = found_pid g.frame.procs pid p is

  module _ (r : Regs) (stored : Option Write) where
    abbrev h : Group
    h = after_effect durable g p (steps r stored)

    self : runner h pid ≡ Some (with_regs r p)
    unfolding runner
    self =
        ap (λ (n : ℕ). find (is_runner pid) (on_first (is_runner n) (with_regs r) g.frame.procs)) pid_is
        ∙ found_after (is_runner pid) (with_regs r) (λ q hit. hit) g.frame.procs ∙ ap (option_map (with_regs r)) is

    part_steps : part_of h pid ≡ Some (part_after s (steps r stored))
    unfolding part_of
    part_steps = ap (option_map (part_in h)) self ∙ ap (λ (m : Memory). Some (parts (with_regs r p) m)) (kept_writes (maps_privately p.maps) g.memory p.maps (list_of stored))

    other_steps : (other : ℕ) → IsApart g → (pid == other) ≡ false → part_of h other ≡ part_of g other
    unfolding part_of maps_object runner IsApart
    other_steps other apart differ = ap (option_map (part_in h)) runner_same ∙ by_other (runner g other) refl
      where
        runner_same : runner h other ≡ runner g other
        runner_same =
            ap (λ (n : ℕ). find (is_runner other) (on_first (is_runner n) (with_regs r) g.frame.procs)) pid_is
            ∙ found_other (is_runner pid) (is_runner other) (with_regs r) (λ q. refl) (λ q hit. not_both pid other q differ hit) g.frame.procs

        by_other : (o : Option Proc) → runner g other ≡ o → option_map (part_in h) o ≡ option_map (part_in g) o
        by_other None found = refl
        by_other (Some y) found =
            ap (λ (m : Memory). Some (parts y m)) (missed_writes (maps_privately y.maps) (λ n. list_any (λ m. m.object == n) p.maps) (λ n maps. apart pid other p y differ is found n maps) g.memory p.maps (list_of stored) (all_mapped p.maps (list_of stored)))

    public_steps : EachOf (maps_privately p.maps) p.maps (list_of stored) → public_part h ≡ public_part g
    unfolding public_part
    public_steps each =
        ap (λ (l : List Proc). with_all l (kept_in (is_public h.frame.procs) h.memory)) (same_processes p.pid r g.frame.procs)
        ∙ ap (λ (keep : ℕ → Bool). with_all (map public_process g.frame.procs) (kept_in keep h.memory)) keep_same
        ∙ ap (λ (m : Memory). with_all (map public_process g.frame.procs) m) (missed_writes (is_public g.frame.procs) (maps_privately p.maps) (λ n own. ap not (runner_private g pid p n is own)) g.memory p.maps (list_of stored) each)
      where
        with_all : List Proc → Memory → Group
        with_all procs memory = record { frame = record g.frame { procs = procs }; memory = memory }

        keep_same : is_public h.frame.procs ≡ is_public g.frame.procs
        keep_same = fun_ext (λ n. ap not (same_private (is_runner p.pid) r g.frame.procs n))

  changes_by : IsApart g → (e : Effect) → StoresOwn p.maps e → is_step e ≡ true → OnlyPartChanges pid g (after_effect durable g p e) (part_after s e)
  changes_by apart (steps r stored) own local = record {
    part_is = part_steps r stored;
    public = public_steps r stored (owned_of p.maps r stored own);
    others = λ other differ. other_steps r stored other apart differ;
  }
  changes_by apart calls own local = absurd (false≢true local)
  changes_by apart (traps status) own local = absurd (false≢true local)

pub local_in_group : (g : Group) (pid : ℕ) (s : PrivatePart) → part_of g pid ≡ Some s → is_local g pid ≡ is_local_part s
local_in_group g pid s is = let (p, found, same) = behind g pid s is in local_same true g pid p found ∙ ap is_local_part same

local_changes : (durable : Bool) (g : Group) (pid : ℕ) (s : PrivatePart) → IsApart g → part_of g pid ≡ Some s → is_local_part s ≡ true → OnlyPartChanges pid g (group_step durable g pid) (step_of_part s)
unfolding step_of_part is_local_part
local_changes durable g pid s apart is local =
    let (p, found, same) = behind g pid s is in
    let here : is_local_part (part_in g p) ≡ true = ap is_local_part same ∙ local in
    let P : Group → Type 0 = λ h. OnlyPartChanges pid g h (part_after (part_in g p) (part_effect (part_in g p))) in
    let Q : PrivatePart → Type 0 = λ t. OnlyPartChanges pid g (group_step durable g pid) (part_after t (part_effect t)) in
    subst Q same (subst P (sym (step_same durable g pid p found here)) (changes_by durable g pid p found apart (part_effect (part_in g p)) (instruction_own (private_memory g.memory p.maps) p.maps (regs_of p)) here))

-- n local steps
changes_none : (pid : ℕ) (g : Group) (s : PrivatePart) → part_of g pid ≡ Some s → OnlyPartChanges pid g g s
changes_none pid g s is = record { part_is = is; public = refl; others = λ other differ. refl }

changes_on : (pid : ℕ) (g h k : Group) (s t : PrivatePart) → OnlyPartChanges pid g h s → OnlyPartChanges pid h k t → OnlyPartChanges pid g k t
changes_on pid g h k s t first second = record {
  part_is = second.part_is;
  public = second.public ∙ first.public;
  others = λ other differ. second.others other differ ∙ first.others other differ;
}

maps_after : (s : PrivatePart) (e : Effect) → (part_after s e).maps ≡ s.maps
maps_after s (steps r stored) = refl
maps_after s calls = refl
maps_after s (traps status) = refl

pub maps_stay : (s : PrivatePart) (n : ℕ) → (steps_of_part s n).maps ≡ s.maps
unfolding steps_of_part step_of_part
maps_stay s zero = refl
maps_stay s (suc n) = maps_after (steps_of_part s n) (part_effect (steps_of_part s n)) ∙ maps_stay s n

part_there : (g : Group) (pid : ℕ) (p : Proc) → runner g pid ≡ Some p → part_of g pid ≡ Some (part_in g p)
unfolding part_of
part_there g pid p is = ap (option_map (part_in g)) is

-- who runs afterwards ran before, with the same mappings
same_maps : (pid : ℕ) (g h : Group) (s now : PrivatePart) → part_of g pid ≡ Some s → now.maps ≡ s.maps → OnlyPartChanges pid g h now → (other : ℕ) (q : Proc) → runner h other ≡ Some q → (x : Proc) × (runner g other ≡ Some x) × (x.maps ≡ q.maps)
same_maps pid g h s now is same change other q there = by_pid (pid == other) refl
  where
    Before : Type 0
    Before = (x : Proc) × (runner g other ≡ Some x) × (x.maps ≡ q.maps)

    from : (t : PrivatePart) → part_of g other ≡ Some t → t.maps ≡ q.maps → Before
    from t e maps = let (x, found, its) = behind g other t e in (x, found, ap (λ (u : PrivatePart). u.maps) its ∙ maps)

    by_pid : (b : Bool) → (pid == other) ≡ b → Before
    by_pid true e =
        let it : pid ≡ other = eqb-true pid other e in
        let ends : Some now ≡ Some (part_in h q) = sym change.part_is ∙ ap (part_of h) it ∙ part_there h other q there in
        let last : now ≡ part_in h q = cc in
        from s (ap (part_of g) (sym it) ∙ is) (sym same ∙ ap (λ (u : PrivatePart). u.maps) last)
    by_pid false e = from (part_in h q) (sym (change.others other e) ∙ part_there h other q there) refl

-- so processes stay apart
pub apart_stays : (pid : ℕ) (g h : Group) (s now : PrivatePart) → part_of g pid ≡ Some s → now.maps ≡ s.maps → OnlyPartChanges pid g h now → IsApart g → IsApart h
unfolding IsApart maps_object
apart_stays pid g h s now is same change apart one other p q differ found there number maps =
    let (x, found', maps_x) = same_maps pid g h s now is same change one p found in
    let (y, there', maps_y) = same_maps pid g h s now is same change other q there in
    ap (λ (l : List Mapping). maps_privately l number) (sym maps_y)
    ∙ apart one other x y differ found' there' number (ap (λ (l : List Mapping). list_any (λ m. m.object == number) l) maps_x ∙ maps)

pub steps_change : (s : State) (pid : ℕ) (part : PrivatePart) (n : ℕ) → IsApart s.group → part_of s.group pid ≡ Some part → AllLocalPart part n → OnlyPartChanges pid s.group (steps_of s pid n).group (steps_of_part part n)
unfolding steps_of steps_of_part AllLocalPart
steps_change s pid part zero apart is all = changes_none pid s.group part is
steps_change s pid part (suc n) apart is all =
    let before = steps_change s pid part n apart is all.0 in
    let at : State = steps_of s pid n in
    let still : IsApart at.group = apart_stays pid s.group at.group part (steps_of_part part n) is (maps_stay part n) before apart in
    let one : OnlyPartChanges pid at.group (group_step (is_durable at.standing pid) at.group pid) (step_of_part (steps_of_part part n)) = local_changes (is_durable at.standing pid) at.group pid (steps_of_part part n) still before.part_is all.1 in
    let P : Group → Type 0 = λ h. OnlyPartChanges pid at.group h (step_of_part (steps_of_part part n)) in
    changes_on pid s.group at.group (do_step at pid).group (steps_of_part part n) (step_of_part (steps_of_part part n)) before (subst P (sym (step_group at pid)) one)

pub apart_after : (s : State) (pid : ℕ) (part : PrivatePart) (n : ℕ) → IsApart s.group → part_of s.group pid ≡ Some part → AllLocalPart part n → IsApart (steps_of s pid n).group
apart_after s pid part n apart is all = apart_stays pid s.group (steps_of s pid n).group part (steps_of_part part n) is (maps_stay part n) (steps_change s pid part n apart is all) apart

-- The group's steps are local where the part's are.
pub all_local_in_group : (s : State) (pid : ℕ) (part : PrivatePart) (n : ℕ) → IsApart s.group → part_of s.group pid ≡ Some part → AllLocalPart part n → AllLocal s pid n
unfolding AllLocal AllLocalPart
all_local_in_group s pid part zero apart is all = tt
all_local_in_group s pid part (suc n) apart is all =
    (all_local_in_group s pid part n apart is all.0, local_in_group (steps_of s pid n).group pid (steps_of_part part n) (steps_change s pid part n apart is all.0).part_is ∙ all.1)

pub all_local_in_part : (s : State) (pid : ℕ) (part : PrivatePart) (n : ℕ) → IsApart s.group → part_of s.group pid ≡ Some part → AllLocal s pid n → AllLocalPart part n
unfolding AllLocal AllLocalPart
all_local_in_part s pid part zero apart is all = tt
all_local_in_part s pid part (suc n) apart is all =
    let before = all_local_in_part s pid part n apart is all.0 in
    (before, sym (local_in_group (steps_of s pid n).group pid (steps_of_part part n) (steps_change s pid part n apart is before).part_is) ∙ all.1)
