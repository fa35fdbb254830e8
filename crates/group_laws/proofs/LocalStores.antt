-- Where a local step stores: in private mappings of its own process, and so in no byte that others share.
use Rattle.std.proofs.Common.{Bool, List, None, Option, Some, [], ap, false, length, refl, subst, suc, sym, true, zero, ℕ, ◌%◌, ◌+◌, ◌==◌, ◌∙◌, ◌∷◌, ◌≡◌, ◌≤◌, ◌⊎◌, inl, inr}
use Rattle.std.proofs.lemmas.Bool.{eqb-true, false≢true}
use Rattle.std.specs.Int.{bytes_low_first}
use Rattle.std.specs.Prelude.{All, Any, IsTrue, find, if◌then◌else◌, is_some, slice_index}
use Rattle.address_maps.specs.Mappings.{has, mapping_at}
use Rattle.address_maps.specs.declared.maps.Mapping.{Mapping}
use Rattle.group_defs.specs.Cells.{bytes_in, cell_in, cells_of, object_place, sight, with_byte_at, with_stored, with_writes}
use Rattle.group_defs.specs.Fork.{maps_privately}
use Rattle.group_defs.specs.Group.{Group, is_runner, regs_of, runner}
use Rattle.group_defs.specs.Mappings.{IsInside}
use Rattle.group_defs.specs.Objects.{IsMappedAs, IsMemoryObject, IsPrivateObject, IsSharedObject, is_of_file, mappers}
use Rattle.group_defs.specs.Step.{after_effect, group_step, is_local, is_local_at}
use Rattle.group_defs.specs.Valid.{GroupIsValid}
use Rattle.group_defs.specs.declared.frame.ObjectRec.{ObjectRec}
use Rattle.group_defs.specs.declared.frame.Proc.{Proc}
use Rattle.group_laws.proofs.Inside.{found_has}
use Rattle.group_laws.proofs.Lists.{any_all, found_all}
use Rattle.group_laws.proofs.OthersPrivate.{found_privately, maps_none_of_file, not_all_shared, some_map}
use Rattle.group_laws.proofs.ReplyLaws.{found_pid}
use Rattle.group_laws.proofs.SeenLaws.{bytes_other}
use Rattle.group_laws.proofs.StepLaws.{local_is_private}
use Rattle.rv64_isa.specs.Instruction.{Effect, act_of_word, calls, effect, effect_of_word, instruction, is_step, loaded, steps, traps}
use Rattle.rv64_isa.specs.Memory.{Cell, Cells, both, byte_of, bytes_with, can_write, fetched, private_cells, private_of, readable}
use Rattle.rv64_isa.specs.Numbers.{bytes_of, wrapped}
use Rattle.rv64_isa.specs.Registers.{advanced}
use Rattle.rv64_isa.specs.declared.act.Act.{Act}
use Rattle.rv64_isa.specs.declared.act.Act.TheVariants.{Sets, Jumps, Loads, Stores, Calls, Traps}
use Rattle.rv64_isa.specs.declared.regs.Regs.{Regs}

-- a mapping that is private, where there is one
abbrev pub IsOwn : Option Mapping → Type 0
IsOwn None = Unit {0}
IsOwn (Some m) = m.shared ≡ false

-- n addresses from one on lie in such mappings
abbrev pub AreOwn : List Mapping → ℕ → ℕ → Type 0
AreOwn maps a zero = Unit {0}
AreOwn maps a (suc n) = IsOwn (mapping_at maps (wrapped a)) × AreOwn maps (a + 1) n

both_there : (b : Option ℕ) (rest : Option (List ℕ)) → is_some (both b rest) ≡ true → (is_some b ≡ true) × (is_some rest ≡ true)
both_there None rest e = absurd (false≢true e)
both_there (Some x) None e = absurd (false≢true e)
both_there (Some x) (Some xs) e = (refl, refl)

-- what can be written where private mappings alone are seen
writable_own : (memory : List (ℕ × List ℕ)) (maps : List Mapping) (a n : ℕ) → can_write (private_cells (cells_of memory maps)) a n ≡ true → AreOwn maps a n
unfolding bytes_with cells_of
writable_own memory maps a zero e = tt
writable_own memory maps a (suc n) e =
    let parts = both_there (byte_of 2 (private_of (seen (mapping_at maps (wrapped a))))) (bytes_with 2 (private_cells (cells_of memory maps)) (a + 1) n) e in
    (own (mapping_at maps (wrapped a)) parts.0, writable_own memory maps (a + 1) n parts.1)
  where
    seen : Option Mapping → Option Cell
    seen o = elim o [ None ↦ None | Some m ↦ Some (cell_in memory (wrapped a) m) ]

    by_shared : (c : Cell) (shared : Bool) → is_some (byte_of 2 (if shared then None else Some c)) ≡ true → shared ≡ false
    by_shared c true e = absurd (false≢true e)
    by_shared c false e = refl

    own : (o : Option Mapping) → is_some (byte_of 2 (private_of (seen o))) ≡ true → IsOwn o
    own None e = tt
    own (Some m) e = by_shared (cell_in memory (wrapped a) m) m.shared e

-- What an effect stores lies there.
abbrev pub StoresOwn : List Mapping → Effect → Type 0
StoresOwn maps (steps r None) = Unit {0}
StoresOwn maps (steps r (Some w)) = AreOwn maps w.address (length w.bytes)
StoresOwn maps calls = Unit {0}
StoresOwn maps (traps status) = Unit {0}

count_low_first : (i n v : ℕ) → length (bytes_low_first i n v) ≡ n
count_low_first i zero v = refl
count_low_first i (suc n) v = ap (λ k. suc k) (count_low_first (suc i) n v)

module _ (memory : List (ℕ × List ℕ)) (maps : List Mapping) (r : Regs) where
  abbrev cells : Cells
  cells = private_cells (cells_of memory maps)

  jumps_own : (s : Regs) (b : Bool) → StoresOwn maps (if b then steps s None else traps 7)
  jumps_own s true = tt
  jumps_own s false = tt

  loaded_own : (rd n : ℕ) (is_signed : Bool) (o : Option (List ℕ)) → StoresOwn maps (loaded r rd n is_signed o)
  loaded_own rd n is_signed None = tt
  loaded_own rd n is_signed (Some bytes) = tt

  stored_own : (to n value : ℕ) (b : Bool) → can_write cells to n ≡ b → StoresOwn maps (if b then steps (advanced r) (Some (record { address = to; bytes = bytes_of n value })) else traps 11)
  stored_own to n value true e = subst (AreOwn maps to) (sym (count_low_first 0 n value)) (writable_own memory maps to n e)
  stored_own to n value false e = tt

  act_own : (act : Act) → StoresOwn maps (effect cells r act)
  act_own (Sets rd value) = tt
  act_own (Jumps rd target) = jumps_own _ (target % 4 == 0)
  act_own (Loads rd from n is_signed) = loaded_own rd n is_signed (readable cells from n)
  act_own (Stores to n value) = stored_own to n value (can_write cells to n) refl
  act_own Calls = tt
  act_own (Traps code) = tt

  pub instruction_own : StoresOwn maps (instruction cells r)
  instruction_own = by_word (fetched cells r.pc)
    where
      by_word : (o : Option ℕ) → StoresOwn maps (effect_of_word cells r o)
      by_word None = tt
      by_word (Some word) = act_own (act_of_word r word)

-- Such stores leave every object that isn't mapped privately.
own_stored : (memory : List (ℕ × List ℕ)) (maps : List Mapping) (n a : ℕ) (bytes : List ℕ) → maps_privately maps n ≡ false → AreOwn maps a (length bytes) → bytes_in (with_stored memory maps a bytes) n ≡ bytes_in memory n
unfolding with_stored
own_stored memory maps n a [] none own = refl
own_stored memory maps n a (b ∷ bs) none own = own_stored (with_byte_at memory (mapping_at maps (wrapped a)) (wrapped a) b) maps n (a + 1) bs none own.1 ∙ by_mapping (mapping_at maps (wrapped a)) refl own.0
  where
    another : (m : Mapping) → maps_privately maps m.object ≡ true → (t : Bool) → (m.object == n) ≡ t → t ≡ false
    another m private false e = refl
    another m private true e = absurd (false≢true (sym none ∙ sym (ap (maps_privately maps) (eqb-true m.object n e)) ∙ private))

    by_mapping : (o : Option Mapping) → mapping_at maps (wrapped a) ≡ o → IsOwn o → bytes_in (with_byte_at memory o (wrapped a) b) n ≡ bytes_in memory n
    by_mapping None e own = refl
    by_mapping (Some m) e own = bytes_other memory m.object (object_place m (wrapped a)) b n (another m (found_privately maps (wrapped a) m e own) (m.object == n) refl)

-- A local step leaves every object as it was that its process doesn't map privately.
pub local_elsewhere : (durable : Bool) (g : Group) (pid : ℕ) (p : Proc) (object : ℕ) → runner g pid ≡ Some p → IsTrue (is_local g pid) → maps_privately p.maps object ≡ false → bytes_in (group_step durable g pid).memory object ≡ bytes_in g.memory object
unfolding is_local with_writes
local_elsewhere durable g pid p object is l none =
    ap (λ (h : Group). bytes_in h.memory object) (local_is_private durable g pid p is l)
    ∙ by_effect (instruction (private_cells (sight g p)) (regs_of p)) (let Local : Option Proc → Type 0 = λ o. (elim o [ None ↦ false | Some q ↦ is_local_at g q ]) ≡ true in subst Local is l) (instruction_own g.memory p.maps (regs_of p))
  where
    by_effect : (e : Effect) → is_step e ≡ true → StoresOwn p.maps e → bytes_in (after_effect durable g p e).memory object ≡ bytes_in g.memory object
    by_effect (steps r None) s own = refl
    by_effect (steps r (Some w)) s own = own_stored g.memory p.maps object w.address w.bytes none own
    by_effect calls s own = absurd (false≢true s)
    by_effect (traps status) s own = absurd (false≢true s)

-- In a valid group no process maps privately what one shares.
module _ (g : Group) (p q : Proc) (a : ℕ) (m : Mapping) (valid : GroupIsValid g) (found : find (is_runner p.pid) g.frame.procs ≡ Some p) (there : find (is_runner q.pid) g.frame.procs ≡ Some q) (at : mapping_at q.maps a ≡ Some m) (shared : m.shared ≡ true) where
  pub not_private : maps_privately p.maps m.object ≡ false
  unfolding IsInside IsMemoryObject IsSharedObject IsPrivateObject IsMappedAs mappers
  not_private = by_test (maps_privately p.maps m.object) refl
    where
      procs : List Proc
      procs = g.frame.procs

      inside : IsInside g.frame.objects m
      inside = (found_has (IsInside g.frame.objects) (has a) q.maps m (found_all (is_runner q.pid) (λ x. All (IsInside g.frame.objects) x.maps) procs q there valid.sound.frame.maps.inside) at).0

      of_object : maps_privately p.maps m.object ≡ true → (o : ObjectRec) → o.number ≡ m.object → (is_of_file g.frame.files o.number ≡ true) ⊎ IsMemoryObject procs o → ⊥
      of_object private o its (inl file) = maps_none_of_file g p m.object valid found (some_map p.maps m.object private) o its file
      of_object private o its (inr (some, inl all)) = not_all_shared p.maps m.object private (subst (λ k. All (λ x. x.object ≡ k → x.shared ≡ true) p.maps) its (found_all (is_runner p.pid) (λ x. All (λ y. y.object ≡ o.number → y.shared ≡ true) x.maps) procs p found all))
      of_object private o its (inr (some, inr (all, few))) =
          let own = (found_has (λ x. x.object ≡ o.number → x.shared ≡ false) (has a) q.maps m (found_all (is_runner q.pid) (λ x. All (λ y. y.object ≡ o.number → y.shared ≡ false) x.maps) procs q there all) at).0 in
          false≢true (sym (own (sym its)) ∙ shared)

      by_test : (b : Bool) → maps_privately p.maps m.object ≡ b → b ≡ false
      by_test false e = refl
      by_test true e = absurd (by_any (any_all (λ o. (o.number ≡ m.object) × (m.first + m.pages ≤ o.pages)) (λ o. (is_of_file g.frame.files o.number ≡ true) ⊎ IsMemoryObject procs o) g.frame.objects inside valid.sound.frame.maps.agree))
        where
          by_any : Any (λ o. ((o.number ≡ m.object) × (m.first + m.pages ≤ o.pages)) × ((is_of_file g.frame.files o.number ≡ true) ⊎ IsMemoryObject procs o)) g.frame.objects → ⊥
          by_any (k, o, lt, same, facts) = of_object e o facts.0.0 facts.1

-- A local step leaves what each running process sees of its shared mappings.
pub shared_stays : (durable : Bool) (g : Group) (pid other : ℕ) (p q : Proc) (a : ℕ) (c : Cell) → GroupIsValid g → runner g pid ≡ Some p → runner g other ≡ Some q → IsTrue (is_local g pid) → sight g q a ≡ Some c → c.shared ≡ true → cells_of (group_step durable g pid).memory q.maps a ≡ Some c
unfolding runner cells_of
shared_stays durable g pid other p q a c valid is there l sees shared = by_mapping (mapping_at q.maps a) refl sees
  where
    after : List (ℕ × List ℕ)
    after = (group_step durable g pid).memory

    same_cell : (m : Mapping) → bytes_in after m.object ≡ bytes_in g.memory m.object → Some (cell_in after a m) ≡ Some (cell_in g.memory a m)
    same_cell m same = ap (λ (bytes : List ℕ). Some (record { byte = slice_index bytes (object_place m a); rights = m.prot; shared = m.shared; object = m.object; place = object_place m a })) same

    by_mapping : (o : Option Mapping) → mapping_at q.maps a ≡ o → (elim o [ None ↦ None | Some m ↦ Some (cell_in g.memory a m) ]) ≡ Some c → (elim o [ None ↦ None | Some m ↦ Some (cell_in after a m) ]) ≡ Some c
    by_mapping None at e = e
    by_mapping (Some m) at e =
        let mine = found_pid g.frame.procs pid p is in
        let its = found_pid g.frame.procs other q there in
        let cell : cell_in g.memory a m ≡ c = cc in
        let none = not_private g p q a m valid (ap (λ k. find (is_runner k) g.frame.procs) mine ∙ is) (ap (λ k. find (is_runner k) g.frame.procs) its ∙ there) at (ap (λ (d : Cell). d.shared) cell ∙ shared) in
        same_cell m (local_elsewhere durable g pid p m.object is l none) ∙ e
