-- What a process sees lies in its private part and in the public part.
use Rattle.std.proofs.Common.{Bool, List, None, Option, Some, [], ap, false, inl, inr, not, refl, sym, true, ℕ, ◌++◌, ◌==◌, ◌∙◌, ◌∷◌, ◌≡◌, ◌⊎◌}
use Rattle.std.proofs.Math.Path.{fun_ext}
use Rattle.std.proofs.lemmas.Bool.{cases_Bool, eqb-true, false≢true}
use Rattle.std.specs.Prelude.{Any, find, if◌then◌else◌, slice_index}
use Rattle.address_maps.specs.Mappings.{mapping_at}
use Rattle.address_maps.specs.declared.maps.Mapping.{Mapping}
use Rattle.group_defs.specs.Cells.{bytes_in, cell_in, cells_of, object_place, sight}
use Rattle.group_defs.specs.Fork.{maps_privately}
use Rattle.group_defs.specs.Group.{Group, is_runner, is_running, runner}
use Rattle.group_defs.specs.Valid.{GroupIsValid}
use Rattle.group_defs.specs.declared.frame.Proc.{Proc}
use Rattle.group_laws.proofs.Lists.{any_all, any_true}
use Rattle.group_laws.proofs.LocalStores.{not_private}
use Rattle.group_laws.proofs.OthersPrivate.{found_privately}
use Rattle.group_laws.proofs.ReplyLaws.{found_pid}
use Rattle.group_parts.proofs.LocalSteps.{runner_private}
use Rattle.group_parts.proofs.Memory.{Memory, kept_in}
use Rattle.group_parts.proofs.Runners.{ended_maps, runner_found}
use Rattle.group_parts.specs.Parts.{is_private, is_public, part_in, private_memory, public_part}
use Rattle.rv64_isa.specs.Memory.{Cell}

abbrev pub entry : Memory → ℕ → Option (ℕ × List ℕ)
entry memory number = find (λ o. o.0 == number) memory

abbrev pub bytes_at : Option (ℕ × List ℕ) → List ℕ
bytes_at o = elim o [ None ↦ [] | Some e ↦ e.1 ]

-- the first of two tables that has it
entry_both : (a b : Memory) (number : ℕ) → entry (a ++ b) number ≡ (elim (entry a number) [ None ↦ entry b number | Some e ↦ Some e ])
entry_both [] b number = refl
entry_both (o ∷ os) b number = by_test (o.0 == number) (entry_both os b number)
  where
    by_test : (t : Bool) → entry (os ++ b) number ≡ (elim (entry os number) [ None ↦ entry b number | Some e ↦ Some e ])
        → (if t then Some o else entry (os ++ b) number) ≡ (elim (if t then Some o else entry os number) [ None ↦ entry b number | Some e ↦ Some e ])
    by_test true ih = refl
    by_test false ih = ih

-- a table of what passes a test
pub gone_entry : (keep : ℕ → Bool) (memory : Memory) (number : ℕ) → keep number ≡ false → entry (kept_in keep memory) number ≡ None
gone_entry keep [] number none = refl
gone_entry keep (o ∷ os) number none = by_tests (cases_Bool (keep o.0)) (cases_Bool (o.0 == number)) (gone_entry keep os number none)
  where
    by_tests : (keep o.0 ≡ true) ⊎ (keep o.0 ≡ false) → ((o.0 == number) ≡ true) ⊎ ((o.0 == number) ≡ false) → entry (kept_in keep os) number ≡ None → entry (kept_in keep (o ∷ os)) number ≡ None
    by_tests (inl stays) (inl hit) ih = absurd (false≢true (sym none ∙ ap keep (sym (eqb-true o.0 number hit)) ∙ stays))
    by_tests (inl stays) (inr miss) ih = rw stays (rw miss ih)
    by_tests (inr goes) either ih = rw goes ih

pub kept_entry : (keep : ℕ → Bool) (memory : Memory) (number : ℕ) → keep number ≡ true → entry (kept_in keep memory) number ≡ entry memory number
kept_entry keep [] number hit = refl
kept_entry keep (o ∷ os) number hit = by_tests (cases_Bool (keep o.0)) (cases_Bool (o.0 == number)) (kept_entry keep os number hit)
  where
    by_tests : (keep o.0 ≡ true) ⊎ (keep o.0 ≡ false) → ((o.0 == number) ≡ true) ⊎ ((o.0 == number) ≡ false) → entry (kept_in keep os) number ≡ entry os number → entry (kept_in keep (o ∷ os)) number ≡ entry (o ∷ os) number
    by_tests (inl stays) (inl here) ih = rw stays (rw here refl)
    by_tests (inl stays) (inr other) ih = rw stays (rw other ih)
    by_tests (inr goes) (inl here) ih = absurd (false≢true (sym goes ∙ ap keep (eqb-true o.0 number here) ∙ hit))
    by_tests (inr goes) (inr other) ih = rw goes (rw other ih)

private_first : (memory : Memory) (mine others : ℕ → Bool) (number : ℕ) → mine number ≡ true → bytes_in (kept_in mine memory ++ kept_in others memory) number ≡ bytes_in memory number
private_first memory mine others number hit =
    ap bytes_at (entry_both (kept_in mine memory) (kept_in others memory) number)
    ∙ ap (λ (o : Option (ℕ × List ℕ)). bytes_at (elim o [ None ↦ entry (kept_in others memory) number | Some e ↦ Some e ])) (kept_entry mine memory number hit) ∙ by_entry (entry memory number) refl
  where
    none : entry memory number ≡ None → (others number ≡ true) ⊎ (others number ≡ false) → bytes_at (entry (kept_in others memory) number) ≡ []
    none is (inl e) = ap bytes_at (kept_entry others memory number e ∙ is)
    none is (inr e) = ap bytes_at (gone_entry others memory number e)

    by_entry : (o : Option (ℕ × List ℕ)) → entry memory number ≡ o → bytes_at (elim o [ None ↦ entry (kept_in others memory) number | Some e ↦ Some e ]) ≡ bytes_at o
    by_entry (Some e) is = refl
    by_entry None is = none is (cases_Bool (others number))

public_else : (memory : Memory) (mine others : ℕ → Bool) (number : ℕ) → mine number ≡ false → others number ≡ true → bytes_in (kept_in mine memory ++ kept_in others memory) number ≡ bytes_in memory number
public_else memory mine others number miss hit =
    ap bytes_at (entry_both (kept_in mine memory) (kept_in others memory) number)
    ∙ ap (λ (o : Option (ℕ × List ℕ)). bytes_at (elim o [ None ↦ entry (kept_in others memory) number | Some e ↦ Some e ])) (gone_entry mine memory number miss)
    ∙ ap bytes_at (kept_entry others memory number hit)

-- What a process shares, nobody maps privately.
pub shared_is_public : (g : Group) (pid : ℕ) (p : Proc) (a : ℕ) (m : Mapping) → GroupIsValid g → runner g pid ≡ Some p → mapping_at p.maps a ≡ Some m → m.shared ≡ true → is_private g.frame.procs m.object ≡ false
unfolding runner
shared_is_public g pid p a m valid is at shared = by_test (is_private g.frame.procs m.object) refl
  where
    found : find (is_runner p.pid) g.frame.procs ≡ Some p
    found = ap (λ k. find (is_runner k) g.frame.procs) (found_pid g.frame.procs pid p is) ∙ is

    runs : (q : Proc) → (is_running q ≡ false → q.maps ≡ []) → maps_privately q.maps m.object ≡ true → (b : Bool) → is_running q ≡ b → b ≡ true
    runs q ended own true e = refl
    runs q ended own false e = absurd (false≢true (sym (ap (λ (l : List Mapping). maps_privately l m.object) (ended e)) ∙ own))

    by_any : Any (λ q. (maps_privately q.maps m.object ≡ true) × (is_running q ≡ false → q.maps ≡ [])) g.frame.procs → ⊥
    by_any (k, q, lt, here, both) =
        let there = runner_found g.frame.procs q valid.sound.frame.procs.rise (k, q, lt, here, refl) (runs q both.1 both.0 (is_running q) refl) in
        false≢true (sym (not_private g q p a m valid there found at shared) ∙ both.0)

    by_test : (b : Bool) → is_private g.frame.procs m.object ≡ b → b ≡ false
    by_test false e = refl
    by_test true e = absurd (by_any (any_all (λ q. maps_privately q.maps m.object ≡ true) (λ q. is_running q ≡ false → q.maps ≡ []) g.frame.procs (any_true (λ q. maps_privately q.maps m.object) g.frame.procs e) (ended_maps g valid)))

abbrev seen_in : Memory → ℕ → Option Mapping → Option Cell
seen_in memory a None = None
seen_in memory a (Some m) = Some (cell_in memory a m)

-- WHAT A CALL SEES
pub sight_of_parts : (g : Group) (pid : ℕ) (p : Proc) → GroupIsValid g → runner g pid ≡ Some p → sight g p ≡ cells_of ((part_in g p).memory ++ (public_part g).memory) p.maps
unfolding cells_of public_part
sight_of_parts g pid p valid is = fun_ext (λ a. at a (mapping_at p.maps a) refl)
  where
    not_mine : (n : ℕ) → is_private g.frame.procs n ≡ false → (b : Bool) → maps_privately p.maps n ≡ b → b ≡ false
    not_mine n none false e = refl
    not_mine n none true e = absurd (false≢true (sym none ∙ runner_private g pid p n is e))

    bytes : (a : ℕ) (m : Mapping) → mapping_at p.maps a ≡ Some m → (shared : Bool) → m.shared ≡ shared → bytes_in g.memory m.object ≡ bytes_in (private_memory g.memory p.maps ++ kept_in (is_public g.frame.procs) g.memory) m.object
    bytes a m found false kind = sym (private_first g.memory (maps_privately p.maps) (is_public g.frame.procs) m.object (found_privately p.maps a m found kind))
    bytes a m found true kind =
        let none = shared_is_public g pid p a m valid is found kind in
        sym (public_else g.memory (maps_privately p.maps) (is_public g.frame.procs) m.object (not_mine m.object none (maps_privately p.maps m.object) refl) (ap not none))

    at : (a : ℕ) (o : Option Mapping) → mapping_at p.maps a ≡ o → seen_in g.memory a o ≡ seen_in (private_memory g.memory p.maps ++ kept_in (is_public g.frame.procs) g.memory) a o
    at a None found = refl
    at a (Some m) found = ap (λ (bytes : List ℕ). Some (record { byte = slice_index bytes (object_place m a); rights = m.prot; shared = m.shared; object = m.object; place = object_place m a })) (bytes a m found m.shared refl)
