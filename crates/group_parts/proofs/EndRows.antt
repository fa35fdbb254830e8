-- The rows of a group's processes when one ends.
use Rattle.std.proofs.Common.{Bool, List, None, Option, Some, [], ap, false, map, not, refl, subst, sym, true, ℕ, ◌&&◌, ◌==◌, ◌||◌, ◌∙◌, ◌∷◌, ◌≡◌}
use Rattle.std.proofs.Math.Bool.{and-false, and-true}
use Rattle.std.proofs.lemmas.Bool.{false≢true, or_parts}
use Rattle.std.proofs.lemmas.List.Elements.{All-head, All-tail}
use Rattle.std.specs.List.{cons_option, filter_map, list_any}
use Rattle.std.specs.Prelude.{All, find, if◌then◌else◌}
use Rattle.address_maps.specs.declared.maps.Mapping.{Mapping}
use Rattle.group_defs.specs.Family.{after_end, ended_process}
use Rattle.group_defs.specs.Fork.{maps_privately}
use Rattle.group_defs.specs.Group.{is_runner, is_running}
use Rattle.group_defs.specs.Held.{is_at}
use Rattle.group_defs.specs.Objects.{maps_object}
use Rattle.group_defs.specs.declared.frame.Proc.{Proc}
use Rattle.group_parts.specs.Parts.{is_private, public_process, shared_mappings}

module _ (p : Proc) (status : ℕ) where
  abbrev left : List Proc → List Proc
  left procs = filter_map (after_end p status) procs

  -- the end sees rows alone
  end_same : (y w : Proc) (d : Bool) → w ≡ (if d then record y { pc = 0; regs = []; maps = shared_mappings y.maps } else y)
      → after_end p status w ≡ (if is_runner p.pid y then (if p.parent == 0 then None else Some (ended_process p status)) else if y.parent == p.pid then (if is_running y then Some (record w { parent = 0 }) else None) else Some w)
  end_same y w true e =
      let P : Proc → Type 0 = λ x. after_end p status x ≡ (if is_runner p.pid y then (if p.parent == 0 then None else Some (ended_process p status)) else if y.parent == p.pid then (if is_running y then Some (record x { parent = 0 }) else None) else Some x) in
      subst P (sym e) refl
  end_same y w false e =
      let P : Proc → Type 0 = λ x. after_end p status x ≡ (if is_runner p.pid y then (if p.parent == 0 then None else Some (ended_process p status)) else if y.parent == p.pid then (if is_running y then Some (record x { parent = 0 }) else None) else Some x) in
      subst P (sym e) refl

  pub rows_same : (procs : List Proc) → map public_process (left procs) ≡ left (map public_process procs)
  rows_same [] = refl
  rows_same (y ∷ ys) =
      cases (is_runner p.pid y) (p.parent == 0) (y.parent == p.pid) (is_running y) refl (rows_same ys)
      ∙ ap (λ (o : Option Proc). cons_option o (left (map public_process ys))) (sym (end_same y (public_process y) (is_running y) refl))
    where
      orphan : is_running y ≡ true → public_process (record y { parent = 0 }) ≡ record (public_process y) { parent = 0 }
      orphan e =
          ap (λ (t : Bool). if t then record y { parent = 0; pc = 0; regs = []; maps = shared_mappings y.maps } else record y { parent = 0 }) e
          ∙ sym (ap (λ (t : Bool). let w : Proc = if t then record y { pc = 0; regs = []; maps = shared_mappings y.maps } else y in record w { parent = 0 }) e)

      cases : (a b c d : Bool) → is_running y ≡ d → map public_process (filter_map (after_end p status) ys) ≡ filter_map (after_end p status) (map public_process ys)
          → map public_process (cons_option (if a then (if b then None else Some (ended_process p status)) else if c then (if d then Some (record y { parent = 0 }) else None) else Some y) (filter_map (after_end p status) ys))
          ≡ cons_option (if a then (if b then None else Some (ended_process p status)) else if c then (if d then Some (record (public_process y) { parent = 0 }) else None) else Some (public_process y)) (filter_map (after_end p status) (map public_process ys))
      cases true true c d e ih = ih
      cases true false c d e ih = ap (λ (l : List Proc). ended_process p status ∷ l) ih
      cases false b true true e ih = ap (λ (x : Proc). x ∷ map public_process (filter_map (after_end p status) ys)) (orphan e) ∙ ap (λ (l : List Proc). record (public_process y) { parent = 0 } ∷ l) ih
      cases false b true false e ih = ih
      cases false b false d e ih = ap (λ (l : List Proc). public_process y ∷ l) ih

  abbrev any : (List Mapping → Bool) → List Proc → Bool
  any test procs = list_any (λ q. test q.maps) procs

  abbrev others : (List Mapping → Bool) → List Proc → Bool
  others test procs = list_any (λ q. test q.maps && not (is_runner p.pid q)) procs

  -- What is mapped after the end, by a test that no empty list of mappings passes: what another process than p maps.
  pub any_left : (test : List Mapping → Bool) → test [] ≡ false → (procs : List Proc) → All (λ q. is_running q ≡ false → q.maps ≡ []) procs → list_any (λ q. test q.maps) (left procs) ≡ list_any (λ q. test q.maps && not (is_runner p.pid q)) procs
  any_left test none [] ended = refl
  any_left test none (y ∷ ys) ended = cases (is_runner p.pid y) (p.parent == 0) (y.parent == p.pid) (is_running y) refl refl (any_left test none ys (All-tail (λ q. is_running q ≡ false → q.maps ≡ []) y ys ended))
    where
      gone : is_running y ≡ false → (b : Bool) → (test y.maps && b) ≡ false
      gone e b = ap (λ (l : List Mapping). test l && b) (All-head (λ q. is_running q ≡ false → q.maps ≡ []) y ys ended e) ∙ ap (λ (t : Bool). t && b) none

      cases : (a b c d : Bool) → is_runner p.pid y ≡ a → is_running y ≡ d → any test (filter_map (after_end p status) ys) ≡ others test ys
          → any test (cons_option (if a then (if b then None else Some (ended_process p status)) else if c then (if d then Some (record y { parent = 0 }) else None) else Some y) (filter_map (after_end p status) ys)) ≡ ((test y.maps && not a) || others test ys)
      cases true true c d e f ih = ih ∙ sym (ap (λ (t : Bool). t || others test ys) (and-false (test y.maps)))
      cases true false c d e f ih = ap (λ (t : Bool). t || any test (filter_map (after_end p status) ys)) none ∙ ih ∙ sym (ap (λ (t : Bool). t || others test ys) (and-false (test y.maps)))
      cases false b true true e f ih = ap (λ (t : Bool). test y.maps || t) ih ∙ sym (ap (λ (t : Bool). t || others test ys) (and-true (test y.maps)))
      cases false b true false e f ih = ih ∙ sym (ap (λ (t : Bool). t || others test ys) (gone f true))
      cases false b false d e f ih = ap (λ (t : Bool). test y.maps || t) ih ∙ sym (ap (λ (t : Bool). t || others test ys) (and-true (test y.maps)))

  -- nobody runs under p's pid
  pub none_runs : (procs : List Proc) → find (is_runner p.pid) (left procs) ≡ None
  none_runs [] = refl
  none_runs (y ∷ ys) = cases (is_runner p.pid y) (p.parent == 0) (y.parent == p.pid) (is_running y) refl (none_runs ys)
    where
      cases : (a b c d : Bool) → is_runner p.pid y ≡ a → find (is_runner p.pid) (filter_map (after_end p status) ys) ≡ None
          → find (is_runner p.pid) (cons_option (if a then (if b then None else Some (ended_process p status)) else if c then (if d then Some (record y { parent = 0 }) else None) else Some y) (filter_map (after_end p status) ys)) ≡ None
      cases true true c d e ih = ih
      cases true false c d e ih = ih
      cases false b true true e ih = ap (λ (t : Bool). if t then Some (record y { parent = 0 }) else find (is_runner p.pid) (filter_map (after_end p status) ys)) e ∙ ih
      cases false b true false e ih = ih
      cases false b false d e ih = ap (λ (t : Bool). if t then Some y else find (is_runner p.pid) (filter_map (after_end p status) ys)) e ∙ ih

-- descriptors stand in the rows
pub rows_at : (procs : List Proc) (n : ℕ) → list_any (is_at n) (map public_process procs) ≡ list_any (is_at n) procs
rows_at [] n = refl
rows_at (y ∷ ys) n = ap (λ (b : Bool). b || list_any (is_at n) (map public_process ys)) (by_running (is_running y)) ∙ ap (λ (b : Bool). is_at n y || b) (rows_at ys n)
  where
    by_running : (b : Bool) → is_at n (if b then record y { pc = 0; regs = []; maps = shared_mappings y.maps } else y) ≡ is_at n y
    by_running true = refl
    by_running false = refl

-- An object that nobody maps privately is mapped in the rows where it is mapped; and one that isn't mapped isn't there.
shared_maps : (maps : List Mapping) (n : ℕ) → maps_privately maps n ≡ false → list_any (λ m. m.object == n) (shared_mappings maps) ≡ list_any (λ m. m.object == n) maps
shared_maps [] n none = refl
shared_maps (m ∷ ms) n none = by_both (m.object == n) m.shared refl none (shared_maps ms n)
  where
    by_both : (a b : Bool) → (m.object == n) ≡ a → ((a && not b) || maps_privately ms n) ≡ false → (maps_privately ms n ≡ false → list_any (λ x. x.object == n) (shared_mappings ms) ≡ list_any (λ x. x.object == n) ms)
        → list_any (λ x. x.object == n) (if b then m ∷ shared_mappings ms else shared_mappings ms) ≡ (a || list_any (λ x. x.object == n) ms)
    by_both true true h none ih = ap (λ (t : Bool). t || list_any (λ x. x.object == n) (shared_mappings ms)) h
    by_both true false h none ih = absurd (false≢true (sym none))
    by_both false true h none ih = ap (λ (t : Bool). t || list_any (λ x. x.object == n) (shared_mappings ms)) h ∙ ih none
    by_both false false h none ih = ih none

pub rows_map : (procs : List Proc) (n : ℕ) → is_private procs n ≡ false → list_any (maps_object n) (map public_process procs) ≡ list_any (maps_object n) procs
unfolding maps_object
rows_map [] n none = refl
rows_map (y ∷ ys) n none =
    let parts = or_parts (maps_privately y.maps n) (is_private ys n) none in
    ap (λ (b : Bool). b || list_any (maps_object n) (map public_process ys)) (by_running parts.0 (is_running y)) ∙ ap (λ (b : Bool). maps_object n y || b) (rows_map ys n parts.1)
  where
    by_running : maps_privately y.maps n ≡ false → (b : Bool) → list_any (λ m. m.object == n) (let w : Proc = if b then record y { pc = 0; regs = []; maps = shared_mappings y.maps } else y in w.maps) ≡ list_any (λ m. m.object == n) y.maps
    by_running none true = shared_maps y.maps n none
    by_running none false = refl

pub unmapped_private : (maps : List Mapping) (n : ℕ) → list_any (λ m. m.object == n) maps ≡ false → maps_privately maps n ≡ false
unmapped_private [] n none = refl
unmapped_private (m ∷ ms) n none =
    let parts = or_parts (m.object == n) (list_any (λ x. x.object == n) ms) none in
    ap (λ (b : Bool). (b && not m.shared) || maps_privately ms n) parts.0 ∙ unmapped_private ms n parts.1

pub unmapped_all : (procs : List Proc) (n : ℕ) → list_any (maps_object n) procs ≡ false → is_private procs n ≡ false
unfolding maps_object
unmapped_all [] n none = refl
unmapped_all (y ∷ ys) n none =
    let parts = or_parts (maps_object n y) (list_any (maps_object n) ys) none in
    ap (λ (b : Bool). b || is_private ys n) (unmapped_private y.maps n parts.0) ∙ unmapped_all ys n parts.1
