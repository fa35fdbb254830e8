-- The pages that local steps touch are of objects that are mapped privately.
use Rattle.std.proofs.Common.{Bool, List, None, Option, Some, [], ap, false, refl, suc, sym, true, zero, ℕ, ◌&&◌, ◌+◌, ◌++◌, ◌/◌, ◌==◌, ◌||◌, ◌∙◌, ◌∷◌, ◌≡◌}
use Rattle.std.proofs.lemmas.Bool.{eqb-true, false≢true}
use Rattle.std.proofs.lemmas.List.Folds.{list_any-append}
use Rattle.address_maps.specs.Mappings.{mapping_at}
use Rattle.address_maps.specs.declared.maps.Mapping.{Mapping}
use Rattle.group_defs.specs.Cells.{object_place}
use Rattle.group_defs.specs.Fork.{maps_privately}
use Rattle.group_defs.specs.Pages.{is_among, page_at, pages_at, pages_of_writes}
use Rattle.group_laws.proofs.LocalStores.{StoresOwn, instruction_own}
use Rattle.group_parts.proofs.LocalSteps.{maps_stay, owned_of}
use Rattle.group_parts.proofs.Memory.{EachAt, EachOf}
use Rattle.group_parts.specs.Local.{steps_of_part, pages_of_step, pages_of_steps, part_effect, writes_of_effect}
use Rattle.group_parts.specs.Parts.{PrivatePart}
use Rattle.rv64_isa.specs.Instruction.{Effect, calls, steps, traps}
use Rattle.rv64_isa.specs.Memory.{Write}
use Rattle.rv64_isa.specs.Numbers.{wrapped}

joined : (xs ys : List (ℕ × ℕ)) (page : ℕ × ℕ) → is_among xs page ≡ false → is_among ys page ≡ false → is_among (xs ++ ys) page ≡ false
joined xs ys page e f = list_any-append (λ (x : ℕ × ℕ). (x.0 == page.0) && (x.1 == page.1)) xs ys ∙ ap (λ (b : Bool). b || is_among ys page) e ∙ f

module _ (maps : List Mapping) (object page : ℕ) (none : maps_privately maps object ≡ false) where
  bytes_elsewhere : (a : ℕ) (bytes : List ℕ) → EachAt (maps_privately maps) maps a bytes → is_among (pages_at maps a bytes) (object, page) ≡ false
  unfolding pages_at
  bytes_elsewhere a [] each = refl
  bytes_elsewhere a (b ∷ bs) each = joined (page_at maps (wrapped a)) (pages_at maps (a + 1) bs) (object, page) (by_mapping (mapping_at maps (wrapped a)) each.0) (bytes_elsewhere (a + 1) bs each.1)
    where
      another : (m : Mapping) → maps_privately maps m.object ≡ true → (t : Bool) → (m.object == object) ≡ t → t ≡ false
      another m own false e = refl
      another m own true e = absurd (false≢true (sym none ∙ ap (maps_privately maps) (sym (eqb-true m.object object e)) ∙ own))

      by_mapping : (o : Option Mapping) → ((m : Mapping) → o ≡ Some m → maps_privately maps m.object ≡ true) → is_among (elim o [ None ↦ [] | Some m ↦ (m.object, object_place m (wrapped a) / 4096) ∷ [] ]) (object, page) ≡ false
      by_mapping None own = refl
      by_mapping (Some m) own = ap (λ (t : Bool). (t && (object_place m (wrapped a) / 4096 == page)) || false) (another m (own m refl) (m.object == object) refl)

  writes_elsewhere : (writes : List Write) → EachOf (maps_privately maps) maps writes → is_among (pages_of_writes maps writes) (object, page) ≡ false
  writes_elsewhere [] each = refl
  writes_elsewhere (w ∷ ws) each = joined (pages_at maps w.address w.bytes) (pages_of_writes maps ws) (object, page) (bytes_elsewhere w.address w.bytes each.0) (writes_elsewhere ws each.1)

  effect_elsewhere : (e : Effect) → StoresOwn maps e → is_among (pages_of_writes maps (writes_of_effect e)) (object, page) ≡ false
  effect_elsewhere (steps r stored) own = writes_elsewhere _ (owned_of maps r stored own)
  effect_elsewhere calls own = refl
  effect_elsewhere (traps status) own = refl

pub steps_touch_own : (part : PrivatePart) (n object page : ℕ) → maps_privately part.maps object ≡ false → is_among (pages_of_steps part n) (object, page) ≡ false
unfolding pages_of_steps pages_of_step
steps_touch_own part zero object page none = refl
steps_touch_own part (suc n) object page none =
    let at : PrivatePart = steps_of_part part n in
    joined (pages_of_steps part n) (pages_of_step (steps_of_part part n)) (object, page) (steps_touch_own part n object page none)
    (effect_elsewhere at.maps object page (ap (λ (l : List Mapping). maps_privately l object) (maps_stay part n) ∙ none) (part_effect at) (instruction_own at.memory at.maps at.regs))
