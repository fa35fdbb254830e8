-- The mappings stay through local steps.
use Rattle.std.proofs.Common.{◌≡◌, ℕ, zero, suc, List, Some, None, refl, sym, ap, ◌∙◌, subst}
use Rattle.rv64_isa.specs.declared.regs.Regs.{Regs}
use Rattle.rv64_isa.specs.Instruction.{Effect, steps, calls, traps, instruction}
use Rattle.rv64_isa.specs.Memory.{Cells}
use Rattle.address_maps.specs.declared.maps.Mapping.{Mapping}
use Rattle.rv64_core.specs.Step.{after_landing}
use Rattle.rv64_core.specs.Steps.{AreAfterSteps}
use Rattle.proc_lease.specs.Private.{ObjectView, private_in, stored_into}
use Rattle.proc_lease.specs.Running.{AreAfterLocalSteps}

abbrev landed : List ObjectView × List Mapping → ℕ → List ℕ → List ObjectView × List Mapping
landed t address bytes = (stored_into t.0 t.1 address bytes, t.1)

one_keeps : (e : Effect) (t : List ObjectView × List Mapping) → (after_landing landed e t).1 ≡ t.1
one_keeps (steps r None) t = refl
one_keeps (steps r (Some w)) t = refl
one_keeps calls t = refl
one_keeps (traps code) t = refl

pub maps_stay : (n : ℕ) (r : Regs) (cells : Cells) (t : List ObjectView × List Mapping) (r' : Regs) (cells' : Cells) (t' : List ObjectView × List Mapping) → AreAfterSteps landed n r cells t r' cells' t' → t'.1 ≡ t.1
unfolding AreAfterSteps
maps_stay zero r cells t r' cells' t' after = ap (λ (x : List ObjectView × List Mapping). x.1) after.2
maps_stay (suc n) r cells t r' cells' t' (s, (d, (u, (before, step, land)))) =
    ap (λ (x : List ObjectView × List Mapping). x.1) land ∙ one_keeps (instruction d s) u ∙ maps_stay n r cells t s d u before

-- the steps, said with the mappings that stay
pub with_maps : (n m : ℕ) (maps maps' : List Mapping) (r : Regs) (objects : List ObjectView) (r' : Regs) (objects' : List ObjectView) → m ≡ n → AreAfterSteps landed n r (private_in objects maps) (objects, maps) r' (private_in objects' maps') (objects', maps') → AreAfterLocalSteps m maps r objects r' objects'
with_maps n m maps maps' r objects r' objects' count after =
    let same : maps' ≡ maps = maps_stay n r (private_in objects maps) (objects, maps) r' (private_in objects' maps') (objects', maps') after in
    subst (λ (k : ℕ). AreAfterLocalSteps k maps r objects r' objects') (sym count)
    (subst (λ (l : List Mapping). AreAfterSteps landed n r (private_in objects maps) (objects, maps) r' (private_in objects' l) (objects', l)) same after)
