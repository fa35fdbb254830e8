-- What a stop leaves at each part of a commit is what it may leave during the commit.
use Rattle.std.proofs.Common.{◌≡◌, ◌⊎◌, ◌↔◌, inl, inr, ℕ, ◌+◌, ◌*◌, ◌≤◌, Bool, List, [], ◌∷◌, length, Option, Some, ◌∙◌, ap, subst, slice_index, IsTrue}
use Rattle.std.specs.List.{AllByRecursion}
use Rattle.std.specs.Option.{ForSome, option_map}
use Rattle.lists.specs.Bytes.{put, SameOutside}
use Rattle.ckpt_chain.specs.Slot.{gate_place, body_bytes}
use Rattle.ckpt_chain.specs.declared.slot.Slot.{Slot}
use Rattle.ckpt_chain.specs.declared.slot.SlotBody.{SlotBody}
use Rattle.commit_gate.specs.Commit.{IsBeforeLaid, IsTornAt}
use Rattle.commit_gate.specs.Whole.{IsDataBlock, numbers, laid_on, finished, IsBeforeBodied, IsBeforeOpened, IsDuring}
use Rattle.commit_gate.specs.Phases.{IsSlotOpening}
use Rattle.commit_gate.specs.declared.whole.Block.{Block}
use Rattle.commit_gate.specs.ImageLaws.{laid_finished}

module _ (target : Slot) (close : Bool) (blocks : List Block) (body : SlotBody) (start : Option (List ℕ)) where
  pub during_early : (image : List ℕ) → IsBeforeLaid start target close (numbers blocks) image → IsDuring target close blocks body start image
  during_early image before r is = inl (before r is)

  -- the steps after the blocks are laid
  module _ (laid : Option (List ℕ)) (slot : Slot) (at : laid ≡ option_map (laid_on target close blocks) start) (same : slot ≡ target) where
    reads : (r : List ℕ) → start ≡ Some r → laid ≡ Some (laid_on target close blocks r)
    reads r is = at ∙ ap (option_map (laid_on target close blocks)) is

    pub body_step : (image : List ℕ) → IsTornAt (gate_place slot + 8) 32 laid image → ForSome start (λ r. IsBeforeBodied target close blocks r image)
    body_step image torn r is = subst (λ (t : Slot). SameOutside ((gate_place t + 8, 32) ∷ []) (laid_on target close blocks r) image) same (torn (laid_on target close blocks r) (reads r is))

    pub gate_step : (image : List ℕ) → IsTornAt (gate_place slot) 1 (option_map (λ r. put r (gate_place slot + 8) (body_bytes body)) laid) image
        → ForSome start (λ r. IsBeforeOpened target close blocks body r image)
    gate_step image torn r is =
        let q = laid_on target close blocks r in
        subst (λ (t : Slot). SameOutside ((gate_place t, 1) ∷ []) (put q (gate_place t + 8) (body_bytes body)) image) same
        (torn (put q (gate_place slot + 8) (body_bytes body)) (ap (option_map (λ r. put r (gate_place slot + 8) (body_bytes body))) (reads r is)))

    pub opening_steps : (image : List ℕ) → IsSlotOpening slot body laid image → ForSome start (λ r. IsBeforeBodied target close blocks r image ⊎ IsBeforeOpened target close blocks body r image)
    opening_steps image (inl torn) r is = inl (body_step image torn r is)
    opening_steps image (inr torn) r is = inr (gate_step image torn r is)

    pub during_opening : (image : List ℕ) → IsSlotOpening slot body laid image → IsDuring target close blocks body start image
    during_opening image opening r is = inr (opening_steps image opening r is)

  module _ (count : ℕ) (placed : AllByRecursion (IsDataBlock count) blocks) (least : 16 ≤ count) (size : ForSome start (λ r. length r ≡ 4096 * count)) (gate : ForSome start (λ r. IsTrue close ↔ (slice_index r (gate_place target) ≡ 1))) where
    pub finishes : (slot : Slot) → slot ≡ target → (r : List ℕ) → start ≡ Some r → finished slot [] body (laid_on target close blocks r) ≡ finished target blocks body r
    finishes slot same r is = ap (λ (t : Slot). finished t [] body (laid_on target close blocks r)) same ∙ laid_finished target close blocks body count r placed least (size r is) (gate r is)
