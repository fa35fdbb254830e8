-- A page taken out of a list of pages.
use Rattle.std.proofs.Common.{◌≡◌, ℕ, zero, suc, ◌+◌, ◌<◌, ◌≤◌, ◌≢◌, List, [], ◌∷◌, refl, ap, arith}
use Rattle.std.specs.List.{remove}
use Rattle.std.proofs.lemmas.List.Edits.{length-remove, get_or-remove_below, get_or-remove_above}
use Rattle.std.proofs.lemmas.Bool.Decides.{nat_tests}
use Rattle.mem_objects.specs.Pages.{Pages, page_of, page_number_at, PageNumbersRise, IsAt}
use Rattle.shadow_chains.specs.Own.{SameBut}

is_at_tail : (x : ℕ × List ℕ) (l : Pages) (k i : ℕ) → IsAt (x ∷ l) k (suc i) → IsAt l k i
is_at_tail x l k i is_at = record { in_range = omega (arith, is_at.in_range); has_number = is_at.has_number }

page_remove : (l : Pages) (k i : ℕ) → IsAt l k i → (q : ℕ) → q ≢ k → page_of (remove l i) q ≡ page_of l q
page_remove [] k i is_at q differs = absurd (omega (arith, is_at.in_range))
page_remove (x ∷ l) k zero is_at q differs = grind (arith, nat_tests, is_at.has_number)
page_remove (x ∷ l) k (suc i) is_at q differs = grind (arith, nat_tests, page_remove l k i (is_at_tail x l k i is_at) q differs)

module _ (l : Pages) (k at : ℕ) (is_at : IsAt l k at) where
  pub same_remove : SameBut k l (remove l at)
  unfolding SameBut
  same_remove q differs = page_remove l k at is_at q differs

  pub rise_remove : PageNumbersRise l → PageNumbersRise (remove l at)
  unfolding PageNumbersRise
  rise_remove sorted i j lt in_range =
      let new = remove l at in
      let key = λ (x : ℕ × List ℕ). x.0 in
      let length_new = length-remove l at is_at.in_range in
      let key_below : (i : ℕ) → i < at → page_number_at new i ≡ page_number_at l i = λ i below. ap key (get_or-remove_below l at (0, []) i below is_at.in_range) in
      let key_above : (i : ℕ) → at ≤ i → page_number_at new i ≡ page_number_at l (i + 1) = λ i above. ap key (get_or-remove_above l at (0, []) i above is_at.in_range) in
      grind (arith, key_below i, key_above i, key_below j, key_above j, sorted i j, sorted i (j + 1), sorted (i + 1) (j + 1))

pub same_but_itself : (k : ℕ) (l : Pages) → SameBut k l l
unfolding SameBut
same_but_itself k l q differs = refl
