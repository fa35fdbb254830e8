use Rattle.std.proofs.Common.{ℕ, List, [], ◌∷◌, ◌++◌, ◌≡◌, ◌∙◌, ap, sym, subst₂, Vec, Global}
use Rattle.address_maps.specs.declared.maps.Mapping.{Mapping}
use Rattle.flat_kernel.specs.Memory.{TableFits, memory_in}
use Rattle.flat_tests.proofs.TurnSample.{map_0, sample_fits}
use Rattle.flat_tests.proofs.tests.turns.memory.Goals as goal

pub of-requires-2 : goal.of-requires-2
of-requires-2 c =
    let page = c.in_ok-page.field-0 in
    let objects : c.push.new.self.items ≡ (0, page) ∷ [] = c.in_ok-push.ensures.items ∙ ap (λ (l : List (ℕ × Vec ℕ Global)). l ++ (0, page) ∷ []) c.new-objects.ensures.items in
    let maps : c.of.result ≡ map_0 ∷ [] = c.of.ensures ∙ c.in_ok-from_slice.ensures.items in
    subst₂ (λ (m : List (ℕ × List ℕ)) (l : List Mapping). TableFits m l) (sym (ap memory_in objects)) (sym maps) (sample_fits page.items c.in_ok-page.ensures.size c.in_ok-page.ensures.bytes)
