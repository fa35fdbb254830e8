use Rattle.std.proofs.Common.{ℕ, List, [], ◌∷◌, ◌++◌, ◌≡◌, ◌∙◌, ap, sym, subst₂, Vec, Global}
use Rattle.address_maps.specs.declared.maps.Mapping.{Mapping}
use Rattle.flat_kernel.specs.Memory.{TableFits, memory_in}
use Rattle.flat_tests.proofs.MemorySample.{private, sample_maps, sample_fits}
use Rattle.flat_tests.proofs.tests.memory.sample.Goals as goal

pub of-requires : goal.of-requires
of-requires c =
    let three = c.in_ok-two_pages.field-0 in
    let seven = c.in_ok-two_pages-2.field-0 in
    let objects : c.push-2.new.self.items ≡ (3, three) ∷ (7, seven) ∷ [] =
    c.in_ok-push-2.ensures.items
    ∙ ap (λ (l : List (ℕ × Vec ℕ Global)). l ++ (7, seven) ∷ []) (c.in_ok-push.ensures.items ∙ ap (λ (l : List (ℕ × Vec ℕ Global)). l ++ (3, three) ∷ []) c.new-objects.ensures.items) in
    let maps : c.of-maps.result ≡ sample_maps =
    c.of-maps.ensures
    ∙ c.in_ok-from_slice.ensures.items
    ∙ ap (λ (m : Mapping). m ∷ c.private-2.result ∷ c.private-3.result ∷ []) c.private.ensures
    ∙ ap (λ (m : Mapping). private 4096 1 7 3 1 ∷ m ∷ c.private-3.result ∷ []) c.private-2.ensures
    ∙ ap (λ (m : Mapping). private 4096 1 7 3 1 ∷ private 8192 1 3 7 0 ∷ m ∷ []) c.private-3.ensures in
    subst₂ (λ (m : List (ℕ × List ℕ)) (l : List Mapping). TableFits m l) (sym (ap memory_in objects)) (sym maps)
    (sample_fits three.items seven.items c.in_ok-two_pages.ensures.size c.in_ok-two_pages-2.ensures.size c.in_ok-two_pages.ensures.bytes c.in_ok-two_pages-2.ensures.bytes)
