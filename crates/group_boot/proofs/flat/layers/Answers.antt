use Rattle.std.proofs.Common.{◌≡◌, List, ℕ, [], ◌∷◌, ◌++◌, ap, ◌∙◌}
use Rattle.mem_objects.specs.Pages.{Pages}
use Rattle.ckpt_records.specs.Parts.{memory_of}
use Rattle.group_boot.specs.Flat.{flat_group}
use Rattle.group_boot.proofs.ImagePages.{memory_is}
use Rattle.group_boot.proofs.flat.layers.Goals as goal

pub returns-clause-memory : goal.returns-clause-memory
returns-clause-memory c =
    let layer : Pages = c.in_ok-image_layer.field-0 in
    let first : c.push.new.self ≡ (0, layer) ∷ [] = c.in_ok-push.ensures.ok ∙ ap (λ (l : List (ℕ × Pages)). l ++ (0, layer) ∷ []) c.new-layers.ensures in
    let both : c.push-2.new.self ≡ (0, layer) ∷ (1, []) ∷ [] =
    c.in_ok-push-2.ensures.ok ∙ ap (λ (l : List (ℕ × Pages)). l ++ (1, c.new.result) ∷ []) first ∙ ap (λ (l : Pages). (0, layer) ∷ (1, l) ∷ []) c.new.ensures in
    ap (memory_of (flat_group c.args.image.now).frame.objects) both ∙ memory_is c.args.image.now layer c.in_ok-image_layer.ensures
