use Rattle.std.proofs.Common.{◌≡◌, ◌++◌, ◌∷◌, ◌∙◌, ap, sym, refl, [], drop, List}
use Rattle.mem_objects.specs.Pages.{Pages}
use Rattle.std.proofs.lemmas.Grind.{common_steps}
use Rattle.std.proofs.Common.{arith}
use Rattle.shadow_chains.specs.Chain.{flat, page_set}
use Rattle.shadow_chains.proofs.Flat.{set_none}
use Rattle.shadow_chains.proofs.Faces.{empty_flat, empty_set}
use Rattle.shadow_chains.proofs.face.Face.of.Goals as goal

pub returns-clause-bytes : goal.returns-clause-bytes
returns-clause-bytes c =
    let e : c.push.new.self ≡ c.args.layer ∷ [] = grind (arith, common_steps) in
    empty_flat c.push.new.self c.new.result.pages c.args.pages c.new.ensures.pages ∙ ap (λ (l : List Pages). flat l c.args.pages) e

pub returns-clause-touched : goal.returns-clause-touched
returns-clause-touched c =
    let e : c.push.new.self ≡ c.args.layer ∷ [] = grind (arith, common_steps) in
    ap (λ (l : List Pages). page_set (drop 1 l ++ c.new.result.pages ∷ []) c.args.pages) e ∙ empty_set [] c.new.result.pages c.args.pages c.new.ensures.pages ∙ sym (set_none [] c.args.pages (λ p. refl))
