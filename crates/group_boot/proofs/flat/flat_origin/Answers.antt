use Rattle.std.proofs.Common.{◌≡◌, List, ℕ, refl, ap, ◌∙◌, subst}
use Rattle.lists.specs.Bytes.{AreBytes}
use Rattle.ckpt_records.specs.Parts.{memory_of}
use Rattle.group_boot.specs.Flat.{flat_group}
use Rattle.group_boot.proofs.FirstOrigin.{group_is, origin_new}
use Rattle.group_boot.proofs.flat.flat_origin.Goals as goal

pub returns-clause-group : goal.returns-clause-group
returns-clause-group c =
    group_is c.args.image.items c.in_ok-frame.frame c.in_ok-layers.layers
    (c.in_ok-frame.ensures ∙ ap (λ (l : List ℕ). (flat_group l).frame) c.deref-2.ensures.value)
    (subst (λ (l : List ℕ). memory_of (flat_group l).frame.objects c.in_ok-layers.layers ≡ (flat_group l).memory) c.deref-3.ensures.value c.in_ok-layers.ensures.memory)

pub returns-clause-new : goal.returns-clause-new
returns-clause-new c =
    origin_new c.args.image.items _ c.requires.0 c.requires.1 (subst (λ (l : List ℕ). AreBytes l) c.deref.ensures.value c.bytes_fit.ensures)
    (c.in_ok-frame.ensures ∙ ap (λ (l : List ℕ). (flat_group l).frame) c.deref-2.ensures.value)
    c.in_ok-layers.ensures.numbers
    (subst (λ (l : List ℕ). memory_of (flat_group l).frame.objects c.in_ok-layers.layers ≡ (flat_group l).memory) c.deref-3.ensures.value c.in_ok-layers.ensures.memory)
    refl c.new.ensures c.new-2.ensures refl
