-- The origin of an image's first group is a new disk's.
use Rattle.std.proofs.Common.{◌≡◌, ℕ, ◌≤◌, List, [], ◌∷◌, length, map, sym, ap, ◌∙◌, subst}
use Rattle.group_defs.specs.declared.frame.Frame.{Frame}
use Rattle.lists.specs.Bytes.{AreBytes}
use Rattle.mem_objects.specs.Pages.{Pages}
use Rattle.ckpt_chain.specs.declared.slot.Slot.TheVariants.{B}
use Rattle.ckpt_records.specs.declared.origin.Origin.{Origin}
use Rattle.ckpt_records.specs.Holds.{IsCheckpointed}
use Rattle.ckpt_records.specs.Parts.{memory_of}
use Rattle.ckpt_records.specs.Origin.{IsNewOrigin}
use Rattle.group_boot.specs.Flat.{flat_group}
use Rattle.group_boot.proofs.FlatValid.{first_checkpointed}

-- the parts' group, from the frame and the bytes of its objects
pub group_is : (image : List ℕ) (f : Frame) (layers : List (ℕ × Pages)) → f ≡ (flat_group image).frame → memory_of (flat_group image).frame.objects layers ≡ (flat_group image).memory
    → record { frame = f; memory = memory_of f.objects layers } ≡ flat_group image
group_is image f layers frame memory =
    ap (λ (x : Frame). record { frame = x; memory = memory_of x.objects layers }) frame
    ∙ ap (λ (m : List (ℕ × List ℕ)). record { frame = (flat_group image).frame; memory = m }) memory

pub origin_new : (image : List ℕ) (o : Origin) → 1 ≤ length image → length image ≤ 16777216 → AreBytes image
    → o.parts.frame ≡ (flat_group image).frame → map (λ (l : ℕ × Pages). l.0) o.parts.layers ≡ 0 ∷ 1 ∷ [] → memory_of (flat_group image).frame.objects o.parts.layers ≡ (flat_group image).memory
    → o.epoch ≡ 0 → o.placement.pages ≡ [] → o.placement.metas ≡ [] → o.placement.slot ≡ B → IsNewOrigin o
origin_new image o some few bytes frame numbers memory epoch pages metas slot = record {
  epoch = epoch;
  layers = numbers ∙ ap (λ (f : Frame). map (λ x. x.number) f.objects) (sym frame);
  group = subst IsCheckpointed (sym (group_is image o.parts.frame o.parts.layers frame memory)) (first_checkpointed image some few bytes);
  no_output = ap (λ (f : Frame). f.out.bytes) frame;
  no_pages = pages;
  no_metas = metas;
  slot = slot;
}
