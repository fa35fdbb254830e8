use Rattle.std.proofs.Common.{◌≡◌, ℕ, List, ◌++◌, replicate, ap, ◌∙◌}
use borrow.Rule.Slice.PartMut.{put_mid}
use Rattle.ckpt_chain.specs.Slot.{body_bytes, slot_text, num}
use Rattle.ckpt_chain.specs.declared.slot.SlotBody.{SlotBody}
use Rattle.commit_gate.proofs.states.bytes_of.Goals as goal

-- the four parts, one after another
abbrev parts : List ℕ → List ℕ → List ℕ → List ℕ → List ℕ
parts a b c d = put_mid 24 8 (put_mid 16 8 (put_mid 8 8 (a ++ replicate 24 0) b) c) d

whole : (body : SlotBody) (a b c d : List ℕ) → a ≡ slot_text body.format → b ≡ num body.epoch → c ≡ num body.first → d ≡ num body.length → parts a b c d ≡ body_bytes body
unfolding body_bytes
whole body a b c d ea eb ec ed =
    ap (λ (l : List ℕ). parts l b c d) ea
    ∙ ap (λ (l : List ℕ). parts (slot_text body.format) l c d) eb
    ∙ ap (λ (l : List ℕ). parts (slot_text body.format) (num body.epoch) l d) ec
    ∙ ap (λ (l : List ℕ). parts (slot_text body.format) (num body.epoch) (num body.first) l) ed

pub returns : goal.returns
returns c =
    whole c.args.body _ _ _ _ (c.copy_from_slice.ensures.after ∙ c.slot_text.ensures) (c.copy_from_slice-2.ensures.after ∙ c.to_le_bytes.ensures) (c.copy_from_slice-3.ensures.after ∙ c.to_le_bytes-2.ensures) (c.copy_from_slice-4.ensures.after ∙ c.to_le_bytes-3.ensures)
