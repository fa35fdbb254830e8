use Rattle.std.proofs.Common.{◌≡◌, ℕ, slice_index, [], ◌∷◌, ◌∙◌, ap}
use Rattle.ckpt_chain.specs.Slot.{open_body, newer}
use Rattle.ckpt_chain.proofs.SlotLaws.{gate, read, newest_epoch, newest_format}
use Rattle.ckpt_chain.proofs.slot.read_slots.Goals as goal

pub returns-clause-newest : goal.returns-clause-newest
returns-clause-newest g c = λ image told.
    let a : c.read_slot.result ≡ open_body image 0 = c.read_slot.ensures.body ∙ ap (λ x. open_body x 0) (c.in_ok-a.ensures.bytes image told) ∙ read image 0 in
    let b : c.read_slot-2.result ≡ open_body image 4096 = c.read_slot-2.ensures.body ∙ ap (λ x. open_body x 0) (c.in_ok-b.ensures.bytes image (c.in_ok-a.ensures.disk.reading ∙ told)) ∙ read image 1 in
    c.open_slot.ensures ∙ ap (λ x. newer x c.read_slot-2.result) a ∙ ap (newer (open_body image 0)) b

pub returns-clause-gates : goal.returns-clause-gates
returns-clause-gates g c = λ image told.
    let a : slice_index c.in_ok-a.a 0 ≡ slice_index image 0 = ap (λ x. slice_index x 0) (c.in_ok-a.ensures.bytes image told) ∙ gate image 0 in
    let b : slice_index c.in_ok-b.b 0 ≡ slice_index image 4096 = ap (λ x. slice_index x 0) (c.in_ok-b.ensures.bytes image (c.in_ok-a.ensures.disk.reading ∙ told)) ∙ gate image 1 in
    ap (λ (n : ℕ). n ∷ slice_index c.in_ok-b.b 0 ∷ []) a ∙ ap (λ (n : ℕ). slice_index image 0 ∷ n ∷ []) b

pub returns-clause-epoch : goal.returns-clause-epoch
returns-clause-epoch g c = rw (c.open_slot.ensures, c.read_slot.ensures.body, c.read_slot-2.ensures.body) (newest_epoch c.in_ok-a.a c.in_ok-b.b)

pub returns-clause-format : goal.returns-clause-format
returns-clause-format g c = rw (c.open_slot.ensures, c.read_slot.ensures.body, c.read_slot-2.ensures.body) (newest_format c.in_ok-a.a c.in_ok-b.b)
