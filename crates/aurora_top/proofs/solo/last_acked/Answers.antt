use Rattle.std.proofs.Common.{◌≡◌, ℕ, ◌-◌, ◌≤◌, List, [], ◌∷◌, suc, length, get_or, refl, ap, ◌∙◌, arith}
use Rattle.run_defs.specs.declared.run.AckMark.{AckMark}
use Rattle.aurora_top.specs.Ending.{last_epoch}
use Rattle.aurora_top.proofs.solo.last_acked.Goals as goal

last_is : (d : AckMark) (epoch : ℕ) (acks : List AckMark) → 1 ≤ length acks → (get_or acks (length acks - 1) d).epoch ≡ last_epoch epoch acks
last_is d epoch [] some = absurd (omega (arith, some))
last_is d epoch (a ∷ []) some = refl
last_is d epoch (a ∷ b ∷ acks) some =
    let one : length (a ∷ b ∷ acks) - 1 ≡ suc (length (b ∷ acks) - 1) = omega arith in
    ap (λ (n : ℕ). (get_or (a ∷ b ∷ acks) n d).epoch) one ∙ last_is d a.epoch (b ∷ acks) (omega arith)

pub returns-in-len1-up : goal.returns-in-len1-up
returns-in-len1-up c = last_is _ c.args.origin_epoch c.args.acks.now c.in-len1-up.len_at_least
