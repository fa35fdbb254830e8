use Rattle.std.proofs.Common.{◌≡◌, ◌+◌, ◌-◌, ◌++◌, ◌≤◌, ℕ, List, length, take, drop, replicate, ap, ◌∙◌, arith, length-drop, length-take}
use Rattle.std.proofs.lemmas.List.{drop-drop, length-replicate}
use Rattle.lists.specs.Bytes.{put}
use Rattle.dev_traits.proofs.mem.record.paint.Goals as goal

whole : (old : List ℕ) (place size byte : ℕ) (new : List ℕ) → place + size ≤ length old → new ≡ replicate (length (take (place + size - place) (drop place old))) byte
    → take place old ++ (new ++ drop (place + size - place) (drop place old)) ≡ put old place (replicate size byte)
unfolding put
whole old place size byte new le is =
    let n : length (take (place + size - place) (drop place old)) ≡ size = omega (arith, length-take (place + size - place) (drop place old), length-drop place old) in
    let at : place + (place + size - place) ≡ place + length (replicate size byte) = omega (arith, length-replicate size byte) in
    ap (λ (l : List ℕ). take place old ++ (l ++ drop (place + size - place) (drop place old))) (is ∙ ap (λ (k : ℕ). replicate k byte) n)
    ∙ ap (λ (l : List ℕ). take place old ++ (replicate size byte ++ l)) (drop-drop (place + size - place) place old ∙ ap (λ (k : ℕ). drop k old) at)

pub returns : goal.returns
returns c = whole c.args.old.now c.args.place c.args.size c.args.byte c.fill.new.self c.requires (c.fill.ensures.after (λ y same. same))
