use Rattle.std.proofs.Common.{◌≡◌, ◌+◌, ◌-◌, length, take, drop, ◌++◌, arith, ap, ◌∙◌, ℕ, List}
use Rattle.std.proofs.lemmas.List.{drop-drop}
use Rattle.lists.specs.Bytes.{put}
use Rattle.dev_traits.proofs.mem.record.overlay.Goals as goal

rest : (old : List ℕ) (place n : ℕ) → drop (place + n - place) (drop place old) ≡ drop (place + n) old
rest old place n = let e : place + (place + n - place) ≡ place + n = omega arith in drop-drop (place + n - place) place old ∙ ap (λ (k : ℕ). drop k old) e

pub returns : goal.returns
unfolding put
returns c =
    ap (λ (l : List ℕ). take c.args.place c.args.old.now ++ (l ++ drop (c.args.place + length c.args.bytes.now - c.args.place) (drop c.args.place c.args.old.now))) c.copy_from_slice.ensures.after
    ∙ ap (λ (l : List ℕ). take c.args.place c.args.old.now ++ (c.args.bytes.now ++ l)) (rest c.args.old.now c.args.place (length c.args.bytes.now))
