-- Pieces that a sink takes one after another.
use Rattle.std.specs.Prelude.{◌≡◌, ℕ, List, [], ◌++◌, Option, Some, None, refl}
use Rattle.std.proofs.Common.{sym, ◌∙◌, ap, arith, append_assoc, length-append}
use Rattle.std.proofs.lemmas.List.{append-nil}
use Rattle.std.specs.Option.{option_map}
use Rattle.dev_traits.specs.Outside.{SinkView, Takes}

no_more : (held : Option (List ℕ)) → held ≡ option_map (λ held. held ++ []) held
no_more None = refl
no_more (Some held) = ap (λ (l : List ℕ). Some l) (sym (append-nil held))

both : (a b : List ℕ) (held : Option (List ℕ)) → option_map (λ held. held ++ b) (option_map (λ held. held ++ a) held) ≡ option_map (λ held. held ++ (a ++ b)) held
both a b None = refl
both a b (Some held) = ap (λ (l : List ℕ). Some l) (append_assoc held a b)

-- no piece
pub takes_none : (u : SinkView) → Takes [] u u
takes_none u = record { count = omega arith; bytes = no_more u.bytes }

-- two pieces
pub takes_both : (a b : List ℕ) (u v w : SinkView) → Takes a u v → Takes b v w → Takes (a ++ b) u w
takes_both a b u v w first second = record {
  count = omega (arith, first.count, second.count, length-append a b);
  bytes = second.bytes ∙ ap (λ (held : Option (List ℕ)). option_map (λ held. held ++ b) held) first.bytes ∙ both a b u.bytes;
}
