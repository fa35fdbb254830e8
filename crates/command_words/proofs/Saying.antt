-- A line that a sink gets piece by piece.
use Rattle.std.specs.Prelude.{⊤}
use Rattle.std.proofs.Common.{◌≡◌, ℕ, ◌+◌, ◌<◌, ◌≤◌, List, [], ◌∷◌, ◌++◌, length, take, drop, get_or, true, Result, Ok, Err, IsErr, Bor, refl, sym, ◌∙◌, ap, subst, arith, append_assoc, length-append}
use Rattle.std.proofs.Math.Seq.{take-append-add}
use Rattle.std.proofs.lemmas.List.{append-nil, drop_more, take-append-le}
use Rattle.dev_traits.specs.declared.disk.Failed.{Failed}
use Rattle.dev_traits.specs.Counts.{HasCause}
use Rattle.dev_traits.specs.Outside.{SinkView, Takes, TakesPart}
use Rattle.dev_traits.specs.SinkLaws.{takes_both}
use Rattle.command_words.specs.Put.{HasPut, line_with}

-- the sink took a line but for this rest
pub record HasBegun (rest line : List ℕ) (before after : SinkView) : Type 0 where
  pub said : List ℕ
  pub whole : said ++ rest ≡ line
  pub taken : Takes said before after
  pub later : before.faults ≤ after.faults

-- what is left has a next field
pub next_field : (fields : List (Bor (List ℕ) × ℕ)) (i : ℕ) (d : Bor (List ℕ) × ℕ) (last line : List ℕ) (u v : SinkView) → i < length fields
    → HasBegun (line_with (drop i fields) last) line u v → HasBegun (line_with (get_or fields i d ∷ drop (i + 1) fields) last) line u v
next_field fields i d last line u v some begun = subst (λ l. HasBegun (line_with l last) line u v) (drop_more fields i d some) begun

-- the next piece was put, and more is to follow
module _ (piece more line : List ℕ) (u v w : SinkView) (begun : HasBegun (piece ++ more) line u v) where
  pub further : Takes piece v w → v.faults ≤ w.faults → HasBegun more line u w
  further taken later = record {
    said = begun.said ++ piece;
    whole = append_assoc begun.said piece more ∙ begun.whole;
    taken = takes_both begun.said piece u v w begun.taken taken;
    later = omega (arith, begun.later, later);
  }

  part : (m : ℕ) → m < length piece → take (length begun.said + m) line ≡ begun.said ++ take m piece
  part m short =
      ap (take (length begun.said + m)) (sym begun.whole) ∙ take-append-add begun.said (piece ++ more) m
      ∙ ap (λ l. begun.said ++ l) (take-append-le m piece more (omega (arith, short)))

  pub cut : (answer : Result ⊤ Failed) → IsErr answer → TakesPart piece v w → HasCause v.faults w.faults (true ≡ true) → HasPut line answer u w
  cut (Ok all) failed taken cause = absurd cc
  cut (Err fault) failed (m, short, taken) cause = record {
    ok = tt;
    err = (
      length begun.said + m,
      omega (arith, short, length-append begun.said (piece ++ more), length-append piece more, ap length begun.whole),
      subst (λ l. Takes l u w) (sym (part m short)) (takes_both begun.said (take m piece) u v w begun.taken taken),
    );
    faults = record { later = omega (arith, begun.later, cause.later); cause = λ is. omega (arith, begun.later, cause.cause refl) };
  }

-- the last piece was put
pub ended : (answer : Result ⊤ Failed) (piece line : List ℕ) (u v w : SinkView) → HasBegun piece line u v → HasPut piece answer v w → HasPut line answer u w
ended (Ok all) piece line u v w begun put = record {
  ok = subst (λ l. Takes l u w) begun.whole (takes_both begun.said piece u v w begun.taken put.ok);
  err = tt;
  faults = record { later = omega (arith, begun.later, put.faults.later); cause = λ failed. absurd cc };
}
ended (Err fault) piece line u v w begun put =
    cut piece [] line u v w (subst (λ l. HasBegun l line u v) (sym (append-nil piece)) begun) (Err fault) refl put.err put.faults
