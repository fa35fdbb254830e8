-- The table of bytes has the objects' numbers.
use Rattle.std.proofs.Common.{◌≡◌, ℕ, Bool, true, List, [], ◌∷◌, ap, ◌∙◌, arith}
use Rattle.std.proofs.lemmas.List.Elements.{All-cons, All-head, All-tail}
use Rattle.std.specs.Prelude.{All}
use Rattle.std.specs.List.{AllZip}
use Rattle.group_defs.specs.Valid.{IsObject}
use Rattle.group_defs.specs.declared.frame.ObjectRec.{ObjectRec}

pub zip_numbers : (kept : ℕ → Bool) (objects : List ObjectRec) (memory : List (ℕ × List ℕ)) → AllZip IsObject objects memory → All (λ o. kept o.number ≡ true) objects → All (λ o. kept o.0 ≡ true) memory
zip_numbers kept [] [] zip all = λ k d lt. absurd (omega (arith, lt))
zip_numbers kept [] (m ∷ ms) zip all = absurd zip
zip_numbers kept (o ∷ os) [] zip all = absurd zip
zip_numbers kept (o ∷ os) (m ∷ ms) zip all = All-cons (λ (x : ℕ × List ℕ). kept x.0 ≡ true) m ms (ap kept zip.0.0 ∙ All-head (λ x. kept x.number ≡ true) o os all) (zip_numbers kept os ms zip.1 (All-tail (λ x. kept x.number ≡ true) o os all))
