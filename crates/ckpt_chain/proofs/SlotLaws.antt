-- A slot read from its block is the slot of the image.
use Rattle.std.proofs.Common.{◌≡◌, ℕ, ◌-◌, ◌+◌, ◌*◌, ◌≤◌, Bool, true, false, List, take, drop, get_or, inl, inr, Option, Some, None, refl, sym, ap, subst, ◌∙◌, arith, cond}
use Rattle.std.specs.Int.{w64, from_le_bytes}
use Rattle.std.specs.Prelude.{slice_index, bytes_eq, nat_le, nat_lt, ◌==◌, ◌&&◌, IfSome}
use Rattle.std.proofs.lemmas.Bool.{and_parts}
use Rattle.std.proofs.lemmas.Bool.Decides.{nat_tests}
use Rattle.std.proofs.lemmas.List.{drop-take, take-take, drop-drop, get_or-take, get_or-drop}
use Rattle.std.specs.Option.{option_map}
use Rattle.std.proofs.lemmas.Option.{none-some, same_Some}
use Rattle.ckpt_chain.specs.Slot.{num_at, IsFormat, format_of, body_at, open_body, newer, slot_text}
use Rattle.ckpt_chain.specs.declared.slot.Slot.{Slot}
use Rattle.ckpt_chain.specs.declared.slot.Slot.TheVariants.{A, B}
use Rattle.ckpt_chain.specs.declared.slot.SlotBody.{SlotBody}
use Rattle.ckpt_chain.specs.Chain.{block}

module _ (image : List ℕ) (b : ℕ) where
  whole : block image b ≡ take 4096 (drop (4096 * b) image)
  unfolding block
  whole = let e : 4096 * b + 4096 - 4096 * b ≡ 4096 = omega arith in ap (λ (n : ℕ). take n (drop (4096 * b) image)) e

  -- eight bytes of the block
  part : (k : ℕ) → k + 8 ≤ 4096 → take 8 (drop k (block image b)) ≡ take 8 (drop (4096 * b + k) image)
  part k le =
      let e : k + (4096 - k) ≡ 4096 = omega arith in
      ap (λ (x : List ℕ). take 8 (drop k x)) whole
      ∙ ap (λ (n : ℕ). take 8 (drop k (take n (drop (4096 * b) image)))) (sym e)
      ∙ ap (take 8) (drop-take k (4096 - k) (drop (4096 * b) image))
      ∙ take-take 8 (4096 - k) (drop k (drop (4096 * b) image)) (omega arith)
      ∙ ap (take 8) (drop-drop k (4096 * b) image)

  num : (k : ℕ) → k + 8 ≤ 4096 → num_at (block image b) k ≡ num_at image (4096 * b + k)
  unfolding num_at
  num k le = ap (from_le_bytes w64) (part k le)

  pub gate : slice_index (block image b) 0 ≡ slice_index image (4096 * b)
  gate =
      ap (λ (x : List ℕ). slice_index x 0) whole
      ∙ get_or-take 4096 (drop (4096 * b) image) 0 0 (omega arith)
      ∙ get_or-drop (4096 * b) image 0 0
      ∙ ap (λ (n : ℕ). get_or image n 0) (omega arith)

  in_format : (o : Option ℕ) → option_map (body_at (block image b) 0) o ≡ option_map (body_at image (4096 * b)) o
  in_format None = refl
  in_format (Some format) = rw (num 16 (omega arith), num 24 (omega arith), num 32 (omega arith)) refl

  pub read : open_body (block image b) 0 ≡ open_body image (4096 * b)
  unfolding open_body
  read = rw (gate, part 8 (omega arith), num 16 (omega arith), in_format (format_of (take 8 (drop (4096 * b + 8) image)))) refl

-- ---- what an open slot says

guarded : {X : Type 0} (b : Bool) (o : Option X) (y : X) → cond b o None ≡ Some y → (b ≡ true) × (o ≡ Some y)
guarded true o y e = (refl, e)
guarded false o y e = absurd cc

from_map : {X Y : Type 0} (f : X → Y) (o : Option X) (y : Y) → option_map f o ≡ Some y → (x : X) × (o ≡ Some x) × (f x ≡ y)
from_map f (Some x) y e = (x, refl, same_Some (f x) y e)
from_map f None y e = absurd (none-some y e)

named : (text : List ℕ) (format : ℕ) → format_of text ≡ Some format → IsFormat format
unfolding format_of
named text format e = by_tests (bytes_eq text (slot_text 1)) (bytes_eq text (slot_text 2)) e
  where
    by_tests : (one two : Bool) → cond one (Some 1) (cond two (Some 2) None) ≡ Some format → IsFormat format
    by_tests true two e = inl (sym (same_Some 1 format e))
    by_tests false true e = inr (sym (same_Some 2 format e))
    by_tests false false e = absurd (none-some format e)

-- its epoch is at least 1, and its format is 1 or 2
abbrev pub IsSaid : SlotBody → Type 0
IsSaid body = (1 ≤ body.epoch) × IsFormat body.format

pub said : (bytes : List ℕ) (body : SlotBody) → open_body bytes 0 ≡ Some body → IsSaid body
unfolding open_body
said bytes body e =
    let g = guarded ((slice_index bytes 0 == 1) && nat_le 1 (num_at bytes 16)) (option_map (body_at bytes 0) (format_of (take 8 (drop 8 bytes)))) body e in
    let both = and_parts (slice_index bytes 0 == 1) (nat_le 1 (num_at bytes 16)) g.0 in
    let up : 1 ≤ num_at bytes 16 = grind (arith, nat_tests, both.1) in
    let (format, is, same) = from_map (body_at bytes 0) (format_of (take 8 (drop 8 bytes))) body g.1 in
    subst IsSaid same (up, named (take 8 (drop 8 bytes)) format is)

newer_from : (a b : Option SlotBody) → ((x : SlotBody) → a ≡ Some x → IsSaid x) → ((x : SlotBody) → b ≡ Some x → IsSaid x) → IfSome (newer a b) (λ x. IsSaid x.1)
unfolding newer
newer_from None None p q = tt
newer_from (Some a) None p q = p a refl
newer_from None (Some b) p q = q b refl
newer_from (Some a) (Some b) p q = either (nat_lt a.epoch b.epoch) a b (p a refl) (q b refl)
  where
    either : (t : Bool) (a b : SlotBody) → IsSaid a → IsSaid b → IfSome {T = Slot × SlotBody} (cond t (Some (B, b)) (Some (A, a))) (λ x. IsSaid x.1)
    either true a b p q = q
    either false a b p q = p

newest_said : (a b : List ℕ) → IfSome (newer (open_body a 0) (open_body b 0)) (λ x. IsSaid x.1)
newest_said a b = newer_from (open_body a 0) (open_body b 0) (said a) (said b)

of_some : {X : Type 0} (o : Option X) (P Q : X → Type 0) → ((x : X) → P x → Q x) → IfSome o P → IfSome o Q
of_some None P Q from p = tt
of_some (Some x) P Q from p = from x p

pub newest_epoch : (a b : List ℕ) → IfSome (newer (open_body a 0) (open_body b 0)) (λ x. 1 ≤ x.1.epoch)
newest_epoch a b = of_some (newer (open_body a 0) (open_body b 0)) (λ x. IsSaid x.1) (λ x. 1 ≤ x.1.epoch) (λ x p. p.0) (newest_said a b)

pub newest_format : (a b : List ℕ) → IfSome (newer (open_body a 0) (open_body b 0)) (λ x. IsFormat x.1.format)
newest_format a b = of_some (newer (open_body a 0) (open_body b 0)) (λ x. IsSaid x.1) (λ x. IsFormat x.1.format) (λ x p. p.1) (newest_said a b)
