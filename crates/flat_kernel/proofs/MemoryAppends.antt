-- Bytes in a row that are appended run by run.
use Rattle.std.proofs.Common.{◌≡◌, ℕ, ◌+◌, ◌-◌, ◌≤◌, true, false, List, ◌++◌, length, Option, Some, None, MatchOption, is_some, refl, sym, ap, ◌∙◌, take, arith, append_assoc, append-nil, length-take, take_all}
use Rattle.std.proofs.lemmas.List.{take-append-le}
use Rattle.std.specs.Option.{option_map}
use Rattle.rv64_isa.specs.Memory.{Cells, bytes_with, readable}
use Rattle.flat_kernel.proofs.MemoryReads.{run_on, some_back}

abbrev after : List ℕ → Option (List ℕ) → Option (List ℕ)
after front o = option_map (λ back. front ++ back) o

-- All n bytes can be read, and out has those before an address behind what it had; so many are left.
pub record IsReadTo (cells : Cells) (a n : ℕ) (start out : List ℕ) (at left : ℕ) : Type 0 where
  pub able : is_some (readable cells a n) ≡ true
  pub so_far : option_map (λ back. start ++ back) (readable cells a n) ≡ option_map (λ back. out ++ back) (readable cells at left)
  pub kept : take (length start) out ≡ start

pub read_none : (cells : Cells) (a n : ℕ) (start : List ℕ) → is_some (readable cells a n) ≡ true → IsReadTo cells a n start start a n
read_none cells a n start able = record { able = able; so_far = refl; kept = take_all (length start) start (omega arith) }

both_after : (out bytes : List ℕ) (o : Option (List ℕ)) → after out (after bytes o) ≡ after (out ++ bytes) o
both_after out bytes None = refl
both_after out bytes (Some back) = ap (λ (l : List ℕ). Some l) (sym (append_assoc out bytes back))

front_kept : (start out bytes : List ℕ) → take (length start) out ≡ start → take (length start) (out ++ bytes) ≡ start
front_kept start out bytes kept =
    let size : length start ≤ length out = omega (arith, length-take (length start) out, ap length kept) in
    take-append-le (length start) out bytes size ∙ kept

pub read_more : (cells : Cells) (a n : ℕ) (start out later : List ℕ) (at left : ℕ) (bytes : List ℕ) → IsReadTo cells a n start out at left → length bytes ≤ left → bytes_with 1 cells at (length bytes) ≡ Some bytes → later ≡ out ++ bytes → IsReadTo cells a n start later (at + length bytes) (left - length bytes)
read_more cells a n start out later at left bytes read le run is = record {
  able = read.able;
  so_far =
      read.so_far
      ∙ ap (after out) (run_on 1 cells at left bytes le run)
      ∙ both_after out bytes (readable cells (at + length bytes) (left - length bytes))
      ∙ ap (λ (l : List ℕ). after l (readable cells (at + length bytes) (left - length bytes))) (sym is);
  kept = ap (λ (l : List ℕ). take (length start) l) is ∙ front_kept start out bytes read.kept;
}

pub read_on : (cells : Cells) (a n : ℕ) (start out : List ℕ) (at left : ℕ) → IsReadTo cells a n start out at left → readable cells at left ≡ None → ⊥
read_on cells a n start out at left read none =
    let stops : is_some (after start (readable cells a n)) ≡ false = ap is_some (read.so_far ∙ ap (after out) none) in
    let goes : is_some (after start (readable cells a n)) ≡ true = some_back (λ back. start ++ back) (readable cells a n) ∙ read.able in
    absurd (cc (stops, goes))

all_read : (o : Option (List ℕ)) (start out : List ℕ) → after start o ≡ Some out → MatchOption o (out ≡ start) (λ bytes. out ≡ start ++ bytes)
all_read None start out is = absurd (cc)
all_read (Some bytes) start out is = cc

pub read_all : (cells : Cells) (a n : ℕ) (start out : List ℕ) (at left : ℕ) → IsReadTo cells a n start out at left → left ≡ 0 → MatchOption (readable cells a n) (out ≡ start) (λ bytes. out ≡ start ++ bytes)
unfolding bytes_with
read_all cells a n start out at left read none =
    all_read (readable cells a n) start out (read.so_far ∙ ap (λ (k : ℕ). after out (readable cells at k)) none ∙ ap (λ (l : List ℕ). Some l) (append-nil out))
