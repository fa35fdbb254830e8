-- A pipe or a pair that gets what it has stays, and so does the list.
use Rattle.std.proofs.Common.{◌≡◌, ◌⊎◌, inl, inr, ℕ, ◌==◌, Bool, true, false, List, [], ◌∷◌, ◌++◌, take, drop, Option, Some, None, refl, ap, sym, ◌∙◌}
use Rattle.std.specs.Prelude.{find, if◌then◌else◌}
use Rattle.std.proofs.lemmas.Bool.{cases_Bool}
use Rattle.std.proofs.lemmas.List.{append-nil}
use Rattle.tables.specs.Lists.{on_first}
use Rattle.tables.proofs.Only.{none_from_find, on_first_no}
use Rattle.pipes_socks.specs.declared.streams.Message.{Message}
use Rattle.pipes_socks.specs.declared.answers.Sending.{Sending}
use Rattle.pipes_socks.specs.declared.answers.Sending.TheVariants as sendings
use Rattle.pipes_socks.specs.declared.answers.Got.TheVariants as gots
use Rattle.pipes_socks.specs.declared.streams.Pair.{Pair}
use Rattle.pipes_socks.specs.declared.streams.Pipe.{Pipe}
use Rattle.pipes_socks.specs.Pipes.{pipe_bytes, with_pipe_bytes}
use Rattle.pipes_socks.specs.Pairs.{messages_to, with_messages, waiting_at, with_waiting, sent_messages, recv_answer}
use Rattle.pipes_socks.proofs.Held.{pipe}

module _ {X : Type 0} (test : X → Bool) (f : X → X) where
  on_first_same : (xs : List X) (x : X) → find test xs ≡ Some x → f x ≡ x → on_first test f xs ≡ xs
  unfolding on_first
  on_first_same [] x found same = refl
  on_first_same (y ∷ ys) x found same = by_test (cases_Bool (test y)) (λ next. on_first_same ys x next same)
    where
      by_test : (test y ≡ true) ⊎ (test y ≡ false) → (find test ys ≡ Some x → on_first test f ys ≡ ys) → on_first test f (y ∷ ys) ≡ y ∷ ys
      by_test (inl hit) rest =
          let here = rw hit at found in
          let e : y ≡ x = cc here in
          rw hit (ap (λ (z : X). z ∷ ys) (ap f e ∙ same ∙ sym e))
      by_test (inr miss) rest = rw miss (ap (λ (l : List X). y ∷ l) (rest (rw miss at found)))

  on_first_kept : (xs : List X) → ((x : X) → find test xs ≡ Some x → f x ≡ x) → on_first test f xs ≡ xs
  on_first_kept xs same = by_found (find test xs) refl
    where
      by_found : (o : Option X) → find test xs ≡ o → on_first test f xs ≡ xs
      by_found None none = on_first_no test f xs (none_from_find test xs none)
      by_found (Some x) found = on_first_same xs x found (same x found)

same_bytes : (pipes : List Pipe) (n : ℕ) → with_pipe_bytes pipes n (pipe_bytes pipes n) ≡ pipes
same_bytes pipes n =
    on_first_kept {X = Pipe} (λ p. p.number == n) (λ p. pipe p.number (pipe_bytes pipes n)) pipes (λ p found. ap (pipe p.number) (rw (found, pipe_bytes) refl))

pub nothing_pushed : (pipes : List Pipe) (n count : ℕ) (bytes : List ℕ) → count ≡ 0 → with_pipe_bytes pipes n (pipe_bytes pipes n ++ take count bytes) ≡ pipes
nothing_pushed pipes n count bytes none =
    ap (λ (k : ℕ). with_pipe_bytes pipes n (pipe_bytes pipes n ++ take k bytes)) none ∙ ap (λ (b : List ℕ). with_pipe_bytes pipes n b) (append-nil (pipe_bytes pipes n)) ∙ same_bytes pipes n

pub nothing_pulled : (pipes : List Pipe) (n count : ℕ) → count ≡ 0 → with_pipe_bytes pipes n (drop count (pipe_bytes pipes n)) ≡ pipes
nothing_pulled pipes n count none = ap (λ (k : ℕ). with_pipe_bytes pipes n (drop k (pipe_bytes pipes n))) none ∙ same_bytes pipes n

kept_messages : (p : Pair) (end : ℕ) → with_messages p end (messages_to p end) ≡ p
kept_messages p end = by_test (end == 0)
  where
    by_test : (b : Bool) → (if b then record { number = p.number; to0 = if b then p.to0 else p.to1; to1 = p.to1 } else record { number = p.number; to0 = p.to0; to1 = if b then p.to0 else p.to1 }) ≡ p
    by_test true = refl
    by_test false = refl

pub same_messages : (pairs : List Pair) (n end : ℕ) → with_waiting pairs n end (waiting_at pairs n end) ≡ pairs
same_messages pairs n end =
    on_first_kept {X = Pair} (λ p. p.number == n) (λ p. with_messages p end (waiting_at pairs n end)) pairs
    (λ p found. ap (λ (m : List Message). with_messages p end m) (rw (found, waiting_at) refl) ∙ kept_messages p end)

pub nothing_sent : (answer : Sending) (waiting : List Message) (bytes : Message) → (answer ≡ sendings.Sent → ⊥) → sent_messages answer waiting bytes ≡ waiting
nothing_sent sendings.Sent waiting bytes other = absurd (other refl)
nothing_sent sendings.TooLong waiting bytes other = refl
nothing_sent sendings.Broken waiting bytes other = refl
nothing_sent sendings.Waits waiting bytes other = refl
nothing_sent sendings.NoMemory waiting bytes other = refl

-- without a message none is taken
pub nothing_received : (waiting : List Message) (size : ℕ) (peer : Bool) → (recv_answer waiting size peer ≡ gots.Waits) ⊎ (recv_answer waiting size peer ≡ gots.End) → drop 1 waiting ≡ waiting
nothing_received [] size peer none = refl
nothing_received (message ∷ messages) size peer (inl waits) = absurd (let e = waits in cc)
nothing_received (message ∷ messages) size peer (inr end) = absurd (let e = end in cc)
