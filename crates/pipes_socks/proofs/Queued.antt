-- The messages of a pair are within their limits after each change.
use Rattle.std.proofs.Common.{◌≡◌, ◌⊎◌, inl, inr, ℕ, ◌<◌, ◌≤◌, ◌==◌, Bool, true, false, not, List, [], ◌∷◌, length, drop, arith, length-append, length-drop}
use Rattle.std.specs.Prelude.{nat_lt, nat_le, if◌then◌else◌}
use Rattle.std.proofs.lemmas.Bool.{cases_Bool}
use Rattle.std.proofs.lemmas.Bool.Decides.{nat_tests}
use Rattle.std.proofs.lemmas.List.Elements.{All-nil, All-cons, All-append, All-drop}
use Rattle.pipes_socks.specs.declared.streams.Message.{Message}
use Rattle.pipes_socks.specs.declared.answers.Sending.{Sending}
use Rattle.pipes_socks.specs.declared.answers.Sending.TheVariants as sendings
use Rattle.pipes_socks.specs.declared.streams.Pair.{Pair}
use Rattle.pipes_socks.specs.Pairs.{MessageFits, QueueFits, PairFits, IsOrNoMemory, messages_to, with_messages, send_answer, sent_messages}

pub queue_none : QueueFits []
unfolding QueueFits
queue_none = (omega arith, All-nil MessageFits)

pub queue_of : (p : Pair) (end : ℕ) → PairFits p → QueueFits (messages_to p end)
unfolding PairFits
queue_of p end fits = by_test (end == 0)
  where
    by_test : (b : Bool) → QueueFits (if b then p.to0 else p.to1)
    by_test true = fits.0
    by_test false = fits.1

pub pair_with : (p : Pair) (end : ℕ) (messages : List Message) → PairFits p → QueueFits messages → PairFits (with_messages p end messages)
unfolding PairFits
pair_with p end messages fits new = by_test (end == 0)
  where
    by_test : (b : Bool) → (let q : Pair = if b then record { number = p.number; to0 = messages; to1 = p.to1 } else record { number = p.number; to0 = p.to0; to1 = messages } in QueueFits q.to0 × QueueFits q.to1)
    by_test true = (new, fits.1)
    by_test false = (fits.0, new)

-- a message is sent only where it has at most 4,096 bytes and fewer than 16 wait
sent_where : (waiting : List Message) (bytes : List ℕ) (peer : Bool) → IsOrNoMemory (send_answer waiting bytes peer) sendings.Sent → (length bytes ≤ 4096) × (length waiting < 16)
sent_where waiting bytes peer sent = by_test (cases_Bool (nat_lt 4096 (length bytes))) (cases_Bool (not peer)) (cases_Bool (nat_le 16 (length waiting)))
  where
    by_test : (nat_lt 4096 (length bytes) ≡ true) ⊎ (nat_lt 4096 (length bytes) ≡ false) → (not peer ≡ true) ⊎ (not peer ≡ false) → (nat_le 16 (length waiting) ≡ true) ⊎ (nat_le 16 (length waiting) ≡ false)
        → (length bytes ≤ 4096) × (length waiting < 16)
    by_test (inl long) gone full = absurd (let e = rw long at sent in cc)
    by_test (inr short) (inl gone) full = absurd (let e = rw (short, gone) at sent in cc)
    by_test (inr short) (inr there) (inl full) = absurd (let e = rw (short, there, full) at sent in cc)
    by_test (inr short) (inr there) (inr room) = (grind (arith, nat_tests, short), grind (arith, nat_tests, room))

pub queue_sent : (answer : Sending) (waiting : List Message) (m : Message) (peer : Bool) → 1 ≤ length m.bytes → length m.opens ≤ 8 → IsOrNoMemory (send_answer waiting m.bytes peer) answer → QueueFits waiting → QueueFits (sent_messages answer waiting m)
unfolding QueueFits MessageFits
queue_sent sendings.Sent waiting m peer some few is fits =
    let where' = sent_where waiting m.bytes peer is in
    (omega (arith, length-append waiting (m ∷ []), where'.1), All-append MessageFits waiting (m ∷ []) fits.1 (All-cons MessageFits m [] (some, where'.0, few) (All-nil MessageFits)))
queue_sent sendings.TooLong waiting m peer some few is fits = fits
queue_sent sendings.Broken waiting m peer some few is fits = fits
queue_sent sendings.Waits waiting m peer some few is fits = fits
queue_sent sendings.NoMemory waiting m peer some few is fits = fits

pub queue_left : (waiting : List Message) → QueueFits waiting → QueueFits (drop 1 waiting)
unfolding QueueFits
queue_left waiting fits = (omega (arith, length-drop 1 waiting, fits.0), All-drop MessageFits 1 waiting fits.1)
