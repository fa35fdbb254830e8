-- The messages of socket pairs.
use Rattle.std.specs.Prelude.{◌≡◌, ◌≤◌, ◌⊎◌, ℕ, All, Bool, not, nat_lt, nat_le, ◌==◌, min, if◌then◌else◌, List, [], ◌∷◌, ◌++◌, length, Option, Some, None, slice_get}
use Rattle.std.specs.Option.{option_map}
use Rattle.tables.specs.Rising.{Rise, entry_of, added, removed, changed}
use Rattle.pipes_socks.specs.declared.answers.Got.{Got}
use Rattle.pipes_socks.specs.declared.answers.Got.TheVariants as gots
use Rattle.pipes_socks.specs.declared.answers.Sending.{Sending}
use Rattle.pipes_socks.specs.declared.answers.Sending.TheVariants as sendings
use Rattle.pipes_socks.specs.declared.streams.Message.{Message}
use Rattle.pipes_socks.specs.declared.streams.Pair.{Pair}

-- the messages that wait at an end, 0 or 1
abbrev pub messages_to : Pair → ℕ → List Message
messages_to p end = if end == 0 then p.to0 else p.to1

-- these messages wait at an end
abbrev pub with_messages : Pair → ℕ → List Message → Pair
with_messages p end messages =
    if end == 0 then record { number = p.number; to0 = messages; to1 = p.to1 }
    else record { number = p.number; to0 = p.to0; to1 = messages }

-- what comes of a message with these bytes where others wait at the other end, which is there or not
abbrev pub send_answer : List Message → List ℕ → Bool → Sending
send_answer waiting bytes peer =
    if nat_lt 4096 (length bytes) then sendings.TooLong
    else if not peer then sendings.Broken
    else if nat_le 16 (length waiting) then sendings.Waits
    else sendings.Sent

-- An answer is this one, or want of memory in place of a message sent.
abbrev pub IsOrNoMemory : Sending → Sending → Type 0
IsOrNoMemory sendings.Sent answer = (answer ≡ sendings.Sent) ⊎ (answer ≡ sendings.NoMemory)
IsOrNoMemory sendings.TooLong answer = answer ≡ sendings.TooLong
IsOrNoMemory sendings.Broken answer = answer ≡ sendings.Broken
IsOrNoMemory sendings.Waits answer = answer ≡ sendings.Waits
IsOrNoMemory sendings.NoMemory answer = answer ≡ sendings.NoMemory

-- the messages that wait after an answer
abbrev pub sent_messages : Sending → List Message → Message → List Message
sent_messages sendings.Sent waiting message = waiting ++ message ∷ []
sent_messages sendings.TooLong waiting message = waiting
sent_messages sendings.Broken waiting message = waiting
sent_messages sendings.Waits waiting message = waiting
sent_messages sendings.NoMemory waiting message = waiting

-- what comes of receiving the first of these messages in a buffer of a length, where the other end is there or not
abbrev pub recv_answer : List Message → ℕ → Bool → Got
recv_answer [] size peer = if peer then gots.Waits else gots.End
recv_answer (message ∷ messages) size peer =
    gots.Message (min size (length message.bytes)) (nat_lt size (length message.bytes)) message.opens

-- how many bytes were given
abbrev pub got_count : Got → ℕ
got_count (gots.Message taken cut opens) = taken
got_count gots.End = 0
got_count gots.Waits = 0

-- the first message's bytes, where one waits
abbrev pub first_bytes : List Message → List ℕ
first_bytes [] = []
first_bytes (message ∷ messages) = message.bytes

-- a message has 1 to 4,096 bytes, and carries at most 8 descriptions
unfoldable pub MessageFits : Message → Type 0
MessageFits m = (1 ≤ length m.bytes) × (length m.bytes ≤ 4096) × (length m.opens ≤ 8)

-- at most 16 messages wait at an end
unfoldable pub QueueFits : List Message → Type 0
QueueFits messages = (length messages ≤ 16) × All MessageFits messages

unfoldable pub PairFits : Pair → Type 0
PairFits p = QueueFits p.to0 × QueueFits p.to1

-- the pairs that a group may have: rising by number, at most 256
pub record ArePairs (pairs : List Pair) : Type 0 where
  pub rise : Rise (λ p. p.number) pairs
  pub each : All PairFits pairs
  pub count : length pairs ≤ 256

abbrev pub pair_of : List Pair → ℕ → Option Pair
pair_of pairs number = entry_of (λ p. p.number) pairs number

-- the messages that wait at an end of a pair
abbrev pub waiting_at : List Pair → ℕ → ℕ → List Message
waiting_at pairs number end = elim (pair_of pairs number) [ None ↦ [] | Some p ↦ messages_to p end ]

abbrev pub with_waiting : List Pair → ℕ → ℕ → List Message → List Pair
with_waiting pairs number end messages = changed (λ p. p.number) pairs number (λ p. with_messages p end messages)

-- one more pair, without messages
abbrev pub with_pair : List Pair → ℕ → List Pair
with_pair pairs number = added (λ p. p.number) pairs (record { number = number; to0 = []; to1 = [] })

abbrev pub without_pair : List Pair → ℕ → List Pair
without_pair pairs number = removed (λ p. p.number) pairs number

-- how many descriptions the first message that waits at an end carries
abbrev pub first_carried : List Pair → ℕ → ℕ → Option ℕ
first_carried pairs number end = option_map (λ m. length m.opens) (slice_get (waiting_at pairs number end) 0)

-- the length of the first message that waits at an end
abbrev pub first_length : List Pair → ℕ → ℕ → Option ℕ
first_length pairs number end = option_map (λ m. length m.bytes) (slice_get (waiting_at pairs number end) 0)
