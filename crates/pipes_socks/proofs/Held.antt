-- What waits in the pipe or the pair that code found, and what a change of it is.
use Rattle.std.proofs.Common.{◌≡◌, ◌<◌, ◌≤◌, ℕ, ◌==◌, Bool, true, false, not, List, [], None, length, get_or, set, refl, ap, sym, subst, ◌∙◌, arith}
use Rattle.std.specs.Prelude.{if◌then◌else◌}
use Rattle.std.proofs.lemmas.List.{length-set}
use Rattle.std.proofs.lemmas.List.Elements.{All-filter, All-nil, All-set}
use Rattle.tables.specs.Rising.{IsPlaceOf, place_of}
use Rattle.tables.proofs.Numbers.{all_added, length-added, length-removed, rise_insert, rise_none, rise_removed}
use Rattle.pipes_socks.specs.declared.streams.Message.{Message}
use Rattle.pipes_socks.specs.Pipes.{ArePipes, pipe_bytes, with_pipe_bytes, without_pipe}
use Rattle.pipes_socks.specs.Pairs.{ArePairs, PairFits, QueueFits, messages_to, pair_of, with_messages, waiting_at, with_pair, with_waiting, without_pair}
use Rattle.pipes_socks.specs.declared.streams.Pair.{Pair}
use Rattle.pipes_socks.specs.declared.streams.Pipe.{Pipe}
use Rattle.pipes_socks.proofs.Found.{entry_is, in_field, rise_kept, set_is}
use Rattle.pipes_socks.proofs.Queued.{pair_with, queue_none, queue_of}

abbrev pub pipe : ℕ → List ℕ → Pipe
pipe number bytes = record { number = number; bytes = bytes }

module _ (read field table : List Pipe) (is : read ≡ field) (shows : field ≡ table) (are : ArePipes field) (n k : ℕ) (here : IsPlaceOf (λ p. p.number) read n k) (z : Pipe) (at : z ≡ get_or field k z) where
  pub bytes_are : pipe_bytes table n ≡ z.bytes
  bytes_are = rw (entry_is {X = Pipe} (λ p. p.number) read field table is shows are.rise n k here z at, pipe_bytes) refl

  pub bytes_become : (g : List ℕ → List ℕ) (y : Pipe) → y ≡ pipe z.number (g z.bytes) → set field k y ≡ with_pipe_bytes table n (g (pipe_bytes table n))
  bytes_become g y made =
      set_is {X = Pipe} (λ p. p.number) read field table is shows are.rise n k here z at (λ p. pipe p.number (g (pipe_bytes table n))) y (made ∙ ap (λ (b : List ℕ). pipe z.number (g b)) (sym bytes_are))

  -- the list is still one of pipes
  pub pipes_kept : (y : Pipe) → y.number ≡ z.number → length y.bytes ≤ 65536 → ArePipes (set field k y)
  pipes_kept y same few = record {
    rise = rise_kept {X = Pipe} (λ p. p.number) read field table is shows are.rise n k here z at y same;
    each = All-set (λ p. length p.bytes ≤ 65536) field k y few are.each;
    count = omega (arith, length-set field k y, are.count);
  }

pub pipes_none : ArePipes []
pipes_none = record { rise = rise_none {X = Pipe} (λ p. p.number); each = All-nil (λ p. length p.bytes ≤ 65536); count = omega arith }

pub pipes_removed : (pipes : List Pipe) (n : ℕ) → ArePipes pipes → ArePipes (without_pipe pipes n)
pipes_removed pipes n are = record {
  rise = rise_removed {X = Pipe} (λ p. p.number) pipes n are.rise;
  each = All-filter (λ p. not (p.number == n)) (λ p. length p.bytes ≤ 65536) pipes are.each;
  count = omega (arith, length-removed {X = Pipe} (λ p. p.number) pipes n, are.count);
}

pub number_kept : (p : Pair) (end : ℕ) (messages : List Message) → (with_messages p end messages).number ≡ p.number
number_kept p end messages = by_test (end == 0)
  where
    by_test : (b : Bool) → (let new : Pair = if b then record { number = p.number; to0 = messages; to1 = p.to1 } else record { number = p.number; to0 = p.to0; to1 = messages } in new.number) ≡ p.number
    by_test true = refl
    by_test false = refl

module _ (read field table : List Pair) (is : read ≡ field) (shows : field ≡ table) (are : ArePairs field) (n k : ℕ) (here : IsPlaceOf (λ p. p.number) read n k) (z : Pair) (at : z ≡ get_or field k z) (end : ℕ) where
  pub messages_are : waiting_at table n end ≡ messages_to z end
  messages_are = rw (entry_is {X = Pair} (λ p. p.number) read field table is shows are.rise n k here z at, waiting_at) refl

  pub messages_become : (g : List Message → List Message) (y : Pair) → y ≡ with_messages z end (g (messages_to z end)) → set field k y ≡ with_waiting table n end (g (waiting_at table n end))
  messages_become g y made =
      set_is {X = Pair} (λ p. p.number) read field table is shows are.rise n k here z at (λ p. with_messages p end (g (waiting_at table n end))) y (made ∙ ap (λ (m : List Message). with_messages z end (g m)) (sym messages_are))

  -- the list is still one of pairs
  pub pairs_kept : (messages : List Message) (y : Pair) → y ≡ with_messages z end messages → (QueueFits (messages_to z end) → QueueFits messages) → ArePairs (set field k y)
  pairs_kept messages y made fits =
      let was : PairFits z = subst PairFits (sym at) (are.each k z (in_field {X = Pair} (λ p. p.number) read field table is shows are.rise n k here z at).within) in
      record {
        rise = rise_kept {X = Pair} (λ p. p.number) read field table is shows are.rise n k here z at y (ap (λ (p : Pair). p.number) made ∙ number_kept z end messages);
        each = All-set PairFits field k y (subst PairFits (sym made) (pair_with z end messages was (fits (queue_of z end was)))) are.each;
        count = omega (arith, length-set field k y, are.count);
      }

abbrev pair : ℕ → Pair
pair number = record { number = number; to0 = []; to1 = [] }

pub pairs_none : ArePairs []
pairs_none = record { rise = rise_none {X = Pair} (λ p. p.number); each = All-nil PairFits; count = omega arith }

pub pairs_added : (pairs : List Pair) (n : ℕ) → ArePairs pairs → pair_of pairs n ≡ None → length pairs < 256 → ArePairs (with_pair pairs n)
unfolding PairFits
pairs_added pairs n are none few = record {
  rise = rise_insert {X = Pair} (λ p. p.number) pairs are.rise n (place_of (λ p. p.number) pairs n) (pair n) refl refl none;
  each = all_added {X = Pair} (λ p. p.number) PairFits pairs (pair n) (queue_none, queue_none) are.each;
  count = omega (arith, length-added {X = Pair} (λ p. p.number) pairs (pair n), few);
}

pub pairs_removed : (pairs : List Pair) (n : ℕ) → ArePairs pairs → ArePairs (without_pair pairs n)
pairs_removed pairs n are = record {
  rise = rise_removed {X = Pair} (λ p. p.number) pairs n are.rise;
  each = All-filter (λ p. not (p.number == n)) PairFits pairs are.each;
  count = omega (arith, length-removed {X = Pair} (λ p. p.number) pairs n, are.count);
}
