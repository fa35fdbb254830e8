-- Other messages wait at an end of a pair; sending and receiving.
use Rattle.std.proofs.Common.{◌≡◌, ℕ, ◌^◌, ◌<◌, ◌≤◌, Bool, true, false, ◌||◌, ◌==◌, not, min, List, [], ◌∷◌, length, take, get_or, Option, Some, None, refl, ap, sym, ◌∙◌, subst, arith}
use Rattle.std.specs.Prelude.{All, find, if◌then◌else◌}
use Rattle.std.proofs.lemmas.List.Elements.{All-tail}
use Rattle.descriptors.specs.declared.opens.Open.{Open}
use Rattle.descriptors.specs.declared.opens.OpenKind.{OpenKind}
use Rattle.descriptors.specs.declared.opens.OpenKind.TheVariants as kinds
use Rattle.group_defs.specs.Calls.{stores}
use Rattle.group_defs.specs.Cells.{sight}
use Rattle.group_defs.specs.Changes.{with_pairs}
use Rattle.group_defs.specs.Descriptions.{CanBeCarried, CarriedValid}
use Rattle.group_defs.specs.Group.{Group, is_runner}
use Rattle.group_defs.specs.Held.{settled}
use Rattle.group_defs.specs.Numbers.{MessagesAreBytes}
use Rattle.lists.specs.Bytes.{AreBytes}
use Rattle.group_defs.specs.PairCalls.{has_peer, receive, take_message}
use Rattle.group_defs.specs.Streams.{PairEndsOnce}
use Rattle.group_defs.specs.Valid.{GroupIsSound, GroupIsValid, TargetIsThere}
use Rattle.group_defs.specs.declared.frame.Proc.{Proc}
use Rattle.pipes_socks.specs.Pairs.{MessageFits, PairFits, QueueFits, messages_to, pair_of, waiting_at, with_messages, with_waiting}
use Rattle.pipes_socks.specs.declared.streams.Message.{Message}
use Rattle.pipes_socks.specs.declared.streams.Pair.{Pair}
use Rattle.rv64_isa.specs.Memory.{Write, can_write}
use Rattle.group_laws.proofs.ByteLaws.{one_store, take_fit}
use Rattle.group_laws.proofs.DescriptorCallLaws.{if_keeps, nothing_stored}
use Rattle.group_laws.proofs.Lists.{found_all, on_first_all, on_first_any, on_first_length, on_first_rise}
use Rattle.group_laws.proofs.ReplyLaws.{Keeps, ReplyKeeps, maps_no_file, same_keeps, settled_files, settled_procs}
use Rattle.group_laws.proofs.SettledLaws.{settled_valid}
use Rattle.group_laws.proofs.StoreLaws.{NoFile}

-- what holds of both queues holds after a change of one, where it holds of the new one
queues : (L : List Message → Type 0) (p : Pair) (end : ℕ) (ms : List Message) → L ms → L p.to0 × L p.to1 → L (with_messages p end ms).to0 × L (with_messages p end ms).to1
queues L p end ms new old = by_end (end == 0)
  where
    by_end : (b : Bool) → L (if b then record p { to0 = ms } else record p { to1 = ms }).to0 × L (if b then record p { to0 = ms } else record p { to1 = ms }).to1
    by_end true = (new, old.1)
    by_end false = (old.0, new)

pub same_number : (p : Pair) (end : ℕ) (ms : List Message) → (with_messages p end ms).number ≡ p.number
same_number p end ms = by_end (end == 0)
  where
    by_end : (b : Bool) → (if b then record p { to0 = ms } else record p { to1 = ms }).number ≡ p.number
    by_end true = refl
    by_end false = refl

-- what messages have to be
pub record QueueSound (opens : List Open) (ms : List Message) : Type 0 where
  pub fits : QueueFits ms
  pub bytes : All (λ m. AreBytes m.bytes) ms
  pub carried : All (λ m. All (CanBeCarried opens) m.opens) ms

pub queue_sound : (g : Group) (pair end : ℕ) (ms : List Message) → QueueSound g.frame.opens ms → GroupIsSound g → GroupIsSound (with_pairs g (with_waiting g.frame.pairs pair end ms))
unfolding PairFits MessagesAreBytes CarriedValid PairEndsOnce
queue_sound g pair end ms q s =
    let f = g.frame in
    let t : Pair → Bool = λ p. p.number == pair in
    let change : Pair → Pair = λ p. with_messages p end ms in
    record {
      frame = record {
        procs = s.frame.procs;
        maps = s.frame.maps;
        names = record { fds = s.frame.names.fds; carried = on_first_all t change (CarriedValid f.opens) f.pairs (λ p e old. queues (All (λ m. All (CanBeCarried f.opens) m.opens)) p end ms q.carried old) s.frame.names.carried };
        opens = record { count = s.frame.opens.count; rise = s.frame.opens.rise; below = s.frame.opens.below; positions = s.frame.opens.positions; targets = λ k d lt. target (get_or f.opens k d).kind (s.frame.opens.targets k d lt) };
        pipes = s.frame.pipes;
        pairs = record {
          count = let old = s.frame.pairs.count in omega (arith, old, on_first_length t change f.pairs);
          rise = on_first_rise t change (λ p. p.number) f.pairs (λ p. same_number p end ms) s.frame.pairs.rise;
          below = on_first_all t change (λ p. p.number < f.next.pair) f.pairs (λ p e old. let same = same_number p end ms in omega (arith, old, same)) s.frame.pairs.below;
          ends = on_first_all t change (PairEndsOnce f.opens) f.pairs (λ p e old. rw (same_number p end ms) old) s.frame.pairs.ends;
          sizes = on_first_all t change PairFits f.pairs (λ p e old. queues QueueFits p end ms q.fits old) s.frame.pairs.sizes;
          bytes = on_first_all t change MessagesAreBytes f.pairs (λ p e old. queues (All (λ m. AreBytes m.bytes)) p end ms q.bytes old) s.frame.pairs.bytes;
        };
        objects = s.frame.objects;
        files = s.frame.files;
        out = s.frame.out;
        next = s.frame.next;
      };
      memory = s.memory;
    }
  where
    target : (k : OpenKind) → TargetIsThere g.frame.files g.frame.pipes g.frame.pairs k → TargetIsThere g.frame.files g.frame.pipes (with_waiting g.frame.pairs pair end ms) k
    target kinds.Nothing t = t
    target kinds.Outside t = t
    target (kinds.File object) t = t
    target (kinds.PipeRead pipe) t = t
    target (kinds.PipeWrite pipe) t = t
    target (kinds.PairEnd n side) t = (on_first_any (λ p. p.number == pair) (λ p. with_messages p end ms) (λ p. p.number ≡ n) g.frame.pairs (λ p e is. same_number p end ms ∙ is) t.0, t.1)

-- what waits in a valid group, and what is left of it
pub waiting_sound : (g : Group) (pair end : ℕ) → GroupIsSound g → QueueSound g.frame.opens (waiting_at g.frame.pairs pair end)
unfolding PairFits MessagesAreBytes CarriedValid QueueFits
waiting_sound g pair end s = by_entry (pair_of g.frame.pairs pair) refl
  where
    queue : (L : List Message → Type 0) (p : Pair) → L p.to0 × L p.to1 → L (messages_to p end)
    queue L p both = by_end (end == 0)
      where
        by_end : (b : Bool) → L (if b then p.to0 else p.to1)
        by_end true = both.0
        by_end false = both.1

    by_entry : (o : Option Pair) → find (λ p. p.number == pair) g.frame.pairs ≡ o → QueueSound g.frame.opens (elim o [ None ↦ [] | Some p ↦ messages_to p end ])
    by_entry None e = record { fits = (omega arith, λ k d lt. absurd (omega (arith, lt))); bytes = λ k d lt. absurd (omega (arith, lt)); carried = λ k d lt. absurd (omega (arith, lt)) }
    by_entry (Some p) e =
        let t : Pair → Bool = λ q. q.number == pair in
        record {
          fits = queue QueueFits p (found_all t PairFits g.frame.pairs p e s.frame.pairs.sizes);
          bytes = queue (All (λ m. AreBytes m.bytes)) p (found_all t MessagesAreBytes g.frame.pairs p e s.frame.pairs.bytes);
          carried = queue (All (λ m. All (CanBeCarried g.frame.opens) m.opens)) p (found_all t (CarriedValid g.frame.opens) g.frame.pairs p e s.frame.names.carried);
        }

pub rest_sound : (opens : List Open) (m : Message) (ms : List Message) → QueueSound opens (m ∷ ms) → QueueSound opens ms
unfolding QueueFits
rest_sound opens m ms q = let few = q.fits.0 in record {
  fits = (omega (arith, few), All-tail MessageFits m ms q.fits.1);
  bytes = All-tail (λ (x : Message). AreBytes x.bytes) m ms q.bytes;
  carried = All-tail (λ (x : Message). All (CanBeCarried opens) x.opens) m ms q.carried;
}

module _ (g : Group) (p : Proc) (found : find (is_runner p.pid) g.frame.procs ≡ Some p) (v : GroupIsValid g) where
  -- a message is taken, and what it carries is dropped
  pub taken_keeps : (value pair end : ℕ) (ms : List Message) (writes : List Write) → value < 2 ^ 64 → QueueSound g.frame.opens ms → All (λ w. AreBytes w.bytes) writes → Keeps p value (settled (with_pairs g (with_waiting g.frame.pairs pair end ms))) writes
  taken_keeps value pair end ms writes lt q stored =
      let h : Group = with_pairs g (with_waiting g.frame.pairs pair end ms) in
      record {
        value_fits = lt;
        valid = settled_valid h (queue_sound g pair end ms q v.sound);
        caller = p;
        runs = ap (find (is_runner p.pid)) (settled_procs h) ∙ found;
        bytes = stored;
        no_file = subst (λ files. NoFile files p.maps) (sym (settled_files h)) (maps_no_file g p found v);
      }

  pub first_fits : (m : Message) (ms : List Message) → QueueSound g.frame.opens (m ∷ ms) → (length m.bytes ≤ 4096) × AreBytes m.bytes
  unfolding QueueFits MessageFits
  first_fits m ms q = ((q.fits.1 0 m (omega arith)).1, q.bytes 0 m (omega arith))

  take_message_keeps : (pair end buf n : ℕ) (messages : List Message) → QueueSound g.frame.opens messages → ReplyKeeps p (take_message g (sight g p) pair end buf n messages)
  take_message_keeps pair end buf n [] q = if_keeps p (has_peer g pair end) _ _ (λ e. tt) (λ e. same_keeps g p 0 [] found v (omega arith) nothing_stored)
  take_message_keeps pair end buf n (m ∷ ms) q =
      let first = first_fits m ms q in let most = first.0 in
      if_keeps p (not (can_write (sight g p) buf (min n (length m.bytes)))) _ _ (λ e. (omega arith, omega arith)) (λ e.
      taken_keeps (min n (length m.bytes)) pair end ms (stores buf (take n m.bytes)) (omega (arith, most)) (rest_sound g.frame.opens m ms q) (one_store buf (take n m.bytes) (take_fit n m.bytes first.1)))

  pub receive_keeps : (pair end buf n flags addr : ℕ) → ReplyKeeps p (receive g (sight g p) pair end buf n flags addr)
  receive_keeps pair end buf n flags addr =
      if_keeps p (not (flags == 0) || not (addr == 0)) _ _ (λ e. (omega arith, omega arith)) (λ e.
      if_keeps p (n == 0) _ _ (λ e. same_keeps g p 0 [] found v (omega arith) nothing_stored) (λ e.
      take_message_keeps pair end buf n (waiting_at g.frame.pairs pair end) (waiting_sound g pair end v.sound)))
