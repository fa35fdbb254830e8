-- A message is sent, with the descriptions that it carries.
use Rattle.std.proofs.Common.{◌≡◌, ◌⊎◌, inl, inr, ℕ, ◌-◌, ◌<◌, ◌≤◌, Bool, true, false, ◌||◌, ◌==◌, not, List, [], ◌∷◌, ◌++◌, length, Option, Some, None, refl, ap, sym, ◌∙◌, arith}
use Rattle.std.specs.Prelude.{All, Any, find, if◌then◌else◌, IsTrue, nat_le, nat_lt}
use Rattle.std.specs.List.{list_any}
use Rattle.std.proofs.lemmas.Bool.{and_parts, both_ways, eqb-false, eqb-true, leb-false, ltb-false, not-false}
use Rattle.std.proofs.lemmas.List.{length-append}
use Rattle.std.proofs.lemmas.List.Elements.{All-append, All-cons, All-nil, All-weaker}
use Rattle.std.proofs.lemmas.List.Folds.{list_any-append}
use Rattle.descriptors.specs.EntryLaws.{entry_has}
use Rattle.descriptors.specs.declared.opens.Open.{Open}
use Rattle.descriptors.specs.declared.opens.OpenKind.{OpenKind}
use Rattle.descriptors.specs.declared.opens.OpenKind.TheVariants as kinds
use Rattle.group_defs.specs.Calls.{Reply, fd_of}
use Rattle.group_defs.specs.Cells.{sight}
use Rattle.group_defs.specs.Changes.{open_at}
use Rattle.group_defs.specs.Descriptions.{CanBeCarried, is_end}
use Rattle.group_defs.specs.Group.{Group, is_runner}
use Rattle.group_defs.specs.Held.{carries, has_end, is_at, is_end_held, is_held, pair_carries}
use Rattle.lists.specs.Bytes.{AreBytes}
use Rattle.group_defs.specs.PairCalls.{at_open, at_pair, has_peer, is_send_flags, on_pair, post, posted, recvfrom, send, sendto, with_message}
use Rattle.group_defs.specs.Streams.{is_pair_end}
use Rattle.group_defs.specs.Valid.{GroupIsValid, PairHeld}
use Rattle.group_defs.specs.declared.frame.Proc.{Proc}
use Rattle.pipes_socks.specs.Pairs.{MessageFits, QueueFits, messages_to, waiting_at, with_messages, with_waiting}
use Rattle.pipes_socks.specs.declared.streams.Message.{Message}
use Rattle.pipes_socks.specs.declared.streams.Pair.{Pair}
use Rattle.rv64_isa.specs.Memory.{readable}
use Rattle.rv64_isa.specs.Numbers.{low_word}
use Rattle.rv64_isa.specs.Registers.{a1, a2, a3, a4}
use Rattle.rv64_isa.specs.declared.regs.Regs.{Regs}
use Rattle.group_laws.proofs.ByteLaws.{read_fits}
use Rattle.group_laws.proofs.DescriptorCallLaws.{if_keeps, nothing_stored}
use Rattle.group_laws.proofs.Lists.{any_all, any_true, on_first_all, on_first_any, true_any}
use Rattle.group_laws.proofs.QueueLaws.{QueueSound, queue_sound, receive_keeps, waiting_sound}
use Rattle.group_laws.proofs.ReplyLaws.{ReplyKeeps, maps_no_file, same_keeps}
use Rattle.group_laws.proofs.SettledLaws.{end_by_fd, end_held, or_left, or_right, or_split}

-- an end that is there is held, in a valid group
pub peer_is_held : (g : Group) (pair end : ℕ) → GroupIsValid g → has_end g.frame.opens pair end ≡ true → is_end_held g.frame.procs g.frame.opens pair end ≡ true
unfolding has_end
peer_is_held g pair end v e = of_any (any_all (λ o. is_pair_end pair end o.kind ≡ true) (λ o. IsTrue (is_held g.frame.procs g.frame.pairs o.number)) g.frame.opens (any_true (λ o. is_pair_end pair end o.kind) g.frame.opens e) v.held.opens)
  where
    by_kind : (k : OpenKind) → is_pair_end pair end k ≡ true → k ≡ kinds.PairEnd pair end
    by_kind (kinds.PairEnd a b) same = let both = and_parts (a == pair) (b == end) same in ap (λ x. kinds.PairEnd x b) (eqb-true a pair both.0) ∙ ap (kinds.PairEnd pair) (eqb-true b end both.1)
    by_kind kinds.Nothing same = absurd (cc)
    by_kind kinds.Outside same = absurd (cc)
    by_kind (kinds.File object) same = absurd (cc)
    by_kind (kinds.PipeRead pipe) same = absurd (cc)
    by_kind (kinds.PipeWrite pipe) same = absurd (cc)

    of_any : Any (λ o. (is_pair_end pair end o.kind ≡ true) × IsTrue (is_held g.frame.procs g.frame.pairs o.number)) g.frame.opens → is_end_held g.frame.procs g.frame.opens pair end ≡ true
    of_any (k, o, lt, is, both) =
        let kind : o.kind ≡ kinds.PairEnd pair end = by_kind o.kind both.0 in
        let there : Any (λ x. x ≡ o) g.frame.opens = (k, o, lt, is, refl) in
        end_held g.frame.procs g.frame.opens g.frame.pairs o pair end there kind
        (end_by_fd g.frame.procs g.frame.opens g.frame.pairs o v.sound.frame.opens.rise v.sound.frame.names.carried there (ap is_end kind) both.1)

module _ (g : Group) (pair end : ℕ) (m : Message) (v : GroupIsValid g) (held : is_end_held g.frame.procs g.frame.opens pair end ≡ true) where
  abbrev new : List Message
  new = waiting_at g.frame.pairs pair end ++ m ∷ []

  abbrev t : Pair → Bool
  t p = p.number == pair

  -- the pair that gets the message carries what it carried
  carries_on : (n : ℕ) (p : Pair) → find t g.frame.pairs ≡ Some p → pair_carries n p ≡ true → pair_carries n (with_messages p end new) ≡ true
  carries_on n p found carried = by_end (end == 0) refl
    where
      old : new ≡ messages_to p end ++ m ∷ []
      old = ap (λ (o : Option Pair). elim o [ None ↦ [] | Some q ↦ messages_to q end ] ++ m ∷ []) found

      more : (xs : List Message) → list_any (carries n) xs ≡ true → list_any (carries n) (xs ++ m ∷ []) ≡ true
      more xs e = list_any-append (carries n) xs (m ∷ []) ∙ or_left (list_any (carries n) xs) (list_any (carries n) (m ∷ [])) e

      by_end : (b : Bool) → (end == 0) ≡ b → pair_carries n (if b then record p { to0 = new } else record p { to1 = new }) ≡ true
      by_end true is = by_side (or_split (list_any (carries n) p.to0) (list_any (carries n) p.to1) carried)
        where
          here : new ≡ p.to0 ++ m ∷ []
          here = old ∙ ap (λ (b : Bool). (if b then p.to0 else p.to1) ++ m ∷ []) is

          by_side : (list_any (carries n) p.to0 ≡ true) ⊎ (list_any (carries n) p.to1 ≡ true) → (list_any (carries n) new || list_any (carries n) p.to1) ≡ true
          by_side (inl first) = or_left (list_any (carries n) new) (list_any (carries n) p.to1) (ap (list_any (carries n)) here ∙ more p.to0 first)
          by_side (inr second) = or_right (list_any (carries n) new) (list_any (carries n) p.to1) second
      by_end false is = by_side (or_split (list_any (carries n) p.to0) (list_any (carries n) p.to1) carried)
        where
          here : new ≡ p.to1 ++ m ∷ []
          here = old ∙ ap (λ (b : Bool). (if b then p.to0 else p.to1) ++ m ∷ []) is

          by_side : (list_any (carries n) p.to0 ≡ true) ⊎ (list_any (carries n) p.to1 ≡ true) → (list_any (carries n) p.to0 || list_any (carries n) new) ≡ true
          by_side (inl first) = or_left (list_any (carries n) p.to0) (list_any (carries n) new) first
          by_side (inr second) = or_right (list_any (carries n) p.to0) (list_any (carries n) new) (ap (list_any (carries n)) here ∙ more p.to1 second)

  held_on : (n : ℕ) → is_held g.frame.procs g.frame.pairs n ≡ true → is_held g.frame.procs (with_waiting g.frame.pairs pair end new) n ≡ true
  unfolding is_held
  held_on n e = by_side (or_split (list_any (is_at n) g.frame.procs) (list_any (pair_carries n) g.frame.pairs) e)
    where
      by_side : (list_any (is_at n) g.frame.procs ≡ true) ⊎ (list_any (pair_carries n) g.frame.pairs ≡ true) → (list_any (is_at n) g.frame.procs || list_any (pair_carries n) (with_waiting g.frame.pairs pair end new)) ≡ true
      by_side (inl at) = or_left (list_any (is_at n) g.frame.procs) (list_any (pair_carries n) (with_waiting g.frame.pairs pair end new)) at
      by_side (inr in_message) = or_right (list_any (is_at n) g.frame.procs) (list_any (pair_carries n) (with_waiting g.frame.pairs pair end new))
          (true_any (pair_carries n) (with_waiting g.frame.pairs pair end new) (on_first_any t (λ p. with_messages p end new) (λ p. pair_carries n p ≡ true) g.frame.pairs (carries_on n) (any_true (pair_carries n) g.frame.pairs in_message)))

  pair_stays : end < 2 → (p : Pair) → find t g.frame.pairs ≡ Some p → PairHeld g.frame.procs g.frame.opens p → PairHeld g.frame.procs g.frame.opens (with_messages p end new)
  unfolding PairHeld
  pair_stays lt p found old = by_end (end == 0) refl
    where
      here : is_end_held g.frame.procs g.frame.opens p.number end ≡ true
      here = ap (λ n. is_end_held g.frame.procs g.frame.opens n end) (entry_has (λ q. q.number) g.frame.pairs pair p found) ∙ held

      by_end : (b : Bool) → (end == 0) ≡ b → PairHeld g.frame.procs g.frame.opens (if b then record p { to0 = new } else record p { to1 = new })
      by_end true is = let zero_is = eqb-true end 0 is in (old.0, λ gone. absurd (both_ways (is_end_held g.frame.procs g.frame.opens p.number 0) gone (ap (is_end_held g.frame.procs g.frame.opens p.number) (sym zero_is) ∙ here)), old.2)
      by_end false is = let other = eqb-false end 0 is in let one_is : end ≡ 1 = omega (arith, lt, other) in (old.0, old.1, λ gone. absurd (both_ways (is_end_held g.frame.procs g.frame.opens p.number 1) gone (ap (is_end_held g.frame.procs g.frame.opens p.number) (sym one_is) ∙ here)))

  pub message_valid : end < 2 → QueueSound g.frame.opens new → GroupIsValid (with_message g pair end m)
  message_valid lt q = record {
    sound = queue_sound g pair end new q v.sound;
    held = record {
      opens = All-weaker (λ o. IsTrue (is_held g.frame.procs g.frame.pairs o.number)) (λ o. IsTrue (is_held g.frame.procs (with_waiting g.frame.pairs pair end new) o.number)) (λ o. held_on o.number) g.frame.opens v.held.opens;
      objects = v.held.objects;
      pipes = v.held.pipes;
      pairs = on_first_all t (λ p. with_messages p end new) (PairHeld g.frame.procs g.frame.opens) g.frame.pairs (pair_stays lt) v.held.pairs;
    };
  }

pub one_more_sound : (opens : List Open) (ms : List Message) (m : Message) → QueueSound opens ms → length ms < 16 → MessageFits m → AreBytes m.bytes → All (CanBeCarried opens) m.opens → QueueSound opens (ms ++ m ∷ [])
unfolding QueueFits
one_more_sound opens ms m q few fits bytes carried = record {
  fits = (let size = length-append ms (m ∷ []) in omega (arith, size, few), All-append MessageFits ms (m ∷ []) q.fits.1 (All-cons MessageFits m [] fits (All-nil MessageFits)));
  bytes = All-append (λ (x : Message). AreBytes x.bytes) ms (m ∷ []) q.bytes (All-cons (λ (x : Message). AreBytes x.bytes) m [] bytes (All-nil (λ (x : Message). AreBytes x.bytes)));
  carried = All-append (λ (x : Message). All (CanBeCarried opens) x.opens) ms (m ∷ []) q.carried (All-cons (λ (x : Message). All (CanBeCarried opens) x.opens) m [] carried (All-nil (λ (x : Message). All (CanBeCarried opens) x.opens)));
}

module _ (g : Group) (p : Proc) (found : find (is_runner p.pid) g.frame.procs ≡ Some p) (v : GroupIsValid g) where
  pub post_keeps : (pair end buf n : ℕ) (carried : List ℕ) → length carried ≤ 8 → All (CanBeCarried g.frame.opens) carried → ReplyKeeps p (post g (sight g p) pair end buf n carried)
  unfolding MessageFits
  post_keeps pair end buf n carried few can =
      if_keeps p (n == 0) _ _ (λ e. if_keeps p (length carried == 0) _ _ (λ e. same_keeps g p 0 [] found v (omega arith) nothing_stored) (λ e. (omega arith, omega arith))) (λ some.
      if_keeps p (nat_lt 4096 n) _ _ (λ e. (omega arith, omega arith)) (λ small.
      if_keeps p (not (has_peer g pair end)) _ _ (λ e. (omega arith, omega arith)) (λ peer.
      if_keeps p (nat_le 16 (length (waiting_at g.frame.pairs pair (1 - end)))) _ _ (λ e. tt) (λ room.
      by_bytes (eqb-false n 0 some) (ltb-false 4096 n small) (not-false (has_peer g pair end) peer) (leb-false 16 (length (waiting_at g.frame.pairs pair (1 - end))) room) (readable (sight g p) buf n) refl))))
    where
      by_bytes : (n ≡ 0 → ⊥) → n ≤ 4096 → has_peer g pair end ≡ true → length (waiting_at g.frame.pairs pair (1 - end)) < 16 → (o : Option (List ℕ)) → readable (sight g p) buf n ≡ o → ReplyKeeps p (posted g pair (1 - end) carried o)
      by_bytes some small peer room None e = (omega arith, omega arith)
      by_bytes some small peer room (Some bytes) e =
          let is = read_fits g p.maps 1 buf n bytes v e in let count = is.count in
          let m : Message = record { bytes = bytes; opens = carried } in
          record {
            value_fits = omega (arith, count, small);
            valid = message_valid g pair (1 - end) m v (peer_is_held g pair (1 - end) v peer) (omega arith) (one_more_sound g.frame.opens (waiting_at g.frame.pairs pair (1 - end)) m (waiting_sound g pair (1 - end) v.sound) room (omega (arith, count, some), omega (arith, count, small), few) is.fit can);
            caller = p;
            runs = found;
            bytes = nothing_stored;
            no_file = maps_no_file g p found v;
          }

  pub send_keeps : (pair end buf n flags addr : ℕ) → ReplyKeeps p (send g (sight g p) pair end buf n flags addr)
  send_keeps pair end buf n flags addr =
      if_keeps p (not (is_send_flags flags) || not (addr == 0)) _ _ (λ e. (omega arith, omega arith)) (λ e. post_keeps pair end buf n [] (omega arith) (All-nil (CanBeCarried g.frame.opens)))

  -- a call at an end of a pair
  pub on_pair_keeps : (r : Regs) (call : ℕ → ℕ → Reply Group) → ((pair end : ℕ) → ReplyKeeps p (call pair end)) → ReplyKeeps p (on_pair g p r call)
  on_pair_keeps r call keeps = by_open (open_at p.fds g.frame.opens (fd_of r))
    where
      by_kind : (k : OpenKind) → ReplyKeeps p (at_pair call k)
      by_kind (kinds.PairEnd pair end) = keeps pair end
      by_kind kinds.Nothing = (omega arith, omega arith)
      by_kind kinds.Outside = (omega arith, omega arith)
      by_kind (kinds.File object) = (omega arith, omega arith)
      by_kind (kinds.PipeRead pipe) = (omega arith, omega arith)
      by_kind (kinds.PipeWrite pipe) = (omega arith, omega arith)

      by_open : (o : Option Open) → ReplyKeeps p (at_open call o)
      by_open None = (omega arith, omega arith)
      by_open (Some o) = by_kind o.kind

  pub sendto_keeps : (r : Regs) → ReplyKeeps p (sendto g p (sight g p) r)
  sendto_keeps r = on_pair_keeps r _ (λ pair end. send_keeps pair end (a1 r) (a2 r) (low_word (a3 r)) (a4 r))

  pub recvfrom_keeps : (r : Regs) → ReplyKeeps p (recvfrom g p (sight g p) r)
  recvfrom_keeps r = on_pair_keeps r _ (λ pair end. receive_keeps g p found v pair end (a1 r) (a2 r) (low_word (a3 r)) (a4 r))
