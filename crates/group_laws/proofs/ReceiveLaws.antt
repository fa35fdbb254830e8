-- recvmsg keeps a group valid: what a message carries becomes descriptors, or is dropped.
use Rattle.std.proofs.Common.{◌≡◌, ◌⊎◌, inl, inr, ℕ, ◌+◌, ◌*◌, Bool, true, false, ◌||◌, ◌&&◌, ◌==◌, not, min, List, [], ◌∷◌, ◌++◌, length, take, get_or, Option, Some, None, refl, ap, sym, ◌∙◌, subst, arith}
use Rattle.std.specs.Prelude.{All, Any, find, if◌then◌else◌, IsTrue, nat_le}
use Rattle.std.specs.List.{list_any}
use Rattle.std.proofs.lemmas.Bool.{cases_Bool, both_ways, eqb-true}
use Rattle.std.proofs.lemmas.List.Elements.{All-append, All-weaker}
use Rattle.descriptors.specs.Descriptors.{Installed, installed}
use Rattle.descriptors.specs.declared.opens.Open.{Open}
use Rattle.group_defs.specs.Calls.{stores}
use Rattle.group_defs.specs.Cells.{sight}
use Rattle.group_defs.specs.Changes.{with_fds}
use Rattle.group_defs.specs.Descriptions.{CanBeCarried, IsOpen}
use Rattle.group_defs.specs.Group.{Group, is_runner}
use Rattle.group_defs.specs.Held.{carries, is_at, is_held, pair_carries}
use Rattle.group_defs.specs.MessageCalls.{Buffer, Header, block_of, cut_flag, is_receive_flags, receive_with, recvmsg, take_carried, take_first, tells, without_first}
use Rattle.lists.specs.Bytes.{AreBytes}
use Rattle.group_defs.specs.PairCalls.{has_peer}
use Rattle.group_defs.specs.Valid.{AllHeld, GroupIsValid, PairHeld}
use Rattle.group_defs.specs.declared.frame.Proc.{Proc}
use Rattle.pipes_socks.specs.Pairs.{messages_to, waiting_at, with_messages}
use Rattle.pipes_socks.specs.declared.streams.Message.{Message}
use Rattle.pipes_socks.specs.declared.streams.Pair.{Pair}
use Rattle.rv64_isa.specs.Memory.{Write, can_write, readable}
use Rattle.rv64_isa.specs.Numbers.{bytes_of, low_word}
use Rattle.rv64_isa.specs.Registers.{a1, a2}
use Rattle.rv64_isa.specs.declared.regs.Regs.{Regs}
use Rattle.group_laws.proofs.ByteLaws.{append_fit, bytes_fit, numbers_fit, one_store, take_fit}
use Rattle.group_laws.proofs.CallerLaws.{pair_more, at_stays, fds_held, fds_sound}
use Rattle.group_laws.proofs.DescriptorCallLaws.{if_keeps, nothing_stored, open_fds, own_fds}
use Rattle.group_laws.proofs.EndsLaws.{caller_holds}
use Rattle.group_laws.proofs.FdLaws.{installed_all, installed_are}
use Rattle.group_laws.proofs.Lists.{any_all, any_true, on_first_all, on_first_any, true_any}
use Rattle.group_laws.proofs.MessageLaws.{header_keeps}
use Rattle.group_laws.proofs.PostLaws.{on_pair_keeps}
use Rattle.group_laws.proofs.QueueLaws.{QueueSound, first_fits, queue_sound, rest_sound, taken_keeps, waiting_sound}
use Rattle.group_laws.proofs.ReplyLaws.{ReplyKeeps, changed_runs, maps_no_file, same_keeps}
use Rattle.group_laws.proofs.SettledLaws.{held_by_fd, or_left, or_right, or_split}

both_stored : (xs ys : List Write) → All (λ w. AreBytes w.bytes) xs → All (λ w. AreBytes w.bytes) ys → All (λ w. AreBytes w.bytes) (xs ++ ys)
both_stored xs ys a b = All-append (λ (w : Write). AreBytes w.bytes) xs ys a b

told : (msg size flags : ℕ) → All (λ (w : Write). AreBytes w.bytes) (tells msg size flags)
told msg size flags = both_stored (stores (msg + 40) (bytes_of 8 size)) (stores (msg + 48) (bytes_of 4 flags)) (one_store (msg + 40) (bytes_of 8 size) (bytes_fit 8 size)) (one_store (msg + 48) (bytes_of 4 flags) (bytes_fit 4 flags))

block_fits : (numbers : List ℕ) → AreBytes (block_of numbers)
block_fits numbers = append_fit (bytes_of 8 (16 + 4 * length numbers)) _ (bytes_fit 8 (16 + 4 * length numbers)) (append_fit (bytes_of 4 1) _ (bytes_fit 4 1) (append_fit (bytes_of 4 1) _ (bytes_fit 4 1) (numbers_fit numbers)))

open_of : (opens : List Open) (n : ℕ) → CanBeCarried opens n → IsOpen opens n
unfolding CanBeCarried IsOpen
open_of opens n (k, o, lt, is, both) = (k, o, lt, is, both.0)

module _ (g : Group) (p : Proc) (found : find (is_runner p.pid) g.frame.procs ≡ Some p) (v : GroupIsValid g) where
  -- The first message is taken, and the caller has a descriptor at each description that it carries.
  module _ (pair end : ℕ) (m : Message) (ms : List Message) (waits : waiting_at g.frame.pairs pair end ≡ m ∷ ms) (fds : List (ℕ × ℕ)) (old : (n : ℕ) → Any (λ d. d.1 ≡ n) p.fds → Any (λ d. d.1 ≡ n) fds) (new : All (λ n. Any (λ d. d.1 ≡ n) fds) m.opens) where
    abbrev h : Group
    h = with_fds (without_first g pair end ms) p fds

    abbrev t : Pair → Bool
    t q = q.number == pair

    -- a number that the first message carries has a descriptor now
    of_first : (n : ℕ) → carries n m ≡ true → is_held h.frame.procs h.frame.pairs n ≡ true
    of_first n e = of_any (any_all (λ x. (x == n) ≡ true) (λ x. Any (λ d. d.1 ≡ x) fds) m.opens (any_true (λ x. x == n) m.opens e) new)
      where
        of_any : Any (λ x. ((x == n) ≡ true) × Any (λ d. d.1 ≡ x) fds) m.opens → is_held h.frame.procs h.frame.pairs n ≡ true
        of_any (k, x, lt, is, both) = caller_holds (without_first g pair end ms) p fds n found (subst (λ y. Any (λ (d : ℕ × ℕ). d.1 ≡ y) fds) (eqb-true x n both.0) both.1)

    -- the rest goes on to carry what it carried
    in_pairs : (n : ℕ) → Any (λ q. pair_carries n q ≡ true) h.frame.pairs → is_held h.frame.procs h.frame.pairs n ≡ true
    unfolding is_held
    in_pairs n any = or_right (list_any (is_at n) h.frame.procs) (list_any (pair_carries n) h.frame.pairs) (true_any (pair_carries n) h.frame.pairs any)

    side_left : (n : ℕ) (q : Pair) → find t g.frame.pairs ≡ Some q → pair_carries n q ≡ true → (carries n m ≡ true) ⊎ (pair_carries n (with_messages q end ms) ≡ true)
    side_left n q found' carried = by_end (end == 0) refl
      where
        is : messages_to q end ≡ m ∷ ms
        is = sym (ap (λ (o : Option Pair). elim o [ None ↦ [] | Some x ↦ messages_to x end ]) found') ∙ waits

        split : (xs other : List Message) → xs ≡ m ∷ ms → (list_any (carries n) xs ≡ true) ⊎ (list_any (carries n) other ≡ true) → (carries n m ≡ true) ⊎ ((list_any (carries n) ms ≡ true) ⊎ (list_any (carries n) other ≡ true))
        split xs other same (inr e) = inr (inr e)
        split xs other same (inl e) = by_first (cases_Bool (carries n m))
          where
            here : list_any (carries n) (m ∷ ms) ≡ true
            here = sym (ap (list_any (carries n)) same) ∙ e

            by_first : (carries n m ≡ true) ⊎ (carries n m ≡ false) → (carries n m ≡ true) ⊎ ((list_any (carries n) ms ≡ true) ⊎ (list_any (carries n) other ≡ true))
            by_first (inl hit) = inl hit
            by_first (inr miss) = inr (inl (rw miss at here))

        by_end : (b : Bool) → (end == 0) ≡ b → (carries n m ≡ true) ⊎ (pair_carries n (if b then record q { to0 = ms } else record q { to1 = ms }) ≡ true)
        by_end true e = by_split (split q.to0 q.to1 (sym (ap (λ (b : Bool). if b then q.to0 else q.to1) e) ∙ is) (or_split (list_any (carries n) q.to0) (list_any (carries n) q.to1) carried))
          where
            by_split : (carries n m ≡ true) ⊎ ((list_any (carries n) ms ≡ true) ⊎ (list_any (carries n) q.to1 ≡ true)) → (carries n m ≡ true) ⊎ ((list_any (carries n) ms || list_any (carries n) q.to1) ≡ true)
            by_split (inl hit) = inl hit
            by_split (inr (inl rest)) = inr (or_left (list_any (carries n) ms) (list_any (carries n) q.to1) rest)
            by_split (inr (inr other)) = inr (or_right (list_any (carries n) ms) (list_any (carries n) q.to1) other)
        by_end false e = by_split (split q.to1 q.to0 (sym (ap (λ (b : Bool). if b then q.to0 else q.to1) e) ∙ is) (swap (or_split (list_any (carries n) q.to0) (list_any (carries n) q.to1) carried)))
          where
            swap : (list_any (carries n) q.to0 ≡ true) ⊎ (list_any (carries n) q.to1 ≡ true) → (list_any (carries n) q.to1 ≡ true) ⊎ (list_any (carries n) q.to0 ≡ true)
            swap (inl a) = inr a
            swap (inr b) = inl b

            by_split : (carries n m ≡ true) ⊎ ((list_any (carries n) ms ≡ true) ⊎ (list_any (carries n) q.to0 ≡ true)) → (carries n m ≡ true) ⊎ ((list_any (carries n) q.to0 || list_any (carries n) ms) ≡ true)
            by_split (inl hit) = inl hit
            by_split (inr (inl rest)) = inr (or_right (list_any (carries n) q.to0) (list_any (carries n) ms) rest)
            by_split (inr (inr other)) = inr (or_left (list_any (carries n) q.to0) (list_any (carries n) ms) other)

    still_held : (n : ℕ) → is_held g.frame.procs g.frame.pairs n ≡ true → is_held h.frame.procs h.frame.pairs n ≡ true
    unfolding is_held
    still_held n e = by_side (or_split (list_any (is_at n) g.frame.procs) (list_any (pair_carries n) g.frame.pairs) e)
      where
        by_first : (carries n m ≡ true) ⊎ (carries n m ≡ false) → list_any (pair_carries n) g.frame.pairs ≡ true → is_held h.frame.procs h.frame.pairs n ≡ true
        by_first (inl hit) in_message = of_first n hit
        by_first (inr miss) in_message = in_pairs n (on_first_any t (λ q. with_messages q end ms) (λ q. pair_carries n q ≡ true) g.frame.pairs (λ q found' carried. other (side_left n q found' carried)) (any_true (pair_carries n) g.frame.pairs in_message))
          where
            other : {A : Type 0} → (carries n m ≡ true) ⊎ A → A
            other (inl hit) = absurd (both_ways (carries n m) miss hit)
            other (inr a) = a

        by_side : (list_any (is_at n) g.frame.procs ≡ true) ⊎ (list_any (pair_carries n) g.frame.pairs ≡ true) → is_held h.frame.procs h.frame.pairs n ≡ true
        by_side (inl at) = held_by_fd h.frame.procs h.frame.pairs n (at_stays g p fds found old n at)
        by_side (inr in_message) = by_first (cases_Bool (carries n m)) in_message

    pair_left : (q : Pair) → find t g.frame.pairs ≡ Some q → PairHeld g.frame.procs g.frame.opens q → PairHeld g.frame.procs g.frame.opens (with_messages q end ms)
    unfolding PairHeld
    pair_left q found' held = by_end (end == 0) refl
      where
        is : messages_to q end ≡ m ∷ ms
        is = sym (ap (λ (o : Option Pair). elim o [ None ↦ [] | Some x ↦ messages_to x end ]) found') ∙ waits

        full : (xs : List Message) → xs ≡ m ∷ ms → xs ≡ [] → ms ≡ []
        full xs same none = absurd (let never : m ∷ ms ≡ [] = sym same ∙ none in cc)

        by_end : (b : Bool) → (end == 0) ≡ b → PairHeld g.frame.procs g.frame.opens (if b then record q { to0 = ms } else record q { to1 = ms })
        by_end true e = (held.0, λ gone. full q.to0 (sym (ap (λ (b : Bool). if b then q.to0 else q.to1) e) ∙ is) (held.1 gone), held.2)
        by_end false e = (held.0, held.1, λ gone. full q.to1 (sym (ap (λ (b : Bool). if b then q.to0 else q.to1) e) ∙ is) (held.2 gone))

    pub taken_held : AllHeld h.frame
    taken_held =
        let after = fds_held g p fds found old (record {
          opens = v.held.opens;
          objects = v.held.objects;
          pipes = v.held.pipes;
          pairs = v.held.pairs;
        }) in
        record {
          opens = All-weaker (λ o. IsTrue (is_held g.frame.procs g.frame.pairs o.number)) (λ o. IsTrue (is_held h.frame.procs h.frame.pairs o.number)) (λ o. still_held o.number) g.frame.opens v.held.opens;
          objects = after.objects;
          pipes = after.pipes;
          pairs = All-weaker (PairHeld g.frame.procs g.frame.opens) (PairHeld h.frame.procs g.frame.opens) (λ q. pair_more g.frame.procs h.frame.procs (at_stays g p fds found old) g.frame.opens q) h.frame.pairs (on_first_all t (λ q. with_messages q end ms) (PairHeld g.frame.procs g.frame.opens) g.frame.pairs pair_left v.held.pairs);
        }

  take_carried_keeps : (msg pair end : ℕ) (hd : Header) (b : Buffer) (m : Message) (ms : List Message) → waiting_at g.frame.pairs pair end ≡ m ∷ ms → QueueSound g.frame.opens (m ∷ ms) → (o : Option Installed) → installed p.fds m.opens ≡ o → ReplyKeeps p (take_carried g p (sight g p) msg pair end hd b m ms o)
  take_carried_keeps msg pair end hd b m ms waits q None e = (omega arith, omega arith)
  take_carried_keeps msg pair end hd b m ms waits q (Some i) e =
      if_keeps p (not (can_write (sight g p) b.base (min b.count (length m.bytes))) || not (can_write (sight g p) hd.control (16 + 4 * length m.opens))) _ _ (λ e. (omega arith, omega arith)) (λ can.
      let first = first_fits g p found v m ms q in let most = first.0 in
      let a = installed_are m.opens p.fds i e (own_fds g p found v) in
      let carried : All (IsOpen g.frame.opens) m.opens = carried_open m ms q in
      let each = installed_all (IsOpen g.frame.opens) m.opens p.fds i e (open_fds g p found v) carried in
      record {
        value_fits = omega (arith, most);
        valid = record { sound = fds_sound (without_first g pair end ms) p i.fds found a.are each (queue_sound g pair end ms (rest_sound g.frame.opens m ms q) v.sound); held = taken_held pair end m ms waits i.fds a.old a.new };
        caller = record p { fds = i.fds };
        runs = changed_runs (without_first g pair end ms) p (λ x. record x { fds = i.fds }) (λ x e. e) found;
        bytes = both_stored (stores b.base (take b.count m.bytes)) (stores hd.control (block_of i.numbers) ++ tells msg (16 + 4 * length m.opens) (cut_flag b.count m)) (one_store b.base (take b.count m.bytes) (take_fit b.count m.bytes first.1)) (both_stored (stores hd.control (block_of i.numbers)) (tells msg (16 + 4 * length m.opens) (cut_flag b.count m)) (one_store hd.control (block_of i.numbers) (block_fits i.numbers)) (told msg (16 + 4 * length m.opens) (cut_flag b.count m)));
        no_file = maps_no_file g p found v;
      })
    where
      carried_open : (m : Message) (ms : List Message) → QueueSound g.frame.opens (m ∷ ms) → All (IsOpen g.frame.opens) m.opens
      carried_open m ms q k d lt = open_of g.frame.opens (get_or m.opens k d) (q.carried 0 m (omega arith) k d lt)

  take_first_keeps : (msg pair end : ℕ) (hd : Header) (b : Buffer) (messages : List Message) → waiting_at g.frame.pairs pair end ≡ messages → QueueSound g.frame.opens messages → ReplyKeeps p (take_first g p (sight g p) msg pair end hd b messages)
  take_first_keeps msg pair end hd b [] waits q = if_keeps p (has_peer g pair end) _ _ (λ e. tt) (λ e. same_keeps g p 0 (tells msg 0 0) found v (omega arith) (told msg 0 0))
  take_first_keeps msg pair end hd b (m ∷ ms) waits q =
      if_keeps p (not (length m.opens == 0) && nat_le (16 + 4 * length m.opens) hd.size) _ _ (λ e. take_carried_keeps msg pair end hd b m ms waits q (installed p.fds m.opens) refl) (λ e.
      if_keeps p (not (can_write (sight g p) b.base (min b.count (length m.bytes)))) _ _ (λ e. (omega arith, omega arith)) (λ e.
      let first = first_fits g p found v m ms q in let most = first.0 in
      taken_keeps g p found v (min b.count (length m.bytes)) pair end ms (stores b.base (take b.count m.bytes) ++ tells msg 0 (cut_flag b.count m + (if length m.opens == 0 then 0 else 8))) (omega (arith, most)) (rest_sound g.frame.opens m ms q)
      (both_stored (stores b.base (take b.count m.bytes)) (tells msg 0 (cut_flag b.count m + (if length m.opens == 0 then 0 else 8))) (one_store b.base (take b.count m.bytes) (take_fit b.count m.bytes first.1)) (told msg 0 (cut_flag b.count m + (if length m.opens == 0 then 0 else 8))))))

  pub recvmsg_keeps : (r : Regs) → ReplyKeeps p (recvmsg g p (sight g p) r)
  recvmsg_keeps r = on_pair_keeps g p found v r _ (λ pair end.
      if_keeps p (not (is_receive_flags (low_word (a2 r)))) _ _ (λ e. (omega arith, omega arith)) (λ e.
      if_keeps p (not (can_write (sight g p) (a1 r) 56)) _ _ (λ e. (omega arith, omega arith)) (λ e.
      header_keeps g p found v (receive_with g p (sight g p) (a1 r) pair end) (λ hd b. if_keeps p (b.count == 0) _ _ (λ e. same_keeps g p 0 [] found v (omega arith) nothing_stored) (λ e. take_first_keeps (a1 r) pair end hd b (waiting_at g.frame.pairs pair end) refl (waiting_sound g pair end v.sound))) (readable (sight g p) (a1 r) 56))))
