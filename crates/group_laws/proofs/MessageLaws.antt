-- sendmsg keeps a group valid: what a message carries is open, and no end of a pair.
use Rattle.std.proofs.Common.{◌≡◌, ◌⊎◌, inl, inr, ℕ, zero, suc, ◌+◌, ◌-◌, ◌*◌, ◌/◌, ◌≤◌, Bool, true, false, ◌||◌, ◌&&◌, ◌==◌, not, List, [], length, get_or, Option, Some, None, refl, ap, ◌∙◌, arith}
use Rattle.std.specs.Prelude.{All, Any, find, nat_le, nat_lt}
use Rattle.std.specs.List.{list_any, range_with_len}
use Rattle.std.proofs.lemmas.Bool.{cases_Bool, leb-true, not-false}
use Rattle.std.proofs.lemmas.List.{length-map}
use Rattle.std.proofs.lemmas.List.Elements.{All-nil}
use Rattle.descriptors.specs.Descriptors.{number_at}
use Rattle.descriptors.specs.declared.opens.Open.{Open}
use Rattle.group_defs.specs.Calls.{Reply}
use Rattle.group_defs.specs.Cells.{sight}
use Rattle.group_defs.specs.Descriptions.{CanBeCarried, IsOpen, is_end}
use Rattle.group_defs.specs.Group.{Group, is_runner}
use Rattle.group_defs.specs.MessageCalls.{Buffer, Header, all_at, buffer_of, field, header_of, is_block, is_end_at, numbers_in, send_block, send_carried, send_numbers, send_with, sendmsg, then_buffer, then_header}
use Rattle.group_defs.specs.PairCalls.{is_send_flags}
use Rattle.group_defs.specs.Valid.{GroupIsValid}
use Rattle.group_defs.specs.declared.frame.Proc.{Proc}
use Rattle.rv64_isa.specs.Memory.{readable}
use Rattle.rv64_isa.specs.Numbers.{low_word}
use Rattle.rv64_isa.specs.Registers.{a1, a2}
use Rattle.rv64_isa.specs.declared.regs.Regs.{Regs}
use Rattle.group_laws.proofs.DescriptorCallLaws.{if_keeps, open_fds}
use Rattle.group_laws.proofs.FdLaws.{number_all}
use Rattle.group_laws.proofs.Lists.{all_filter_map, any_at, length_filter_map, true_any}
use Rattle.group_laws.proofs.PostLaws.{on_pair_keeps, post_keeps}
use Rattle.group_laws.proofs.ReplyLaws.{ReplyKeeps}
use Rattle.group_laws.proofs.SettledLaws.{equal}

range_size : (low n : ℕ) → length (range_with_len low n) ≡ n
range_size low zero = refl
range_size low (suc n) = let rest = range_size (low + 1) n in omega (arith, rest)

module _ (g : Group) (p : Proc) (found : find (is_runner p.pid) g.frame.procs ≡ Some p) (v : GroupIsValid g) where
  -- each number that a descriptor names is open
  all_open : (fds : List ℕ) → All (IsOpen g.frame.opens) (all_at p.fds fds)
  all_open fds = all_filter_map (number_at p.fds) (λ fd. Unit {0}) (IsOpen g.frame.opens) (λ fd n u e. number_all (IsOpen g.frame.opens) p.fds fd n e (open_fds g p found v)) fds (λ k d lt. tt)

  -- ... and can be carried where none is an end
  can_carry : (numbers : List ℕ) → All (IsOpen g.frame.opens) numbers → list_any (is_end_at g.frame.opens) numbers ≡ false → All (CanBeCarried g.frame.opens) numbers
  unfolding IsOpen CanBeCarried
  can_carry numbers open' none k d lt = of_open (open' k d lt)
    where
      no_end : (o : Open) → Any (λ x. x ≡ o) g.frame.opens → o.number ≡ get_or numbers k d → is_end o.kind ≡ false
      no_end o there same = by_test (cases_Bool (is_end o.kind))
        where
          by_test : (is_end o.kind ≡ true) ⊎ (is_end o.kind ≡ false) → is_end o.kind ≡ false
          by_test (inr miss) = miss
          by_test (inl hit) =
              let at : is_end_at g.frame.opens (get_or numbers k d) ≡ true = true_any (λ x. (x.number == get_or numbers k d) && is_end x.kind) g.frame.opens (any_is o there (rw (equal o.number (get_or numbers k d) same) hit)) in
              let some = true_any (is_end_at g.frame.opens) numbers (any_at (λ n. is_end_at g.frame.opens n ≡ true) numbers k d lt at) in
              absurd (cc)
            where
              any_is : (o : Open) → Any (λ x. x ≡ o) g.frame.opens → ((o.number == get_or numbers k d) && is_end o.kind) ≡ true → Any (λ x. ((x.number == get_or numbers k d) && is_end x.kind) ≡ true) g.frame.opens
              any_is o (i, x, lt', is, x_is) e = (i, x, lt', is, ap (λ y. (y.number == get_or numbers k d) && is_end y.kind) x_is ∙ e)

      of_open : Any (λ o. o.number ≡ get_or numbers k d) g.frame.opens → Any (λ o. (o.number ≡ get_or numbers k d) × (is_end o.kind ≡ false)) g.frame.opens
      of_open (i, o, lt', is, same) = (i, o, lt', is, (same, no_end o (i, o, lt', is, refl) same))

  carried_keeps : (pair end : ℕ) (b : Buffer) (fds : List ℕ) → length fds ≤ 8 → ReplyKeeps p (send_carried g p (sight g p) pair end b fds)
  carried_keeps pair end b fds few =
      if_keeps p (nat_lt (length (all_at p.fds fds)) (length fds)) _ _ (λ e. (omega arith, omega arith)) (λ e.
      if_keeps p (list_any (is_end_at g.frame.opens) (all_at p.fds fds)) _ _ (λ e. (omega arith, omega arith)) (λ none.
      let le = length_filter_map (number_at p.fds) fds in
      post_keeps g p found v pair end b.base b.count (all_at p.fds fds) (omega (arith, le, few)) (can_carry (all_at p.fds fds) (all_open fds) none)))

  numbers_keep : (pair end k : ℕ) (b : Buffer) → k ≤ 8 → (o : Option (List ℕ)) → ReplyKeeps p (send_numbers g p (sight g p) pair end b k o)
  numbers_keep pair end k b few None = (omega arith, omega arith)
  numbers_keep pair end k b few (Some bytes) = carried_keeps pair end b (numbers_in k bytes) (let size = length-map (range_with_len 0 k) (λ i. field bytes (4 * i) 4) in let count = range_size 0 k in omega (arith, size, count, few))

  block_keeps : (pair end : ℕ) (h : Header) (b : Buffer) (o : Option (List ℕ)) → ReplyKeeps p (send_block g p (sight g p) pair end h b o)
  block_keeps pair end h b None = (omega arith, omega arith)
  block_keeps pair end h b (Some bytes) =
      if_keeps p (not (is_block h.size bytes)) _ _ (λ e. (omega arith, omega arith)) (λ good.
      let le = small (nat_le 20 (field bytes 0 8)) (nat_le (field bytes 0 8) 48) _ _ _ _ _ (not-false (is_block h.size bytes) good) in
      let most = leb-true (field bytes 0 8) 48 le in
      numbers_keep pair end ((field bytes 0 8 - 16) / 4) b (omega (arith, most)) (readable (sight g p) (h.control + 16) (field bytes 0 8 - 16)))
    where
      small : (a b c d e f h : Bool) → ((a && b && c && d && e) && f && h) ≡ true → b ≡ true
      small true true c d e f h is = refl
      small true false c d e f h is = absurd (cc)
      small false b c d e f h is = absurd (cc)

  with_keeps : (pair end : ℕ) (h : Header) (b : Buffer) → ReplyKeeps p (send_with g p (sight g p) pair end h b)
  with_keeps pair end h b =
      if_keeps p (h.size == 0) _ _ (λ e. post_keeps g p found v pair end b.base b.count [] (omega arith) (All-nil (CanBeCarried g.frame.opens))) (λ e.
      if_keeps p (nat_lt h.size 16) _ _ (λ e. (omega arith, omega arith)) (λ e. block_keeps pair end h b (readable (sight g p) h.control 16)))

  -- the header and the buffer are read
  pub header_keeps : (call : Header → Buffer → Reply Group) → ((h : Header) (b : Buffer) → ReplyKeeps p (call h b)) → (o : Option (List ℕ)) → ReplyKeeps p (then_header (sight g p) call o)
  header_keeps call keeps None = (omega arith, omega arith)
  header_keeps call keeps (Some bytes) =
      if_keeps p (not (field bytes 0 8 == 0) || not (field bytes 24 8 == 1)) _ _ (λ e. (omega arith, omega arith)) (λ e. by_buffer (readable (sight g p) (field bytes 16 8) 16))
    where
      by_buffer : (o : Option (List ℕ)) → ReplyKeeps p (then_buffer (sight g p) (call (header_of bytes)) o)
      by_buffer None = (omega arith, omega arith)
      by_buffer (Some b) = keeps (header_of bytes) (buffer_of b)

  pub sendmsg_keeps : (r : Regs) → ReplyKeeps p (sendmsg g p (sight g p) r)
  sendmsg_keeps r = on_pair_keeps g p found v r _ (λ pair end. if_keeps p (not (is_send_flags (low_word (a2 r)))) _ _ (λ e. (omega arith, omega arith)) (λ e. header_keeps (send_with g p (sight g p) pair end) (with_keeps pair end) (readable (sight g p) (a1 r) 56)))
